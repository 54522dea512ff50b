-- The test of a byte under a mask, bit by bit and as one word.
use Rattle.std.specs.Prelude.{ℕ, ◌+◌, ◌*◌, ◌/◌, ◌%◌, ◌^◌, ◌<◌, min, ◌≡◌, refl, ◌&&◌, ◌||◌, eqb, bit_and, bit_xor}
use Rattle.std.proofs.Common.{ap, ◌∙◌, arith}
use Rattle.std.specs.Int.{bit_at}
use Rattle.std.proofs.lemmas.Nat.{and_le_r}
use Rattle.std.proofs.lemmas.Nat.Bits.{bit_at_and, bit_at_xor, bit_at-lt, and_high_mask}
use Rattle.wire.specs.Mask.{agree, fits}

-- Of single bits.
differ : (b a m : ℕ) → b < 2 → a < 2 → m < 2 → eqb (min ((b + a) % 2) m) 0 ≡ eqb m 0 || eqb b a
differ b a m p q r = grind arith

-- The bits in which two bytes differ under the mask.
abbrev differing : ℕ → ℕ → ℕ → ℕ
differing byte add msk = bit_and (bit_xor byte add) msk

at_bit : (i byte add msk : ℕ) → eqb (bit_at (differing byte add msk) i) 0 ≡ agree i byte add msk
at_bit i byte add msk =
    ap (λ x. eqb x 0) (bit_at_and (bit_xor byte add) msk i ∙ ap (λ x. min x (bit_at msk i)) (bit_at_xor byte add i))
    ∙ differ (bit_at byte i) (bit_at add i) (bit_at msk i) (bit_at-lt byte i) (bit_at-lt add i) (bit_at-lt msk i)

-- Bits 7 to 1 of a byte are 0 where the byte without bit 0 is.
seven : (x : ℕ) → x < 2 ^ 8
    → eqb (x / 2 ^ 1 * 2 ^ 1) 0
    ≡ eqb (bit_at x 1) 0 && eqb (bit_at x 2) 0 && eqb (bit_at x 3) 0 && eqb (bit_at x 4) 0 && eqb (bit_at x 5) 0
    && eqb (bit_at x 6) 0 && eqb (bit_at x 7) 0
seven x h = grind arith

pub by_word : (byte add msk : ℕ) → msk < 2 ^ 8 → eqb (bit_and (bit_and (bit_xor byte add) msk) 254) 0 ≡ fits byte add msk
by_word byte add msk h =
    let x = differing byte add msk in
    let small : x < 2 ^ 8 = omega (arith, and_le_r (bit_xor byte add) msk) in
    let at : (i : ℕ) → eqb (bit_at x i) 0 ≡ agree i byte add msk = λ i. at_bit i byte add msk in
    ap (λ y. eqb y 0) (and_high_mask 8 1 (omega arith) x small) ∙ seven x small ∙ rw (at 1, at 2, at 3, at 4, at 5, at 6, at 7) refl
