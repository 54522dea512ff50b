-- A byte packed from eight bits has just these bits: one test over all of them, computed, and the law that it gives. And the low
-- half of a number, which is made of its low four bits.
use Rattle.std.specs.Prelude.{ℕ, zero, suc, ◌/◌, ◌%◌, ◌<◌, ◌≤◌, ◌≡◌, refl, Bool, true, false, not, ◌&&◌, T, eqb}
use Rattle.std.proofs.Common.{arith, div-one}
use Rattle.std.proofs.Math.Nat.{div-div-eq-div-mul}
use mir.Val.{bool_byte}
use Rattle.truth.specs.Tests.{and_left, and_right}
use Rattle.wire.specs.Byte.{bit}
use Rattle.register_bytes.specs.Bytes.{byte_of}

-- ---- a test of n Bools that passes for all of them
abbrev Test : ℕ → Type 0
Test zero = Bool
Test (suc n) = Bool → Test n

abbrev passes : (n : ℕ) → Test n → Bool
passes zero t = t
passes (suc n) f = passes n (f true) && passes n (f false)

abbrev Everywhere : (n : ℕ) → Test n → Type 0
Everywhere zero t = T t
Everywhere (suc n) f = (b : Bool) → Everywhere n (f b)

either : (P : Bool → Type 0) → P true → P false → (b : Bool) → P b
either P p q true = p
either P p q false = q

everywhere : (n : ℕ) (f : Test n) → T (passes n f) → Everywhere n f
everywhere zero f t = t
everywhere (suc n) f t =
    either (λ b. Everywhere n (f b))
    (everywhere n (f true) (and_left (passes n (f true)) (passes n (f false)) t))
    (everywhere n (f false) (and_right (passes n (f true)) (passes n (f false)) t))

-- ---- the bits of a packed byte
abbrev same : Bool → Bool → Bool
same true b = b
same false b = not b

equal : (a b : Bool) → T (same a b) → a ≡ b
equal true true t = refl
equal true false t = absurd t
equal false true t = absurd t
equal false false t = refl

abbrev packed : Bool → Bool → Bool → Bool → Bool → Bool → Bool → Bool → Bool
packed b7 b6 b5 b4 b3 b2 b1 b0 =
    let v : ℕ = byte_of b7 b6 b5 b4 b3 b2 b1 b0 in
    same (bit 7 v) b7 && same (bit 6 v) b6 && same (bit 5 v) b5 && same (bit 4 v) b4
    && same (bit 3 v) b3 && same (bit 2 v) b2 && same (bit 1 v) b1 && same (bit 0 v) b0

tested : Everywhere 8 packed
tested = everywhere 8 packed tt

-- The law, bit by bit.
pub record EightBits (v : ℕ) (b7 b6 b5 b4 b3 b2 b1 b0 : Bool) : Type 0 where
  pub is7 : bit 7 v ≡ b7
  pub is6 : bit 6 v ≡ b6
  pub is5 : bit 5 v ≡ b5
  pub is4 : bit 4 v ≡ b4
  pub is3 : bit 3 v ≡ b3
  pub is2 : bit 2 v ≡ b2
  pub is1 : bit 1 v ≡ b1
  pub is0 : bit 0 v ≡ b0

pub bits_back : (b7 b6 b5 b4 b3 b2 b1 b0 : Bool) → EightBits (byte_of b7 b6 b5 b4 b3 b2 b1 b0) b7 b6 b5 b4 b3 b2 b1 b0
bits_back b7 b6 b5 b4 b3 b2 b1 b0 =
    let t = tested b7 b6 b5 b4 b3 b2 b1 b0 in
    let v : ℕ = byte_of b7 b6 b5 b4 b3 b2 b1 b0 in
    record {
      is7 = equal (bit 7 v) b7 (search (and_left, and_right) depth 8);
      is6 = equal (bit 6 v) b6 (search (and_left, and_right) depth 8);
      is5 = equal (bit 5 v) b5 (search (and_left, and_right) depth 8);
      is4 = equal (bit 4 v) b4 (search (and_left, and_right) depth 8);
      is3 = equal (bit 3 v) b3 (search (and_left, and_right) depth 8);
      is2 = equal (bit 2 v) b2 (search (and_left, and_right) depth 8);
      is1 = equal (bit 1 v) b1 (search (and_left, and_right) depth 8);
      is0 = equal (bit 0 v) b0 (search (and_left, and_right) depth 8);
    }

-- ---- the low half
pub small : (b : Bool) → bool_byte b ≤ 1
small true = omega arith
small false = omega arith

-- Of a packed byte.
pub packed_half :
    (b7 b6 b5 b4 b3 b2 b1 b0 : Bool) → byte_of b7 b6 b5 b4 b3 b2 b1 b0 % 16 ≡ byte_of false false false false b3 b2 b1 b0
packed_half b7 b6 b5 b4 b3 b2 b1 b0 = omega (arith, small b3, small b2, small b1, small b0)

-- Of any number.
one_bit : (x : ℕ) → x < 2 → bool_byte (eqb x 1) ≡ x
one_bit zero h = refl
one_bit (suc zero) h = refl
one_bit (suc (suc x)) h = absurd (omega arith)

pub half_back : (v : ℕ) → byte_of false false false false (bit 3 v) (bit 2 v) (bit 1 v) (bit 0 v) ≡ v % 16
half_back v =
    rw (one_bit (v / 8 % 2) (omega arith), one_bit (v / 4 % 2) (omega arith), one_bit (v / 2 % 2) (omega arith), one_bit (v / 1 % 2) (omega arith), div-one v)
    (omega (arith, div-div-eq-div-mul v 8 2, div-div-eq-div-mul v 4 2, div-div-eq-div-mul v 2 2))
