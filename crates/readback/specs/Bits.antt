-- A byte is made of its own bits: one test over all 256, computed, and the law that it gives.
use Rattle.std.specs.Prelude.{ℕ, zero, suc, ◌<◌, ◌≡◌, Bool, true, ◌&&◌, T, eqb}
use Rattle.std.proofs.Common.{sym, subst, ⊎_elim, arith, eq-or-lt_of_le, le_of_suc-le-suc, eqb→eq}
use Rattle.truth.specs.Tests.{and_left, and_right}
use Rattle.wire.specs.Byte.{bit}
use Rattle.register_bytes.specs.Bytes.{byte_of}

-- A byte made of a bit for each of the numbers 7 to 0.
abbrev pub each_bit : (ℕ → Bool) → ℕ
each_bit f = byte_of (f 7) (f 6) (f 5) (f 4) (f 3) (f 2) (f 1) (f 0)

-- A test that is computed at each number below n, and what it says of one of them.
abbrev all_below : (ℕ → Bool) → ℕ → Bool
all_below f zero = true
all_below f (suc n) = f n && all_below f n

below : (f : ℕ → Bool) (n : ℕ) → T (all_below f n) → (k : ℕ) → k < n → T (f k)
below f zero t k h = absurd (omega arith)
below f (suc n) t k h =
    ⊎_elim (λ (q : k ≡ n). subst (λ (m : ℕ). T (f m)) (sym q) (and_left (f n) (all_below f n) t))
    (λ (q : k < n). below f n (and_right (f n) (all_below f n) t) k q) (eq-or-lt_of_le (le_of_suc-le-suc h))

remade : ℕ → Bool
remade v = eqb (each_bit (λ i. bit i v)) v

all_remade : T (all_below remade 256)
unfolding remade
all_remade = tt

-- A byte is made of its own bits.
pub byte_back : (v : ℕ) → v < 256 → each_bit (λ i. bit i v) ≡ v
unfolding remade
byte_back v h = eqb→eq _ _ (below remade 256 all_remade v h)
