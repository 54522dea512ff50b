-- Laws of a memory's pointer.
use Rattle.std.specs.Prelude.{ℕ, ◌%◌, ◌<◌, ◌≡◌}
use Rattle.std.proofs.Common.{arith, mod-lt, ne_eqb}
use Rattle.memory.specs.Memory.{modulo}

-- For every memory that there is, modulo is the remainder, and the pointer stays below n.
pub modulo_is : (n x : ℕ) → 0 < n → modulo n x ≡ x % n
modulo_is n x h = let z : n ≡ 0 → ⊥ = λ e. omega arith in simp (ne_eqb n 0 z)

pub modulo-below : (n x : ℕ) → 0 < n → modulo n x < n
modulo-below n x h = rw (modulo_is n x h) (mod-lt x h)
