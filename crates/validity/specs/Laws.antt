-- A law of shifts.
use Rattle.std.specs.Prelude.{ℕ, ◌*◌, ◌%◌, ◌^◌, ◌≤◌, ◌≡◌}
use Rattle.std.proofs.Common.{◌∙◌, shl_exact, one-mul, arith}

-- A number of at most eight bits is below a shifted 1, which fits 16 bits.
pub shifted : (count : ℕ) → count ≤ 8 → 1 * 2 ^ count % 2 ^ 16 ≡ 2 ^ count
shifted count h = shl_exact 1 count 16 (omega arith) (omega arith) ∙ one-mul (2 ^ count)
