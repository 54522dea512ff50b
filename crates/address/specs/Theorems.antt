-- What the comparison promises (02, 1): when it says own, when general call, and which of its answers are taken.
use Rattle.std.specs.Prelude.{◌↔◌, ◌≡◌, refl, Bool, true, false, ◌||◌}
use Rattle.std.proofs.Common.{sym, true≢false, arith}
use Rattle.address.specs.declared.Hit.TheVariants.{Own, GeneralCall}
use Rattle.address.specs.Comparison.{hit_number, hit_if, is_taken}

-- By the two tests: the byte fits; it is 00 with GCEN 1.
pub own-said : (fits general : Bool) → (hit_number (hit_if fits general) ≡ hit_number Own) ↔ (fits ≡ true)
own-said true general = (λ e. refl, λ e. refl)
own-said false true = (λ e. absurd (omega arith), λ e. absurd (true≢false (sym e)))
own-said false false = (λ e. absurd (omega arith), λ e. absurd (true≢false (sym e)))

pub general_said :
    (fits general : Bool) → (hit_number (hit_if fits general) ≡ hit_number GeneralCall) ↔ ((fits ≡ false) × (general ≡ true))
general_said true general = (λ e. absurd (omega arith), λ k. absurd (true≢false k.0))
general_said false true = (λ e. (refl, refl), λ k. refl)
general_said false false = (λ e. absurd (omega arith), λ k. absurd (true≢false (sym k.1)))

-- Taken is what is own or the general call.
pub taken_by_test : (fits general : Bool) → is_taken (hit_if fits general) ≡ fits || general
taken_by_test true general = refl
taken_by_test false true = refl
taken_by_test false false = refl
