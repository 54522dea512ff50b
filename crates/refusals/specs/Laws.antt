-- What is known of a call that is not refused: none of its causes holds.
use Rattle.std.specs.Prelude.{ℕ, ◌≡◌, refl, Bool, true, false, List, [], ◌∷◌}
use Rattle.std.proofs.Common.{sym, true≢false}
use Rattle.refusals.specs.declared.Refusal.{Refusal}
use Rattle.refusals.specs.Numbers.{accepted, first_cause}

abbrev pub NoneHolds : List (Bool × Refusal) → Type 0
NoneHolds [] = Unit {0}
NoneHolds (cause ∷ rest) = (cause.0 ≡ false) × NoneHolds rest

pub none-holds : (value : ℕ) (causes : List (Bool × Refusal)) → accepted (first_cause value causes) ≡ true → NoneHolds causes
none-holds value [] e = tt
none-holds value ((true, why) ∷ rest) e = absurd (true≢false (sym e))
none-holds value ((false, why) ∷ rest) e = (refl, none-holds value rest e)
