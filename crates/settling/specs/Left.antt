-- What a call leaves of the state's bytes: the image of a state, of whatever kind, where it is accepted.
use Rattle.std.specs.Prelude.{ℕ, ◌≡◌, List, Option, Some}
use Rattle.settling.specs.Outcome.{Outcome}

-- Bytes that are the image of a state: they decode to it.
pub record ImageOfSome {S : Type 0} (decode : List ℕ → Option S) (bytes : List ℕ) : Type 0 where
  pub of : S
  pub decodes : decode bytes ≡ Some of

-- An accepted call leaves one.
abbrev pub Leaves : {S : Type 0} → (List ℕ → Option S) → Outcome → Type 0
Leaves decode o = o.answer.refusal ≡ 0 → ImageOfSome decode o.state
