-- What the code of the handler's calls knows on each way, and what follows.
use Rattle.std.specs.Prelude.{ℕ, ◌≡◌, Result, Ok, Err, List, length}
use Rattle.std.proofs.Common.{sym, ap, ◌∙◌, eq-eqb, ne_eqb}
use Rattle.refusals.specs.declared.Refusal.{Refusal}
use Rattle.refusals.specs.declared.Refusal.TheVariants.{NoState}
use Rattle.refusals.specs.Numbers.{Verdict}
use Rattle.firmware.specs.declared.State.{State}
use Rattle.firmware.specs.Handler.{setup_of}
use Rattle.firmware.specs.Window.{WindowOutcome, window_outcome}
use Rattle.image.specs.Image.{image_length, encode_of}
use Rattle.image.specs.Laws.{encode_length}
use Rattle.settling.specs.declared.Answer.{Answer}
use Rattle.settling.specs.Outcome.{Outcome, outcome, lent, refused, image_over, settled}
use Rattle.settling.specs.Laws.{settled-whole}
use Rattle.firmware_calls.specs.Calls.{door_setup, settled_work}

-- ---- set-up
module _ (bytes : List ℕ) (add n : ℕ) where
  pub setup-length :
      {r : Answer} → (length bytes ≡ image_length → ⊥) → r ≡ refused NoState 0 → outcome r bytes ≡ door_setup bytes add n
  setup-length other e = rw (ne_eqb (length bytes) image_length other, e)

  module _ (long : length bytes ≡ image_length) {made : Result State Refusal} (is : made ≡ setup_of add n) where
    pub setup-refused :
        {why : Refusal} {r : Answer} → made ≡ Err why → r ≡ refused why 0 → outcome r bytes ≡ door_setup bytes add n
    setup-refused e f = rw (eq-eqb (length bytes) image_length long, ← is, e, f)

    pub setup_ready :
        {s : State} {image : List ℕ} {o : Outcome} → made ≡ Ok s → image ≡ encode_of s
        → o ≡ settled (Ok 0) 0 (image_over image bytes) bytes → o ≡ door_setup bytes add n
    setup_ready {s} e f g =
        rw (eq-eqb (length bytes) image_length long, ← is, e)
        (settled-whole (Ok 0) 0 (encode_of s) bytes (long ∙ sym (encode_length s)) f g)

-- ---- what is settled on a state
pub work_settled :
    (bytes : List ℕ) (verdict : Verdict) (next : State) {image buffer : List ℕ} {left : Outcome} {item : ℕ} {o : WindowOutcome}
    → length bytes ≡ length (encode_of next) → image ≡ encode_of next → window_outcome verdict item next buffer ≡ o
    → left ≡ settled verdict item (image_over image bytes) bytes → lent left buffer ≡ settled_work bytes o
work_settled bytes verdict next {buffer = buffer} {item = item} l is e f =
    ap (λ (x : Outcome). lent x buffer) (settled-whole verdict item (encode_of next) bytes l is f) ∙ ap (settled_work bytes) e
