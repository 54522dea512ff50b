-- What the code of a call knows on each way, and what follows, for every kind of state.
use Rattle.std.specs.Prelude.{ℕ, ◌≤◌, ◌≡◌, refl, Ok, Err, List, ◌++◌, length, take, drop, Option, Some, None}
use Rattle.std.proofs.Common.{sym, ap, ◌∙◌, append-nil, arith, drop_of_length-le, eq-eqb}
use Rattle.std.proofs.Math.Seq.{take-length}
use Rattle.refusals.specs.declared.Refusal.{Refusal}
use Rattle.refusals.specs.Numbers.{Verdict}
use Rattle.mssp.specs.declared.Module.{Module}
use Rattle.registers.specs.Values.{Access}
use Rattle.settling.specs.declared.Answer.{Answer}
use Rattle.settling.specs.Outcome.{Outcome, outcome, done, refused, image_over, settled, settled_access, no_state, by_state, by_access}

-- ---- what is settled
-- An image copied over bytes of its length is all there is.
pub laid_over :
    (image bytes : List ℕ) {left : List ℕ} → length bytes ≡ length image
    → left ≡ take (length image) image ++ drop (length image) bytes → left ≡ image_over image bytes
laid_over image bytes l e =
    let n : length bytes ≤ length image = omega arith in
    simp (eq-eqb (length bytes) (length image) l, e, take-length, drop_of_length-le bytes n, append-nil)

module _ (item : ℕ) (image bytes : List ℕ) where
  pub settle_done :
      {verdict : Verdict} {value : ℕ} {r : Answer} {left : List ℕ} → verdict ≡ Ok value → r ≡ done value → left ≡ image
      → outcome r left ≡ settled verdict item image bytes
  settle_done e f g = rw (e, f, g)

  pub settle_refused :
      {verdict : Verdict} {why : Refusal} {r : Answer} → verdict ≡ Err why → r ≡ refused why item
      → outcome r bytes ≡ settled verdict item image bytes
  settle_refused e f = rw (e, f)

-- Over bytes of the image's length the image is all that is left.
pub settled-whole :
    (verdict : Verdict) (item : ℕ) (image bytes : List ℕ) {written : List ℕ} {o : Outcome} → length bytes ≡ length image
    → written ≡ image → o ≡ settled verdict item (image_over written bytes) bytes → o ≡ settled verdict item image bytes
settled-whole verdict item image bytes l e f = rw (e, eq-eqb (length bytes) (length image) l) at f

-- ---- by the state that the bytes decode to
module _ {S A : Type 0} {known found : Option S} (decoded : found ≡ known) (nothing : A) (work : S → A) {o : A} where
  pub no_image : found ≡ None → o ≡ nothing → o ≡ by_state known nothing work
  unfolding by_state
  no_image e f = rw (sym decoded ∙ e) f

  pub of_state : {s : S} → found ≡ Some s → o ≡ work s → o ≡ by_state known nothing work
  unfolding by_state
  of_state e f = rw (sym decoded ∙ e) f

-- ---- a register access
-- An access to the module of the state that the bytes decode to.
pub access_settled :
    {S : Type 0} (module_in : S → Module) (image_with : S → Module → List ℕ) (work : Module → Access) (bytes : List ℕ)
    {known : Option S} {s : S} {access : Access} {o : Outcome} → known ≡ Some s → access ≡ work (module_in s)
    → o ≡ settled_access (image_with s) access bytes → o ≡ by_access module_in image_with known work bytes
access_settled module_in image_with work bytes {s = s} is e f =
    of_state refl (no_state bytes) (λ t. settled_access (image_with t) (work (module_in t)) bytes) is
    (f ∙ ap (λ (x : Access). settled_access (image_with s) x bytes) e)
