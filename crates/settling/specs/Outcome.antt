-- All that a call on a state's bytes decides (01, "Calls, refusals and their order"), of whatever kind the state is: the answer's
-- numbers, the state's bytes, and, where memory is lent, the memory's.
use Rattle.std.specs.Prelude.{ℕ, ◌<◌, ◌≡◌, cond, Ok, Err, List, eqb, length, Option, Some, None}
use Rattle.refusals.specs.declared.Refusal.{Refusal}
use Rattle.refusals.specs.declared.Refusal.TheVariants.{NoState}
use Rattle.refusals.specs.declared.Refused.{Refused}
use Rattle.refusals.specs.Numbers.{Verdict, number_of}
use Rattle.mssp.specs.declared.Module.{Module}
use Rattle.registers.specs.Values.{Access}
use Rattle.settling.specs.declared.Answer.{Answer}

pub record Outcome : Type 0 where
  pub answer : Answer
  pub state : List ℕ

abbrev pub outcome : Answer → List ℕ → Outcome
outcome answer state = record { answer = answer; state = state }

pub record Lent : Type 0 where
  pub outcome : Outcome
  pub buffer : List ℕ

abbrev pub lent : Outcome → List ℕ → Lent
lent outcome buffer = record { outcome = outcome; buffer = buffer }

abbrev pub answer_of : ℕ → ℕ → ℕ → Answer
answer_of refusal value item = record { refusal = refusal; value = value; item = item }

abbrev pub done : ℕ → Answer
done value = answer_of 0 value 0

-- The number of the cause, no value, and the first bad item's number where one is given, else 0.
abbrev pub refused : Refusal → ℕ → Answer
refused why item = answer_of (number_of why) 0 item

abbrev pub refused_as : Refused → Answer
refused_as why = refused why.why why.item

-- An image is written over bytes of its own length only; others stay.
abbrev pub image_over : List ℕ → List ℕ → List ℕ
image_over image bytes = cond (eqb (length bytes) (length image)) image bytes

-- Done, the state's bytes are the image of the next state; refused, they are as they were.
abbrev pub settled : Verdict → ℕ → List ℕ → List ℕ → Outcome
settled (Ok value) item image bytes = outcome (done value) image
settled (Err why) item image bytes = outcome (refused why item) bytes

-- A register access reaches the module alone: the image is that of the state with the module that the access leaves.
abbrev pub settled_access : (Module → List ℕ) → Access → List ℕ → Outcome
settled_access image_with access bytes = settled access.verdict 0 (image_with access.mssp) bytes

-- The bytes are no state's image, and stay.
abbrev pub no_state : List ℕ → Outcome
no_state bytes = outcome (refused NoState 0) bytes

-- Refusal 6 is looked at before any other: a call works on the state that the bytes decode to or on nothing.
unfoldable pub by_state : {S A : Type 0} → Option S → A → (S → A) → A
by_state None nothing work = nothing
by_state (Some s) nothing work = work s

-- An access to the module of the state that the bytes decode to, of a state that has one.
abbrev pub by_access : {S : Type 0} → (S → Module) → (S → Module → List ℕ) → Option S → (Module → Access) → List ℕ → Outcome
by_access module_in image_with known work bytes =
    by_state known (no_state bytes) (λ s. settled_access (image_with s) (work (module_in s)) bytes)

-- Refused, a call leaves the state's bytes, and the buffer's where one is lent.
abbrev pub Keeps : List ℕ → Outcome → Type 0
Keeps bytes o = 0 < o.answer.refusal → o.state ≡ bytes

abbrev pub KeepsLent : List ℕ → List ℕ → Lent → Type 0
KeepsLent bytes buffer o = 0 < o.outcome.answer.refusal → (o.outcome.state ≡ bytes) × (o.buffer ≡ buffer)
