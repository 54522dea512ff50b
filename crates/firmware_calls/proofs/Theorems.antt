-- What the handler's calls promise beside their contracts (01, "Calls, refusals and their order"): a refused one leaves the
-- state's bytes and the buffer's.
use Rattle.std.specs.Prelude.{ℕ, ◌<◌, ◌≡◌, refl, Bool, true, false, cond, Result, Ok, Err, List, ◌++◌, eqb, ltb, length, take, drop, Option, Some, None}
use Rattle.std.proofs.Common.{sym, arith}
use Rattle.truth.specs.Tests.{never}
use Rattle.refusals.specs.declared.Refusal.{Refusal}
use Rattle.refusals.specs.Numbers.{Verdict, accepted}
use Rattle.firmware.specs.declared.State.{State}
use Rattle.firmware.specs.Handler.{Served, setup_of}
use Rattle.firmware.specs.Window.{window_fits, WindowOutcome, call_of, call_choice}
use Rattle.items.specs.First.{first_above}
use Rattle.trace.specs.Window.{ran_in, checked, judged_of, run_in_of}
use Rattle.lanes.specs.Lanes.{laned_in, shorter_of, draw_in_of}
use Rattle.image.specs.Image.{image_length, encode_of, decode_of}
use Rattle.settling.specs.Outcome.{lent, settled, no_state, by_state, Keeps, KeepsLent}
use Rattle.settling.proofs.Theorems.{settled_keeps_lent, state_keeps_lent}
use Rattle.firmware_calls.specs.Calls.{setup_if, door_setup, settled_work, by_work, door_call, door_run, DrawnLent, door_lanes}

setup_if_lem : (fits : Bool) (made : Result State Refusal) (bytes : List ℕ) → Keeps bytes (setup_if fits made bytes)
setup_if_lem false made bytes h = refl
setup_if_lem true (Err why) bytes h = refl
setup_if_lem true (Ok s) bytes h = absurd (omega arith)

-- A refused call leaves the buffer.
call_if :
    (s : State) (buffer : List ℕ) (start n : ℕ) (fits : Bool)
    → accepted (call_choice s buffer start n fits).verdict ≡ false → (call_choice s buffer start n fits).buffer ≡ buffer
call_if s buffer start n true e = never (sym e)
call_if s buffer start n false e = refl

checked_if :
    (fits bad : Bool) (item : ℕ) (s : State) (buffer : List ℕ) (done : Served)
    → accepted (checked fits bad item s buffer done).verdict ≡ false → (checked fits bad item s buffer done).buffer ≡ buffer
checked_if false bad item s buffer done e = refl
checked_if true true item s buffer done e = refl
checked_if true false item s buffer done e = never (sym e)

-- Work that is judged and refused leaves the buffer.
pub judged_keeps :
    (most : ℕ) (s : State) (buffer : List ℕ) (start n : ℕ) (items : List ℕ) (done : Served)
    → accepted (judged_of most s buffer start n items done).verdict ≡ false → (judged_of most s buffer start n items done).buffer ≡ buffer
judged_keeps most s buffer start n items done =
    checked_if (window_fits (length buffer) start n s.handler.n) (ltb (first_above most items) (length items)) (first_above most items) s buffer done

pub setup_keeps : (bytes : List ℕ) (add n : ℕ) → Keeps bytes (door_setup bytes add n)
setup_keeps bytes add n = setup_if_lem (eqb (length bytes) image_length) (setup_of add n) bytes

module _ (bytes buffer : List ℕ) where
  work_keeps :
      (work : State → WindowOutcome) → ((s : State) → accepted (work s).verdict ≡ false → (work s).buffer ≡ buffer)
      → KeepsLent bytes buffer (by_work work bytes buffer)
  work_keeps work same =
      state_keeps_lent bytes (decode_of bytes) buffer (λ s. settled_work bytes (work s))
      (λ s. settled_keeps_lent bytes buffer (work s).verdict (work s).item (encode_of (work s).state) (same s))

  module _ (start n : ℕ) where
    pub call_keeps : KeepsLent bytes buffer (door_call bytes buffer start n)
    call_keeps =
        work_keeps (λ s. call_of s buffer start n) (λ s. call_if s buffer start n (window_fits (length buffer) start n s.handler.n))

    pub run_keeps : (items : List ℕ) → KeepsLent bytes buffer (door_run bytes buffer start n items)
    run_keeps items =
        work_keeps (λ s. run_in_of s buffer start n items)
        (λ s. judged_keeps 4 s buffer start n items (ran_in s buffer start n items))

    pub draw_keeps : (items lanes : List ℕ) → KeepsLent bytes buffer (door_lanes bytes buffer start n items lanes).work
    draw_keeps items lanes =
        let part : List ℕ = take (shorter_of (length items) (length lanes)) items in
        work_keeps (λ s. (draw_in_of s buffer start n items lanes).outcome) (λ s. judged_keeps 3 s buffer start n part (laned_in s buffer start n part).left)

-- Refused, a drawing leaves the lanes.
lanes_if : (v : Verdict) (item : ℕ) (image bytes words lanes : List ℕ) → 0 < (settled v item image bytes).answer.refusal → cond (accepted v) words lanes ≡ lanes
lanes_if (Ok value) item image bytes words lanes h = absurd (omega arith)
lanes_if (Err why) item image bytes words lanes h = refl

pub lanes_keep :
    (bytes buffer : List ℕ) (start n : ℕ) (items lanes : List ℕ) → let d : DrawnLent = door_lanes bytes buffer start n items lanes in
    0 < d.work.outcome.answer.refusal → d.lanes ≡ lanes
unfolding by_state
lanes_keep bytes buffer start n items lanes = by (decode_of bytes)
  where
    by :
        (found : Option State)
        → 0 < (by_state found (lent (no_state bytes) buffer) (λ s. settled_work bytes (draw_in_of s buffer start n items lanes).outcome)).outcome.answer.refusal
        → by_state found lanes (λ s. (draw_in_of s buffer start n items lanes).lanes) ≡ lanes
    by None h = refl
    by (Some s) h =
        let o : WindowOutcome = (draw_in_of s buffer start n items lanes).outcome in
        let words : List ℕ = (laned_in s buffer start n (take (shorter_of (length items) (length lanes)) items)).lanes in
        lanes_if o.verdict o.item (encode_of o.state) bytes (words ++ drop (length words) lanes) lanes h
