-- What set-up, a handler call, a run and a drawing answer and leave, for every input (01, "Calls, refusals and their order").
use Rattle.std.specs.Prelude.{ℕ, Bool, true, false, Result, Ok, Err, List, eqb, length}
use Rattle.firmware.specs.declared.State.{State}
use Rattle.refusals.specs.declared.Refusal.{Refusal}
use Rattle.firmware.specs.Handler.{setup_of}
use Rattle.firmware.specs.Window.{WindowOutcome, call_of}
use Rattle.trace.specs.Window.{run_in_of}
use Rattle.lanes.specs.Lanes.{Drawing, draw_in_of}
use Rattle.image.specs.Image.{image_length, encode_of, decode_of}
use Rattle.settling.specs.Outcome.{Outcome, outcome, Lent, lent, done, refused, settled, no_state, by_state}

-- ---- set-up
-- By whether 48 bytes are lent, then by n.
abbrev pub setup_if : Bool → Result State Refusal → List ℕ → Outcome
setup_if false made bytes = no_state bytes
setup_if true (Err why) bytes = outcome (refused why 0) bytes
setup_if true (Ok s) bytes = outcome (done 0) (encode_of s)

abbrev pub door_setup : List ℕ → ℕ → ℕ → Outcome
door_setup bytes add n = setup_if (eqb (length bytes) image_length) (setup_of add n) bytes

-- ---- work over a window of the buffer: a handler call, a run
abbrev pub settled_work : List ℕ → WindowOutcome → Lent
settled_work bytes o = lent (settled o.verdict o.item (encode_of o.state) bytes) o.buffer

abbrev pub by_work : (State → WindowOutcome) → List ℕ → List ℕ → Lent
by_work work bytes buffer = by_state (decode_of bytes) (lent (no_state bytes) buffer) (λ s. settled_work bytes (work s))

abbrev pub door_call : List ℕ → List ℕ → ℕ → ℕ → Lent
door_call bytes buffer start n = by_work (λ s. call_of s buffer start n) bytes buffer

abbrev pub door_run : List ℕ → List ℕ → ℕ → ℕ → List ℕ → Lent
door_run bytes buffer start n items = by_work (λ s. run_in_of s buffer start n items) bytes buffer

-- ---- a drawing: work over a window, and the lanes
pub record DrawnLent : Type 0 where
  pub work : Lent
  pub lanes : List ℕ

abbrev pub drawn_lent : Lent → List ℕ → DrawnLent
drawn_lent work lanes = record { work = work; lanes = lanes }

abbrev pub door_lanes : List ℕ → List ℕ → ℕ → ℕ → List ℕ → List ℕ → DrawnLent
door_lanes bytes buffer start n items lanes =
    let work : State → Drawing = λ s. draw_in_of s buffer start n items lanes in
    drawn_lent (by_work (λ s. (work s).outcome) bytes buffer) (by_state (decode_of bytes) lanes (λ s. (work s).lanes))
