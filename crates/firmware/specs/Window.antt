-- The window that the handler works on (01, "Handler and plain device" and refusal 5): it may start anywhere in the
-- caller's buffer, and the bytes outside it never change.
use Rattle.std.specs.Prelude.{ℕ, ◌+◌, Bool, true, false, ◌&&◌, Ok, Err, List, ◌++◌, eqb, leb, length, take, drop}
use Rattle.refusals.specs.declared.Refusal.TheVariants.{NoWindow}
use Rattle.refusals.specs.Numbers.{Verdict}
use Rattle.firmware.specs.declared.State.{State}
use Rattle.firmware.specs.Handler.{Served, served, called}

-- The window lies inside its buffer, and its length is the setup's.
abbrev pub window_fits : ℕ → ℕ → ℕ → ℕ → Bool
window_fits long start n wanted = leb (start + n) long && eqb n wanted

-- The bytes of the window, and the buffer with other bytes in their place.
abbrev pub window_of : ℕ → ℕ → List ℕ → List ℕ
window_of start n buffer = take n (drop start buffer)

abbrev pub splice : ℕ → ℕ → List ℕ → List ℕ → List ℕ
splice start n bytes buffer = take start buffer ++ (bytes ++ drop n (drop start buffer))

-- What works on a window, done to the buffer that the window lies in: the bytes outside it stay.
abbrev pub in_buffer : (List ℕ → Served) → List ℕ → ℕ → ℕ → Served
in_buffer work buffer start n =
    let done : Served = work (window_of start n buffer) in
    served done.state (splice start n done.bytes buffer)

abbrev pub called_in : State → List ℕ → ℕ → ℕ → Served
called_in s buffer start n = in_buffer (called s) buffer start n

-- All that work over a window decides: the verdict, the item's number beside it, the state and every byte of the buffer.
pub record WindowOutcome : Type 0 where
  pub verdict : Verdict
  pub item : ℕ
  pub state : State
  pub buffer : List ℕ

abbrev pub window_outcome : Verdict → ℕ → State → List ℕ → WindowOutcome
window_outcome verdict item s buffer = record { verdict = verdict; item = item; state = s; buffer = buffer }

abbrev pub work_done : Served → WindowOutcome
work_done w = window_outcome (Ok 0) 0 w.state w.bytes

-- A window that does not fit is refused; state and buffer stay.
abbrev pub call_choice : State → List ℕ → ℕ → ℕ → Bool → WindowOutcome
call_choice s buffer start n true = work_done (called_in s buffer start n)
call_choice s buffer start n false = window_outcome (Err NoWindow) 0 s buffer

abbrev pub call_of : State → List ℕ → ℕ → ℕ → WindowOutcome
call_of s buffer start n = call_choice s buffer start n (window_fits (length buffer) start n s.handler.n)
