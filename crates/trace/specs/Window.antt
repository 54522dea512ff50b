-- A run over a window of the caller's buffer, and its refusals (01, "Calls, refusals and their order"): 5 before 4.
use Rattle.std.specs.Prelude.{ℕ, ◌+◌, Bool, true, false, Err, List, ltb, length, take, drop, ◌≡◌}
use Rattle.refusals.specs.declared.Refusal.TheVariants.{NoWindow, NoItem}
use Rattle.firmware.specs.declared.State.{State}
use Rattle.firmware.specs.Handler.{Served}
use Rattle.firmware.specs.Window.{window_fits, in_buffer, WindowOutcome, window_outcome, work_done}
use Rattle.items.specs.First.{first_above}
use Rattle.trace.specs.Run.{run_of}

abbrev pub ran_in : State → List ℕ → ℕ → ℕ → List ℕ → Served
ran_in s buffer start n items = in_buffer (λ bytes. run_of s bytes items) buffer start n

-- Work over a window, by whether the window fits and whether an item is bad. Refused, state and buffer stay; beside 4 stands the
-- first bad item's number.
abbrev pub checked : Bool → Bool → ℕ → State → List ℕ → Served → WindowOutcome
checked false bad item s buffer done = window_outcome (Err NoWindow) 0 s buffer
checked true true item s buffer done = window_outcome (Err NoItem) item s buffer
checked true false item s buffer done = work_done done

-- With items of 0 to the largest.
abbrev pub judged_of : ℕ → State → List ℕ → ℕ → ℕ → List ℕ → Served → WindowOutcome
judged_of most s buffer start n items done =
    checked (window_fits (length buffer) start n s.handler.n) (ltb (first_above most items) (length items)) (first_above most items) s buffer done

abbrev pub run_in_of : State → List ℕ → ℕ → ℕ → List ℕ → WindowOutcome
run_in_of s buffer start n items = judged_of 4 s buffer start n items (ran_in s buffer start n items)

-- The bytes before a window and those behind it, the same in two buffers.
pub record SameOutside (start n : ℕ) (before after : List ℕ) : Type 0 where
  pub below : take start after ≡ take start before
  pub above : drop (start + n) after ≡ drop (start + n) before
