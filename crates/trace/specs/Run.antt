-- A run (01, "Calls, refusals and their order"): a trace of bytes, 0 to 3 a sample, 4 a handler call.
use Rattle.std.specs.Prelude.{ℕ, Bool, true, false, List, map, eqb, ltb}
use Rattle.items.specs.First.{first_above}
use Rattle.wire.specs.Wire.{scl_of, sda_of}
use Rattle.sampling.specs.Rules.{sampled}
use Rattle.firmware.specs.declared.State.{State}
use Rattle.firmware.specs.Handler.{Served, served, state_of}
use Rattle.steps.specs.declared.Item.{Item}
use Rattle.steps.specs.declared.Item.TheVariants.{Sample, Call, NotAnItem}
use Rattle.steps.specs.Step.{after, after_all}

-- The number of the first byte that is no item; the length where every byte is one.
abbrev pub first_bad : List ℕ → ℕ
first_bad items = first_above 4 items

-- A sample moves the module; the handler's variables stay.
abbrev pub sampled_by : State → ℕ → State
sampled_by s level = state_of (sampled s.mssp (scl_of level) (sda_of level)) s.handler

-- A byte of a trace as an item.
abbrev pub item_if : Bool → Bool → ℕ → Item
item_if true call byte = Sample (scl_of byte) (sda_of byte)
item_if false true byte = Call
item_if false false byte = NotAnItem

abbrev pub item_at : ℕ → Item
item_at byte = item_if (ltb byte 4) (eqb byte 4) byte

-- One byte's step.
abbrev pub byte_step_if : Bool → Bool → State → List ℕ → ℕ → Served
byte_step_if level call s bytes byte = after (served s bytes) (item_if level call byte)

abbrev pub byte_step : State → List ℕ → ℕ → Served
byte_step s bytes byte = byte_step_if (ltb byte 4) (eqb byte 4) s bytes byte

-- All the items of a trace, from what there is.
abbrev pub run_from : Served → List ℕ → Served
run_from w trace = after_all w (map item_at trace)

abbrev pub run_of : State → List ℕ → List ℕ → Served
run_of s bytes trace = run_from (served s bytes) trace
