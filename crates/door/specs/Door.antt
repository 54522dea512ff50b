-- What a search and a drawing answer, for every input (01, "Calls, refusals and their order"). What the other functions of the door
-- do stands in `module_calls` and in `firmware_calls`.
use Rattle.std.specs.Prelude.{ℕ, cond, List, eqb, length}
use Rattle.found.specs.Numbers.{Found, refusal_of, bad_item_of, start_of, length_of}
use Rattle.finder.specs.Find.{span_of}
use Rattle.lanes.specs.Lanes.{shorter_of}
use Rattle.settling.specs.declared.Answer.{Answer}
use Rattle.firmware_calls.specs.Calls.{DrawnLent, door_lanes}
use Rattle.door.specs.declared.Part.{Part}
use Rattle.door.specs.declared.Taken.{Taken}

-- The message under the cursor: a refused call has the empty part at 0
abbrev pub part_answer : Found → Part
part_answer found =
    record { refusal = refusal_of found; item = bad_item_of found; start = start_of found; length = length_of found }

abbrev pub door_find : List ℕ → ℕ → Part
door_find levels item = part_answer (span_of levels item)

-- Done, as many items were taken as the shorter of record and lanes has, and as many words written; refused, none.
abbrev pub taken_of : Answer → ℕ → Taken
taken_of answer count =
    let n : ℕ = cond (eqb answer.refusal 0) count 0 in record { refusal = answer.refusal; item = answer.item; samples = n; items = n }

-- All that a drawing decides: its answer, the state's bytes, the buffer's, and every word of the lanes.
pub record Drawn : Type 0 where
  pub taken : Taken
  pub state : List ℕ
  pub buffer : List ℕ
  pub lanes : List ℕ

abbrev pub drawn : Taken → List ℕ → List ℕ → List ℕ → Drawn
drawn taken state buffer lanes = record { taken = taken; state = state; buffer = buffer; lanes = lanes }

abbrev pub drawn_of : ℕ → DrawnLent → Drawn
drawn_of count d = drawn (taken_of d.work.outcome.answer count) d.work.outcome.state d.work.buffer d.lanes

abbrev pub door_draw : List ℕ → List ℕ → ℕ → ℕ → List ℕ → List ℕ → Drawn
door_draw bytes buffer start n levels lanes = drawn_of (shorter_of (length levels) (length lanes)) (door_lanes bytes buffer start n levels lanes)
