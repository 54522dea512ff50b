-- What the finder answers (01, "The wire record and the message under the cursor", and refusals 4 and 7 of "Calls,
-- refusals and their order").
use Rattle.std.specs.Prelude.{ℕ, ◌+◌, ◌-◌, List, Bool, true, false, length, take, drop, ltb, Option, None, Some}
use Rattle.items.specs.First.{first_above}
use Rattle.refusals.specs.declared.Refusal.TheVariants.{NoItem, PastRecord}
use Rattle.found.specs.Numbers.{Found, part, not_found, start_of, length_of}
use Rattle.finder.specs.Messages.{lies_at, end_at}

-- The number of the first level above 3; the record's length where there is none.
abbrev pub first_bad_level : List ℕ → ℕ
first_bad_level levels = first_above 3 levels

-- From its Start up to its end; in no message, an empty part at the item itself.
abbrev pub part_from : Option ℕ → ℕ → ℕ → Found
part_from None item end = part item 0
part_from (Some start) item end = part start (end - start)

abbrev pub message_part : List ℕ → ℕ → Found
message_part levels item = part_from (lies_at levels item) item (end_at levels item)

-- Refusal 4 with the first bad item's number, then 7, else the part. The tests: a level is bad, the item is in the record.
abbrev pub span_if : Bool → Bool → List ℕ → ℕ → Found
span_if true inside levels item = not_found NoItem (first_bad_level levels)
span_if false false levels item = not_found PastRecord 0
span_if false true levels item = message_part levels item

unfoldable pub span_of : List ℕ → ℕ → Found
span_of levels item = span_if (ltb (first_bad_level levels) (length levels)) (ltb item (length levels)) levels item

-- The items of the part.
abbrev pub part_of : List ℕ → Found → List ℕ
part_of levels found = take (length_of found) (drop (start_of found) levels)

-- Where they lie, a block and a byte in it: in the record's own memory, no copy.
abbrev pub part_place : ℕ × ℕ → Found → ℕ × ℕ
part_place memory found = (memory.0, start_of found + memory.1)
