-- A history of samples, handler calls and register accesses, as numbers, and what it leaves of a state and its window: the one
-- step, item by item (demand 2).
use Rattle.std.specs.Prelude.{ℕ, ◌/◌, ◌%◌, cond, List, map, eqb}
use Rattle.firmware.specs.Handler.{Served}
use Rattle.steps.specs.declared.Item.{Item}
use Rattle.steps.specs.declared.Item.TheVariants.{Read, Write}
use Rattle.steps.specs.Step.{after_all}
use Rattle.trace.specs.Run.{item_at}

-- Items as numbers: 10000 + 100 × R a read, 20000 + 100 × R + V a write (hex); any other as in a trace, 0 to 3 a sample, 4 a
-- handler call, or no item.
abbrev pub item_of : ℕ → Item
item_of code =
    cond (eqb (code / 65536) 1) (Read (code / 256 % 256))
    (cond (eqb (code / 65536) 2) (Write (code / 256 % 256) (code % 256)) (item_at code))

-- All the items one after the other, from what there is. A refused access and a number that is no item change nothing.
abbrev pub history_of : Served → List ℕ → Served
history_of w codes = after_all w (map item_of codes)
