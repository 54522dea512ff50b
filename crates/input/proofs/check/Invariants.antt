-- `input::check` meets its contract: the items counted so far, and what is left of the input.
use Rattle.std.specs.Prelude.{◌≡◌, ◌≤◌, drop}
use Rattle.input.specs.Input.{parse, checked_of}
use Rattle.input.specs.Laws.{counted}
use Rattle.input.proofs.check.Given as goal

abbrev pub invariant-loop-byte : goal.invariant-loop-byte
invariant-loop-byte l = record {
  in_range : l.items ≤ l.byte-index;
  what_is_left : counted l.items (parse (drop l.byte-index l.input)) ≡ checked_of l.input;
}
