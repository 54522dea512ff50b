-- The message goes on up to the item that the loop has come to.
use Prim.Native.Nat.{◌-◌}
use mathlib.Core.Path.{◌≡◌}
use lib.ListN.{length}
use Rattle.finder.specs.Messages.{end_from, end_at}
use Rattle.finder.specs.Carried.{carried_before}
use Rattle.finder.proofs.end_after.Given as goal

abbrev pub invariant-loop-end : goal.invariant-loop-end
invariant-loop-end l = (l.carried ≡ carried_before l.levels l.end) × (end_at l.levels l.item ≡ end_from l.levels l.end (length l.levels - l.end))
