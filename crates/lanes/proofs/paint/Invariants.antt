use Prim.Native.Nat.{◌-◌}
use lib.ListN.{length}
use Rattle.lanes.proofs.Painting.{Painting}
use Rattle.lanes.proofs.paint.Given as goal

abbrev pub invariant-loop-i : goal.invariant-loop-i
invariant-loop-i l = Painting l.standing l.initial.b l.items l.i l.lanes l.b

abbrev pub decreases-loop-i : goal.decreases-loop-i
decreases-loop-i l = length l.items - l.i
