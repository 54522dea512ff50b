use Prim.Native.Nat.{◌-◌}
use lib.ListN.{length}
use Rattle.firmware.specs.Handler.{served}
use Rattle.lanes.proofs.Drawing.{Underway}
use Rattle.lanes.proofs.draw.Given as goal

abbrev pub invariant-loop-i : goal.invariant-loop-i
invariant-loop-i l = Underway (served l.initial.s l.initial.window) l.items l.i (served l.s l.window) l.lanes l.stands

abbrev pub decreases-loop-i : goal.decreases-loop-i
decreases-loop-i l = length l.items - l.i
