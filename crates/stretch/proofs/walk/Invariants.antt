-- `stretch::walk` meets its contract: the loop is a walk.
use Rattle.std.proofs.Common.{◌-◌, length}
use Rattle.stretch.specs.Walking.{Walking}
use Rattle.stretch.proofs.walk.Given as goal

abbrev pub invariant-loop-i : goal.invariant-loop-i
invariant-loop-i g l = Walking (g.C.Course.stops l.course) (g.C.Course.goes l.course) l.items l.initial.place l.i l.place

abbrev pub decreases-loop-i : goal.decreases-loop-i
decreases-loop-i g l = length l.items - l.i
