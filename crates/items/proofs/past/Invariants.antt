use Prim.Native.Nat.{◌-◌}
use lib.ListN.{length}
use Rattle.items.specs.First.{Reached}
use Rattle.items.proofs.past.Given as goal

abbrev pub invariant-loop-at : goal.invariant-loop-at
invariant-loop-at g l = Reached (g.T.Test.passes l.test) l.items l.from l.at

abbrev pub decreases-loop-at : goal.decreases-loop-at
decreases-loop-at g l = length l.items - l.at
