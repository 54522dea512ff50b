use Rattle.items.specs.First.{Reached}
use Rattle.items.proofs.first_failing.Given as goal

abbrev pub invariant-loop-at : goal.invariant-loop-at
invariant-loop-at g l = Reached (g.T.Test.passes l.test) l.items l.from l.at
