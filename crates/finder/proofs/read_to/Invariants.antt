use mathlib.Core.Path.{◌≡◌}
use Rattle.finder.specs.Carried.{carried_before}
use Rattle.finder.proofs.read_to.Given as goal

abbrev pub invariant-loop-item : goal.invariant-loop-item
invariant-loop-item l = l.carried ≡ carried_before l.levels l.item
