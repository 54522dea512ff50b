use mathlib.Core.Path.{refl, ◌∙◌}
use Rattle.history.proofs.Turn.{begins, goes_on}
use Rattle.history.proofs.run.Goals as goal

pub loop-code-init : goal.loop-code-init
loop-code-init c = (begins _, refl)

pub loop-code-preserved : goal.loop-code-preserved
loop-code-preserved c =
    let before = c.loop-code.invariant in
    (goes_on _ c.args.items.now c.loop-code.code-index c.loop-code-test.true before.0 c.item_of.ensures c.step.ensures, c.step.auto.window ∙ before.1)
