use Rattle.lanes.proofs.Painting.{run_painted}
use Rattle.lanes.proofs.paint.Goals as goal

pub loop-i-preserved : goal.loop-i-preserved
loop-i-preserved c =
    (run_painted c.loop-i.invariant c.loop-i-test.true c.brush_on-next.ensures c.ink-word.ensures c.same_until-end.ensures).painted_on _ (c.fill.ensures.after (λ y e. e))
