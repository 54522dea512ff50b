use mathlib.Core.Path.{refl}
use native.Mathlib.Omega.{arith}
use Rattle.lanes.proofs.Drawing.{stretch_inside, stretch_drawn, item_next, drawing-ends}
use Rattle.lanes.proofs.draw.Goals as goal

pub overflow_add-end : goal.overflow_add-end
overflow_add-end c = let k = stretch_inside c.loop-i.invariant c.ahead-passed.ensures in omega (arith, c.well_formed.1.1.0)

pub slice_bounds-paint-end : goal.slice_bounds-paint-end
slice_bounds-paint-end c = let k = stretch_inside c.loop-i.invariant c.ahead-passed.ensures in omega arith

pub loop-i-preserved-then-i-items : goal.loop-i-preserved-then-i-items
loop-i-preserved-then-i-items c =
    item_next (stretch_drawn c.loop-i.invariant c.ahead-passed.ensures c.scl_high.ensures c.of_phase-brush.ensures c.paint.ensures c.pass_over.ensures refl) c.if-i-items.true c.draw_item-drawn.ensures.0 c.draw_item-drawn.ensures.1

pub loop-i-preserved : goal.loop-i-preserved
loop-i-preserved c =
    stretch_drawn c.loop-i.invariant c.ahead-passed.ensures c.scl_high.ensures c.of_phase-brush.ensures c.paint.ensures c.pass_over.ensures refl

pub returns : goal.returns
returns c = drawing-ends c.loop-i.invariant c.loop-i-test.false
