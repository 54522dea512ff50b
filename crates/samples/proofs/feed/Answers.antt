-- `samples::feed` meets its contract: the loop is a walk, each stretch a part of it.
use mathlib.Core.Path.{sym, ◌∙◌}
use native.Mathlib.Omega.{arith}
use Rattle.stretch.specs.Walking.{walk_begins}
use Rattle.samples.proofs.Laws.{stretch_walked, stretch_moved, sample_stands, sample_walked, samples_end}
use Rattle.samples.proofs.feed.Goals as goal

pub loop-ahead-init : goal.loop-ahead-init
loop-ahead-init c = walk_begins

pub slice_bounds-ahead-count : goal.slice_bounds-ahead-count
slice_bounds-ahead-count c =
    let k = sample_stands c.loop-ahead.invariant (sym c.is_sample_at.ensures ∙ c.loop-ahead-test.true) in omega arith

pub overflow_add-i : goal.overflow_add-i
overflow_add-i c =
    let k = (stretch_walked c.loop-ahead.invariant c.stand_of.ensures c.ahead-ahead.ensures c.pass_over.ensures).within in omega (arith, c.well_formed.1.0)

pub bounds-items-i : goal.bounds-items-i
bounds-items-i c =
    let k = sample_stands (stretch_walked c.loop-ahead.invariant c.stand_of.ensures c.ahead-ahead.ensures c.pass_over.ensures) (sym c.is_sample_at-in-loop-ahead.ensures ∙ c.if-is_sample_at.true) in omega arith

pub overflow_add-i-then-is_sample_at : goal.overflow_add-i-then-is_sample_at
overflow_add-i-then-is_sample_at c =
    let k = sample_stands (stretch_walked c.loop-ahead.invariant c.stand_of.ensures c.ahead-ahead.ensures c.pass_over.ensures) (sym c.is_sample_at-in-loop-ahead.ensures ∙ c.if-is_sample_at.true) in omega (arith, c.well_formed.1.0)

pub loop-ahead-smaller-then-is_sample_at : goal.loop-ahead-smaller-then-is_sample_at
loop-ahead-smaller-then-is_sample_at c =
    let k = sample_stands (stretch_walked c.loop-ahead.invariant c.stand_of.ensures c.ahead-ahead.ensures c.pass_over.ensures) (sym c.is_sample_at-in-loop-ahead.ensures ∙ c.if-is_sample_at.true) in omega arith

-- The stretch, and the sample after it by the rules.
pub loop-ahead-preserved-then-is_sample_at : goal.loop-ahead-preserved-then-is_sample_at
loop-ahead-preserved-then-is_sample_at c =
    sample_walked (stretch_walked c.loop-ahead.invariant c.stand_of.ensures c.ahead-ahead.ensures c.pass_over.ensures) (sym c.is_sample_at-in-loop-ahead.ensures ∙ c.if-is_sample_at.true) (rw c.from.ensures at c.sample.ensures)

pub loop-ahead-smaller : goal.loop-ahead-smaller
loop-ahead-smaller c =
    stretch_moved c.loop-ahead.invariant c.stand_of.ensures c.ahead-ahead.ensures (sym c.is_sample_at.ensures ∙ c.loop-ahead-test.true) (sym c.is_sample_at-in-loop-ahead.ensures ∙ c.if-is_sample_at.false)

pub loop-ahead-preserved : goal.loop-ahead-preserved
loop-ahead-preserved c = stretch_walked c.loop-ahead.invariant c.stand_of.ensures c.ahead-ahead.ensures c.pass_over.ensures

pub returns : goal.returns
returns c = samples_end c.loop-ahead.invariant (sym c.is_sample_at.ensures ∙ c.loop-ahead-test.false)
