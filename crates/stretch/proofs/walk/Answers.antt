-- `stretch::walk` meets its contract: the loop is a walk.
use Rattle.std.proofs.Common.{◌∙◌, sym}
use Rattle.stretch.specs.Walk.{walked_to}
use Rattle.stretch.specs.Walking.{walk_on, walk_over, walk_stops, walk_out}
use Rattle.stretch.proofs.Laws.{gone_on, ended_on}
use Rattle.stretch.proofs.walk.Goals.{else-loop-i-test, then-loop-i-test+in_default}
use Rattle.stretch.proofs.walk.Goals as goal

pub loop-i-preserved-then-settles : goal.loop-i-preserved-then-settles
loop-i-preserved-then-settles g c =
    let k = gone_on _ (sym c.in-Some.is ∙ c.over.ensures) in
    walk_over c.loop-i.invariant c.loop-i-test.true k.0 k.1 (c.settles-settles.ensures c.if-settles.true k.0) c.first_other-i.ensures

pub loop-i-preserved : goal.loop-i-preserved
loop-i-preserved g c =
    let k = gone_on _ (sym c.in-Some.is ∙ c.over.ensures) in
    walk_on c.loop-i.invariant c.loop-i-test.true k.0 k.1

pub returns : goal.returns
returns g c =
    elim c.loop-i-test.branch [
      | else-loop-i-test w ↦ walk_out walked_to c.loop-i.invariant w.loop-i-test.false
      | then-loop-i-test+in_default w ↦ walk_stops walked_to c.loop-i.invariant w.loop-i-test.true (ended_on _ _ (sym w.in_default.is ∙ w.over.ensures))
    ]
