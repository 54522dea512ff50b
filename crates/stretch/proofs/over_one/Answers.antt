use mathlib.Core.Path.{◌∙◌}
use Rattle.stretch.proofs.Laws.{over_stops, over_goes}
use Rattle.stretch.proofs.over_one.Goals as goal

pub returns-then-item-is_ended_by : goal.returns-then-item-is_ended_by
returns-then-item-is_ended_by c =
    let a = c.args in
    c.none.ensures ∙ over_stops a.s.phase a.s.acktim a.w a.item
    (rw (c.is_ended_by.ensures, c.falls_out-fall.ensures, c.has_rise-rise.ensures, c.on_wire-level.ensures, c.from.ensures, c.pulls_sda.ensures, c.pulls_scl.ensures) at c.if-item-is_ended_by.true)

pub returns : goal.returns
returns c =
    let a = c.args in
    simp (c.on.ensures, c.phase_over.ensures, c.on_wire-level.ensures, c.from.ensures, c.pulls_sda.ensures, c.pulls_scl.ensures)
    (over_goes a.s.phase a.s.acktim a.w a.item
    (rw (c.is_ended_by.ensures, c.falls_out-fall.ensures, c.has_rise-rise.ensures, c.on_wire-level.ensures, c.from.ensures, c.pulls_sda.ensures, c.pulls_scl.ensures) at c.if-item-is_ended_by.false))
