use mathlib.Core.Path.{refl, sym, ◌∙◌}
use Rattle.image.specs.Theorems.{is_state_lem, not_state}
use Rattle.settling.specs.Laws.{no_image, of_state}
use Rattle.module_calls.specs.Laws.{long_enough, level_refused, level_settled, short_way}
use Rattle.module_calls.proofs.sample.Goals as goal

pub returns-then-not-is_image : goal.returns-then-not-is_image
returns-then-not-is_image c =
    no_image refl _ _ (not_state _ (sym c.is_image.ensures ∙ c.if-not-is_image.true)) (simp c.from.ensures)

pub returns-then-too_high : goal.returns-then-too_high
returns-then-too_high c =
    let found = (sym c.is_image.ensures ∙ c.if-not-is_image.false) in of_state refl _ _ (is_state_lem _ found) (level_refused _ _ _ c.if-too_high.true c.from-then-too_high.ensures)

pub phase_in-phase-requires : goal.phase_in-phase-requires
phase_in-phase-requires c = long_enough _ (sym c.is_image.ensures ∙ c.if-not-is_image.false)

pub line_in-line-requires : goal.line_in-line-requires
line_in-line-requires c = long_enough _ (sym c.is_image.ensures ∙ c.if-not-is_image.false)

pub move_on-requires : goal.move_on-requires
move_on-requires c = record { state_value = (sym c.is_image.ensures ∙ c.if-not-is_image.false); level_bound = c.if-too_high.false }

pub move_on-requires-else-is_still : goal.move_on-requires-else-is_still
move_on-requires-else-is_still c = record { state_value = (sym c.is_image.ensures ∙ c.if-not-is_image.false); level_bound = c.if-too_high.false }

pub returns-in-None : goal.returns-in-None
returns-in-None c =
    let found = (sym c.is_image.ensures ∙ c.if-not-is_image.false) in of_state refl _ _ (is_state_lem _ found) (level_settled _ _ _ c.if-too_high.false c.move_on.ensures)

pub returns-then-is_still : goal.returns-then-is_still
returns-then-is_still c =
    let found = (sym c.is_image.ensures ∙ c.if-not-is_image.false) in of_state refl _ _ (is_state_lem _ found) (level_settled _ _ _ c.if-too_high.false (short_way c.args.state.now found c.args.level c.phase_in-phase.ensures c.line_in-line.ensures c.in-Some.is c.is_still.ensures c.if-is_still.true c.done.ensures))

pub returns-else-is_still : goal.returns-else-is_still
returns-else-is_still c =
    let found = (sym c.is_image.ensures ∙ c.if-not-is_image.false) in of_state refl _ _ (is_state_lem _ found) (level_settled _ _ _ c.if-too_high.false c.move_on-else-is_still.ensures)
