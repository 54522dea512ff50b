use mathlib.Core.Path.{refl, sym, ap, ◌∙◌}
use Rattle.writes.specs.Writes.{write_of}
use Rattle.mssp.specs.declared.Module.{Module}
use Rattle.image.specs.Laws.{named}
use Rattle.image.specs.Theorems.{is_state_lem, not_state}
use Rattle.settling.specs.Laws.{no_image, access_settled}
use Rattle.module_calls.specs.Calls.{module_in, image_with}
use Rattle.module_calls.specs.Laws.{long_enough}
use Rattle.module_calls.proofs.write.Goals as goal

pub returns-then-not-is_image : goal.returns-then-not-is_image
returns-then-not-is_image c =
    no_image refl _ _ (not_state _ (sym c.is_image.ensures ∙ c.if-not-is_image.true)) (simp c.from.ensures)

pub module_from-left-requires : goal.module_from-left-requires
module_from-left-requires c = long_enough _ (sym c.is_image.ensures ∙ c.if-not-is_image.false)

pub settle_access-requires : goal.settle_access-requires
settle_access-requires c = sym c.is_image.ensures ∙ c.if-not-is_image.false

pub returns : goal.returns
returns c =
    let b = c.args.state.now in
    let found = sym c.is_image.ensures ∙ c.if-not-is_image.false in
    access_settled module_in image_with (λ (m : Module). write_of m c.args.number c.args.value) b (is_state_lem b found) (c.written-access.ensures ∙ ap (λ (m : Module). write_of m c.args.number c.args.value) (c.module_from-left.ensures ∙ named b)) c.settle_access.ensures
