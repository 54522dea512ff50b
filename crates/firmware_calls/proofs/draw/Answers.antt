use mathlib.Core.Path.{refl, ap, ap₂}
use Rattle.image.specs.Theorems.{image_length_lem}
use Rattle.settling.specs.Laws.{no_image, of_state}
use Rattle.lanes.specs.Lanes.{Drawing}
use Rattle.firmware_calls.specs.Calls.{drawn_lent}
use Rattle.firmware_calls.specs.Laws.{work_settled}
use Rattle.firmware_calls.proofs.draw.Goals as goal

pub returns-in-None : goal.returns-in-None
returns-in-None c =
    let is = c.in-None.is in ap₂ drawn_lent (no_image c.decode.ensures _ _ is (simp c.from.ensures)) (no_image c.decode.ensures _ _ is refl)

pub returns-in-Some : goal.returns-in-Some
returns-in-Some c =
    let told = c.in-Some.is in ap₂ drawn_lent (of_state c.decode.ensures _ _ told (work_settled _ _ _ (image_length_lem _ _ c.decode.ensures told) c.encode.ensures (ap (λ (d : Drawing). d.outcome) c.draw_in-drawn.ensures) (rw (← c.without_value.ensures.verdict, ← c.without_value.ensures.item) c.settle.ensures))) (of_state c.decode.ensures _ _ told (ap (λ (d : Drawing). d.lanes) c.draw_in-drawn.ensures))
