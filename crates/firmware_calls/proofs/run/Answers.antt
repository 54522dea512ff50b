use Rattle.image.specs.Theorems.{image_length_lem}
use Rattle.settling.specs.Laws.{no_image, of_state}
use Rattle.firmware_calls.specs.Laws.{work_settled}
use Rattle.firmware_calls.proofs.run.Goals as goal

pub returns-in-None : goal.returns-in-None
returns-in-None c = no_image c.decode.ensures _ _ c.in-None.is (simp c.from.ensures)

pub returns-in-Some : goal.returns-in-Some
returns-in-Some c =
    let is = c.in-Some.is in
    let decoded = c.decode.ensures in
    of_state decoded _ _ is (work_settled _ _ _ (image_length_lem _ _ decoded is) c.encode.ensures c.run_in-ran.ensures (rw (← c.without_value.ensures.verdict, ← c.without_value.ensures.item) c.settle.ensures))
