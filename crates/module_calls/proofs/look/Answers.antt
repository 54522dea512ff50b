use Rattle.settling.specs.Laws.{no_image, of_state}
use Rattle.module_calls.proofs.look.Goals as goal

pub returns-in-None : goal.returns-in-None
returns-in-None c = no_image c.decode.ensures _ _ c.in-None.is c.no_view.ensures

pub returns-in-Some : goal.returns-in-Some
returns-in-Some c = of_state c.decode.ensures _ _ c.in-Some.is (cc)
