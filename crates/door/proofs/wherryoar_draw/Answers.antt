use mathlib.Core.Path.{ap}
use Rattle.door.specs.Door.{drawn_of}
use Rattle.door.proofs.wherryoar_draw.Goals as goal

pub returns : goal.returns
returns c = simp (c.how_far.ensures, c.shorter.ensures) (ap (drawn_of _) c.draw-answer.ensures)
