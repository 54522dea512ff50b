use Rattle.text.proofs.Laws.{penned_byte, penned_past}
use Rattle.text.proofs.Pen.put.Goals.{then-self, else-self}
use Rattle.text.proofs.Pen.put.Goals as goal

pub returns-clause-text : goal.returns-clause-text
returns-clause-text c =
    elim c.if-self.branch [
      | then-self w ↦ rw w.self-is (penned_byte _ _ _)
      | else-self w ↦ rw w.self-is (penned_past _ _ _ w.if-self.false)
    ]
