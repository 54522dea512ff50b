use Rattle.text.proofs.Laws.{penned_none}
use Rattle.text.proofs.Pen.put_event.Goals as goal

pub returns-in-Silence-clause-text : goal.returns-in-Silence-clause-text
returns-in-Silence-clause-text c = rw c.in-Silence.is (penned_none _ _)
