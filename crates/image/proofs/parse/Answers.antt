use Rattle.image.specs.Laws.{parsed}
use Rattle.image.proofs.parse.Goals as goal

pub returns : goal.returns
returns c = parsed _ c.module_from.ensures c.handler_from.ensures
