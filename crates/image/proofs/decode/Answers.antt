use mathlib.Core.Path.{refl, sym, ◌∙◌}
use Rattle.image.specs.Laws.{decoded}
use Rattle.image.specs.Theorems.{state_length}
use Rattle.image.proofs.decode.Goals as goal

pub parse-requires : goal.parse-requires
parse-requires c = state_length _ (sym c.is_image.ensures ∙ c.if-is_image.true)

pub returns-then-is_image : goal.returns-then-is_image
returns-then-is_image c = decoded _ c.is_image.ensures c.parse.ensures c.if-is_image.true

pub returns-else-is_image : goal.returns-else-is_image
returns-else-is_image c = decoded _ c.is_image.ensures refl c.if-is_image.false
