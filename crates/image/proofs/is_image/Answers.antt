use mathlib.Core.Path.{sym, ◌∙◌}
use Rattle.image.specs.Laws.{to_end, by_parts, zeros_alike}
use Rattle.image.specs.Theorems.{other_length}
use Rattle.image.proofs.is_image.Goals as goal

pub returns-then-bytes-ne-IMAGE_LENGTH : goal.returns-then-bytes-ne-IMAGE_LENGTH
returns-then-bytes-ne-IMAGE_LENGTH c = sym (other_length _ c.if-bytes-ne-IMAGE_LENGTH.true)

pub returns : goal.returns
returns c =
    let b = c.args.bytes.now in
    by_parts b (to_end 16 b) (to_end 21 b) c.is_module.ensures c.is_handler.ensures
    (c.same.ensures ∙ zeros_alike b c.if-bytes-ne-IMAGE_LENGTH.false)
