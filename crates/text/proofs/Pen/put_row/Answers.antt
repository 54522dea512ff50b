-- The item, then the row, the pointer and the newline.
use Rattle.std.proofs.Common.{◌∙◌, arith}
use Rattle.text.proofs.Laws.{penned_at, penned_joined, row_length, numbered-length}
use Rattle.text.specs.Text.{middle}
use Rattle.text.proofs.Pen.put_row.Goals as goal

pub put_numbered-requires : goal.put_numbered-requires
put_numbered-requires c =
    omega (arith, row_length c.args.item c.args.pointer c.args.row, numbered-length (middle c.args.row) c.args.pointer, penned_at _ _ c.put_decimal.ensures.text)

pub returns-clause-text : goal.returns-clause-text
returns-clause-text c = c.put_numbered.ensures.text ∙ rw c.put_decimal.ensures.text (penned_joined _ _ _)
