-- The words, the number and the newline, one after another.
use Rattle.std.proofs.Common.{arith}
use Rattle.text.proofs.Laws.{penned_at, numbered-length, texts_3}
use Rattle.text.proofs.Pen.put_numbered.Goals as goal

pub put_decimal-requires : goal.put_decimal-requires
put_decimal-requires c = omega (arith, numbered-length c.args.words.now c.args.n, penned_at _ _ c.put_all.ensures.text)

pub put-requires : goal.put-requires
put-requires c =
    omega (arith, numbered-length c.args.words.now c.args.n, penned_at _ _ c.put_all.ensures.text, penned_at _ _ c.put_decimal.ensures.text)

pub returns-clause-text : goal.returns-clause-text
returns-clause-text c = texts_3 _ _ _ _ c.put_all.ensures.text c.put_decimal.ensures.text c.put.ensures.text
