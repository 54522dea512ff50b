use Rattle.std.proofs.Common.{arith}
use Rattle.text.proofs.Laws.{penned_at, number_last, number_more, length_one, length_more}
use Rattle.text.proofs.Pen.+put_decimal.Goals.{then-n-ge10, else-n-ge10}
use Rattle.text.proofs.Pen.+put_decimal.Goals as goal

pub put_decimal-requires : goal.put_decimal-requires
put_decimal-requires t c = (omega arith, omega (arith, length_more _ c.if-n-ge10.true))

pub put-requires : goal.put-requires
put-requires t c =
    elim c.if-n-ge10.branch [
      | then-n-ge10 w ↦ rw w.self-is (omega (arith, length_more _ w.if-n-ge10.true, penned_at _ _ w.put_decimal.ensures.text))
      | else-n-ge10 w ↦ rw w.self-is (omega (arith, length_one _ w.if-n-ge10.false))
    ]

pub returns-clause-text : goal.returns-clause-text
returns-clause-text t c =
    elim c.if-n-ge10.branch [
      | then-n-ge10 w ↦ number_more _ _ w.if-n-ge10.true w.put_decimal.ensures.text (rw w.self-is at c.put.ensures.text)
      | else-n-ge10 w ↦ number_last _ _ w.if-n-ge10.false (rw w.self-is at c.put.ensures.text)
    ]
