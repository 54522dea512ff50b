-- The page is the one with the bytes passed so far.
use Rattle.std.proofs.Common.{refl, ◌∙◌, arith, length-take-le}
use Rattle.text.proofs.Laws.{penned_at, penned_none, text_more}
use Rattle.text.proofs.Pen.put_all.Goals as goal

pub loop-byte-init : goal.loop-byte-init
loop-byte-init c = record { buffer = refl; text = penned_none _ _ }

pub put-requires : goal.put-requires
put-requires c =
    let l = c.loop-byte in
    omega (arith, penned_at _ _ l.invariant.text, length-take-le l.byte-index c.args.text.now)

pub loop-byte-preserved : goal.loop-byte-preserved
loop-byte-preserved c =
    let l = c.loop-byte in
    record { buffer = c.put.ensures.buffer ∙ l.invariant.buffer; text = text_more _ _ l.byte-index c.loop-byte-test.true l.invariant.text c.put.ensures.text }
