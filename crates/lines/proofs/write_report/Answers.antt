-- Too long, or the report of what stands behind a `g`.
use Rattle.std.proofs.Common.{rules, arith}
use mir.Val.{bool_byte}
use borrow.Author.Rules.{part_to_end}
use Rattle.lines.proofs.Laws.{long_report, short_report}
use Rattle.lines.proofs.Room.{room}
use Rattle.lines.proofs.write_report.Goals as goal

pub returns-then-too_long : goal.returns-then-too_long
returns-then-too_long c = rw (long_report c.args.input.now c.if-too_long.true) (search rules)

pub put_parsed-requires : goal.put_parsed-requires
put_parsed-requires c =
    let input = c.args.input.now in
    let same = short_report input c.if-too_long.false c.asks_general-general.ensures in
    let e = c.from-first.ensures in
    rw (e, part_to_end input (bool_byte c.asks_general-general.result), ← same) (omega (arith, room input))

pub returns : goal.returns
returns c =
    let input = c.args.input.now in
    let e = c.from-first.ensures in
    let same = short_report input c.if-too_long.false c.asks_general-general.ensures in
    let k = rw (e, part_to_end input (bool_byte c.asks_general-general.result), ← same) at c.put_parsed.ensures.report in
    search (rules, k)
