-- The header, the lines and the number of items, one after another.
use Rattle.std.proofs.Common.{arith}
use Rattle.text.proofs.Laws.{penned_at}
use Rattle.lines.proofs.Laws.{whole_report, parts_fit}
use Rattle.lines.proofs.put_report.Goals as goal

pub put_events-requires-clause-room : goal.put_events-requires-clause-room
put_events-requires-clause-room c = omega (arith, penned_at _ _ c.put_all.ensures.text, parts_fit c.args.general _ c.requires.whole)

pub put_numbered-requires : goal.put_numbered-requires
put_numbered-requires c =
    omega (arith, penned_at _ _ c.put_all.ensures.text, penned_at _ _ c.put_events.ensures.lines, parts_fit c.args.general _ c.requires.whole)

pub returns-clause-report : goal.returns-clause-report
returns-clause-report c =
    whole_report _ _ c.requires.whole _ c.put_all.ensures.text c.put_events.ensures.lines c.put_numbered.ensures.text
