-- The page finished from here is the page finished from the first item.
use Rattle.std.proofs.Common.{sym, ap, ◌∙◌, arith}
use Rattle.lines.specs.Report.{Progress, byte_passed}
use Rattle.lines.specs.Played.{run_of, progress_of}
use Rattle.lines.proofs.Laws.{item_said, none_said, room_left, line_left, play_more, play_end}
use Rattle.lines.proofs.put_lines.Goals.{in-Some, in_default}
use Rattle.lines.proofs.put_lines.Goals as goal

pub pass_item-requires-clause-room : goal.pass_item-requires-clause-room
pass_item-requires-clause-room c =
    let l = c.loop-byte in
    let here = sym (item_said c.meaning_of.result (sym c.unwrap_or.ensures ∙ c.in-Some.is)) ∙ c.meaning_of.ensures in
    omega (
      arith,
      c.requires.room,
      room_left (progress_of l.played l.pen) _ _ _ l.invariant.lines,
      line_left _ l.byte-index (run_of l.played l.pen) l.played.memory l.pen.output.now c.loop-byte-test.true l.invariant.no_foreign here,
    )

pub loop-byte-preserved : goal.loop-byte-preserved
loop-byte-preserved c =
    let l = c.loop-byte in
    let run = run_of l.played l.pen in
    let memory = l.played.memory in
    let output = l.pen.output.now in
    elim c.match-unwrap_or.branch [
      | in-Some w ↦
          let here = sym (item_said c.meaning_of.result (sym c.unwrap_or.ensures ∙ w.in-Some.is)) ∙ c.meaning_of.ensures in
          let passed = w.pass_item.ensures.passed ∙ ap (byte_passed run memory output) here in
          let more = play_more _ l.byte-index run memory output c.loop-byte-test.true l.invariant.no_foreign passed in
          rw (w.played-is, w.pen-is)
          (record {
            buffer = w.pass_item.ensures.buffer ∙ l.invariant.buffer;
            counted = omega (arith, ap (λ (g : Progress). g.run.item) w.pass_item.ensures.passed);
            no_foreign = more.0;
            lines = more.1 ∙ l.invariant.lines;
          })
      | in_default w ↦
          let passed = none_said run memory output c.meaning_of.result (sym c.unwrap_or.ensures ∙ w.in_default.is) ∙ ap (byte_passed run memory output) c.meaning_of.ensures in
          let more = play_more _ l.byte-index run memory output c.loop-byte-test.true l.invariant.no_foreign passed in
          rw (w.played-is, w.pen-is)
          (record { buffer = l.invariant.buffer; counted = omega arith; no_foreign = more.0; lines = more.1 ∙ l.invariant.lines })
    ]

pub returns-clause-lines : goal.returns-clause-lines
returns-clause-lines c =
    let l = c.loop-byte in
    play_end _ l.byte-index (run_of l.played l.pen) l.played.memory l.pen.output.now c.loop-byte-test.false ∙ l.invariant.lines
