-- The page finished from here is the page finished from the first item.
use Rattle.std.specs.Prelude.{◌≡◌, ◌≤◌, true, drop}
use Rattle.reader.specs.Reader.{reader_afresh}
use Rattle.input.specs.Input.{parse, clean, items_in}
use Rattle.watch.specs.Watch.{world_of, memory_afresh}
use Rattle.text.specs.Page.{penned}
use Rattle.text.specs.Pen.{page_of}
use Rattle.lines.specs.Report.{lines_from}
use Rattle.lines.specs.Played.{progress_of}
use Rattle.lines.proofs.Laws.{finished}
use Rattle.lines.proofs.put_lines.Given as goal

abbrev pub invariant-loop-byte : goal.invariant-loop-byte
invariant-loop-byte l = record {
  buffer : l.pen.output.ghost_name ≡ l.initial.pen.output.ghost_name;
  counted : l.played.item ≤ l.byte-index;
  no_foreign : clean (parse (drop l.byte-index l.input)) ≡ true;
  lines : finished (progress_of l.played l.pen) (items_in (parse (drop l.byte-index l.input)))
      ≡ penned (lines_from (world_of l.fn.first reader_afresh) memory_afresh 0 (items_in (parse l.input))) (page_of l.initial.pen);
}
