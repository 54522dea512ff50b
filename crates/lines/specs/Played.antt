-- What is played so far and the pen over the page, as how far the report has come.
use Rattle.text.specs.declared.Pen.{Pen}
use Rattle.lines.specs.declared.Played.{Played}
use Rattle.lines.specs.Report.{Run, run_at, Progress, progress}

abbrev pub run_of : Played → Pen → Run
run_of played pen = run_at played.world played.item pen.at

abbrev pub progress_of : Played → Pen → Progress
progress_of played pen = progress (run_of played pen) played.memory pen.output.now
