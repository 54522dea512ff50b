-- A pen over a lent buffer, as the page that it has written so far.
use Rattle.std.specs.Prelude.{ℕ, ◌+◌, ◌<◌, ◌^◌, List, length}
use Rattle.text.specs.declared.Pen.{Pen}
use Rattle.text.specs.Page.{Page, page}

abbrev pub page_of : Pen → Page
page_of pen = page pen.at pen.output.now

-- The place after the text is a number of 64 bits.
abbrev pub HasRoom : List ℕ → Pen → Type 0
HasRoom text pen = pen.at + length text < 2 ^ 64
