-- The words of a stretch, painted: while nothing but bits and wire move, a word is its standing part with the wire, with SDA pulled
-- and with a conflict, if there is one.
use Rattle.std.specs.Prelude.{ℕ, ◌+◌, ◌%◌, Bool, false, cond, ◌&&◌, ◌||◌, not, List, [], ◌∷◌, eqb, drop, replicate}
use Rattle.items.specs.First.{sames}
use Rattle.wire.specs.declared.Edge.TheVariants.{Still}
use Rattle.wire.specs.Byte.{zero_at}
use Rattle.wire.specs.Wire.{scl_of, sda_of, on_wire}
use Rattle.mssp.specs.declared.Phase.{Phase}
use Rattle.mssp.specs.Phases.{bits_of, is_sending}
use Rattle.mssp.specs.Drivers.{sda_pulled}
use Rattle.words.specs.Words.{lines_by, events_of, word_by}
use Rattle.lanes.specs.declared.Brush.{Brush}

-- The brush of a phase: a place counts only where a byte is sent.
abbrev pub brush_in : Phase → Bool → Brush
brush_in ph scl =
    let sends : Bool = is_sending ph in
    record {
      sends = sends;
      byte = cond sends (bits_of ph).value 0;
      place = cond sends (bits_of ph).count 0;
      pulls = sda_pulled ph;
      scl = scl;
    }

-- After a level of SCL: a fall moves a byte that is sent on by a place.
abbrev pub brush_step : Brush → Bool → Brush
brush_step b scl =
    let moves : Bool = b.sends && b.scl && not scl in
    let place : ℕ = cond moves (b.place % 8 + 1) b.place in
    record {
      sends = b.sends;
      byte = b.byte;
      place = place;
      pulls = moves && zero_at b.byte place || not moves && b.pulls;
      scl = scl;
    }

abbrev pub brush_on : Brush → ℕ → Brush
brush_on b item = brush_step b (scl_of item)

-- The word of an item: SDA as it was pulled before the item on the wire, and as it is pulled after it.
abbrev pub ink_of : ℕ → Brush → Brush → ℕ → ℕ
ink_of standing b next item =
    word_by standing (lines_by next.pulls next.scl (on_wire b.pulls (sda_of item))) (events_of false false Still (b.pulls && eqb item 3))

unfoldable pub painted : ℕ → Brush → List ℕ → List ℕ
painted standing b [] = []
painted standing b (item ∷ items) = ink_of standing b (brush_on b item) item ∷ painted standing (brush_on b item) items

-- The same word so many times.
abbrev pub repeated : ℕ → ℕ → List ℕ
repeated n word = replicate n word

-- Where the items go on after one: past those that are the same, where they leave the same word.
abbrev pub same_until : List ℕ → ℕ → ℕ → Bool → ℕ
same_until items i item again = cond again (i + 1 + sames item (drop (i + 1) items)) (i + 1)
