-- A record read in two parts is read as a whole; and where the mark of a Start stands.
use Rattle.std.specs.Prelude.{◌≡◌, refl, Bool, true, false, List, [], ◌∷◌, ◌++◌, Option, Some, None}
use Rattle.wire.specs.declared.Level.{Level as WireLevel}
use Rattle.wire.specs.Byte.{none}
use Rattle.wire.specs.Wire.{wire}
use Rattle.reader.specs.declared.Place.{Place}
use Rattle.reader.specs.declared.Place.TheVariants.{Within}
use Rattle.reader.specs.declared.Reader.{Reader}
use Rattle.reader.specs.Reader.{line, reader_of, reader_after}
use Rattle.reader.specs.Record.{Level, read_one, read_all}

pub read_joined : (r : Reader) (xs ys : List Level) → read_all r (xs ++ ys) ≡ read_all (read_all r xs) ys
read_joined r [] ys = refl
read_joined r (x ∷ xs) ys = read_joined (read_one r x) xs ys

-- A marked reader has just begun a message, and SCL is still high.
pub data Marks : Reader → Type 0 where
  no_mark : {seen : Option WireLevel} {place : Place} → Marks (reader_of (line seen false) place)
  new_mark : {sda : Bool} → Marks (reader_of (line (Some (wire true sda)) true) (Within true none))

-- A level after another, without a mark.
kept_from :
    (scl_before sda_before scl sda : Bool) (place : Place)
    → Marks (reader_after (reader_of (line (Some (wire scl_before sda_before)) false) place) scl sda)
kept_from false before false sda place = no_mark
kept_from false before true sda place = no_mark
kept_from true before false sda place = no_mark
kept_from true true true true place = no_mark
kept_from true true true false place = new_mark
kept_from true false true true place = no_mark
kept_from true false true false place = no_mark

-- Every level keeps it so.
pub marks_kept : {r : Reader} (scl sda : Bool) → Marks r → Marks (reader_after r scl sda)
marks_kept false sda (no_mark {seen = None}) = no_mark
marks_kept true sda (no_mark {seen = None}) = no_mark
marks_kept scl sda (no_mark {seen = Some before} {place = place}) = kept_from before.scl before.sda scl sda place
marks_kept false sda new_mark = no_mark
marks_kept true sda new_mark = new_mark
