-- A wire record, read level by level: the reader over a whole record.
use Rattle.std.specs.Prelude.{Bool, List, [], ◌∷◌}
use Rattle.reader.specs.declared.Heard.{Heard}
use Rattle.reader.specs.declared.Reader.{Reader}
use Rattle.reader.specs.Reader.{reader_after, heard_of}

-- SCL and SDA as they stand on the wire.
pub data Level : Type 0 where
  level : Bool → Bool → Level

abbrev pub read_one : Reader → Level → Reader
read_one r (level scl sda) = reader_after r scl sda

abbrev pub heard_one : Reader → Level → Heard
heard_one r (level scl sda) = heard_of r scl sda

abbrev pub read_all : Reader → List Level → Reader
read_all r [] = r
read_all r (w ∷ ws) = read_all (read_one r w) ws
