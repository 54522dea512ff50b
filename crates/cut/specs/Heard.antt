-- Where the plain reader hears a Start, and a record in which it hears none.
use Rattle.std.specs.Prelude.{◌≡◌, List, [], ◌∷◌}
use Rattle.reader.specs.declared.Heard.TheVariants.{Started}
use Rattle.reader.specs.declared.Reader.{Reader}
use Rattle.reader.specs.Record.{Level, read_one, heard_one}

-- The reader hears a Start.
abbrev pub StartAt : Reader → Level → Type 0
StartAt r w = heard_one r w ≡ Started

-- No Start is heard in these levels.
abbrev pub Unheard : Reader → List Level → Type 0
Unheard r [] = Unit {0}
Unheard r (w ∷ ws) = (StartAt r w → ⊥) × Unheard (read_one r w) ws
