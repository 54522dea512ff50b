-- What the theorems of proofs/Cut.antt say.
use Rattle.std.specs.Prelude.{ℕ, ◌≡◌, Bool, true, Option}
use Rattle.reader.specs.declared.Place.TheVariants.{Ending}
use Rattle.plain.specs.declared.Turn.{Turn}
use Rattle.plain.specs.Device.{owes}

-- Its acknowledge is owed alike, whatever the device was in the middle of.
abbrev pub OwedAlike : Type 0
OwedAlike =
    (add : ℕ) (held scl : Bool) (turn other : Turn) (byte : ℕ) (ninth : Option Bool)
    → owes add held scl (Ending true byte ninth) turn ≡ owes add held scl (Ending true byte ninth) other
