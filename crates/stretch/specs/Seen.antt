-- The wire in a stretch: what a level is to it.
use Rattle.std.specs.Prelude.{ℕ, ◌+◌, ◌%◌, Bool, true, false, cond, ◌&&◌, Some}
use Rattle.wire.specs.declared.Bits.{Bits}
use Rattle.wire.specs.declared.Line.{Line}
use Rattle.wire.specs.declared.Edge.{Edge}
use Rattle.wire.specs.declared.Edge.TheVariants.{Still, Start, Stop, Rise, Fall}
use Rattle.wire.specs.Byte.{pushed}
use Rattle.wire.specs.Wire.{edge_of, wire}
use Rattle.stretch.specs.declared.Seen.{Seen}

-- A wire that was seen, as a line.
abbrev pub line_of : Seen → Line
line_of w = record { remembered = Some (wire w.scl w.sda); mark = w.mark }

-- The wire after a level that is no Start.
abbrev pub seen_on : Seen → Bool → Bool → Seen
seen_on w scl sda = record { scl = scl; sda = sda; mark = scl && w.mark }

-- A Start or a Stop ends a stretch; a rise or a fall, where the phase has a rule for it.
abbrev pub ended_by : Bool → Bool → Edge → Bool
ended_by rise fall Still = false
ended_by rise fall Start = true
ended_by rise fall Stop = true
ended_by rise fall (Rise sda) = rise
ended_by rise fall Fall = fall

abbrev pub ends : Seen → Bool → Bool → Bool → Bool → Bool
ends w scl sda rise fall = ended_by rise fall (edge_of (line_of w) scl sda)

-- A rise takes a bit.
abbrev pub taken_at : Bits → Seen → Bool → Bool → Bits
taken_at bits w scl sda = cond w.scl bits (cond scl (pushed bits sda) bits)

-- A fall moves on to the next place. Below the last one the remainder changes nothing.
abbrev pub place_seen : ℕ → Seen → Bool → ℕ
place_seen place w scl = cond w.scl (cond scl place (place % 8 + 1)) place
