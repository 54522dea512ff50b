-- The plain reader of the wire (01, "Handler and plain device"): it counts bytes from each Start, and reads none after a
-- Stop or before the first Start.
use Rattle.std.specs.Prelude.{ℕ, Bool, true, false, Option, Some, None}
use Rattle.wire.specs.declared.Bits.{Bits}
use Rattle.wire.specs.declared.Line.{Line}
use Rattle.wire.specs.declared.Level.{Level}
use Rattle.wire.specs.declared.Edge.{Edge}
use Rattle.wire.specs.declared.Edge.TheVariants.{Still, Start, Stop, Rise, Fall}
use Rattle.wire.specs.Byte.{none, pushed, whole}
use Rattle.wire.specs.Wire.{edge_of, line_next, unseen}
use Rattle.reader.specs.declared.Place.{Place}
use Rattle.reader.specs.declared.Place.TheVariants.{Idle, Within, Ending}
use Rattle.reader.specs.declared.Heard.{Heard}
use Rattle.reader.specs.declared.Heard.TheVariants.{Silence, Started, Stopped, Byte}
use Rattle.reader.specs.declared.Reader.{Reader}

-- The eighth fall leads to the ninth clock, the ninth to the next byte; a fall before its rise ends nothing.
abbrev pub within_fall : Bool → Bool → Bits → Place
within_fall true first bits = Ending first bits.value None
within_fall false first bits = Within first bits

abbrev pub ending_fall : Bool → ℕ → Option Bool → Place
ending_fall first byte None = Ending first byte None
ending_fall first byte (Some level) = Within false none

abbrev pub fall_place : Place → Place
fall_place Idle = Idle
fall_place (Within first bits) = within_fall (whole bits) first bits
fall_place (Ending first byte ninth) = ending_fall first byte ninth

-- A rise brings a bit, or the level of the ninth clock.
abbrev pub rise_place : Place → Bool → Place
rise_place Idle sda = Idle
rise_place (Within first bits) sda = Within first (pushed bits sda)
rise_place (Ending first byte ninth) sda = Ending first byte (Some sda)

abbrev pub place_after : Place → Edge → Place
place_after place Still = place
place_after place Start = Within true none
place_after place Stop = Idle
place_after place (Rise sda) = rise_place place sda
place_after place Fall = fall_place place

-- A byte is heard at its ninth fall, with the level of its ninth clock.
abbrev pub ending_heard : Bool → ℕ → Option Bool → Heard
ending_heard first byte None = Silence
ending_heard first byte (Some level) = Byte first byte level

abbrev pub fall_heard : Place → Heard
fall_heard Idle = Silence
fall_heard (Within first bits) = Silence
fall_heard (Ending first byte ninth) = ending_heard first byte ninth

abbrev pub heard_at : Place → Edge → Heard
heard_at place Still = Silence
heard_at place Start = Started
heard_at place Stop = Stopped
heard_at place (Rise sda) = Silence
heard_at place Fall = fall_heard place

abbrev pub line : Option Level → Bool → Line
line seen mark = record { remembered = seen; mark = mark }

abbrev pub reader_of : Line → Place → Reader
reader_of line place = record { line = line; place = place }

-- One wire level more; nothing else comes in.
abbrev pub reader_after : Reader → Bool → Bool → Reader
reader_after r scl sda = reader_of (line_next r.line scl sda) (place_after r.place (edge_of r.line scl sda))

-- What is heard of that level.
abbrev pub heard_of : Reader → Bool → Bool → Heard
heard_of r scl sda = heard_at r.place (edge_of r.line scl sda)

-- Before the first level.
abbrev pub reader_afresh : Reader
reader_afresh = reader_of unseen Idle
