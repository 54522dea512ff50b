-- Edges of the wire (01, "From levels to bytes"). The module, the plain reader and the finder read the wire by these
-- definitions and by no others.
use Rattle.std.specs.Prelude.{ℕ, Bool, true, false, ◌&&◌, ◌||◌, not, Option, Some, None}
use Rattle.wire.specs.Byte.{bit}
use Rattle.wire.specs.declared.Level.{Level}
use Rattle.wire.specs.declared.Line.{Line}
use Rattle.wire.specs.declared.Edge.{Edge}
use Rattle.wire.specs.declared.Edge.TheVariants.{Still, Start, Stop, Rise, Fall}

-- A level as a number is 2 × SCL + SDA (01, "What the channel models").
abbrev pub scl_of : ℕ → Bool
scl_of level = bit 1 level

abbrev pub sda_of : ℕ → Bool
sda_of level = bit 0 level

abbrev pub wire : Bool → Bool → Level
wire scl sda = record { scl = scl; sda = sda }

abbrev pub level_of : ℕ → Level
level_of code = wire (scl_of code) (sda_of code)

-- A line is low where the sample is low or the module pulls it.
abbrev pub on_wire : Bool → Bool → Bool
on_wire pulled driven = not pulled && driven

-- Start and Stop: SDA falls or rises while SCL is high before and after; under the mark neither counts.
abbrev pub condition : Bool → Bool → Bool → Edge
condition true before after = Still
condition false true false = Start
condition false false true = Stop
condition false true true = Still
condition false false false = Still

-- The first level ever makes no edge. Where SCL changes, SDA's change is no condition; a rise reads the new SDA.
abbrev pub edge_between : Bool → Bool → Bool → Bool → Bool → Edge
edge_between mark false before false sda = Still
edge_between mark false before true sda = Rise sda
edge_between mark true before false sda = Fall
edge_between mark true before true sda = condition mark before sda

abbrev pub edge_from : Bool → Option Level → Bool → Bool → Edge
edge_from mark None scl sda = Still
edge_from mark (Some before) scl sda = edge_between mark before.scl before.sda scl sda

abbrev pub edge_of : Line → Bool → Bool → Edge
edge_of line scl sda = edge_from line.mark line.remembered scl sda

abbrev pub is_start : Edge → Bool
is_start Still = false
is_start Start = true
is_start Stop = false
is_start (Rise sda) = false
is_start Fall = false

abbrev pub is_stop : Edge → Bool
is_stop Still = false
is_stop Start = false
is_stop Stop = true
is_stop (Rise sda) = false
is_stop Fall = false

-- The level is remembered; a Start leaves the mark, which a low SCL ends.
abbrev pub line_after : Bool → Edge → Bool → Bool → Line
line_after mark e scl sda = record { remembered = Some (wire scl sda); mark = scl && (mark || is_start e) }

-- The line that a reader of the wire has after one level more.
abbrev pub line_next : Line → Bool → Bool → Line
line_next line scl sda = line_after line.mark (edge_of line scl sda) scl sda

abbrev pub unseen : Line
unseen = record { remembered = None; mark = false }

abbrev pub scl_high : Option Level → Bool
scl_high None = false
scl_high (Some level) = level.scl
