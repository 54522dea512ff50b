-- A word of a drawing (the bits stand in include/wherryoar.h), and one item of a wire record drawn: the handler's call where the
-- module holds the clock and the record shows SCL high, then the sample, then the word.
use Rattle.std.specs.Prelude.{ℕ, ◌+◌, ◌*◌, Bool, true, false, cond, ◌&&◌, not, eqb, Option, Some, None}
use mir.Val.{bool_byte}
use Rattle.wire.specs.declared.Edge.{Edge}
use Rattle.wire.specs.declared.Edge.TheVariants.{Still}
use Rattle.wire.specs.declared.Level.{Level}
use Rattle.wire.specs.Wire.{scl_of, sda_of, on_wire, edge_of, is_start, is_stop}
use Rattle.mssp.specs.declared.Phase.{Phase}
use Rattle.mssp.specs.declared.Live.{Live}
use Rattle.mssp.specs.declared.Module.{Module}
use Rattle.mssp.specs.Phases.{phase_number}
use Rattle.mssp.specs.Drivers.{scl_pulled, sda_pulled}
use Rattle.register_bytes.specs.Bytes.{byte_of}
use Rattle.registers.specs.declared.Register.TheVariants.{Stat}
use Rattle.registers.specs.Values.{value_of}
use Rattle.firmware.specs.declared.State.{State}
use Rattle.firmware.specs.Handler.{Served}
use Rattle.steps.specs.declared.Item.TheVariants.{Sample, Call}
use Rattle.steps.specs.Step.{after}

-- ---- the handler's call
-- Where the module holds the clock and the record shows SCL high.
abbrev pub is_called : Phase → ℕ → Bool
is_called ph item = scl_pulled ph && scl_of item

-- A call stores a byte where it takes a data byte that is no pointer.
abbrev pub storing : State → Bool
storing s =
    let l : Live = s.mssp.live in l.sspif && not l.ckp && not l.rw && l.da && not s.handler.due

-- What the item meets.
abbrev pub met_if : Bool → Served → Served
met_if true w = after w Call
met_if false w = w

abbrev pub met : Served → ℕ → Served
met w item = met_if (is_called w.state.mssp.phase item) w

-- What it leaves.
abbrev pub item_taken : Served → ℕ → Served
item_taken w item = after (met w item) (Sample (scl_of item) (sda_of item))

-- ---- what happens at an item
-- The edge as the enabled module reads the wire, with what it pulls.
abbrev pub edge_at : Module → ℕ → Edge
edge_at m item =
    cond m.config.sspen
    (edge_of m.line (on_wire (scl_pulled m.phase) (scl_of item)) (on_wire (sda_pulled m.phase) (sda_of item)))
    Still

-- The record shows both lines high while the module pulls SDA.
abbrev pub in_conflict : Phase → ℕ → Bool
in_conflict ph item = sda_pulled ph && eqb item 3

-- Bits 22 to 26: the handler was called before, that call stored a byte, Start, Stop, conflict.
abbrev pub events_of : Bool → Bool → Edge → Bool → ℕ
events_of called stored e conflict = byte_of false false false conflict (is_stop e) (is_start e) stored called

-- ---- what is seen after it
-- Bits 0 to 2: SDA and SCL as the module saw the wire, and SDA pulled.
abbrev pub lines_by : Bool → Bool → Bool → ℕ
lines_by pulled scl sda = byte_of false false false false false pulled scl sda

abbrev pub lines_from : Option Level → Bool → ℕ
lines_from None pulled = lines_by pulled false false
lines_from (Some level) pulled = lines_by pulled level.scl level.sda

abbrev pub lines_of : Module → ℕ
lines_of m = lines_from m.line.remembered (sda_pulled m.phase)

-- Bit 3 SCL pulled, 4 to 7 the phase, 8 to 15 STAT, 16 SSPIF, 17 CKP, 18 SSPOV, 19 WCOL, 20 ACKSTAT, 21 ACKTIM, 32 to 47 the
-- pointer, 48 to 55 BUF.
abbrev pub standing_by : ℕ → ℕ → ℕ → ℕ → ℕ → ℕ → ℕ
standing_by held number stat flags pointer buf =
    held * 8 + number * 16 + stat * 256 + flags * 65536 + pointer * 4294967296 + buf * 281474976710656

abbrev pub flags_of : Module → ℕ
flags_of m =
    let l : Live = m.live in byte_of false false l.acktim l.ackstat m.config.wcol l.sspov l.ckp l.sspif

abbrev pub standing_of : State → ℕ
standing_of s =
    let m : Module = s.mssp in
    standing_by (bool_byte (scl_pulled m.phase)) (phase_number m.phase) (value_of m Stat) (flags_of m) s.handler.pointer m.live.buf

-- No more than this, by the widths of its parts.
abbrev pub most_standing : ℕ
most_standing = 0xFFFFFFFFFFFFFF

-- ---- the word
abbrev pub word_by : ℕ → ℕ → ℕ → ℕ
word_by stands lines events = stands + lines + events * 4194304

abbrev pub word_of : Served → ℕ → State → Module → ℕ
word_of w item next before =
    let called : Bool = is_called w.state.mssp.phase item in
    word_by (standing_of next) (lines_of next.mssp)
    (events_of called (called && storing w.state) (edge_at before item) (in_conflict before.phase item))

abbrev pub word_at : Served → ℕ → ℕ
word_at w item = word_of w item (item_taken w item).state (met w item).state.mssp

-- All that drawing an item decides: what it leaves, the standing part of its word, and the word.
pub record DrawnItem : Type 0 where
  pub left : Served
  pub standing : ℕ
  pub word : ℕ

abbrev pub drawn : Served → ℕ → ℕ → DrawnItem
drawn left standing word = record { left = left; standing = standing; word = word }

abbrev pub drawn_item : Served → ℕ → DrawnItem
drawn_item w item = let left : Served = item_taken w item in drawn left (standing_of left.state) (word_at w item)
