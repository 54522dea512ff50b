-- Stretches: how far a module goes before an item that a rule has to see, and where that leaves it.
use Rattle.std.specs.Prelude.{ℕ, Bool, true, false, cond, ◌&&◌, ◌||◌, not, List, ltb, leb, Option, Some, None}
use Rattle.wire.specs.declared.Bits.{Bits}
use Rattle.wire.specs.declared.Level.{Level}
use Rattle.wire.specs.Byte.{whole, zero_at}
use Rattle.wire.specs.Wire.{scl_of, sda_of, on_wire}
use Rattle.mssp.specs.declared.Phase.{Phase}
use Rattle.mssp.specs.declared.Phase.TheVariants.{Quiet, Address, Data, HeldBefore, Slot, HeldForSending, Sending, MasterAcknowledge, HeldForAdd}
use Rattle.mssp.specs.declared.Module.{Module}
use Rattle.mssp.specs.declared.Stand.{Stand}
use Rattle.mssp.specs.Module.{stand_of}
use Rattle.mssp.specs.Phases.{bits_of, is_slot, is_sending, is_master_acknowledge, has_bits, eight_bits}
use Rattle.mssp.specs.Drivers.{scl_pulled, sda_pulled}
use Rattle.stretch.specs.declared.Seen.{Seen}
use Rattle.stretch.specs.declared.Taken.{Taken}
use Rattle.stretch.specs.declared.Sent.{Sent}
use Rattle.stretch.specs.declared.Walked.{Walked}
use Rattle.stretch.specs.declared.Stretch.{Stretch}
use Rattle.stretch.specs.Walk.{walk_of}
use Rattle.stretch.specs.Seen.{seen_on, ends, taken_at, place_seen}

-- ---- an address or data: a byte's last fall ends the stretch
abbrev pub taken_with : Bits → Seen → Taken
taken_with bits w = record { bits = bits; wire = w }

abbrev pub taking_stops : Taken → ℕ → Bool
taking_stops p item = ltb 3 item || ends p.wire (scl_of item) (sda_of item) false (whole p.bits)

abbrev pub taking_goes : Taken → ℕ → Taken
taking_goes p item = taken_with (taken_at p.bits p.wire (scl_of item) (sda_of item)) (seen_on p.wire (scl_of item) (sda_of item))

abbrev pub taking_of : Bits → Seen → List ℕ → Walked Taken
taking_of bits w items = walk_of taking_stops taking_goes (taken_with bits w) items

-- ---- a byte that is sent: its last fall ends the stretch
abbrev pub sent_with : ℕ → ℕ → Seen → Sent
sent_with byte place w = record { byte = byte; place = place; wire = w }

abbrev pub sent_level : ℕ → ℕ → ℕ → Bool
sent_level byte place item = on_wire (zero_at byte place) (sda_of item)

abbrev pub sending_stops : Sent → ℕ → Bool
sending_stops p item = ltb 3 item || ends p.wire (scl_of item) (sent_level p.byte p.place item) false (leb 7 p.place)

abbrev pub sending_goes : Sent → ℕ → Sent
sending_goes p item =
    sent_with p.byte (place_seen p.place p.wire (scl_of item)) (seen_on p.wire (scl_of item) (sent_level p.byte p.place item))

abbrev pub sending_of : ℕ → ℕ → Seen → List ℕ → Walked Sent
sending_of byte place w items = walk_of sending_stops sending_goes (sent_with byte place w) items

-- ---- any other phase: what it pulls, and whether it has a rule for a rise and for a fall
abbrev pub resting_stops : Bool → Bool → Bool → Bool → Seen → ℕ → Bool
resting_stops holds pulls rise fall w item =
    ltb 3 item || ends w (on_wire holds (scl_of item)) (on_wire pulls (sda_of item)) rise fall

abbrev pub resting_goes : Bool → Bool → Seen → ℕ → Seen
resting_goes holds pulls w item = seen_on w (on_wire holds (scl_of item)) (on_wire pulls (sda_of item))

abbrev pub resting_of : Bool → Bool → Bool → Bool → Seen → List ℕ → Walked Seen
resting_of holds pulls rise fall w items = walk_of (resting_stops holds pulls rise fall) (resting_goes holds pulls) w items

-- ---- the module
abbrev pub stretch_at : Phase → Seen → ℕ → Stretch
stretch_at ph w n = record { phase = ph; wire = w; length = n }

-- A rise takes a bit where bits come and the clock is not held.
abbrev pub takes_bits : Phase → Bool
takes_bits ph = has_bits ph && not (scl_pulled ph)

-- The same phase with other bits.
abbrev pub with_bits : Phase → Bits → Phase
with_bits Quiet b = Quiet
with_bits (Address bits low) b = Address b low
with_bits (Data bits held) b = Data b held
with_bits (HeldBefore refused which) b = HeldBefore refused which
with_bits (Slot slot which) b = Slot slot which
with_bits HeldForSending b = HeldForSending
with_bits (Sending byte place) b = Sending byte place
with_bits MasterAcknowledge b = MasterAcknowledge
with_bits (HeldForAdd next) b = HeldForAdd next

-- The phases that take no bits and have a rule for a rise, the slot only while ACKTIM stands.
abbrev pub rise_rule : Phase → Bool → Bool
rise_rule ph acktim = is_master_acknowledge ph || is_slot ph && acktim

-- Those that have one for a fall.
abbrev pub fall_rule : Phase → Bool
fall_rule ph = is_master_acknowledge ph || is_slot ph || eight_bits ph

-- By whether the phase takes bits, else by whether it sends.
abbrev pub stretch_by : Bool → Bool → Phase → Bool → Seen → List ℕ → Stretch
stretch_by true sends ph acktim w items =
    let r : Walked Taken = taking_of (bits_of ph) w items in stretch_at (with_bits ph r.end.bits) r.end.wire r.length
stretch_by false true ph acktim w items =
    let r : Walked Sent = sending_of (bits_of ph).value (bits_of ph).count w items in
    stretch_at (Sending (bits_of ph).value r.end.place) r.end.wire r.length
stretch_by false false ph acktim w items =
    let r : Walked Seen = resting_of (scl_pulled ph) (sda_pulled ph) (rise_rule ph acktim) (fall_rule ph) w items in
    stretch_at ph r.end r.length

abbrev pub phase_stretch : Phase → Bool → Seen → List ℕ → Stretch
phase_stretch ph acktim w items = stretch_by (takes_bits ph) (is_sending ph) ph acktim w items

-- Before any level was seen, and disabled, there is no stretch.
abbrev pub stretch_from : Bool → Option Level → Bool → Phase → Bool → List ℕ → Stretch
stretch_from sspen None mark ph acktim items = stretch_at ph (record { scl = false; sda = false; mark = mark }) 0
stretch_from true (Some seen) mark ph acktim items =
    phase_stretch ph acktim (record { scl = seen.scl; sda = seen.sda; mark = mark }) items
stretch_from false (Some seen) mark ph acktim items =
    stretch_at ph (record { scl = seen.scl; sda = seen.sda; mark = mark }) 0

-- What a stretch sees of a module.
abbrev pub stand_stretch : Stand → List ℕ → Stretch
stand_stretch s items = stretch_from s.enabled s.line.remembered s.line.mark s.phase s.acktim items

abbrev pub stretch_of : Module → List ℕ → Stretch
stretch_of m items = stand_stretch (stand_of m) items

-- ---- a single item
-- The wire as a line has it; before any level was seen nothing looks at it.
abbrev pub seen_in : Option Level → Bool → Seen
seen_in None mark = record { scl = false; sda = false; mark = mark }
seen_in (Some seen) mark = record { scl = seen.scl; sda = seen.sda; mark = mark }

-- An enabled module that has seen a level reads the next one.
abbrev pub is_reading : Bool → Option Level → Bool
is_reading sspen None = false
is_reading sspen (Some seen) = sspen

-- Whether a fall ends a stretch: in a byte that is sent the last one.
abbrev pub fall_ends : Phase → Bool
fall_ends ph = cond (is_sending ph) (leb 7 (bits_of ph).count) (fall_rule ph)

-- Where a level that ends no stretch leaves the phase.
abbrev pub phase_over : Phase → Seen → Bool → Bool → Phase
phase_over ph w scl sda =
    cond (takes_bits ph) (with_bits ph (taken_at (bits_of ph) w scl sda))
    (cond (is_sending ph) (Sending (bits_of ph).value (place_seen (bits_of ph).count w scl)) ph)
