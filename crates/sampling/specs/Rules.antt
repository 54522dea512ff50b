-- The rules of 01, "From levels to bytes", in its order, and those of ten bits (02, 9) beside their sisters: one definition for
-- each, named after what has happened.
use Rattle.std.specs.Prelude.{ℕ, ◌+◌, Bool, true, false, cond, ◌||◌, ◌&&◌, not, eqb, ltb}
use Rattle.wire.specs.declared.Bits.{Bits}
use Rattle.wire.specs.declared.Edge.{Edge}
use Rattle.wire.specs.declared.Edge.TheVariants.{Still, Start, Stop, Rise, Fall}
use Rattle.wire.specs.Byte.{bit, none, pushed, whole}
use Rattle.wire.specs.Wire.{edge_of, line_after, on_wire}
use Rattle.address.specs.Comparison.{hit_of, is_taken}
use Rattle.mssp.specs.declared.Config.{Config}
use Rattle.mssp.specs.declared.Live.{Live}
use Rattle.mssp.specs.declared.SlotCase.{SlotCase}
use Rattle.mssp.specs.declared.SlotCase.TheVariants.{Pulls, Refuses, Declines}
use Rattle.mssp.specs.declared.Which.{Which}
use Rattle.mssp.specs.declared.Which.TheVariants.{Other, High, Low, HighToSend}
use Rattle.mssp.specs.declared.Next.{Next}
use Rattle.mssp.specs.declared.Next.TheVariants.{NextQuiet, NextLow, NextData}
use Rattle.mssp.specs.declared.Phase.{Phase}
use Rattle.mssp.specs.declared.Phase.TheVariants.{Quiet, Address, Data, HeldBefore, Slot, HeldForSending, Sending, MasterAcknowledge, HeldForAdd}
use Rattle.mssp.specs.declared.Module.{Module}
use Rattle.mssp.specs.Module.{module_of, is_ten_bit, interrupting, set_s, set_p, set_da, set_rw, set_bf, set_sspov, set_ckp, set_ackstat, set_acktim, set_sspif, set_full, set_buf}
use Rattle.mssp.specs.Phases.{slot_after, is_sending}
use Rattle.mssp.specs.Drivers.{scl_pulled, sda_pulled}

-- What an edge leaves: the live bits and the phase.
pub record Moved : Type 0 where
  pub live : Live
  pub phase : Phase

-- The rest of the module stays.
abbrev pub moved_to : Module → Moved → Module
moved_to m x = module_of m.config x.live x.phase m.line

infixl 20 ◌at◌
abbrev pub ◌at◌ : Live → Phase → Moved
◌at◌ l ph = record { live = l; phase = ph }

-- Start: S, and neither P, D/A, R/W nor ACKTIM; SSPIF where SCIE or SSPM 1110, 1111 asks. A byte being sent is dropped with BF.
abbrev pub started : Config → Live → Bool → Live
started c l sending =
    set_s true (set_p false (set_da false (set_rw false (set_acktim false
    (set_bf (l.bf && not sending) (set_sspif (l.sspif || c.scie || interrupting c) l))))))

-- Stop: P, and neither S, R/W nor ACKTIM; SSPIF where PCIE or SSPM 1110, 1111 asks. A byte being sent is dropped with BF, and the full
-- match ends. A Start does not end it: it may be the Restart of a read.
abbrev pub stopped : Config → Live → Bool → Live
stopped c l sending =
    set_s false (set_p true (set_rw false (set_acktim false (set_full false
    (set_bf (l.bf && not sending) (set_sspif (l.sspif || c.pcie || interrupting c) l))))))

-- Intake: a full BUF stays and sets SSPOV, else the byte comes in; refused where BF or SSPOV stood. With a hold asked
-- for, SSPIF and the hold before the acknowledge, refused or not; else the slot, pulling unless refused. Which byte it is, is
-- handed on and not looked at.
abbrev pub intake : Config → Live → ℕ → Bool → Which → Moved
intake c l byte hold which =
    set_buf (cond l.bf l.buf byte) (set_bf true (set_sspov (l.bf || l.sspov)
    (set_acktim (l.acktim || (c.ahen || c.dhen)) (set_sspif (hold || l.sspif) (set_ckp (l.ckp && not hold) l)))))
    at cond hold (HeldBefore (l.bf || l.sspov) which) (Slot (slot_after (l.bf || l.sspov) false) which)

-- Address of seven bits: no match is quiet and nothing else; a match is D/A 0, R/W from bit 0, then intake.
abbrev pub address_if : Bool → Config → Live → ℕ → Moved
address_if true c l byte = intake c (set_da false (set_rw (bit 0 byte) l)) byte c.ahen Other
address_if false c l byte = l at Quiet

-- High byte, the first of ten bits: by whether it fits, by R/W, and by the full match. With R/W 0 it is taken, and the full match
-- ends; with R/W 1 it is taken after the full match alone, to send. One that does not fit ends the full match.
abbrev pub high_if : Bool → Bool → Bool → Config → Live → ℕ → Moved
high_if true false full c l byte = intake c (set_da false (set_rw false (set_full false l))) byte c.ahen High
high_if true true true c l byte = intake c (set_da false (set_rw true l)) byte c.ahen HighToSend
high_if true true false c l byte = l at Quiet
high_if false toSend full c l byte = set_full false l at Quiet

-- The first byte after a Start, by whether the mode has ten bits and the byte hits.
abbrev pub first_if : Bool → Bool → Config → Live → ℕ → Moved
first_if true hits c l byte = high_if hits (bit 0 byte) l.full c l byte
first_if false hits c l byte = address_if hits c l byte

-- Low byte: all eight bits are compared. A match is D/A 0, R/W as it was, then intake; else nothing comes in, and the slot does
-- not pull.
abbrev pub low_if : Bool → Config → Live → ℕ → Moved
low_if true c l byte = intake c (set_da false l) byte c.ahen Low
low_if false c l byte = l at Slot Declines Low

-- An address, at its eighth fall: a low byte or a first one.
abbrev pub address_byte : Bool → Config → Live → ℕ → Moved
address_byte true c l byte = low_if (eqb byte c.add) c l byte
address_byte false c l byte = first_if (is_ten_bit c) (is_taken (hit_of c byte)) c l byte

-- Data, at its eighth fall: D/A 1, then intake.
abbrev pub data_byte : Config → Live → ℕ → Moved
data_byte c l byte = intake c (set_da true l) byte c.dhen Other

-- A fall before the eighth rise ends no byte.
abbrev pub address_fall_if : Bool → Config → Live → Bits → Bool → Moved
address_fall_if true c l bits low = address_byte low c l bits.value
address_fall_if false c l bits low = l at Address bits low

abbrev pub address_fall : Config → Live → Bits → Bool → Moved
address_fall c l bits low = address_fall_if (whole bits) c l bits low

abbrev pub data_fall_if : Bool → Config → Live → Bits → Bool → Moved
data_fall_if true c l bits held = data_byte c l bits.value
data_fall_if false c l bits held = l at Data bits held

abbrev pub data_fall : Config → Live → Bits → Bool → Moved
data_fall c l bits held = data_fall_if (whole bits) c l bits held

-- What follows a byte that was acknowledged: SSPIF; held for sending where it asks to send, else data with no bits, held if SEN.
-- A hold is CKP 0.
abbrev pub followed : Bool → Config → Live → Moved
followed toSend c l =
    set_sspif true (set_ckp (l.ckp && not (toSend || c.sen)) l) at cond toSend HeldForSending (Data none c.sen)

-- SSPIF, UA, which is the phase's, and the hold for ADD. CKP and SEN have no part in it.
abbrev pub awaits_add : Live → Next → Moved
awaits_add l next = set_sspif true l at HeldForAdd next

-- Ninth fall of a slot that pulled, by the byte it belongs to. A read address asks to send: of seven bits STAT tells. After a high
-- byte the low one follows, after a low byte data, with the full match.
abbrev pub pull_ended : Config → Live → Which → Moved
pull_ended c l Other = followed (not l.da && l.rw) c l
pull_ended c l High = awaits_add l NextLow
pull_ended c l Low = awaits_add (set_full true l) NextData
pull_ended c l HighToSend = followed true c l

-- Ninth fall of one that did not: a byte that was refused sets SSPIF too (02, 4), one that ACKDT declined does not; both are quiet.
-- A high byte that asked to send ends the full match. After a low byte SSPIF and the hold for ADD come all the same.
abbrev pub fail_ended : Bool → Live → Which → Moved
fail_ended refused l Other = set_sspif (refused || l.sspif) l at Quiet
fail_ended refused l High = set_sspif (refused || l.sspif) l at Quiet
fail_ended refused l Low = awaits_add l NextQuiet
fail_ended refused l HighToSend = set_full false (set_sspif (refused || l.sspif) l) at Quiet

-- Ninth fall: the pull ends.
abbrev pub slot_ended : Config → Live → SlotCase → Which → Moved
slot_ended c l Pulls which = pull_ended c l which
slot_ended c l Refuses which = fail_ended true l which
slot_ended c l Declines which = fail_ended false l which

-- Sending: falls 1 to 7 move on; the eighth ends the pull, with BF 0 and D/A 1.
abbrev pub bit_sent_if : Bool → Live → ℕ → ℕ → Moved
bit_sent_if true l byte place = l at Sending byte (place + 1)
bit_sent_if false l byte place = set_bf false (set_da true l) at MasterAcknowledge

abbrev pub bit_sent : Live → ℕ → ℕ → Moved
bit_sent l byte place = bit_sent_if (ltb place 7) l byte place

-- The fall after the master's acknowledge: SSPIF; ACKSTAT 0 holds for sending, 1 is R/W 0 and quiet.
abbrev pub answered : Live → Moved
answered l =
    set_sspif true (set_rw (l.rw && not l.ackstat) (set_ckp (l.ckp && l.ackstat) l))
    at cond l.ackstat Quiet HeldForSending

-- A fall, phase by phase. In a hold no edge moves anything: only CKP, for the last of them ADD, or disabling ends it.
abbrev pub fallen : Config → Live → Phase → Moved
fallen c l Quiet = l at Quiet
fallen c l (Address bits low) = address_fall c l bits low
fallen c l (Data bits held) = data_fall c l bits held
fallen c l (HeldBefore refused which) = l at HeldBefore refused which
fallen c l (Slot slot which) = slot_ended c l slot which
fallen c l HeldForSending = l at HeldForSending
fallen c l (Sending byte place) = bit_sent l byte place
fallen c l MasterAcknowledge = answered l
fallen c l (HeldForAdd next) = l at HeldForAdd next

-- Bits are taken at rises; a held clock takes none.
abbrev pub data_risen : Bits → Bool → Bool → Phase
data_risen bits true sda = Data bits true
data_risen bits false sda = Data (pushed bits sda) false

-- A rise, phase by phase: a bit; in the slot, the ninth, ACKTIM ends; after a sent byte ACKSTAT is SDA.
abbrev pub risen : Live → Phase → Bool → Moved
risen l Quiet sda = l at Quiet
risen l (Address bits low) sda = l at Address (pushed bits sda) low
risen l (Data bits held) sda = l at data_risen bits held sda
risen l (HeldBefore refused which) sda = l at HeldBefore refused which
risen l (Slot slot which) sda = set_acktim false l at Slot slot which
risen l HeldForSending sda = l at HeldForSending
risen l (Sending byte place) sda = l at Sending byte place
risen l MasterAcknowledge sda = set_ackstat sda l at MasterAcknowledge
risen l (HeldForAdd next) sda = l at HeldForAdd next

-- One edge. Start and Stop end any pull: the phases that they lead to pull nothing.
abbrev pub edge_step : Config → Live → Phase → Edge → Moved
edge_step c l ph Still = l at ph
edge_step c l ph Start = started c l (is_sending ph) at Address none false
edge_step c l ph Stop = stopped c l (is_sending ph) at Quiet
edge_step c l ph (Rise sda) = risen l ph sda
edge_step c l ph Fall = fallen c l ph

-- A wire level is seen: an enabled module reads the edge, a disabled one only remembers the wire.
abbrev pub seen_if : Bool → Module → Bool → Bool → Module
seen_if true m scl sda =
    let e : Edge = edge_of m.line scl sda in
    let n : Moved = edge_step m.config m.live m.phase e in
    module_of m.config n.live n.phase (line_after m.line.mark e scl sda)
seen_if false m scl sda = module_of m.config m.live m.phase (line_after m.line.mark Still scl sda)

abbrev pub seen : Module → Bool → Bool → Module
seen m scl sda = seen_if m.config.sspen m scl sda

-- A sample: what the module pulls is decided before the item.
abbrev pub sampled : Module → Bool → Bool → Module
sampled m scl sda = seen m (on_wire (scl_pulled m.phase) scl) (on_wire (sda_pulled m.phase) sda)
