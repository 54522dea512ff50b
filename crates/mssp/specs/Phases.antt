-- The phases (01, "From levels to bytes"): the number and the parts of each, which are listed here and nowhere else, and what is
-- asked of a phase, which is read off them.
use Rattle.std.specs.Prelude.{ℕ, Bool, Result, Ok, Err, if◌then◌else◌, cond, ◌&&◌, ◌||◌, not, eqb, ◌==◌}
use mir.Val.{bool_byte}
use Rattle.wire.specs.declared.Bits.{Bits}
use Rattle.wire.specs.Byte.{none, whole}
use Rattle.mssp.specs.declared.SlotCase.{SlotCase}
use Rattle.mssp.specs.declared.SlotCase.TheVariants.{Pulls, Refuses, Declines}
use Rattle.mssp.specs.declared.Which.{Which}
use Rattle.mssp.specs.declared.Which.TheVariants.{Other, High, Low, HighToSend}
use Rattle.mssp.specs.declared.Next.{Next}
use Rattle.mssp.specs.declared.Next.TheVariants.{NextQuiet, NextLow, NextData}
use Rattle.mssp.specs.declared.Kind.{Kind}
use Rattle.mssp.specs.declared.Kind.TheVariants.{Quiet as KindQuiet, Address as KindAddress, Data as KindData, HeldBefore as KindHeldBefore, Slot as KindSlot, HeldForSending as KindHeldForSending, Sending as KindSending, MasterAcknowledge as KindMasterAcknowledge, HeldForAdd as KindHeldForAdd}
use Rattle.mssp.specs.declared.Phase.{Phase}
use Rattle.mssp.specs.declared.Phase.TheVariants.{Quiet, Address, Data, HeldBefore, Slot, HeldForSending, Sending, MasterAcknowledge, HeldForAdd}

-- ---- the slot
-- Its cases by number. 0 is none: it stood for a slot that did not pull when a slot did not yet tell why (02, 4).
abbrev pub slot_number : SlotCase → ℕ
slot_number Pulls = 1
slot_number Refuses = 2
slot_number Declines = 3

-- The case with a number; where there is none, the number.
abbrev pub slot_of : ℕ → Result SlotCase ℕ
slot_of n = if n == 1 then Ok Pulls else if n == 2 then Ok Refuses else if n == 3 then Ok Declines else Err n

-- The slot of a byte that came in: pulling unless its intake was refused or ACKDT declines; where both are, it is refused.
abbrev pub slot_after : Bool → Bool → SlotCase
slot_after refused declined = cond refused Refuses (cond declined Declines Pulls)

-- ---- ten bits (02, 9)
-- Which byte a hold before acknowledge or a slot belongs to, by number.
abbrev pub which_number : Which → ℕ
which_number Other = 0
which_number High = 1
which_number Low = 2
which_number HighToSend = 3

abbrev pub which_of : ℕ → Result Which ℕ
which_of n = if n == 0 then Ok Other else if n == 1 then Ok High else if n == 2 then Ok Low else if n == 3 then Ok HighToSend else Err n

-- What follows when ADD is written in the hold for it, by number.
abbrev pub next_number : Next → ℕ
next_number NextQuiet = 0
next_number NextLow = 1
next_number NextData = 2

abbrev pub next_of : ℕ → Result Next ℕ
next_of n = if n == 0 then Ok NextQuiet else if n == 1 then Ok NextLow else if n == 2 then Ok NextData else Err n

-- ---- the lists
-- A phase's number, in the order in which the paper names them.
abbrev pub phase_number : Phase → ℕ
phase_number Quiet = 0
phase_number (Address bits low) = 1
phase_number (Data bits held) = 2
phase_number (HeldBefore refused which) = 3
phase_number (Slot slot which) = 4
phase_number HeldForSending = 5
phase_number (Sending byte place) = 6
phase_number MasterAcknowledge = 7
phase_number (HeldForAdd next) = 8

-- The kind of phase with a number; where there is none, the number.
abbrev pub kind_of : ℕ → Result Kind ℕ
kind_of n =
    if n == 0 then Ok KindQuiet else if n == 1 then Ok KindAddress else if n == 2 then Ok KindData
    else if n == 3 then Ok KindHeldBefore else if n == 4 then Ok KindSlot else if n == 5 then Ok KindHeldForSending
    else if n == 6 then Ok KindSending else if n == 7 then Ok KindMasterAcknowledge
    else if n == 8 then Ok KindHeldForAdd else Err n

-- Its bits so far; of a byte that is sent its place and the byte.
abbrev pub bits_of : Phase → Bits
bits_of Quiet = none
bits_of (Address bits low) = bits
bits_of (Data bits held) = bits
bits_of (HeldBefore refused which) = none
bits_of (Slot slot which) = none
bits_of HeldForSending = none
bits_of (Sending byte place) = record { count = place; value = byte }
bits_of MasterAcknowledge = none
bits_of (HeldForAdd next) = none

-- The part of it that is one of a few: 1 where it is held or refused, a slot's case by its number.
abbrev pub phase_mark : Phase → ℕ
phase_mark Quiet = 0
phase_mark (Address bits low) = 0
phase_mark (Data bits held) = bool_byte held
phase_mark (HeldBefore refused which) = bool_byte refused
phase_mark (Slot slot which) = slot_number slot
phase_mark HeldForSending = 0
phase_mark (Sending byte place) = 0
phase_mark MasterAcknowledge = 0
phase_mark (HeldForAdd next) = 0

-- Which byte it belongs to; in the hold for ADD, what follows.
abbrev pub phase_which : Phase → ℕ
phase_which Quiet = 0
phase_which (Address bits low) = cond low (which_number Low) (which_number Other)
phase_which (Data bits held) = 0
phase_which (HeldBefore refused which) = which_number which
phase_which (Slot slot which) = which_number which
phase_which HeldForSending = 0
phase_which (Sending byte place) = 0
phase_which MasterAcknowledge = 0
phase_which (HeldForAdd next) = next_number next

-- ---- which phase it is
abbrev pub is_quiet : Phase → Bool
is_quiet ph = eqb (phase_number ph) 0

abbrev pub is_address : Phase → Bool
is_address ph = eqb (phase_number ph) 1

abbrev pub is_data : Phase → Bool
is_data ph = eqb (phase_number ph) 2

abbrev pub is_held_before : Phase → Bool
is_held_before ph = eqb (phase_number ph) 3

abbrev pub is_slot : Phase → Bool
is_slot ph = eqb (phase_number ph) 4

-- The one phase in which a byte that is written goes out.
abbrev pub is_held_for_sending : Phase → Bool
is_held_for_sending ph = eqb (phase_number ph) 5

abbrev pub is_sending : Phase → Bool
is_sending ph = eqb (phase_number ph) 6

abbrev pub is_master_acknowledge : Phase → Bool
is_master_acknowledge ph = eqb (phase_number ph) 7

-- UA is 1 exactly here.
abbrev pub is_held_for_add : Phase → Bool
is_held_for_add ph = eqb (phase_number ph) 8

-- ---- what else is asked
-- Bits come in an address and in data.
abbrev pub has_bits : Phase → Bool
has_bits ph = is_address ph || is_data ph

-- Its byte was refused at the intake, in the hold before the acknowledge and in the slot.
abbrev pub is_refused : Phase → Bool
is_refused ph = is_held_before ph && eqb (phase_mark ph) 1 || is_slot ph && eqb (phase_mark ph) (slot_number Refuses)

-- Eight bits have come, and not yet the fall after them.
abbrev pub eight_bits : Phase → Bool
eight_bits ph = has_bits ph && whole (bits_of ph)

-- A high or a low byte's, or the hold for ADD: the phases that ten bits alone have.
abbrev pub of_ten_bits : Phase → Bool
of_ten_bits ph = is_held_for_add ph || not (eqb (phase_which ph) (which_number Other))
