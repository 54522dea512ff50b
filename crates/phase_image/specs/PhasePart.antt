-- Where a module stands, as seven bytes: the phase with its parts, the line, and which byte it is about; and the way back.
use Rattle.std.specs.Prelude.{ℕ, ◌+◌, ◌*◌, Bool, cond, List, [], ◌∷◌, eqb, Option, Some, None}
use mir.Val.{bool_byte}
use Rattle.codec.specs.Codec.{same_bytes}
use Rattle.wire.specs.declared.Bits.{Bits}
use Rattle.wire.specs.declared.Line.{Line}
use Rattle.wire.specs.declared.Level.{Level}
use Rattle.wire.specs.Wire.{scl_of, sda_of, wire}
use Rattle.mssp.specs.declared.SlotCase.{SlotCase}
use Rattle.mssp.specs.declared.SlotCase.TheVariants.{Pulls, Refuses, Declines}
use Rattle.mssp.specs.declared.Which.{Which}
use Rattle.mssp.specs.declared.Which.TheVariants.{Other, High, Low, HighToSend}
use Rattle.mssp.specs.declared.Next.{Next}
use Rattle.mssp.specs.declared.Next.TheVariants.{NextQuiet, NextLow, NextData}
use Rattle.mssp.specs.declared.Phase.{Phase}
use Rattle.mssp.specs.declared.Phase.TheVariants.{Quiet, Address, Data, HeldBefore, Slot, HeldForSending, Sending, MasterAcknowledge, HeldForAdd}
use Rattle.mssp.specs.Phases.{phase_number, bits_of, phase_mark, phase_which}

-- ---- a phase from five bytes: its number, the count and the value of its bits, its mark, which byte it belongs to
abbrev pub bits_from : ℕ → ℕ → Bits
bits_from count byte = record { count = count; value = byte }

-- The case of a slot with that number. A number that no case has gives one with another, so that its image is refused.
abbrev pub slot_from : ℕ → SlotCase
slot_from number = cond (eqb number 1) Pulls (cond (eqb number 2) Refuses Declines)

-- Which byte, and what follows, likewise.
abbrev pub which_from : ℕ → Which
which_from number = cond (eqb number 1) High (cond (eqb number 2) Low (cond (eqb number 3) HighToSend Other))

abbrev pub next_from : ℕ → Next
next_from number = cond (eqb number 1) NextLow (cond (eqb number 2) NextData NextQuiet)

-- The phase with that number and these parts; quiet where no other has the number.
abbrev pub phase_from : ℕ → ℕ → ℕ → ℕ → ℕ → Phase
phase_from number count byte mark which =
    cond (eqb number 1) (Address (bits_from count byte) (eqb which 2))
    (cond (eqb number 2) (Data (bits_from count byte) (eqb mark 1))
    (cond (eqb number 3) (HeldBefore (eqb mark 1) (which_from which))
    (cond (eqb number 4) (Slot (slot_from mark) (which_from which))
    (cond (eqb number 5) HeldForSending
    (cond (eqb number 6) (Sending byte count)
    (cond (eqb number 7) MasterAcknowledge
    (cond (eqb number 8) (HeldForAdd (next_from which)) Quiet)))))))

-- ---- the remembered wire as a byte: 2 × SCL + SDA, and 255 for none
abbrev pub wire_byte : Option Level → ℕ
wire_byte None = 255
wire_byte (Some level) = bool_byte level.scl * 2 + bool_byte level.sda

abbrev pub wire_from : ℕ → Option Level
wire_from byte = cond (eqb byte 255) None (Some (wire (scl_of byte) (sda_of byte)))

abbrev pub line_from : ℕ → ℕ → Line
line_from byte mark = record { remembered = wire_from byte; mark = eqb mark 1 }

-- ---- both
abbrev pub stand_part : Phase → Line → List ℕ
stand_part ph line =
    phase_number ph ∷ (bits_of ph).count ∷ (bits_of ph).value ∷ phase_mark ph ∷ wire_byte line.remembered ∷ bool_byte line.mark
    ∷ phase_which ph ∷ []

-- Seven bytes are just the part of the phase and the line that they name.
abbrev pub is_stand : ℕ → ℕ → ℕ → ℕ → ℕ → ℕ → ℕ → Bool
is_stand number count byte mark wire marked which =
    same_bytes (stand_part (phase_from number count byte mark which) (line_from wire marked))
    (number ∷ count ∷ byte ∷ mark ∷ wire ∷ marked ∷ which ∷ [])
