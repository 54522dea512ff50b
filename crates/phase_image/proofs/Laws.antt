-- Phase and remembered wire come back from their bytes.
use Rattle.std.specs.Prelude.{ℕ, ◌≡◌, refl, Bool, true, false, Option, Some, None}
use Rattle.std.proofs.Common.{sym, ap, ap₂, ◌∙◌}
use Rattle.wire.specs.declared.Level.{Level}
use Rattle.wire.specs.Laws.{bool_back}
use Rattle.wire.specs.Wire.{wire}
use Rattle.mssp.specs.declared.SlotCase.{SlotCase}
use Rattle.mssp.specs.declared.SlotCase.TheVariants.{Pulls, Refuses, Declines}
use Rattle.mssp.specs.declared.Which.{Which}
use Rattle.mssp.specs.declared.Which.TheVariants.{Other, High, Low, HighToSend}
use Rattle.mssp.specs.declared.Next.{Next}
use Rattle.mssp.specs.declared.Next.TheVariants.{NextQuiet, NextLow, NextData}
use Rattle.mssp.specs.declared.Phase.{Phase}
use Rattle.mssp.specs.declared.Phase.TheVariants.{Quiet, Address, Data, HeldBefore, Slot, HeldForSending, Sending, MasterAcknowledge, HeldForAdd}
use Rattle.mssp.specs.Phases.{slot_number, which_number, next_number, phase_number, bits_of, phase_mark, phase_which}
use Rattle.phase_image.specs.PhasePart.{slot_from, which_from, next_from, phase_from, wire_byte, wire_from}

slot_back : (slot : SlotCase) → slot_from (slot_number slot) ≡ slot
slot_back Pulls = refl
slot_back Refuses = refl
slot_back Declines = refl

which_back : (which : Which) → which_from (which_number which) ≡ which
which_back Other = refl
which_back High = refl
which_back Low = refl
which_back HighToSend = refl

next_back : (next : Next) → next_from (next_number next) ≡ next
next_back NextQuiet = refl
next_back NextLow = refl
next_back NextData = refl

pub phase_back :
    (ph : Phase) → phase_from (phase_number ph) (bits_of ph).count (bits_of ph).value (phase_mark ph) (phase_which ph) ≡ ph
phase_back Quiet = refl
phase_back (Address bits true) = refl
phase_back (Address bits false) = refl
phase_back (Data bits held) = ap (Data bits) (bool_back held)
phase_back (HeldBefore refused which) = ap₂ HeldBefore (bool_back refused) (which_back which)
phase_back (Slot slot which) = ap₂ Slot (slot_back slot) (which_back which)
phase_back HeldForSending = refl
phase_back (Sending byte place) = refl
phase_back MasterAcknowledge = refl
phase_back (HeldForAdd next) = ap HeldForAdd (next_back next)

-- A phase is what its number and its parts name.
pub by_number : (ph : Phase) {n : ℕ} → phase_number ph ≡ n → phase_from n (bits_of ph).count (bits_of ph).value (phase_mark ph) (phase_which ph) ≡ ph
by_number ph e = ap (λ (n : ℕ). phase_from n (bits_of ph).count (bits_of ph).value (phase_mark ph) (phase_which ph)) (sym e) ∙ phase_back ph

level_back : (scl sda : Bool) → wire_from (wire_byte (Some (wire scl sda))) ≡ Some (wire scl sda)
level_back true true = refl
level_back true false = refl
level_back false true = refl
level_back false false = refl

pub wire_back : (seen : Option Level) → wire_from (wire_byte seen) ≡ seen
wire_back None = refl
wire_back (Some level) = level_back level.scl level.sda
