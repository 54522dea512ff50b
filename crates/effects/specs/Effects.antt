-- What reading BUF, writing BUF, setting CKP, writing ADD and disabling do to the module (01, "Register numbers" and "From
-- levels to bytes"; 02, 9).
-- The registers and the handler both act through these.
use Rattle.std.specs.Prelude.{ℕ, Bool, true, false, cond, ◌||◌, not}
use Rattle.mssp.specs.declared.Next.{Next}
use Rattle.mssp.specs.declared.Next.TheVariants.{NextQuiet, NextLow, NextData}
use Rattle.mssp.specs.declared.Phase.{Phase}
use Rattle.mssp.specs.declared.Phase.TheVariants.{Quiet, Address, Data, HeldBefore, Slot, HeldForSending, Sending, MasterAcknowledge, HeldForAdd}
use Rattle.mssp.specs.declared.Module.{Module}
use Rattle.wire.specs.declared.Line.{Line}
use Rattle.wire.specs.Byte.{none}
use Rattle.mssp.specs.Phases.{slot_after, is_held_for_sending}
use Rattle.mssp.specs.Module.{module_of, set_s, set_p, set_da, set_rw, set_bf, set_acktim, set_buf, set_ckp, set_full, set_wcol, set_add}

-- A read of BUF clears BF.
abbrev pub emptied : Module → Module
emptied m = module_of m.config (set_bf false m.live) m.phase m.line

-- A write to BUF takes effect, with BF, while the clock is held for sending; else it sets WCOL and no more.
abbrev pub loaded_if : Bool → ℕ → Module → Module
loaded_if held byte m =
    module_of (set_wcol (not held || m.config.wcol) m.config)
    (set_bf (held || m.live.bf) (set_buf (cond held byte m.live.buf) m.live))
    m.phase m.line

abbrev pub loaded : ℕ → Module → Module
loaded byte m = loaded_if (is_held_for_sending m.phase) byte m

-- CKP = 1 ends a hold: before data the bits come, before an acknowledge the slot follows, pulling unless the byte was
-- refused or ACKDT declines it; before sending the byte in BUF goes out. The hold for ADD it does not end.
abbrev pub released_phase : Bool → ℕ → Phase → Phase
released_phase ackdt buf Quiet = Quiet
released_phase ackdt buf (Address bits low) = Address bits low
released_phase ackdt buf (Data bits held) = Data bits false
released_phase ackdt buf (HeldBefore refused which) = Slot (slot_after refused ackdt) which
released_phase ackdt buf (Slot slot which) = Slot slot which
released_phase ackdt buf HeldForSending = Sending buf 0
released_phase ackdt buf (Sending byte place) = Sending byte place
released_phase ackdt buf MasterAcknowledge = MasterAcknowledge
released_phase ackdt buf (HeldForAdd next) = HeldForAdd next

abbrev pub released : Module → Module
released m = module_of m.config (set_ckp true m.live) (released_phase m.config.ackdt m.live.buf m.phase) m.line

-- ADD is written: the hold for it ends, and what was to follow does. UA, which is read off the phase, ends with it.
abbrev pub next_phase : Next → Phase
next_phase NextQuiet = Quiet
next_phase NextLow = Address none true
next_phase NextData = Data none false

-- At any other time ADD is stored, and nothing more.
abbrev pub updated_phase : Phase → Phase
updated_phase Quiet = Quiet
updated_phase (Address bits low) = Address bits low
updated_phase (Data bits held) = Data bits held
updated_phase (HeldBefore refused which) = HeldBefore refused which
updated_phase (Slot slot which) = Slot slot which
updated_phase HeldForSending = HeldForSending
updated_phase (Sending byte place) = Sending byte place
updated_phase MasterAcknowledge = MasterAcknowledge
updated_phase (HeldForAdd next) = next_phase next

abbrev pub updated : ℕ → Module → Module
updated add m = module_of (set_add add m.config) m.live (updated_phase m.phase) m.line

-- The line without the mark of a Start.
abbrev pub unmarked : Line → Line
unmarked line = record { remembered = line.remembered; mark = false }

-- SSPEN from 1 to 0: quiet, which ends hold, pull and UA; S, P, D/A, R/W, BF, ACKTIM, the mark and the full match are cleared.
abbrev pub disabled : Module → Module
disabled m =
    module_of m.config
    (set_s false (set_p false (set_da false (set_rw false (set_bf false (set_acktim false (set_full false m.live)))))))
    Quiet (unmarked m.line)
