-- What the theorems of proofs/Readback.antt say.
use Rattle.std.specs.Prelude.{ℕ, ◌≡◌, false, cond}
use Rattle.mssp.specs.declared.Module.{Module}
use Rattle.mssp.specs.Phases.{is_held_for_sending}
use Rattle.effects.specs.Effects.{updated_phase}
use Rattle.registers.specs.declared.Register.{Register}
use Rattle.registers.specs.declared.Register.TheVariants.{Buf, Con1}
use Rattle.registers.specs.Values.{is_add}
use Rattle.writes.specs.Writes.{written, write_of}
use Rattle.refusals.specs.Numbers.{accepted}
use Rattle.readback.specs.Tables.{holds}

-- BUF is what was written while the clock is held for sending, else what it was.
abbrev pub ReadbackBuf : Type 0
ReadbackBuf =
    (v : ℕ) (m : Module) → holds Buf (written Buf v m) ≡ cond (is_held_for_sending m.phase) v m.live.buf

-- Only a write to CON1 moves the line, and only that or one to ADD the phase: ADD's ends the hold for it.
abbrev pub LeavesPlace : Type 0
LeavesPlace =
    (r : Register) (v : ℕ) (m : Module) → (r ≡ Con1 → ⊥)
    → ((written r v m).phase ≡ cond (is_add r) (updated_phase m.phase) m.phase) × ((written r v m).line ≡ m.line)

-- A refused write leaves the module as it was given.
abbrev pub RefusedLeaves : Type 0
RefusedLeaves =
    (number v : ℕ) (m : Module) → accepted (write_of m number v).verdict ≡ false → (write_of m number v).mssp ≡ m
