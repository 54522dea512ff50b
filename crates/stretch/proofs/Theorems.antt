-- A stretch is no longer than the items.
use Rattle.std.specs.Prelude.{ℕ, ◌≤◌, Bool, true, false, List, length, Option, Some, None}
use Rattle.std.proofs.Common.{arith}
use Rattle.wire.specs.declared.Level.{Level}
use Rattle.mssp.specs.declared.Phase.{Phase}
use Rattle.mssp.specs.declared.Module.{Module}
use Rattle.mssp.specs.Phases.{bits_of, is_sending}
use Rattle.mssp.specs.Drivers.{scl_pulled, sda_pulled}
use Rattle.stretch.specs.declared.Seen.{Seen}
use Rattle.stretch.specs.Walking.{steps_within}
use Rattle.stretch.specs.Stretch.{taken_with, taking_stops, taking_goes, sent_with, sending_stops, sending_goes, resting_stops, resting_goes, takes_bits, rise_rule, fall_rule, stretch_by, phase_stretch, stretch_from, stretch_of}

within_by :
    (takes sends : Bool) (ph : Phase) (acktim : Bool) (w : Seen) (items : List ℕ)
    → (stretch_by takes sends ph acktim w items).length ≤ length items
within_by true sends ph acktim w items = steps_within taking_stops taking_goes (taken_with (bits_of ph) w) items
within_by false true ph acktim w items =
    steps_within sending_stops sending_goes (sent_with (bits_of ph).value (bits_of ph).count w) items
within_by false false ph acktim w items =
    steps_within (resting_stops (scl_pulled ph) (sda_pulled ph) (rise_rule ph acktim) (fall_rule ph)) (resting_goes (scl_pulled ph) (sda_pulled ph)) w items

phase_within : (ph : Phase) (acktim : Bool) (w : Seen) (items : List ℕ) → (phase_stretch ph acktim w items).length ≤ length items
phase_within ph acktim w items = within_by (takes_bits ph) (is_sending ph) ph acktim w items

stretch_from_lem : (on : Bool) (rem : Option Level) (mark : Bool) (ph : Phase) (acktim : Bool) (items : List ℕ) → (stretch_from on rem mark ph acktim items).length ≤ length items
stretch_from_lem on None mark ph acktim items = omega arith
stretch_from_lem true (Some seen) mark ph acktim items =
    phase_within ph acktim (record { scl = seen.scl; sda = seen.sda; mark = mark }) items
stretch_from_lem false (Some seen) mark ph acktim items = omega arith

pub stretch_within : (m : Module) (items : List ℕ) → (stretch_of m items).length ≤ length items
stretch_within m items =
    stretch_from_lem m.config.sspen m.line.remembered m.line.mark m.phase m.live.acktim items
