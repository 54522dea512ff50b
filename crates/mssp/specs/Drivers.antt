-- What the module pulls, read off the phase (01, "From levels to bytes": Hold, slot, Sending).
use Rattle.std.specs.Prelude.{Bool, cond, ◌&&◌, ◌||◌, eqb}
use Rattle.wire.specs.Byte.{zero_at}
use Rattle.mssp.specs.declared.SlotCase.TheVariants.{Pulls}
use Rattle.mssp.specs.declared.Phase.{Phase}
use Rattle.mssp.specs.Phases.{slot_number, bits_of, phase_mark, is_data, is_held_before, is_slot, is_held_for_sending, is_sending, is_held_for_add}

-- SCL is pulled while the clock is held: before an acknowledge, before sending, until ADD is written, before data if SEN asked
-- for it.
abbrev pub scl_pulled : Phase → Bool
scl_pulled ph = is_held_before ph || is_held_for_sending ph || is_held_for_add ph || is_data ph && eqb (phase_mark ph) 1

-- SDA is pulled for the 0 bits of a byte that is sent, and for an acknowledge.
abbrev pub sda_pulled : Phase → Bool
sda_pulled ph = cond (is_sending ph) (zero_at (bits_of ph).value (bits_of ph).count) (is_slot ph && eqb (phase_mark ph) (slot_number Pulls))
