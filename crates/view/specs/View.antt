-- What the scope draws of a state: the registers read without effect, what the module pulls, its phase with its parts, the
-- line, the handler's variables, and which byte of ten bits it is about.
use Rattle.std.specs.Prelude.{ℕ, cond}
use mir.Val.{bool_byte}
use Rattle.refusals.specs.declared.Refusal.TheVariants.{NoState}
use Rattle.refusals.specs.Numbers.{number_of}
use Rattle.mssp.specs.declared.Module.{Module}
use Rattle.mssp.specs.declared.Phase.{Phase}
use Rattle.mssp.specs.Phases.{phase_number, bits_of, phase_which, is_held_for_add, is_refused}
use Rattle.mssp.specs.Drivers.{scl_pulled, sda_pulled}
use Rattle.registers.specs.declared.Register.TheVariants.{Buf, Stat, Con1, Con2, Con3, Add, Msk, Flag}
use Rattle.registers.specs.Values.{value_of}
use Rattle.firmware.specs.declared.State.{State}
use Rattle.phase_image.specs.PhasePart.{wire_byte}
use Rattle.view.specs.declared.View.{View}

-- Which byte an address, a hold before acknowledge or a slot belongs to; and what follows the hold for ADD.
abbrev pub which_seen : Phase → ℕ
which_seen ph = cond (is_held_for_add ph) 0 (phase_which ph)

abbrev pub next_seen : Phase → ℕ
next_seen ph = cond (is_held_for_add ph) (phase_which ph) 0

abbrev pub view_of : State → View
view_of s =
    let m : Module = s.mssp in
    record {
      refusal = 0;
      buf = value_of m Buf;
      stat = value_of m Stat;
      con1 = value_of m Con1;
      con2 = value_of m Con2;
      con3 = value_of m Con3;
      add = value_of m Add;
      msk = value_of m Msk;
      flag = value_of m Flag;
      scl_pulled = bool_byte (scl_pulled m.phase);
      sda_pulled = bool_byte (sda_pulled m.phase);
      phase = phase_number m.phase;
      bits = (bits_of m.phase).count;
      byte = (bits_of m.phase).value;
      refused = bool_byte (is_refused m.phase);
      wire = wire_byte m.line.remembered;
      mark = bool_byte m.line.mark;
      due = bool_byte s.handler.due;
      n = s.handler.n;
      pointer = s.handler.pointer;
      which = which_seen m.phase;
      next = next_seen m.phase;
      full = bool_byte m.live.full;
    }

-- Bytes that are no state's image: the refusal's number, and nothing to see.
abbrev pub no_view : View
no_view =
    record {
      refusal = number_of NoState;
      buf = 0;
      stat = 0;
      con1 = 0;
      con2 = 0;
      con3 = 0;
      add = 0;
      msk = 0;
      flag = 0;
      scl_pulled = 0;
      sda_pulled = 0;
      phase = 0;
      bits = 0;
      byte = 0;
      refused = 0;
      wire = 0;
      mark = 0;
      due = 0;
      n = 0;
      pointer = 0;
      which = 0;
      next = 0;
      full = 0;
    }
