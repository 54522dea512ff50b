-- The module's part of an image: the eight registers as they read but for UA, which the phase says, the phase with its parts, the
-- line, and the full match; and the way back.
-- A byte of an image is the number itself.
use Rattle.std.specs.Prelude.{ℕ, Bool, false, ◌&&◌, List, [], ◌∷◌, ◌++◌, get_or, take, drop}
use mir.Val.{bool_byte}
use Rattle.codec.specs.Codec.{same_bytes}
use Rattle.wire.specs.declared.Line.{Line}
use Rattle.wire.specs.Byte.{bit}
use Rattle.mssp.specs.declared.Config.{Config}
use Rattle.mssp.specs.declared.Live.{Live}
use Rattle.mssp.specs.declared.Phase.{Phase}
use Rattle.mssp.specs.declared.Module.{Module}
use Rattle.mssp.specs.Phases.{phase_number, bits_of, phase_mark, phase_which}
use Rattle.mssp.specs.Module.{config_of, live_of, module_of}
use Rattle.mssp.specs.Valid.{valid}
use Rattle.registers.specs.declared.Register.TheVariants.{Buf, Stat, Con1, Con2, Con3, Add, Msk, Flag}
use Rattle.registers.specs.Values.{held_by}
use Rattle.phase_image.specs.PhasePart.{phase_from, wire_byte, line_from, stand_part}
use Rattle.module_image.specs.declared.Part.{Part}

abbrev pub module_length : ℕ
module_length = 16

-- ---- the part: 0 to 7 the registers by number, 8 to 11 the phase, 12 and 13 the line, 14 which byte, 15 the full match
abbrev pub module_part : Module → List ℕ
module_part m =
    held_by m.config m.live false Buf
    ∷ held_by m.config m.live false Stat
    ∷ held_by m.config m.live false Con1
    ∷ held_by m.config m.live false Con2
    ∷ held_by m.config m.live false Con3
    ∷ held_by m.config m.live false Add
    ∷ held_by m.config m.live false Msk
    ∷ held_by m.config m.live false Flag
    ∷ phase_number m.phase ∷ (bits_of m.phase).count ∷ (bits_of m.phase).value ∷ phase_mark m.phase
    ∷ wire_byte m.line.remembered ∷ bool_byte m.line.mark
    ∷ phase_which m.phase ∷ bool_byte m.live.full ∷ []

-- ---- the way back: which bit of which register is which
abbrev pub config_from : ℕ → ℕ → ℕ → ℕ → ℕ → ℕ → Config
config_from stat con1 con2 con3 add msk =
    config_of (bit 7 stat) (bit 6 stat) (bit 7 con1) (bit 5 con1) (bit 3 con1) (bit 2 con1) (bit 1 con1) (bit 0 con1)
    (bit 7 con2) (bit 5 con2) (bit 0 con2) (bit 6 con3) (bit 5 con3) (bit 3 con3) (bit 2 con3) (bit 1 con3) (bit 0 con3)
    add msk

abbrev pub live_from : ℕ → ℕ → ℕ → ℕ → ℕ → ℕ → ℕ → Live
live_from buf stat con1 con2 con3 flag full =
    live_of (bit 3 stat) (bit 4 stat) (bit 5 stat) (bit 2 stat) (bit 0 stat) (bit 6 con1) (bit 4 con1) (bit 6 con2)
    (bit 7 con3) (bit 0 flag) (bit 0 full) buf

-- The module that the first 16 bytes name, whether they are its part or not.
abbrev pub module_from : List ℕ → Module
module_from b =
    module_of
    (config_from (get_or b 1 0) (get_or b 2 0) (get_or b 3 0) (get_or b 4 0) (get_or b 5 0) (get_or b 6 0))
    (live_from (get_or b 0 0) (get_or b 1 0) (get_or b 2 0) (get_or b 3 0) (get_or b 4 0) (get_or b 7 0) (get_or b 15 0))
    (phase_from (get_or b 8 0) (get_or b 9 0) (get_or b 10 0) (get_or b 11 0) (get_or b 14 0))
    (line_from (get_or b 12 0) (get_or b 13 0))

-- ---- the sixteen bytes by what they are
abbrev pub part_of : List ℕ → Part
part_of b =
    record {
      buf = get_or b 0 0;
      stat = get_or b 1 0;
      con1 = get_or b 2 0;
      con2 = get_or b 3 0;
      con3 = get_or b 4 0;
      add = get_or b 5 0;
      msk = get_or b 6 0;
      flag = get_or b 7 0;
      number = get_or b 8 0;
      count = get_or b 9 0;
      value = get_or b 10 0;
      mark = get_or b 11 0;
      wire = get_or b 12 0;
      marked = get_or b 13 0;
      which = get_or b 14 0;
      full = get_or b 15 0;
    }

abbrev pub bytes_of : Part → List ℕ
bytes_of p =
    p.buf ∷ p.stat ∷ p.con1 ∷ p.con2 ∷ p.con3 ∷ p.add ∷ p.msk ∷ p.flag
    ∷ p.number ∷ p.count ∷ p.value ∷ p.mark ∷ p.wire ∷ p.marked ∷ p.which ∷ p.full ∷ []

-- The module that they name.
abbrev pub module_in : Part → Module
module_in p =
    module_of (config_from p.stat p.con1 p.con2 p.con3 p.add p.msk)
    (live_from p.buf p.stat p.con1 p.con2 p.con3 p.flag p.full)
    (phase_from p.number p.count p.value p.mark p.which)
    (line_from p.wire p.marked)

-- ---- bytes that begin with a module's part
-- They begin with the part of the module that they name, and it is valid.
abbrev pub is_module : List ℕ → Bool
is_module b = same_bytes (module_part (module_from b)) (take module_length b) && valid (module_from b)

-- The same bytes with the part of another module, and with another phase and line alone.
abbrev pub with_module : Module → List ℕ → List ℕ
with_module m b = module_part m ++ drop module_length b

abbrev pub with_stand : Phase → Line → List ℕ → List ℕ
with_stand ph line b = take 8 b ++ (stand_part ph line ++ drop 15 b)
