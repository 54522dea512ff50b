-- Which states there are (01, "Calls, refusals and their order", "A state is any setting of .."; 02, 9), clause by clause.
-- Bits that are always 0 (BOEN, CON2 4..1, flag 7..1) have no place in the state at all, and UA is read off the phase.
use Rattle.std.specs.Prelude.{ℕ, ◌^◌, Bool, cond, ◌&&◌, ◌||◌, not, T, eqb, leb, ltb, Option}
use Rattle.wire.specs.declared.Bits.{Bits}
use Rattle.wire.specs.declared.Line.{Line}
use Rattle.wire.specs.declared.Level.{Level}
use Rattle.wire.specs.Wire.{scl_high}
use Rattle.mssp.specs.declared.Config.{Config}
use Rattle.mssp.specs.declared.Live.{Live}
use Rattle.mssp.specs.declared.Phase.{Phase}
use Rattle.mssp.specs.declared.Module.{Module}
use Rattle.mssp.specs.Module.{modelled, is_ten_bit}
use Rattle.mssp.specs.Phases.{bits_of, is_quiet, is_address, is_sending, is_held_for_add, eight_bits, of_ten_bits}
use Rattle.mssp.specs.Drivers.{scl_pulled}

-- Bits so far: 0 to 8 of them, and a number that they can make.
abbrev pub bits_fit : Bits → Bool
bits_fit b = leb b.count 8 && ltb b.value (2 ^ b.count)

abbrev pub no_bits : Bits → Bool
no_bits b = eqb b.count 0

-- A phase with its parts: of a byte that is sent a place of 0 to 7; else bits that fit, and none while the clock is held.
abbrev pub parts_fit : Phase → Bool
parts_fit ph =
    cond (is_sending ph) (ltb (bits_of ph).count 8)
    ((not (scl_pulled ph) || no_bits (bits_of ph)) && bits_fit (bits_of ph))

-- An address of which no bit has come.
abbrev pub address_begins : Phase → Bool
address_begins ph = is_address ph && no_bits (bits_of ph)

-- S and P are not both 1.
abbrev pub not_both : Bool → Bool → Bool
not_both s p = not (s && p)

abbrev pub one_condition : Live → Bool
one_condition l = not_both l.s l.p

-- SSPEN 1 goes with SSPM 0110 or 1110, and with 0111 or 1111 where MSK is FF.
abbrev pub masks_none : ℕ → Bool
masks_none msk = eqb msk 255

abbrev pub enabled_in : Bool → Bool → Bool → ℕ → Bool
enabled_in sspen mode ten msk = not sspen || mode && (not ten || masks_none msk)

abbrev pub mode_fits : Config → Bool
mode_fits c = enabled_in c.sspen (modelled c.sspm2 c.sspm1) (is_ten_bit c) c.msk

-- SSPEN 0 goes with the quiet phase and no mark.
abbrev pub off_fits : Bool → Phase → Bool → Bool
off_fits sspen ph mark = sspen || is_quiet ph && not mark

-- A mark goes with S 1, SCL remembered high and an address of no bits.
abbrev pub mark_fits : Bool → Bool → Option Level → Phase → Bool
mark_fits mark s seen ph = not mark || s && scl_high seen && address_begins ph

-- Eight bits go with SCL remembered high.
abbrev pub eight_fit : Phase → Option Level → Bool
eight_fit ph seen = not (eight_bits ph) || scl_high seen

-- A hold goes with CKP 0, but the one for ADD with either.
abbrev pub hold_fits : Phase → Bool → Bool
hold_fits ph ckp = not (scl_pulled ph && not (is_held_for_add ph) && ckp)

-- The full match, and the phases that ten bits alone have, go with a ten-bit mode that runs.
abbrev pub ten_fit : Bool → Bool → Phase → Bool
ten_fit runs full ph = runs || not (full || of_ten_bits ph)

-- All of it, as one test, by what it looks at: S and P, SSPEN, whether the mode is modelled and has ten bits, MSK, CKP, the full
-- match, the phase and the line.
abbrev pub valid_by : Bool → Bool → Bool → Bool → Bool → ℕ → Bool → Bool → Phase → Line → Bool
valid_by s p sspen mode ten msk ckp full ph line =
    parts_fit ph && not_both s p && enabled_in sspen mode ten msk
    && off_fits sspen ph line.mark
    && mark_fits line.mark s line.remembered ph
    && eight_fit ph line.remembered
    && hold_fits ph ckp
    && ten_fit (sspen && ten) full ph

abbrev pub valid : Module → Bool
valid m =
    let c : Config = m.config in
    let l : Live = m.live in
    valid_by l.s l.p c.sspen (modelled c.sspm2 c.sspm1) (is_ten_bit c) c.msk l.ckp l.full m.phase m.line

-- The same with a name for each clause, which is how proofs use it.
pub record Valid (m : Module) : Type 0 where
  pub parts : T (parts_fit m.phase)
  pub condition : T (one_condition m.live)
  pub mode : T (mode_fits m.config)
  pub off : T (off_fits m.config.sspen m.phase m.line.mark)
  pub mark : T (mark_fits m.line.mark m.live.s m.line.remembered m.phase)
  pub eight : T (eight_fit m.phase m.line.remembered)
  pub hold : T (hold_fits m.phase m.live.ckp)
  pub ten : T (ten_fit (m.config.sspen && is_ten_bit m.config) m.live.full m.phase)
