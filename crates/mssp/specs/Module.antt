-- The module's state (01, "Register numbers" and "From levels to bytes"): its makers, one setter for each bit that a rule
-- changes, the fresh state and the set-up one. Where else a field more has to be named, docs/ARCHITECTURE.md lists.
use Rattle.std.specs.Prelude.{ℕ, Bool, true, false, ◌&&◌}
use Rattle.wire.specs.declared.Line.{Line}
use Rattle.wire.specs.Wire.{unseen}
use Rattle.mssp.specs.declared.Config.{Config}
use Rattle.mssp.specs.declared.Live.{Live}
use Rattle.mssp.specs.declared.Phase.{Phase}
use Rattle.mssp.specs.declared.Phase.TheVariants.{Quiet}
use Rattle.mssp.specs.declared.Module.{Module}
use Rattle.mssp.specs.declared.Stand.{Stand}

-- ---- what edges change, bit by bit: the others stay
abbrev pub live_of : Bool → Bool → Bool → Bool → Bool → Bool → Bool → Bool → Bool → Bool → Bool → ℕ → Live
live_of s p da rw bf sspov ckp ackstat acktim sspif full buf =
    record { s = s; p = p; da = da; rw = rw; bf = bf; sspov = sspov; ckp = ckp; ackstat = ackstat; acktim = acktim; sspif = sspif; full = full; buf = buf }

abbrev pub set_s : Bool → Live → Live
set_s v l = record l { s = v }

abbrev pub set_p : Bool → Live → Live
set_p v l = record l { p = v }

abbrev pub set_da : Bool → Live → Live
set_da v l = record l { da = v }

abbrev pub set_rw : Bool → Live → Live
set_rw v l = record l { rw = v }

abbrev pub set_bf : Bool → Live → Live
set_bf v l = record l { bf = v }

abbrev pub set_sspov : Bool → Live → Live
set_sspov v l = record l { sspov = v }

abbrev pub set_ckp : Bool → Live → Live
set_ckp v l = record l { ckp = v }

abbrev pub set_ackstat : Bool → Live → Live
set_ackstat v l = record l { ackstat = v }

abbrev pub set_acktim : Bool → Live → Live
set_acktim v l = record l { acktim = v }

abbrev pub set_sspif : Bool → Live → Live
set_sspif v l = record l { sspif = v }

-- The full match (02, 9) is no register's bit.
abbrev pub set_full : Bool → Live → Live
set_full v l = record l { full = v }

abbrev pub set_buf : ℕ → Live → Live
set_buf v l = record l { buf = v }

-- ---- what the registers hold and no edge changes
abbrev pub config_of : Bool → Bool → Bool → Bool → Bool → Bool → Bool → Bool → Bool → Bool → Bool → Bool → Bool → Bool → Bool → Bool → Bool → ℕ → ℕ → Config
config_of smp cke wcol sspen sspm3 sspm2 sspm1 sspm0 gcen ackdt sen pcie scie sdaht sbcde ahen dhen add msk =
    record { smp = smp; cke = cke; wcol = wcol; sspen = sspen; sspm3 = sspm3; sspm2 = sspm2; sspm1 = sspm1; sspm0 = sspm0; gcen = gcen; ackdt = ackdt; sen = sen; pcie = pcie; scie = scie; sdaht = sdaht; sbcde = sbcde; ahen = ahen; dhen = dhen; add = add; msk = msk }

abbrev pub set_wcol : Bool → Config → Config
set_wcol v c = record c { wcol = v }

abbrev pub set_stat : Bool → Bool → Config → Config
set_stat smp cke c =
    record c { smp = smp; cke = cke }

abbrev pub set_con1 : Bool → Bool → Bool → Bool → Bool → Bool → Config → Config
set_con1 wcol sspen sspm3 sspm2 sspm1 sspm0 c =
    record c { wcol = wcol; sspen = sspen; sspm3 = sspm3; sspm2 = sspm2; sspm1 = sspm1; sspm0 = sspm0 }

abbrev pub set_con2 : Bool → Bool → Bool → Config → Config
set_con2 gcen ackdt sen c =
    record c { gcen = gcen; ackdt = ackdt; sen = sen }

abbrev pub set_con3 : Bool → Bool → Bool → Bool → Bool → Bool → Config → Config
set_con3 pcie scie sdaht sbcde ahen dhen c =
    record c { pcie = pcie; scie = scie; sdaht = sdaht; sbcde = sbcde; ahen = ahen; dhen = dhen }

abbrev pub set_add : ℕ → Config → Config
set_add v c = record c { add = v }

abbrev pub set_msk : ℕ → Config → Config
set_msk v c = record c { msk = v }

-- SSPM 0110 and 1110 are modelled, and for ten bits 0111 and 1111 (02, 9); those with SSPM3 interrupt at Start and Stop.
abbrev pub modelled : Bool → Bool → Bool
modelled sspm2 sspm1 = sspm1 && sspm2

abbrev pub ten_bits : Bool → Bool → Bool → Bool
ten_bits sspm2 sspm1 sspm0 = sspm2 && sspm1 && sspm0

-- The mode of a module has ten-bit addresses.
abbrev pub is_ten_bit : Config → Bool
is_ten_bit c = ten_bits c.sspm2 c.sspm1 c.sspm0

abbrev pub interrupting : Config → Bool
interrupting c = c.sspm3 && modelled c.sspm2 c.sspm1

-- ---- the module
abbrev pub module_of : Config → Live → Phase → Line → Module
module_of c l ph line = record { config = c; live = l; phase = ph; line = line }

-- What of it a level meets first.
abbrev pub stand_of : Module → Stand
stand_of m = record { enabled = m.config.sspen; acktim = m.live.acktim; phase = m.phase; line = m.line }

-- Fresh: all 0, MSK FF, quiet, no wire remembered.
abbrev pub fresh : Module
fresh =
    module_of
    (config_of false false false false false false false false false false false false false false false false false 0 255)
    (live_of false false false false false false false false false false false 0)
    Quiet unseen

-- Set up by the handler with an ADD (01, "Handler and plain device"): CON1 36, CON2 01, CON3 00, MSK FF.
abbrev pub chosen : ℕ → Config
chosen add =
    record fresh.config { sspen = true; sspm2 = true; sspm1 = true; sen = true; add = add }

abbrev pub setup : ℕ → Module
setup add = module_of (chosen add) (set_ckp true fresh.live) Quiet unseen
