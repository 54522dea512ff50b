-- What a write takes, what it does beside that, and why it is refused (01, "Register numbers" and refusals 1 to 3;
-- 02, 6 and 9).
use Rattle.std.specs.Prelude.{ℕ, ◌/◌, ◌%◌, Bool, true, false, cond, ◌&&◌, not, Result, Ok, Err, List, [], ◌∷◌, eqb}
use Rattle.wire.specs.Byte.{bit}
use Rattle.refusals.specs.Numbers.{Verdict, accepted, first_cause}
use Rattle.refusals.specs.declared.Refusal.{Refusal}
use Rattle.refusals.specs.declared.Refusal.TheVariants.{ReservedBit, NoMode, ModeChange, MaskedTenBits}
use Rattle.mssp.specs.declared.Config.{Config}
use Rattle.mssp.specs.declared.Module.{Module}
use Rattle.mssp.specs.Module.{module_of, modelled, ten_bits, is_ten_bit, set_stat, set_con1, set_con2, set_con3, set_msk, set_ckp, set_sspov, set_sspif}
use Rattle.mssp.specs.Valid.{masks_none}
use Rattle.effects.specs.Effects.{loaded, released, updated, disabled}
use Rattle.register_bytes.specs.Bytes.{sspm_of}
use Rattle.registers.specs.Values.{register_of, is_msk, is_con1, is_con2, is_con3, Access, access_of}
use Rattle.registers.specs.declared.Register.{Register}
use Rattle.registers.specs.declared.Register.TheVariants.{Buf, Stat, Con1, Con2, Con3, Add, Msk, Flag}

-- STAT takes SMP and CKE.
abbrev pub stat_written : ℕ → Config → Config
stat_written v c = set_stat (bit 7 v) (bit 6 v) c

-- CON1's bits: WCOL and SSPOV are only cleared, SSPEN, CKP and SSPM taken.
abbrev pub con1_config : ℕ → Config → Config
con1_config v c = set_con1 (c.wcol && bit 7 v) (bit 5 v) (bit 3 v) (bit 2 v) (bit 1 v) (bit 0 v) c

abbrev pub con1_stored : ℕ → Module → Module
con1_stored v m =
    module_of (con1_config v m.config) (set_sspov (m.live.sspov && bit 6 v) (set_ckp (bit 4 v) m.live))
    m.phase m.line

-- SSPEN from 1 to 0 disables; else CKP 1 ends a hold; CKP 0 starts none.
abbrev pub con1_then : Bool → Bool → Module → Module
con1_then true ckp m = disabled m
con1_then false true m = released m
con1_then false false m = m

abbrev pub con1_written : ℕ → Module → Module
con1_written v m = con1_then (m.config.sspen && not (bit 5 v)) (bit 4 v) (con1_stored v m)

-- CON2 takes GCEN, ACKDT and SEN; ACKSTAT ignores writes.
abbrev pub con2_written : ℕ → Config → Config
con2_written v c = set_con2 (bit 7 v) (bit 5 v) (bit 0 v) c

-- CON3 takes PCIE, SCIE, SDAHT, SBCDE, AHEN and DHEN; ACKTIM ignores writes.
abbrev pub con3_written : ℕ → Config → Config
con3_written v c = set_con3 (bit 6 v) (bit 5 v) (bit 3 v) (bit 2 v) (bit 1 v) (bit 0 v) c

-- SSPIF is only cleared; the other bits of the flag register ignore writes.
abbrev pub flag_written : ℕ → Module → Module
flag_written v m = module_of m.config (set_sspif (m.live.sspif && bit 0 v) m.live) m.phase m.line

abbrev pub with_config : Config → Module → Module
with_config c m = module_of c m.live m.phase m.line

abbrev pub written : Register → ℕ → Module → Module
written Buf v m = loaded v m
written Stat v m = with_config (stat_written v m.config) m
written Con1 v m = con1_written v m
written Con2 v m = with_config (con2_written v m.config) m
written Con3 v m = with_config (con3_written v m.config) m
written Add v m = updated v m
written Msk v m = with_config (set_msk v m.config) m
written Flag v m = flag_written v m

-- ---- why a write is refused
-- A bit of the master is set in CON2, or BOEN in CON3.
abbrev pub sets_reserved : Register → ℕ → Bool
sets_reserved r v = cond (is_con2 r) (not (eqb (v / 2 % 16) 0)) (is_con3 r && bit 4 v)

-- SSPEN 1 in CON1 with a mode that is not modelled.
abbrev pub no_mode : ℕ → Bool
no_mode v = bit 5 v && not (modelled (bit 2 v) (bit 1 v))

-- SSPEN 1 in CON1 where it is 1 already, with another SSPM than the mode that stands (02, 6). The phase is not asked.
abbrev pub mode_change : Bool → ℕ → ℕ → Bool
mode_change on mode v = on && bit 5 v && not (eqb (v % 16) mode)

-- SSPEN 1, a ten-bit mode and a MSK other than FF would stand together (02, 9): by a write to CON1, or by one to MSK.
abbrev pub masked : Bool → Bool → ℕ → Bool
masked on ten msk = on && ten && not (masks_none msk)

abbrev pub masked_ten : Register → ℕ → Config → Bool
masked_ten r v c =
    cond (is_msk r) (masked c.sspen (is_ten_bit c) v)
    (is_con1 r && masked (bit 5 v) (ten_bits (bit 2 v) (bit 1 v) (bit 0 v)) c.msk)

-- Why a write is refused, in the paper's order: by the register, the value and the module that it finds.
abbrev pub write_causes : Register → ℕ → Module → List (Bool × Refusal)
write_causes r v m =
    (sets_reserved r v, ReservedBit) ∷ (is_con1 r && no_mode v, NoMode)
    ∷ (is_con1 r && mode_change m.config.sspen (sspm_of m.config) v, ModeChange)
    ∷ (masked_ten r v m.config, MaskedTenBits) ∷ []

abbrev pub verdict_of : Register → ℕ → Module → Verdict
verdict_of r v m = first_cause 0 (write_causes r v m)

-- A refused write leaves the module that was given. A number that no register has is refused before anything else.
abbrev pub write_at : Result Register Refusal → ℕ → Module → Access
write_at (Ok r) v m =
    let verdict : Verdict = verdict_of r v m in access_of verdict (cond (accepted verdict) (written r v m) m)
write_at (Err why) v m = access_of (Err why) m

abbrev pub write_of : Module → ℕ → ℕ → Access
write_of m number v = write_at (register_of number) v m
