-- Which bit of STAT, CON1, CON2 and CON3 stands where (01, "Register numbers").
use Rattle.std.specs.Prelude.{ℕ, ◌+◌, ◌*◌, Bool, false, ◌&&◌, eqb}
use mir.Val.{bool_byte}
use Rattle.wire.specs.Byte.{bit}
use Rattle.mssp.specs.declared.Config.{Config}
use Rattle.mssp.specs.declared.Live.{Live}
use Rattle.register_bytes.specs.declared.RegisterBytes.{RegisterBytes}

-- Eight bits as a byte, bit 7 first.
abbrev pub byte_of : Bool → Bool → Bool → Bool → Bool → Bool → Bool → Bool → ℕ
byte_of b7 b6 b5 b4 b3 b2 b1 b0 =
    bool_byte b7 * 128 + bool_byte b6 * 64 + bool_byte b5 * 32 + bool_byte b4 * 16 + bool_byte b3 * 8 + bool_byte b2 * 4
    + bool_byte b1 * 2 + bool_byte b0

-- SMP, CKE, D/A, P, S, R/W, UA, BF. UA is the phase's to say (02, 9).
abbrev pub stat_of : Config → Live → Bool → ℕ
stat_of c l ua = byte_of c.smp c.cke l.da l.p l.s l.rw ua l.bf

-- WCOL, SSPOV, SSPEN, CKP, SSPM.
abbrev pub con1_of : Config → Live → ℕ
con1_of c l = byte_of c.wcol l.sspov c.sspen l.ckp c.sspm3 c.sspm2 c.sspm1 c.sspm0

-- SSPM by itself, the low half of CON1, as a number.
abbrev pub sspm_of : Config → ℕ
sspm_of c = byte_of false false false false c.sspm3 c.sspm2 c.sspm1 c.sspm0

-- GCEN, ACKSTAT, ACKDT, four bits of the master, SEN.
abbrev pub con2_bits : Bool → Bool → Bool → Bool → ℕ
con2_bits gcen ackstat ackdt sen = byte_of gcen ackstat ackdt false false false false sen

abbrev pub con2_of : Config → Live → ℕ
con2_of c l = con2_bits c.gcen l.ackstat c.ackdt c.sen

-- ACKTIM, PCIE, SCIE, BOEN, SDAHT, SBCDE, AHEN, DHEN. BOEN is not modelled.
abbrev pub con3_bits : Bool → Bool → Bool → Bool → Bool → Bool → Bool → ℕ
con3_bits acktim pcie scie sdaht sbcde ahen dhen = byte_of acktim pcie scie false sdaht sbcde ahen dhen

abbrev pub con3_of : Config → Live → ℕ
con3_of c l = con3_bits l.acktim c.pcie c.scie c.sdaht c.sbcde c.ahen c.dhen

-- The four together.
abbrev pub bytes_of : Config → Live → Bool → RegisterBytes
bytes_of c l ua = record { stat = stat_of c l ua; con1 = con1_of c l; con2 = con2_of c l; con3 = con3_of c l }

-- ---- what of a byte a register holds: the bits that it has; UA is none of them
abbrev pub stat_held : ℕ → ℕ
stat_held v = byte_of (bit 7 v) (bit 6 v) (bit 5 v) (bit 4 v) (bit 3 v) (bit 2 v) false (bit 0 v)

abbrev pub con1_held : ℕ → ℕ
con1_held v = byte_of (bit 7 v) (bit 6 v) (bit 5 v) (bit 4 v) (bit 3 v) (bit 2 v) (bit 1 v) (bit 0 v)

abbrev pub con2_held : ℕ → ℕ
con2_held v = con2_bits (bit 7 v) (bit 6 v) (bit 5 v) (bit 0 v)

abbrev pub con3_held : ℕ → ℕ
con3_held v = con3_bits (bit 7 v) (bit 6 v) (bit 5 v) (bit 3 v) (bit 2 v) (bit 1 v) (bit 0 v)

-- Four bytes that the registers can hold: no other bit is 1.
abbrev pub are_held : ℕ → ℕ → ℕ → ℕ → Bool
are_held stat con1 con2 con3 =
    eqb (stat_held stat) stat && eqb (con1_held con1) con1 && eqb (con2_held con2) con2 && eqb (con3_held con3) con3
