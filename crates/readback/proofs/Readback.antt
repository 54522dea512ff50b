-- What a read gives after a write, for every state and all 256 values, and what each write leaves alone
-- (01, "Register numbers").
use Rattle.readback.specs.Readback.{ReadbackBuf, LeavesPlace, RefusedLeaves}
use Rattle.std.specs.Prelude.{ℕ, ◌<◌, ◌≡◌, refl, Bool, true, false, ◌&&◌, not, Result, Ok, Err}
use Rattle.std.proofs.Common.{sym, ◌∙◌}
use mir.Val.{bool_byte}
use Rattle.wire.specs.Byte.{bit}
use Rattle.refusals.specs.declared.Refusal.{Refusal}
use Rattle.refusals.specs.Numbers.{accepted}
use Rattle.mssp.specs.declared.Module.{Module}
use Rattle.mssp.specs.Phases.{is_held_for_add}
use Rattle.registers.specs.declared.Register.{Register}
use Rattle.registers.specs.declared.Register.TheVariants.{Buf, Stat, Con1, Con2, Con3, Add, Msk, Flag}
use Rattle.registers.specs.Values.{register_of}
use Rattle.register_bytes.specs.Bytes.{byte_of}
use Rattle.writes.specs.Writes.{con1_stored, con1_then, written, write_at}
use Rattle.register_bytes.proofs.Bits.{bits_back}
use Rattle.readback.specs.Bits.{byte_back}
use Rattle.readback.specs.Tables.{holds, takes, clears, bit_after, byte_after, ReadsBack, apart, values}

-- Of an old byte made of eight bits.
made :
    (t c v : ℕ) (b7 b6 b5 b4 b3 b2 b1 b0 : Bool) → byte_after t c (byte_of b7 b6 b5 b4 b3 b2 b1 b0) v
    ≡ byte_of (bit_after (bit 7 t) (bit 7 c) b7 (bit 7 v)) (bit_after (bit 6 t) (bit 6 c) b6 (bit 6 v)) (bit_after (bit 5 t) (bit 5 c) b5 (bit 5 v)) (bit_after (bit 4 t) (bit 4 c) b4 (bit 4 v)) (bit_after (bit 3 t) (bit 3 c) b3 (bit 3 v)) (bit_after (bit 2 t) (bit 2 c) b2 (bit 2 v)) (bit_after (bit 1 t) (bit 1 c) b1 (bit 1 v)) (bit_after (bit 0 t) (bit 0 c) b0 (bit 0 v))
made t c v b7 b6 b5 b4 b3 b2 b1 b0 =
    let k = bits_back b7 b6 b5 b4 b3 b2 b1 b0 in
    rw (k.is7, k.is6, k.is5, k.is4, k.is3, k.is2, k.is1, k.is0)

con1_kept :
    (off ckp : Bool) (v : ℕ) (m : Module) → ckp ≡ bit 4 v → holds Con1 (con1_then off ckp (con1_stored v m)) ≡ holds Con1 (con1_stored v m)
con1_kept true ckp v m e = refl
con1_kept false true v m e = rw (← e)
con1_kept false false v m e = refl

-- The flag's byte has no other bit.
lone_bit : (b : Bool) → bool_byte b ≡ byte_of false false false false false false false b
lone_bit true = refl
lone_bit false = refl

-- BUF is what was written while the clock is held for sending, else what it was.
pub readback_buf : ReadbackBuf
readback_buf v m = refl

module _ (v : ℕ) (m : Module) where
  stat_back : ReadsBack Stat v m
  stat_back =
      let c = m.config in let l = m.live in
      sym (made (takes Stat) (clears Stat) v c.smp c.cke l.da l.p l.s l.rw (is_held_for_add m.phase) l.bf)

  con1_back : ReadsBack Con1 v m
  con1_back =
      let c = m.config in let l = m.live in
      con1_kept (c.sspen && not (bit 5 v)) (bit 4 v) v m refl
      ∙ sym (made (takes Con1) (clears Con1) v c.wcol l.sspov c.sspen l.ckp c.sspm3 c.sspm2 c.sspm1 c.sspm0)

  con2_back : ReadsBack Con2 v m
  con2_back =
      let c = m.config in let l = m.live in
      sym (made (takes Con2) (clears Con2) v c.gcen l.ackstat c.ackdt false false false false c.sen)

  con3_back : ReadsBack Con3 v m
  con3_back =
      let c = m.config in let l = m.live in
      sym (made (takes Con3) (clears Con3) v l.acktim c.pcie c.scie false c.sdaht c.sbcde c.ahen c.dhen)

  flag_back : ReadsBack Flag v m
  flag_back =
      let old = m.live.sspif in
      rw (lone_bit old)
      (lone_bit (old && bit 0 v) ∙ sym (made (takes Flag) (clears Flag) v false false false false false false false old))

-- Every register but BUF, in every state and at each of the 256 values.
pub readback : (r : Register) (v : ℕ) (m : Module) → (r ≡ Buf → ⊥) → v < 256 → ReadsBack r v m
readback Buf v m other h = absurd (other refl)
readback Stat v m other h = stat_back v m
readback Con1 v m other h = con1_back v m
readback Con2 v m other h = con2_back v m
readback Con3 v m other h = con3_back v m
readback Add v m other h = sym (byte_back v h)
readback Msk v m other h = sym (byte_back v h)
readback Flag v m other h = flag_back v m

con1_leaves : (off ckp : Bool) (m : Module) → values (apart Con1) (con1_then off ckp m) ≡ values (apart Con1) m
con1_leaves true ckp m = refl
con1_leaves false true m = refl
con1_leaves false false m = refl

-- The registers apart from the one written keep their values.
pub leaves : (r : Register) (v : ℕ) (m : Module) → values (apart r) (written r v m) ≡ values (apart r) m
leaves Buf v m = refl
leaves Stat v m = refl
leaves Con1 v m = con1_leaves (m.config.sspen && not (bit 5 v)) (bit 4 v) (con1_stored v m)
leaves Con2 v m = refl
leaves Con3 v m = refl
leaves Add v m = refl
leaves Msk v m = refl
leaves Flag v m = refl

-- Only a write to CON1 moves the line, and only that or one to ADD the phase: ADD's ends the hold for it.
pub leaves_place : LeavesPlace
leaves_place Buf v m other = (refl, refl)
leaves_place Stat v m other = (refl, refl)
leaves_place Con1 v m other = absurd (other refl)
leaves_place Con2 v m other = (refl, refl)
leaves_place Con3 v m other = (refl, refl)
leaves_place Add v m other = (refl, refl)
leaves_place Msk v m other = (refl, refl)
leaves_place Flag v m other = (refl, refl)

-- A refused write leaves the module as it was given.
pub refused_leaves : RefusedLeaves
refused_leaves number v m e = at (register_of number) e
  where
    at : (found : Result Register Refusal) → accepted (write_at found v m).verdict ≡ false → (write_at found v m).mssp ≡ m
    at (Ok r) e = rw e
    at (Err why) e = refl
