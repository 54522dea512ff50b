-- A module comes back from its part of an image, and what the code of its bytes comes to.
use Rattle.std.specs.Prelude.{ℕ, ◌-◌, ◌≤◌, ◌≡◌, refl, Bool, true, false, ◌&&◌, List, ◌++◌, eqb, length, get_or, take, drop}
use Rattle.std.proofs.Common.{sym, ap, ◌∙◌, append-nil, length-drop, drop_of_length-le, take_all, drop-drop, arith, eq-eqb}
use Rattle.std.proofs.Math.Bool.{and_assoc, and-true}
use mir.Val.{bool_byte}
use Rattle.codec.specs.Codec.{same_bytes, same_at}
use Rattle.codec.proofs.Laws.{same_at_lem}
use Rattle.wire.specs.Byte.{bit}
use Rattle.wire.specs.Laws.{bool_back}
use Rattle.wire.specs.declared.Line.{Line}
use Rattle.mssp.specs.declared.Config.{Config}
use Rattle.mssp.specs.declared.Live.{Live}
use Rattle.mssp.specs.declared.Phase.{Phase}
use Rattle.mssp.specs.declared.Module.{Module}
use Rattle.register_bytes.specs.Bytes.{stat_of, con1_of, con2_of, con3_of, are_held}
use Rattle.register_bytes.proofs.Bits.{bits_back}
use Rattle.phase_image.specs.PhasePart.{stand_part, is_stand}
use Rattle.phase_image.proofs.Laws.{phase_back, wire_back}
use Rattle.module_image.specs.ModulePart.{module_length, config_from, live_from, module_part, module_from, with_module, with_stand}

bit_back : (b : Bool) → bit 0 (bool_byte b) ≡ b
bit_back true = refl
bit_back false = refl

-- The eight registers as they read hold every bit of the module.
registers_back :
    (c : Config) (l : Live) → (config_from (stat_of c l false) (con1_of c l) (con2_of c l) (con3_of c l) c.add c.msk ≡ c)
    × (live_from l.buf (stat_of c l false) (con1_of c l) (con2_of c l) (con3_of c l) (bool_byte l.sspif) (bool_byte l.full) ≡ l)
registers_back c l =
    let stat = bits_back c.smp c.cke l.da l.p l.s l.rw false l.bf in
    let con1 = bits_back c.wcol l.sspov c.sspen l.ckp c.sspm3 c.sspm2 c.sspm1 c.sspm0 in
    let con2 = bits_back c.gcen l.ackstat c.ackdt false false false false c.sen in
    let con3 = bits_back l.acktim c.pcie c.scie false c.sdaht c.sbcde c.ahen c.dhen in (
      simp (stat.is7, stat.is6, con1.is7, con1.is5, con1.is3, con1.is2, con1.is1, con1.is0, con2.is7, con2.is5, con2.is0, con3.is6, con3.is5, con3.is3, con3.is2, con3.is1, con3.is0),
      simp (stat.is5, stat.is4, stat.is3, stat.is2, stat.is0, con1.is6, con1.is4, con2.is6, con3.is7, bit_back),
    )

-- Whatever follows the part.
pub module_back : (m : Module) (rest : List ℕ) → module_from (module_part m ++ rest) ≡ m
module_back m rest =
    let back = registers_back m.config m.live in
    rw (back.0, back.1) (simp (bool_back, phase_back, wire_back))

-- ---- byte by byte
same_byte : (x : ℕ) → eqb x x ≡ true
same_byte x = eq-eqb x x refl

module _ (b : List ℕ) {held stand : Bool} (l : module_length ≤ length b) (registers : held ≡ are_held (get_or b 1 0) (get_or b 2 0) (get_or b 3 0) (get_or b 4 0)) (standing : stand ≡ is_stand (get_or b 8 0) (get_or b 9 0) (get_or b 10 0) (get_or b 11 0) (get_or b 12 0) (get_or b 13 0) (get_or b 14 0)) where
  abbrev eachByte : Bool
  eachByte = held && eqb (bool_byte (bit 0 (get_or b 7 0))) (get_or b 7 0) && stand && eqb (bool_byte (bit 0 (get_or b 15 0))) (get_or b 15 0)

  at_places : eachByte ≡ same_at (module_part (module_from b)) 0 b
  at_places = simp (registers, standing, and_assoc, and-true, same_byte)

  pub part_byte_by_byte : eachByte ≡ same_bytes (module_part (module_from b)) (take module_length b)
  part_byte_by_byte = at_places ∙ sym (same_at_lem (module_part (module_from b)) b 0 l)

-- ---- written over what bytes begin with
pub saved :
    (m : Module) (b : List ℕ) {part left : List ℕ} → part ≡ module_part m
    → left ≡ take (length part) part ++ drop (length part) b → left ≡ with_module m b
saved m b e f = simp (f, e)

pub stand_saved :
    (ph : Phase) (line : Line) (b : List ℕ) {part lent : List ℕ} → part ≡ stand_part ph line
    → lent ≡ take (length part) part ++ drop (length part) (take (length b - 8) (drop 8 b))
    → take 8 b ++ (lent ++ drop (length b - 8) (drop 8 b)) ≡ with_stand ph line b
stand_saved ph line b e f =
    let rest : length (drop 8 b) ≤ length b - 8 = simp length-drop (omega arith) in
    simp (f, e, take_all (length b - 8) (drop 8 b) rest, drop_of_length-le (drop 8 b) rest, append-nil)
    (ap (λ (after : List ℕ). take 8 b ++ (stand_part ph line ++ after)) (drop-drop 7 8 b))
