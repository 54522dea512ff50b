-- Laws of the wire and of bits.
use Rattle.std.specs.Prelude.{◌≤◌, ◌≡◌, refl, Bool, true, false, ◌&&◌, eqb, Some}
use Rattle.std.proofs.Common.{ap, arith}
use mir.Val.{bool_byte}
use Rattle.wire.specs.declared.Edge.TheVariants.{Still}
use Rattle.wire.specs.Wire.{wire, edge_from, line_after}

-- A bool's number is 0 or 1.
pub one : (b : Bool) → bool_byte b ≤ 1
one true = omega arith
one false = omega arith

-- It is 1 where the bool is true.
pub bool_back : (b : Bool) → eqb (bool_byte b) 1 ≡ b
bool_back true = refl
bool_back false = refl

-- The level that is remembered, once more: it makes no edge, and the mark, which a low SCL ends, stays where it can stand.
pub level_again :
    (mark scl sda : Bool) → scl && mark ≡ mark
    → (edge_from mark (Some (wire scl sda)) scl sda ≡ Still) × (line_after mark Still scl sda ≡ record { remembered = Some (wire scl sda); mark = mark })
level_again mark false sda e = (refl, ap (λ (x : Bool). record { remembered = Some (wire false sda); mark = x }) e)
level_again true true sda e = (refl, refl)
level_again false true true e = (refl, refl)
level_again false true false e = (refl, refl)
