-- The short way leaves the module as it is.
use Rattle.std.specs.Prelude.{ℕ, ◌≡◌, refl, Bool, true, false, ◌&&◌, Option, Some}
use Rattle.std.proofs.Common.{ap, ap₂, subst, sym, ◌∙◌}
use Rattle.std.specs.Bool.{beq}
use Rattle.truth.specs.Tests.{never, and_first, and_second}
use Rattle.wire.specs.declared.Line.{Line}
use Rattle.wire.specs.declared.Level.{Level}
use Rattle.wire.specs.Wire.{scl_of, sda_of, on_wire, wire}
use Rattle.wire.specs.Laws.{level_again}
use Rattle.mssp.specs.declared.Module.{Module}
use Rattle.mssp.specs.Module.{module_of}
use Rattle.mssp.specs.Drivers.{scl_pulled, sda_pulled}
use Rattle.sampling.specs.Rules.{seen_if, sampled}
use Rattle.sampling.specs.Still.{is_still}

pub equal : (a b : Bool) → beq a b ≡ true → a ≡ b
equal true true e = refl
equal true false e = never e
equal false true e = never e
equal false false e = refl

-- A line of a wire that was seen.
abbrev line_at : Bool → Bool → Bool → Line
line_at scl sda mark = record { remembered = Some (wire scl sda); mark = mark }

-- The level that is remembered is seen once more.
module _ (m : Module) (scl sda mark : Bool) (stands : scl && mark ≡ mark) where
  abbrev here : Module
  here = module_of m.config m.live m.phase (line_at scl sda mark)

  seen_alike : (on : Bool) → seen_if on here scl sda ≡ here
  seen_alike true = rw (level_again mark scl sda stands).0 (ap (λ (line : Line). module_of m.config m.live m.phase line) (level_again mark scl sda stands).1)
  seen_alike false = ap (λ (line : Line). module_of m.config m.live m.phase line) (level_again mark scl sda stands).1

  sampled_here :
      (level : ℕ) → is_still m.phase scl sda level ≡ true → sampled here (scl_of level) (sda_of level) ≡ here
  sampled_here level same =
      let scls : Bool = beq (on_wire (scl_pulled m.phase) (scl_of level)) scl in
      let sdas : Bool = beq (on_wire (sda_pulled m.phase) (sda_of level)) sda in
      ap₂ (λ (a b : Bool). seen_if m.config.sspen here a b) (equal _ scl (and_first scls sdas same)) (equal _ sda (and_second scls sdas same))
      ∙ seen_alike m.config.sspen

abbrev seen_before : Module → Option Level → Module
seen_before m rem = module_of m.config m.live m.phase (record { remembered = rem; mark = m.line.mark })

-- The law of the short way, for a mark that stands with SCL high alone.
pub sampled_still :
    (m : Module) {scl sda : Bool} (level : ℕ) → m.line.remembered ≡ Some (wire scl sda) → scl && m.line.mark ≡ m.line.mark
    → is_still m.phase scl sda level ≡ true → sampled m (scl_of level) (sda_of level) ≡ m
sampled_still m {scl} {sda} level e stands same =
    subst (λ (rem : Option Level). sampled (seen_before m rem) (scl_of level) (sda_of level) ≡ seen_before m rem) (sym e)
    (sampled_here m scl sda m.line.mark stands level same)
