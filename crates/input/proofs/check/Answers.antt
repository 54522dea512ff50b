-- `input::check` meets its contract: the items counted so far, and what is left of the input.
use Rattle.std.specs.Prelude.{Ok}
use Rattle.std.proofs.Common.{sym, refl, ◌∙◌, arith}
use Rattle.input.specs.Laws.{count_at_most, check_more, check_cut, check_end}
use Rattle.input.proofs.check.Goals as goal

pub returns-in_default : goal.returns-in_default
returns-in_default c =
    let l = c.loop-byte in
    sym (check_cut _ l.byte-index l.items c.loop-byte-test.true (sym c.in_default.is ∙ c.meaning_of.ensures) refl refl) ∙ l.invariant.what_is_left

pub loop-byte-preserved : goal.loop-byte-preserved
loop-byte-preserved c =
    let l = c.loop-byte in
    let meaning = c.in-Ok.meaning in
    let more = check_more _ l.byte-index l.items c.loop-byte-test.true (sym c.in-Ok.is ∙ c.meaning_of.ensures) refl refl c.item_count-items.ensures in
    record { in_range = omega (arith, c.item_count-items.ensures, count_at_most (Ok meaning)); what_is_left = sym more ∙ l.invariant.what_is_left }

pub returns : goal.returns
returns c = let l = c.loop-byte in sym (check_end _ l.byte-index l.items c.loop-byte-test.false) ∙ l.invariant.what_is_left
