-- The law of a call with a bad level, by itself: the edit that has it proved for another item changes no file in which a law falls.
use Rattle.std.specs.Prelude.{ℕ, ◌<◌, ◌≡◌, List}
use Rattle.std.proofs.Common.{ap}
use Rattle.std.proofs.Math.ListN.{length}
use borrow.Author.Tests.{lt-ltb}
use Rattle.refusals.specs.declared.Refusal.TheVariants.{NoItem}
use Rattle.found.specs.Numbers.{not_found}
use Rattle.finder.specs.Find.{first_bad_level, span_of}
use Rattle.finder.specs.Laws.{SpanBad}

module _ (levels : List ℕ) (item : ℕ) {bad : ℕ} (first : bad ≡ first_bad_level levels) where
  pub span_bad : bad < length levels → SpanBad levels item bad
  unfolding span_of
  span_bad h = rw (← first, lt-ltb bad (length levels) h) (ap (not_found NoItem) first)
