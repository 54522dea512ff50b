-- What three laws of the finder say: a message ends by the code's two tests, and what is answered outside a message and to a bad level.
use Rattle.std.specs.Prelude.{ℕ, ◌≡◌, List, Bool, ◌||◌}
use Rattle.refusals.specs.declared.Refusal.TheVariants.{NoItem}
use Rattle.found.specs.Numbers.{part, not_found}
use Rattle.finder.specs.Messages.{past_end}
use Rattle.finder.specs.Find.{message_part, span_of}

abbrev pub EndTest : List ℕ → ℕ → Bool → Bool → Type 0
EndTest levels item stopped started = (stopped || started) ≡ past_end levels item

abbrev pub PartOutside : List ℕ → ℕ → Type 0
PartOutside levels item = part item 0 ≡ message_part levels item

abbrev pub SpanBad : List ℕ → ℕ → ℕ → Type 0
SpanBad levels item bad = not_found NoItem bad ≡ span_of levels item
