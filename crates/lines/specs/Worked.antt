-- The paper's example of a report (01, "Report program", and P5), a general call (02, 1), an empty input and one of a `g` alone,
-- and what a line's pointer is.
use Rattle.std.specs.Prelude.{ℕ, ◌≡◌, refl, List, []}
use Rattle.reader.specs.declared.Heard.TheVariants.{Silence}
use Rattle.steps.specs.declared.Item.{Item}
use Rattle.steps.specs.declared.Item.TheVariants.{Sample, Call, Read, Write, NotAnItem}
use Rattle.input.specs.Input.{parse}
use Rattle.watch.specs.declared.World.{World}
use Rattle.watch.specs.Watch.{scene_after}
use Rattle.text.specs.Text.{said, decimal}
use Rattle.lines.specs.Report.{lines_from, report_of}

pub worked :
    report_of (said "32 0202 1313 0202 0202 131h023")
    ≡ said "item event byte ack pointer\n1 S -- - 0\n20 A 30 0 0\n24 P -- - 0\nend 25\n"
unfolding report_of parse lines_from decimal
worked = refl

pub general_call :
    report_of (said "g32 0202 0202 0202 0202 131h023")
    ≡ said "item event byte ack pointer\n1 S -- - 0\n20 G 00 0 0\n24 P -- - 0\nend 25\n"
unfolding report_of parse lines_from decimal
general_call = refl

pub empty : report_of [] ≡ said "item event byte ack pointer\nend 0\n"
unfolding report_of parse lines_from decimal
empty = refl

pub general_call_alone : report_of (said "g") ≡ said "item event byte ack pointer\nend 0\n"
unfolding report_of parse lines_from decimal
general_call_alone = refl

-- Only a handler call moves the pointer, and it makes no event: at an event the pointer is the same before and after.
pub pointer_at_event :
    (w : World) (memory : List ℕ) (x : Item) → ((scene_after w memory x).watched.heard ≡ Silence → ⊥)
    → (scene_after w memory x).watched.world.state.handler.pointer ≡ w.state.handler.pointer
pointer_at_event w memory (Sample scl sda) h = refl
pointer_at_event w memory Call h = absurd (h refl)
pointer_at_event w memory (Read number) h = refl
pointer_at_event w memory (Write number value) h = refl
pointer_at_event w memory NotAnItem h = refl
