-- The lanes of a wire record: its items drawn one after the other, over a window of the caller's buffer; and the refusals, 5 before 4.
use Rattle.std.specs.Prelude.{ℕ, cond, List, [], ◌∷◌, ◌++◌, ltb, length, take, drop}
use Rattle.refusals.specs.Numbers.{accepted}
use Rattle.items.specs.First.{first_above}
use Rattle.mssp.specs.declared.Phase.{Phase}
use Rattle.mssp.specs.declared.Module.{Module}
use Rattle.mssp.specs.Drivers.{scl_pulled}
use Rattle.stretch.specs.declared.Stretch.{Stretch}
use Rattle.stretch.specs.Stretch.{stretch_of}
use Rattle.firmware.specs.declared.State.{State}
use Rattle.firmware.specs.Handler.{Served, served}
use Rattle.firmware.specs.Window.{window_of, in_buffer, WindowOutcome}
use Rattle.trace.specs.Window.{judged_of}
use Rattle.words.specs.Words.{is_called, item_taken, word_at}

-- What the items leave, each on what the one before it left; and their words.
unfoldable pub all_taken : Served → List ℕ → Served
all_taken w [] = w
all_taken w (item ∷ items) = all_taken (item_taken w item) items

unfoldable pub all_words : Served → List ℕ → List ℕ
all_words w [] = []
all_words w (item ∷ items) = word_at w item ∷ all_words (item_taken w item) items

-- The record as a trace: a handler call, 4, before each item at which the handler is called.
unfoldable pub driven : Served → List ℕ → List ℕ
driven w [] = []
driven w (item ∷ items) =
    let rest : List ℕ = item ∷ driven (item_taken w item) items in cond (is_called w.state.mssp.phase item) (4 ∷ rest) rest

-- All that drawing decides: what is left, and every word.
pub record Laned : Type 0 where
  pub left : Served
  pub lanes : List ℕ

abbrev pub laned : Served → List ℕ → Laned
laned left lanes = record { left = left; lanes = lanes }

abbrev pub laned_of : Served → List ℕ → Laned
laned_of w items = laned (all_taken w items) (all_words w items)

-- The items before a call of the handler can come: in a hold those with SCL low, else all.
abbrev pub free_of : Phase → List ℕ → ℕ
free_of ph items = cond (scl_pulled ph) (first_above 1 items) (length items)

-- The stretch ahead, up to such a call.
abbrev pub free_stretch : Module → List ℕ → Stretch
free_stretch m items = stretch_of m (take (free_of m.phase items) items)

-- ---- over a window of the caller's buffer
abbrev pub laned_in : State → List ℕ → ℕ → ℕ → List ℕ → Laned
laned_in s buffer start n items =
    laned (in_buffer (λ bytes. all_taken (served s bytes) items) buffer start n) (all_words (served s (window_of start n buffer)) items)

-- As many items are taken as the shorter of record and lanes has.
abbrev pub shorter_of : ℕ → ℕ → ℕ
shorter_of items room = cond (ltb room items) room items

-- All that a drawing decides: what work over a window does, and every word of the lanes.
pub record Drawing : Type 0 where
  pub outcome : WindowOutcome
  pub lanes : List ℕ

abbrev pub drawing : WindowOutcome → List ℕ → Drawing
drawing outcome lanes = record { outcome = outcome; lanes = lanes }

-- Done, the words stand at the front of the lanes; refused, these are as they were.
abbrev pub drawn_if : WindowOutcome → List ℕ → List ℕ → Drawing
drawn_if outcome words lanes = drawing outcome (cond (accepted outcome.verdict) (words ++ drop (length words) lanes) lanes)

-- The items that are taken are levels, 0 to 3.
abbrev pub draw_items : State → List ℕ → ℕ → ℕ → List ℕ → List ℕ → Drawing
draw_items s buffer start n items lanes =
    let done : Laned = laned_in s buffer start n items in drawn_if (judged_of 3 s buffer start n items done.left) done.lanes lanes

abbrev pub draw_in_of : State → List ℕ → ℕ → ℕ → List ℕ → List ℕ → Drawing
draw_in_of s buffer start n items lanes = draw_items s buffer start n (take (shorter_of (length items) (length lanes)) items) lanes
