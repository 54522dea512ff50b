-- One turn of a history: the items so far, and one more.
use Rattle.std.specs.Prelude.{ℕ, ◌+◌, ◌<◌, ◌≡◌, refl, List, [], length, take, get_or}
use Rattle.std.proofs.Common.{sym, ap, ◌∙◌, add-one}
use Rattle.refusals.specs.Numbers.{Verdict}
use Rattle.firmware.specs.declared.State.{State}
use Rattle.firmware.specs.Handler.{Served, served}
use Rattle.steps.specs.declared.Item.{Item}
use Rattle.steps.specs.Step.{Stepped, stepped, step_of, after, after_all}
use Rattle.history.specs.History.{item_of, history_of}
use Rattle.history.specs.Demand.{after_each_number}

pub begins : (w : Served) → w ≡ history_of w []
unfolding after_all
begins w = refl

pub goes_on :
    (w : Served) (items : List ℕ) (k : ℕ) {item : Item} {verdict : Verdict} {s t : State} {bytes left : List ℕ} → k < length items
    → served s bytes ≡ history_of w (take k items) → item ≡ item_of (get_or items k 0) → stepped verdict t left ≡ step_of s bytes item
    → served t left ≡ history_of w (take (k + 1) items)
goes_on w items k {item} h so_far is e =
    rw add-one
    (ap (λ (x : Stepped). x.left) e ∙ ap (λ (u : Served). after u item) so_far ∙ ap (after (history_of w (take k items))) is ∙ sym (after_each_number w items k h))
