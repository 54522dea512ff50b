-- Demand 2 over a whole history: after each item state and window are the definitions' fold over the items up to it, and the
-- state is a state. `history::after` is proved to give that fold, for every list of items, every count and every state.
use Rattle.std.specs.Prelude.{ℕ, suc, ◌<◌, ◌/◌, ◌≡◌, List, [], ◌∷◌, map, length, take, get_or}
use Rattle.std.proofs.Common.{arith, take-suc}
use Rattle.firmware.specs.Handler.{Served}
use Rattle.steps.specs.Step.{after, after_all}
use Rattle.steps.specs.Laws.{after_joined}
use Rattle.trace.specs.Run.{item_at}
use Rattle.runkept.specs.States.{ValidState}
use Rattle.runkept.proofs.Kept.{items_kept}
use Rattle.history.specs.History.{item_of, history_of}

-- What the history leaves after item k is that item's step on what it left before: no item is passed over, at any place.
pub after_each_number :
    (w : Served) (items : List ℕ) (k : ℕ) → k < length items
    → history_of w (take (suc k) items) ≡ after (history_of w (take k items)) (item_of (get_or items k 0))
unfolding after_all
after_each_number w items k h = rw (take-suc items k 0) (after_joined item_of w (take k items) (get_or items k 0 ∷ []))

-- A trace is a history: a byte is the same item in both.
pub byte_item : (byte : ℕ) → byte < 65536 → item_of byte ≡ item_at byte
byte_item byte h = let e : byte / 65536 ≡ 0 = omega arith in rw e

-- After every history a state is a state.
pub history_kept : (w : Served) (items : List ℕ) → ValidState w.state → ValidState (history_of w items).state
history_kept w items v = items_kept w (map item_of items) v
