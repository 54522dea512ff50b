-- The messages of a wire record (01, "The wire record and the message under the cursor"): which items are a Start or a
-- Stop, where an item lies, and where its message ends. Items are numbered from 0; the edges are those of crate `wire`.
use Rattle.std.specs.Prelude.{ℕ, zero, suc, ◌-◌, ◌<◌, ◌≤◌, ◌+◌, ◌≡◌, List, ◌⊎◌, Bool, true, false, cond, ◌||◌, length, get_or, Option, None, Some}
use Rattle.items.specs.First.{FirstAbove, NoneAbove}
use Rattle.wire.specs.declared.Line.{Line}
use Rattle.wire.specs.declared.Edge.{Edge}
use Rattle.wire.specs.Wire.{scl_of, sda_of, edge_of, line_next, unseen, is_start, is_stop}

-- An item's level. Past the record it is 0, both lines low, which makes neither Start nor Stop.
abbrev pub level_at : List ℕ → ℕ → ℕ
level_at levels item = get_or levels item 0

-- What a reader has seen before an item: nothing at item 0, then one level more with each item. The mark of a Start not
-- yet followed by a low SCL is part of it (01, "From levels to bytes").
unfoldable pub line_before : List ℕ → ℕ → Line
line_before levels zero = unseen
line_before levels (suc item) = line_next (line_before levels item) (scl_of (level_at levels item)) (sda_of (level_at levels item))

-- The edge that an item's level makes.
unfoldable pub edge_at : List ℕ → ℕ → Edge
edge_at levels item = edge_of (line_before levels item) (scl_of (level_at levels item)) (sda_of (level_at levels item))

-- The item whose level makes a Start is the first of its message; the one whose level makes the Stop is the last.
abbrev pub start_at : List ℕ → ℕ → Bool
start_at levels item = is_start (edge_at levels item)

abbrev pub stop_at : List ℕ → ℕ → Bool
stop_at levels item = is_stop (edge_at levels item)

abbrev pub stop_before : List ℕ → ℕ → Bool
stop_before levels zero = false
stop_before levels (suc item) = stop_at levels item

-- Where an item lies: a Start opens a message; after a Stop an item lies in none; any other lies where the one before it
-- lies. The tests: the item is a Start, the item before is a Stop.
abbrev pub lies_by : Bool → Bool → Option ℕ → ℕ → Option ℕ
lies_by true stopped before item = Some item
lies_by false true before item = None
lies_by false false before item = before

-- Nothing is seen before item 0, so it makes no edge and lies in no message.
unfoldable pub lies_at : List ℕ → ℕ → Option ℕ
lies_at levels zero = None
lies_at levels (suc item) = lies_by (start_at levels (suc item)) (stop_at levels item) (lies_at levels item) (suc item)

-- An item is past the message under way: the item before is its Stop, or this one is the next Start.
abbrev pub past_end : List ℕ → ℕ → Bool
past_end levels item = stop_before levels item || start_at levels item

-- The first item past the message under way, from this one on with so many left in the record; at the latest its end.
unfoldable pub end_from : List ℕ → ℕ → ℕ → ℕ
end_from levels item zero = item
end_from levels item (suc left) =
    let further : ℕ = end_from levels (suc item) left in
    cond (past_end levels item) item further

-- The end, not included, of the message that an item lies in.
abbrev pub end_at : List ℕ → ℕ → ℕ
end_at levels item = end_from levels (suc item) (length levels - suc item)

-- What it is to be a message, said of the items themselves. First: the message that a Start opens has come to an item,
-- with no other Start since and no Stop before the item.
pub record UnderWay (levels : List ℕ) (start item : ℕ) : Type 0 where
  pub opens : start_at levels start ≡ true
  pub upto : start ≤ item
  pub one_start : (k : ℕ) → start < k → k ≤ item → start_at levels k ≡ false
  pub no_stop : (k : ℕ) → start ≤ k → k < item → stop_at levels k ≡ false

-- Then the whole of it, first and last item: the last is its Stop, or the next is a Start, or the record ends.
pub record IsMessage (levels : List ℕ) (start last : ℕ) : Type 0 where
  pub way : UnderWay levels start last
  pub within : last < length levels
  pub ends : (stop_at levels last ≡ true) ⊎ ((start_at levels (suc last) ≡ true) ⊎ (suc last ≡ length levels))

-- Every level of the record is one of the four; the first item whose level is none of them.
abbrev pub Good : List ℕ → Type 0
Good levels = NoneAbove 3 levels

abbrev pub FirstBad : List ℕ → ℕ → Type 0
FirstBad levels item = FirstAbove 3 levels item

-- The item lies in no message.
abbrev pub InNoMessage : List ℕ → ℕ → Type 0
InNoMessage levels item = (start last : ℕ) → IsMessage levels start last → start ≤ item → item ≤ last → ⊥

-- The part is the message that the item lies in, all of it and no more.
pub record TheMessage (levels : List ℕ) (item start count : ℕ) : Type 0 where
  pub last : ℕ
  pub size : start + count ≡ suc last
  pub since : start ≤ item
  pub upto : item ≤ last
  pub message : IsMessage levels start last
