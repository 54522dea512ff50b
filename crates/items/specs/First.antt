-- The first item of a kind (01, "Calls, refusals and their order"): how many items stand before it. The number of the first
-- item out of range goes beside refusal 4.
use Rattle.std.specs.Prelude.{ℕ, suc, ◌+◌, ◌<◌, ◌≤◌, ◌≡◌, Bool, cond, ◌&&◌, List, [], ◌∷◌, eqb, leb, length, drop, get_or}

-- How many items stand before the first one that is not good; all of them where there is none.
unfoldable pub leading : (ℕ → Bool) → List ℕ → ℕ
leading good [] = 0
leading good (item ∷ items) = cond (good item) (suc (leading good items)) 0

-- Before the first one above `most`.
abbrev pub first_above : ℕ → List ℕ → ℕ
first_above most items = leading (λ (x : ℕ). leb x most) items

-- What it is to be that one, said of the items themselves: none before it is above `most`.
pub record FirstAbove (most : ℕ) (items : List ℕ) (k : ℕ) : Type 0 where
  pub within : k < length items
  pub above : most < get_or items k 0
  pub before : (i : ℕ) → i < k → get_or items i 0 ≤ most

abbrev pub NoneAbove : ℕ → List ℕ → Type 0
NoneAbove most items = (k : ℕ) → k < length items → get_or items k 0 ≤ most

-- As many as are equal to one item from the start on.
abbrev pub sames : ℕ → List ℕ → ℕ
sames item items = leading (λ (x : ℕ). eqb x item) items

-- Eight items from i on are good.
abbrev pub eight_of : (ℕ → Bool) → List ℕ → ℕ → Bool
eight_of good items i =
    good (get_or items i 0) && good (get_or items (i + 1) 0) && good (get_or items (i + 2) 0) && good (get_or items (i + 3) 0)
    && good (get_or items (i + 4) 0) && good (get_or items (i + 5) 0) && good (get_or items (i + 6) 0) && good (get_or items (i + 7) 0)

-- From a place on, every item before r is good: the first that is not stands at r or behind it.
pub record Reached (good : ℕ → Bool) (items : List ℕ) (from r : ℕ) : Type 0 where
  pub behind : from ≤ r
  pub within : r ≤ length items
  pub same : r + leading good (drop r items) ≡ from + leading good (drop from items)
