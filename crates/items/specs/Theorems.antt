-- What is called the first bad item is the first, and no other number is.
use Rattle.std.specs.Prelude.{ℕ, zero, suc, ◌<◌, ◌≤◌, ◌≡◌, refl, Bool, true, false, cond, List, [], ◌∷◌, leb, ltb, length, get_or}
use Rattle.std.proofs.Common.{arith, leb-true, leb-false, ltb-true, ltb-false}
use Rattle.items.specs.First.{leading, first_above, FirstAbove, NoneAbove}

within_if : (good : Bool) (k n : ℕ) → k ≤ n → cond good (suc k) 0 ≤ suc n
within_if true k n h = omega arith
within_if false k n h = omega arith

pub leading_within : (good : ℕ → Bool) (items : List ℕ) → leading good items ≤ length items
unfolding leading
leading_within good [] = omega arith
leading_within good (x ∷ xs) = within_if (good x) (leading good xs) (length xs) (leading_within good xs)

pub first_within : (most : ℕ) (items : List ℕ) → first_above most items ≤ length items
first_within most items = leading_within (λ (x : ℕ). leb x most) items

before_if :
    (most : ℕ) (good : Bool) (x : ℕ) (xs : List ℕ) (k : ℕ) → leb x most ≡ good → ((i : ℕ) → i < k → get_or xs i 0 ≤ most)
    → (i : ℕ) → i < cond good (suc k) 0 → get_or (x ∷ xs) i 0 ≤ most
before_if most true x xs k e f zero h = leb-true x most e
before_if most true x xs k e f (suc i) h = f i (omega arith)
before_if most false x xs k e f i h = absurd (omega arith)

-- Every byte before it is an item.
pub before_first : (most : ℕ) (items : List ℕ) (i : ℕ) → i < first_above most items → get_or items i 0 ≤ most
unfolding leading
before_first most [] i h = absurd (omega arith)
before_first most (x ∷ xs) i h = before_if most (leb x most) x xs (first_above most xs) refl (before_first most xs) i h

at_if :
    (most : ℕ) (good : Bool) (x : ℕ) (xs : List ℕ) (k : ℕ) → leb x most ≡ good → (k < length xs → most < get_or xs k 0)
    → cond good (suc k) 0 < suc (length xs) → most < get_or (x ∷ xs) (cond good (suc k) 0) 0
at_if most true x xs k e f h = f (omega arith)
at_if most false x xs k e f h = leb-false x most e

-- It is none itself, unless the trace has ended.
pub at_first : (most : ℕ) (items : List ℕ) → first_above most items < length items → most < get_or items (first_above most items) 0
unfolding leading
at_first most [] h = absurd (omega arith)
at_first most (x ∷ xs) h = at_if most (leb x most) x xs (first_above most xs) refl (at_first most xs) h

-- So there is a first one, or none.
module _ (most : ℕ) (items : List ℕ) where
  pub first_above_lem : first_above most items < length items → FirstAbove most items (first_above most items)
  first_above_lem h = record { within = h; above = at_first most items h; before = before_first most items }

  pub none_above : length items ≤ first_above most items → NoneAbove most items
  none_above h k l = before_first most items k (omega arith)

-- No other number is: before it items, at it none or the trace's end.
pub first_only :
    (most : ℕ) (items : List ℕ) (k : ℕ) → k ≤ length items → ((i : ℕ) → i < k → get_or items i 0 ≤ most)
    → (k < length items → most < get_or items k 0) → k ≡ first_above most items
first_only most items k h f g = earlier (ltb k (first_above most items)) refl
  where
    later : (t : Bool) → ltb (first_above most items) k ≡ t → first_above most items ≤ k → k ≡ first_above most items
    later true e l =
        let m = ltb-true (first_above most items) k e in
        let a = f (first_above most items) m in
        let b = at_first most items (omega arith) in
        absurd (omega arith)
    later false e l = let m = ltb-false (first_above most items) k e in omega arith

    earlier : (t : Bool) → ltb k (first_above most items) ≡ t → k ≡ first_above most items
    earlier true e =
        let m = ltb-true k (first_above most items) e in
        let a = before_first most items k m in
        let b = g (omega (arith, first_within most items)) in
        absurd (omega arith)
    earlier false e = later (ltb (first_above most items) k) refl (ltb-false k (first_above most items) e)

pub one_first : {most : ℕ} {items : List ℕ} {k : ℕ} → FirstAbove most items k → k ≡ first_above most items
one_first {most} {items} {k} f = let w = f.within in first_only most items k (omega arith) f.before (λ h. f.above)

pub none_first : (most : ℕ) (items : List ℕ) → NoneAbove most items → length items ≡ first_above most items
none_first most items none = first_only most items (length items) (omega arith) none (λ h. absurd (omega arith))
