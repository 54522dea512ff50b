-- The first item of a kind, by what is left of the items.
use Rattle.std.specs.Prelude.{ℕ, ◌+◌, ◌<◌, ◌≤◌, ◌≡◌, refl, Bool, true, false, ◌&&◌, List, length, drop, get_or}
use Rattle.std.proofs.Common.{sym, ap, ◌∙◌, arith, add-one, drop_of_length-le}
use Rattle.std.proofs.Math.Seq.{drop-cons}
use Rattle.truth.specs.Tests.{and_first, and_second}
use Rattle.items.specs.First.{leading, eight_of, Reached}

both : {a b : Bool} → a && b ≡ true → (a ≡ true) × (b ≡ true)
both {a} {b} h = (and_first a b h, and_second a b h)

module _ (good : ℕ → Bool) (items : List ℕ) where
  pub leading_on :
      (i : ℕ) → i < length items → good (get_or items i 0) ≡ true
      → i + leading good (drop i items) ≡ i + 1 + leading good (drop (i + 1) items)
  unfolding leading
  leading_on i h g = rw (add-one, drop-cons items i 0 h, g) (omega arith)

  pub leading_here : (i : ℕ) → i < length items → good (get_or items i 0) ≡ false → i + leading good (drop i items) ≡ i
  unfolding leading
  leading_here i h g = rw (drop-cons items i 0 h, g) (omega arith)

  pub leading_end : (i : ℕ) → length items ≤ i → i + leading good (drop i items) ≡ i
  unfolding leading
  leading_end i h = rw (drop_of_length-le items h) (omega arith)

  leading_to :
      (j k : ℕ) → k ≡ j + 1 → j < length items → good (get_or items j 0) ≡ true
      → j + leading good (drop j items) ≡ k + leading good (drop k items)
  leading_to j k q h g = leading_on j h g ∙ ap (λ (n : ℕ). n + leading good (drop n items)) (sym q)

  -- Eight good items are eight steps.
  pub leading_eight :
      (i : ℕ) → i + 8 ≤ length items → eight_of good items i ≡ true
      → i + leading good (drop i items) ≡ i + 8 + leading good (drop (i + 8) items)
  leading_eight i h e =
      let p7 = both e in let p6 = both p7.0 in let p5 = both p6.0 in let p4 = both p5.0 in
      let p3 = both p4.0 in let p2 = both p3.0 in let p1 = both p2.0 in
      leading_to i (i + 1) refl (omega arith) p1.0
      ∙ leading_to (i + 1) (i + 2) (omega arith) (omega arith) p1.1
      ∙ leading_to (i + 2) (i + 3) (omega arith) (omega arith) p2.1
      ∙ leading_to (i + 3) (i + 4) (omega arith) (omega arith) p3.1
      ∙ leading_to (i + 4) (i + 5) (omega arith) (omega arith) p4.1
      ∙ leading_to (i + 5) (i + 6) (omega arith) (omega arith) p5.1
      ∙ leading_to (i + 6) (i + 7) (omega arith) (omega arith) p6.1
      ∙ leading_to (i + 7) (i + 8) (omega arith) (omega arith) p7.1

-- A loop that has reached r goes on by one good item or by eight, and has found the first that is not good where it is, or
-- where the items end.
module _ {good : ℕ → Bool} {items : List ℕ} {from : ℕ} where
  pub reach_begins : from ≤ length items → Reached good items from from
  reach_begins h = record { behind = omega arith; within = h; same = refl }

  module _ {r : ℕ} (w : Reached good items from r) where
    pub reach_on : r < length items → good (get_or items r 0) ≡ true → Reached good items from (r + 1)
    reach_on h g =
        let b = w.behind in
        record { behind = omega arith; within = omega arith; same = sym (leading_on good items r h g) ∙ w.same }

    pub reach_eight : r + 8 ≤ length items → eight_of good items r ≡ true → Reached good items from (r + 8)
    reach_eight h e =
        let b = w.behind in
        record { behind = omega arith; within = h; same = sym (leading_eight good items r h e) ∙ w.same }

    pub reach_here : r < length items → good (get_or items r 0) ≡ false → r ≡ from + leading good (drop from items)
    reach_here h g = sym (leading_here good items r h g) ∙ w.same

    pub reach_end : length items ≤ r → r ≡ from + leading good (drop from items)
    reach_end h = sym (leading_end good items r h) ∙ w.same

pub from_start : {k n : ℕ} → k ≡ 0 + n → k ≡ n
from_start h = omega arith
