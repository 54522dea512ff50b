-- The loop of a run, for any handler: what is left of the items, run from what there is, gives what the whole gives. Samples
-- are fed to the module at once.
use Rattle.std.specs.Prelude.{ℕ, suc, ◌+◌, ◌-◌, ◌<◌, ◌≤◌, ◌≡◌, Bool, true, false, cond, length, take, drop, get_or}
use Rattle.std.proofs.Math.Path.{refl}
use Rattle.std.proofs.Common.{sym, ap, ap₂, subst, ◌∙◌, arith, add-one, length-drop, drop_of_length-le, take_all, drop-cons, drop-drop, get_or-drop, ltb-true, ltb-false}
use mathlib.Core.List.{List, [], ◌∷◌}
use Rattle.mssp.specs.declared.Module.{Module}
use Rattle.stretch.specs.Walk.{walked, steps}
use Rattle.stretch.specs.Walking.{steps_within, walk_ends}
use Rattle.samples.specs.Samples.{Fed, no_sample, sampled_at, fed_of}

-- The items from i on, as a loop lends them.
abbrev pub lent_from : ℕ → List ℕ → List ℕ
lent_from i items = take (length items - i) (drop i items)

pub lent_is : (i : ℕ) (items : List ℕ) → lent_from i items ≡ drop i items
lent_is i items = take_all (length items - i) (drop i items) (let n : length (drop i items) ≡ length items - i = length-drop i items in omega arith)

-- ---- what is fed
module _ (m : Module) (items : List ℕ) (i : ℕ) {r : Fed} (is : r ≡ fed_of m (lent_from i items)) where
  fed_is : r ≡ fed_of m (drop i items)
  fed_is = is ∙ ap (λ (xs : List ℕ). fed_of m xs) (lent_is i items)

  -- No more than there are.
  pub fed_within : i ≤ length items → i + r.length ≤ length items
  fed_within h =
      let k = steps_within no_sample sampled_at m (drop i items) in
      let e : r.length ≡ steps no_sample sampled_at m (drop i items) = ap (λ (x : Fed). x.length) fed_is in
      let n : length (drop i items) ≡ length items - i = length-drop i items in omega arith

  -- What comes next is no sample.
  pub fed_ended : i + r.length < length items → 3 < get_or items (i + r.length) 0
  fed_ended h =
      let e : r.length ≡ steps no_sample sampled_at m (drop i items) = ap (λ (x : Fed). x.length) fed_is in
      let n : length (drop i items) ≡ length items - i = length-drop i items in
      let k : ℕ = steps no_sample sampled_at m (drop i items) in
      let o : 3 < get_or (drop i items) k 0 = ltb-true 3 (get_or (drop i items) k 0) (walk_ends no_sample sampled_at m (drop i items) (omega arith)) in
      rw e (rw (get_or-drop i items k 0) at o)

-- ---- a loop that has w before item i runs on as the whole run from w₀ does
pub record Running {W : Type 0} (run : W → List ℕ → W) (items : List ℕ) (w₀ : W) (i : ℕ) (w : W) : Type 0 where
  pub within : i ≤ length items
  pub rest : run w (drop i items) ≡ run w₀ items

pub run_begins : {W : Type 0} {run : W → List ℕ → W} {items : List ℕ} {w : W} → Running run items w 0 w
run_begins = record { within = omega arith; rest = refl }

-- A run is its steps one after the other, and a sample's step reaches the module alone, wherever that is put.
module _ {W : Type 0} (step : W → ℕ → W) (run : W → List ℕ → W) (stays : (w : W) → run w [] ≡ w) (goes : (w : W) (x : ℕ) (xs : List ℕ) → run w (x ∷ xs) ≡ run (step w x) xs) where
  module _ (put : Module → W) (law : (m : Module) (item : ℕ) → item ≤ 3 → step (put m) item ≡ put (sampled_at m item)) where
    feeds_if :
        (t : Bool) (m : Module) (x : ℕ) (xs : List ℕ) → no_sample m x ≡ t
        → run (put (sampled_at m x)) xs
        ≡ run (put (walked no_sample sampled_at (sampled_at m x) xs)) (drop (steps no_sample sampled_at (sampled_at m x) xs) xs)
        → run (put m) (x ∷ xs)
        ≡ run (put (cond t m (walked no_sample sampled_at (sampled_at m x) xs))) (drop (cond t 0 (suc (steps no_sample sampled_at (sampled_at m x) xs))) (x ∷ xs))
    feeds_if true m x xs e rest = refl
    feeds_if false m x xs e rest = goes (put m) x xs ∙ ap (λ (w : W). run w xs) (law m x (ltb-false 3 x e)) ∙ rest

    feeds : (m : Module) (items : List ℕ) → run (put m) items ≡ run (put (fed_of m items).mssp) (drop (fed_of m items).length items)
    unfolding walked steps
    feeds m [] = refl
    feeds m (x ∷ xs) = feeds_if (no_sample m x) m x xs refl (feeds (sampled_at m x) xs)

    pub run_fed :
        {items : List ℕ} {w₀ : W} {i : ℕ} {m : Module} {r : Fed} {w : W} → Running run items w₀ i (put m) → r ≡ fed_of m (lent_from i items)
        → w ≡ put r.mssp → Running run items w₀ (i + r.length) w
    run_fed {items} {w₀} {i} {m} {r} {w} before is e =
        record {
          within = fed_within m items i is before.within;
          rest =
              ap₂ run e (sym (drop-drop r.length i items))
              ∙ sym (subst (λ (x : Fed). run (put m) (drop i items) ≡ run (put x.mssp) (drop x.length (drop i items))) (sym (fed_is m items i is)) (feeds m (drop i items)))
              ∙ before.rest;
        }

  module _ {items : List ℕ} {w₀ : W} {i : ℕ} {w : W} (before : Running run items w₀ i w) where
    pub run_next : {v : W} → i < length items → v ≡ step w (get_or items i 0) → Running run items w₀ (i + 1) v
    run_next {v} h e =
        record {
          within = omega arith;
          rest = rw (add-one, e) (sym (goes w (get_or items i 0) (drop (suc i) items)) ∙ rw (drop-cons items i 0 h) at before.rest);
        }

    pub run_end : length items ≤ i → w ≡ run w₀ items
    run_end h = sym (stays w) ∙ rw (drop_of_length-le items h) at before.rest
