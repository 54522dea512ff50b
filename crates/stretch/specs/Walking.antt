-- A walk by what is left of the items, and over items that change nothing.
use Rattle.std.specs.Prelude.{ℕ, suc, ◌+◌, ◌-◌, ◌<◌, ◌≤◌, ◌≡◌, Bool, eqb, length, drop, get_or}
use Rattle.std.proofs.Math.Path.{refl, ap, ap₂}
use Rattle.std.proofs.Common.{sym, ◌∙◌, add-one, length-drop, drop_of_length-le, drop-cons, drop-drop, eqb-true}
use Rattle.std.proofs.Math.Bool.{true, false, cond}
use mathlib.Core.List.{List, [], ◌∷◌}
use native.Mathlib.Omega.{arith}
use Rattle.items.specs.First.{leading, sames}
use Rattle.items.specs.Theorems.{leading_within}
use Rattle.stretch.specs.Walk.{walked, steps}

-- It takes no more items than there are.
within_if : (t : Bool) (k n : ℕ) → k ≤ n → cond t 0 (suc k) ≤ suc n
within_if true k n h = omega arith
within_if false k n h = omega arith

pub steps_within : {P : Type 0} (stop : P → ℕ → Bool) (go : P → ℕ → P) (p : P) (items : List ℕ) → steps stop go p items ≤ length items
unfolding steps
steps_within stop go p [] = omega arith
steps_within stop go p (x ∷ xs) = within_if (stop p x) (steps stop go (go p x) xs) (length xs) (steps_within stop go (go p x) xs)

-- Where it takes fewer, the next one ends it.
ends_if :
    {P : Type 0} (stop : P → ℕ → Bool) (go : P → ℕ → P) (t : Bool) (p : P) (x : ℕ) (xs : List ℕ) → stop p x ≡ t
    → (steps stop go (go p x) xs < length xs → stop (walked stop go (go p x) xs) (get_or xs (steps stop go (go p x) xs) 0) ≡ true)
    → cond t 0 (suc (steps stop go (go p x) xs)) < suc (length xs)
    → stop (cond t p (walked stop go (go p x) xs)) (get_or (x ∷ xs) (cond t 0 (suc (steps stop go (go p x) xs))) 0) ≡ true
ends_if stop go true p x xs e rest h = e
ends_if stop go false p x xs e rest h = rest (omega arith)

pub walk_ends :
    {P : Type 0} (stop : P → ℕ → Bool) (go : P → ℕ → P) (p : P) (items : List ℕ) → steps stop go p items < length items
    → stop (walked stop go p items) (get_or items (steps stop go p items) 0) ≡ true
unfolding walked steps
walk_ends stop go p [] h = absurd (omega arith)
walk_ends stop go p (x ∷ xs) h = ends_if stop go (stop p x) p x xs refl (walk_ends stop go (go p x) xs) h

-- Over items that change nothing.
module _ {P : Type 0} (stop : P → ℕ → Bool) (go : P → ℕ → P) (item : ℕ) (p : P) (e : stop p item ≡ false) (g : go p item ≡ p) where
  walked_if :
      (t : Bool) (x : ℕ) (xs : List ℕ) → eqb x item ≡ t
      → walked stop go p xs ≡ walked stop go p (drop (sames item xs) xs)
      → walked stop go p (x ∷ xs) ≡ walked stop go p (drop (cond t (suc (sames item xs)) 0) (x ∷ xs))
  unfolding walked
  walked_if true x xs h rest =
      ap (λ (y : ℕ). cond (stop p y) p (walked stop go (go p y) xs)) (eqb-true x item h) ∙ rw (e, g) rest
  walked_if false x xs h rest = refl

  pub past_walked : (xs : List ℕ) → walked stop go p xs ≡ walked stop go p (drop (sames item xs) xs)
  unfolding leading
  past_walked [] = refl
  past_walked (x ∷ xs) = walked_if (eqb x item) x xs refl (past_walked xs)

  steps_if :
      (t : Bool) (x : ℕ) (xs : List ℕ) → eqb x item ≡ t
      → steps stop go p xs ≡ sames item xs + steps stop go p (drop (sames item xs) xs)
      → steps stop go p (x ∷ xs)
      ≡ cond t (suc (sames item xs)) 0 + steps stop go p (drop (cond t (suc (sames item xs)) 0) (x ∷ xs))
  unfolding steps
  steps_if true x xs h rest =
      ap (λ (y : ℕ). cond (stop p y) 0 (suc (steps stop go (go p y) xs))) (eqb-true x item h) ∙ rw (e, g) (omega arith)
  steps_if false x xs h rest = omega arith

  pub past_steps : (xs : List ℕ) → steps stop go p xs ≡ sames item xs + steps stop go p (drop (sames item xs) xs)
  unfolding leading
  past_steps [] = omega arith
  past_steps (x ∷ xs) = steps_if (eqb x item) x xs refl (past_steps xs)

-- From p the walk goes over k items to q, and on from there.
pub record Onward {P : Type 0} (stop : P → ℕ → Bool) (go : P → ℕ → P) (p : P) (items : List ℕ) (q : P) (k : ℕ) : Type 0 where
  pub place : walked stop go p items ≡ walked stop go q (drop k items)
  pub count : steps stop go p items ≡ k + steps stop go q (drop k items)

-- A walk whose steps are steps of another one, which it is put into: the other goes over its items.
module _ {P Q : Type 0} (stop : P → ℕ → Bool) (go : P → ℕ → P) (halt : Q → ℕ → Bool) (move : Q → ℕ → Q) (put : P → Q) (law : (p : P) (item : ℕ) → stop p item ≡ false → (halt (put p) item ≡ false) × (move (put p) item ≡ put (go p item))) where
  onward_if :
      (t : Bool) (p : P) (x : ℕ) (xs : List ℕ) → stop p x ≡ t
      → Onward halt move (put (go p x)) xs (put (walked stop go (go p x) xs)) (steps stop go (go p x) xs)
      → Onward halt move (put p) (x ∷ xs) (put (cond t p (walked stop go (go p x) xs))) (cond t 0 (suc (steps stop go (go p x) xs)))
  unfolding walked steps
  onward_if true p x xs e rest = record { place = refl; count = omega arith }
  onward_if false p x xs e rest =
      let k = law p x e in
      record { place = rw (k.0, k.1) rest.place; count = rw (k.0, k.1) (let n = rest.count in omega arith) }

  pub walk_onward : (p : P) (items : List ℕ) → Onward halt move (put p) items (put (walked stop go p items)) (steps stop go p items)
  unfolding walked steps
  walk_onward p [] = record { place = refl; count = omega arith }
  walk_onward p (x ∷ xs) = onward_if (stop p x) p x xs refl (walk_onward (go p x) xs)

-- A loop that is at p before item i walks on as the whole walk from p₀ does.
pub record Walking {P : Type 0} (stop : P → ℕ → Bool) (go : P → ℕ → P) (items : List ℕ) (p₀ : P) (i : ℕ) (p : P) : Type 0 where
  pub within : i ≤ length items
  pub place : walked stop go p (drop i items) ≡ walked stop go p₀ items
  pub count : i + steps stop go p (drop i items) ≡ steps stop go p₀ items

module _ {P : Type 0} {stop : P → ℕ → Bool} {go : P → ℕ → P} {items : List ℕ} {p₀ : P} where
  pub walk_begins : Walking stop go items p₀ 0 p₀
  walk_begins = record { within = omega arith; place = refl; count = omega arith }

  -- An item that ends nothing is a step.
  pub walk_on :
      {i : ℕ} {p q : P} → Walking stop go items p₀ i p → i < length items → stop p (get_or items i 0) ≡ false
      → q ≡ go p (get_or items i 0) → Walking stop go items p₀ (i + 1) q
  unfolding walked steps
  walk_on {i} {p} {q} w h e g =
      record {
        within = omega arith;
        place = rw (add-one, g) (rw (drop-cons items i 0 h, e) at w.place);
        count = let k = rw (drop-cons items i 0 h, e) at w.count in rw (add-one, g) (omega arith);
      }

  -- What the walk goes over from where a loop is, the loop may pass over.
  pub walk_by :
      {i k r : ℕ} {p q : P} → Walking stop go items p₀ i p → Onward stop go p (drop i items) q k → k ≤ length (drop i items)
      → r ≡ i + k → Walking stop go items p₀ r q
  walk_by {i} {k} {r} {p} {q} w on h e =
      let n : length (drop i items) ≡ length items - i = length-drop i items in
      let b = w.within in
      let t : drop k (drop i items) ≡ drop r items = drop-drop k i items ∙ ap (λ (m : ℕ). drop m items) (sym e) in
      let c = on.count in
      let u = w.count in
      let v : steps stop go q (drop k (drop i items)) ≡ steps stop go q (drop r items) = ap (λ (xs : List ℕ). steps stop go q xs) t in
      record {
        within = omega arith;
        place = ap (λ (xs : List ℕ). walked stop go q xs) (sym t) ∙ sym on.place ∙ w.place;
        count = omega arith;
      }

  -- Where an item changes nothing any more, the walk passes over all that are equal to it.
  pub walk_past :
      {i r : ℕ} {p : P} (item : ℕ) → Walking stop go items p₀ i p → stop p item ≡ false → go p item ≡ p
      → r ≡ i + sames item (drop i items) → Walking stop go items p₀ r p
  walk_past {i} {r} {p} item w e g q =
      walk_by w (record { place = past_walked stop go item p e g (drop i items); count = past_steps stop go item p e g (drop i items) })
      (leading_within (λ (x : ℕ). eqb x item) (drop i items)) q

  -- A step, and all that are equal to its item.
  pub walk_over :
      {i r : ℕ} {p q : P} → Walking stop go items p₀ i p → i < length items → let x : ℕ = get_or items i 0 in
      stop p x ≡ false → q ≡ go p x → (stop (go p x) x ≡ false) × (go (go p x) x ≡ go p x)
      → r ≡ i + 1 + sames x (drop (i + 1) items) → Walking stop go items p₀ r q
  walk_over {i} {r} {p} {q} w h e g k =
      let x : ℕ = get_or items i 0 in
      walk_past x (walk_on w h e g) (ap (λ (y : P). stop y x) g ∙ k.0) (ap (λ (y : P). go y x) g ∙ k.1 ∙ sym g)

  -- An item that ends the walk leaves it where it is, and so does the end of the items.
  pub walk_stops :
      {R : Type 0} (out : P → ℕ → R) {i : ℕ} {p : P} → Walking stop go items p₀ i p → i < length items
      → stop p (get_or items i 0) ≡ true → out p i ≡ out (walked stop go p₀ items) (steps stop go p₀ items)
  unfolding walked steps
  walk_stops out {i} {p} w h e =
      ap₂ out (rw (drop-cons items i 0 h, e) at w.place)
      (let k = rw (drop-cons items i 0 h, e) at w.count in omega arith)

  pub walk_out :
      {R : Type 0} (out : P → ℕ → R) {i : ℕ} {p : P} → Walking stop go items p₀ i p → length items ≤ i
      → out p i ≡ out (walked stop go p₀ items) (steps stop go p₀ items)
  unfolding walked steps
  walk_out out {i} {p} w h =
      ap₂ out (rw (drop_of_length-le items h) at w.place)
      (let k = rw (drop_of_length-le items h) at w.count in omega arith)
