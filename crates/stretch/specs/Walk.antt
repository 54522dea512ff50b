-- A walk along the items of a trace: on from item to item until one ends it. Every stretch is one.
use Rattle.std.specs.Prelude.{ℕ, suc, ◌≡◌, Bool, false, cond, List, [], ◌∷◌, Option, Some, None}
use Rattle.stretch.specs.declared.Walked.{Walked}

-- Where the walk ends, from p on.
unfoldable pub walked : {P : Type 0} → (P → ℕ → Bool) → (P → ℕ → P) → P → List ℕ → P
walked stop go p [] = p
walked stop go p (x ∷ xs) = cond (stop p x) p (walked stop go (go p x) xs)

-- How many items it takes.
unfoldable pub steps : {P : Type 0} → (P → ℕ → Bool) → (P → ℕ → P) → P → List ℕ → ℕ
steps stop go p [] = 0
steps stop go p (x ∷ xs) = cond (stop p x) 0 (suc (steps stop go (go p x) xs))

-- On over an item, unless it ends the walk.
abbrev pub passed : {P : Type 0} → (P → ℕ → Bool) → (P → ℕ → P) → P → ℕ → Option P
passed stop go p item = cond (stop p item) None (Some (go p item))

abbrev pub walked_to : {P : Type 0} → P → ℕ → Walked P
walked_to p n = record { end = p; length = n }

abbrev pub walk_of : {P : Type 0} → (P → ℕ → Bool) → (P → ℕ → P) → P → List ℕ → Walked P
walk_of stop go p items = walked_to (walked stop go p items) (steps stop go p items)

-- An item ends nothing and moves nothing at p.
abbrev pub Idle : {P : Type 0} → (P → ℕ → Bool) → (P → ℕ → P) → P → ℕ → Type 0
Idle stop go p item = (stop p item ≡ false) × (go p item ≡ p)
