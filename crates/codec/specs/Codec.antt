-- Bytes as the image of a state (01, "Calls, refusals and their order"), for any kind of state: it is encoded, bytes name one
-- whether they are its image or not, and some states are valid.
use Rattle.std.specs.Prelude.{ℕ, suc, ◌≡◌, T, Bool, true, false, cond, ◌&&◌, List, [], ◌∷◌, Option, Some, None, eqb, get_or}

abbrev pub same_bytes : List ℕ → List ℕ → Bool
same_bytes [] [] = true
same_bytes [] (y ∷ ys) = false
same_bytes (x ∷ xs) [] = false
same_bytes (x ∷ xs) (y ∷ ys) = eqb x y && same_bytes xs ys

-- The same, read off the places of the second from i on.
abbrev pub same_at : List ℕ → ℕ → List ℕ → Bool
same_at [] i ys = true
same_at (x ∷ xs) i ys = eqb x (get_or ys i 0) && same_at xs (suc i) ys

-- Bytes are an image if they are just the encoding of the state that they name, and that state is valid.
abbrev pub is_image : {S : Type 0} → (S → List ℕ) → (List ℕ → S) → (S → Bool) → List ℕ → Bool
is_image encode parse valid bytes = same_bytes (encode (parse bytes)) bytes && valid (parse bytes)

-- They decode to that state, and other bytes to none.
abbrev pub decoded_by : {S : Type 0} → (S → List ℕ) → (List ℕ → S) → (S → Bool) → List ℕ → Option S
decoded_by encode parse valid bytes = cond (is_image encode parse valid bytes) (Some (parse bytes)) None

-- Every valid state's encoding is an image.
abbrev pub EncodedIs : {S : Type 0} → (S → List ℕ) → (List ℕ → S) → (S → Bool) → Type 0
EncodedIs {S = S} encode parse valid = (s : S) → T (valid s) → is_image encode parse valid (encode s) ≡ true
