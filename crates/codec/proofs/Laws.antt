-- What every codec promises whose encoding parses back: a valid state's encoding is an image, an image is the encoding of the
-- one valid state that it decodes to, each state has one, and other bytes decode to none.
use Rattle.std.specs.Prelude.{ℕ, suc, ◌+◌, ◌≤◌, ◌↔◌, ◌≡◌, refl, Bool, true, false, cond, ◌&&◌, List, [], ◌∷◌, ◌++◌, T, eqb, length, take, drop, Option, Some, None, get_or}
use Rattle.std.proofs.Common.{sym, ap, ◌∙◌, eqb→eq, drop-cons, arith, eq-eqb}
use Rattle.std.proofs.Math.Bool.{and_assoc}
use Rattle.std.proofs.Math.Facts.{and_yes}
use Rattle.std.proofs.lemmas.Option.{cond_some}
use Rattle.codec.specs.Codec.{EncodedIs, same_bytes, same_at, is_image, decoded_by}

-- ---- equal bytes
pub same_refl : (xs : List ℕ) → same_bytes xs xs ≡ true
same_refl [] = refl
same_refl (x ∷ xs) = simp (eq-eqb x x refl, same_refl xs)

pub same_equal : (xs ys : List ℕ) → T (same_bytes xs ys) → xs ≡ ys
same_equal [] [] t = refl
same_equal [] (y ∷ ys) t = absurd t
same_equal (x ∷ xs) [] t = absurd t
same_equal (x ∷ xs) (y ∷ ys) t =
    let both = and_yes (eqb x y) (same_bytes xs ys) t in
    cc (eqb→eq x y both.0, same_equal xs ys both.1)

pub same_at_lem :
    (xs ys : List ℕ) (i : ℕ) → i + length xs ≤ length ys → same_bytes xs (take (length xs) (drop i ys)) ≡ same_at xs i ys
same_at_lem [] ys i h = refl
same_at_lem (x ∷ xs) ys i h =
    rw (drop-cons ys i 0 (omega arith)) (ap (λ (t : Bool). eqb x (get_or ys i 0) && t) (same_at_lem xs ys (suc i) (omega arith)))

-- A row in two parts is compared part by part.
pub same_joined :
    (xs rest ys : List ℕ) → same_bytes (xs ++ rest) ys ≡ same_bytes xs (take (length xs) ys) && same_bytes rest (drop (length xs) ys)
same_joined [] rest ys = refl
same_joined (x ∷ xs) rest [] = refl
same_joined (x ∷ xs) rest (y ∷ ys) =
    ap (λ (t : Bool). eqb x y && t) (same_joined xs rest ys) ∙ sym (and_assoc (eqb x y) _ _)

pub so : (t : Bool) → T t → t ≡ true
so true h = refl
so false h = absurd h

module _ {S : Type 0} (encode : S → List ℕ) (parse : List ℕ → S) (valid : S → Bool) (back : (s : S) → parse (encode s) ≡ s) where
  -- Every valid state's encoding is an image.
  pub encoded_is : EncodedIs encode parse valid
  encoded_is s v = rw (back s, same_refl, so (valid s) v)

  -- An image is the encoding of the state that it names, which is valid.
  pub image_names :
      (bytes : List ℕ) → T (is_image encode parse valid bytes) → (encode (parse bytes) ≡ bytes) × T (valid (parse bytes))
  image_names bytes t =
      let both = and_yes (same_bytes (encode (parse bytes)) bytes) (valid (parse bytes)) t in
      (same_equal (encode (parse bytes)) bytes both.0, both.1)

  -- Two states with one encoding are one state.
  pub encode_apart : (s t : S) → encode s ≡ encode t → s ≡ t
  encode_apart s t e = sym (back s) ∙ ap parse e ∙ back t

  abbrev decode : List ℕ → Option S
  decode = decoded_by encode parse valid

  -- A valid state comes back from its encoding.
  pub encoded_back : (s : S) → T (valid s) → decode (encode s) ≡ Some s
  encoded_back s v = rw (encoded_is s v, back s)

  -- What bytes decode to is valid, and they are its image.
  pub decoded_both : (bytes : List ℕ) (s : S) → decode bytes ≡ Some s → (encode s ≡ bytes) × T (valid s)
  decoded_both bytes s e =
      let found = cond_some (is_image encode parse valid bytes) (parse bytes) s e in
      let named = image_names bytes (rw found.0 tt) in
      (ap encode (sym found.1) ∙ named.0, rw found.1 at named.1)

  -- Both ways at once.
  pub decoded_exactly : (bytes : List ℕ) (s : S) → (decode bytes ≡ Some s) ↔ ((encode s ≡ bytes) × T (valid s))
  decoded_exactly bytes s = (decoded_both bytes s, λ h. rw h.0 at (encoded_back s h.1))

  -- Bytes that are the image of no valid state decode to none, of whatever length they are.
  pub decoded_other : (bytes : List ℕ) → ((s : S) → T (valid s) → encode s ≡ bytes → ⊥) → decode bytes ≡ None
  decoded_other bytes nobody = none_or (decode bytes) refl
    where
      none_or : (found : Option S) → decode bytes ≡ found → found ≡ None
      none_or None e = refl
      none_or (Some s) e = let both = decoded_both bytes s e in absurd (nobody s both.1 both.0)
