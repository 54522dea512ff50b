-- Laws of the image that the code's proofs and the theorems cite.
use Rattle.std.specs.Prelude.{ℕ, ◌+◌, ◌-◌, ◌<◌, ◌≤◌, ◌≡◌, refl, Bool, true, false, cond, ◌&&◌, eqb, Some, None, length, take, drop, get_or, fold, zip}
use Rattle.std.proofs.Math.Path.{sym, ap, ap₂}
use Rattle.std.proofs.Common.{◌∙◌, length-drop, drop_of_length-le, take_all, drop-cons, drop-drop, arith, add-one}
use Rattle.std.proofs.Math.Bool.{and_assoc, and_comm, and-true, and-false}
use mathlib.Core.List.{List, [], ◌∷◌, ◌++◌}
use Rattle.std.proofs.Math.ListN.{replicate}
use Rattle.codec.specs.Codec.{same_bytes}
use Rattle.codec.proofs.Laws.{same_at_lem, same_joined}
use Rattle.wire.specs.Laws.{bool_back}
use Rattle.wire.specs.declared.Line.{Line}
use Rattle.mssp.specs.declared.Phase.{Phase}
use Rattle.mssp.specs.declared.Module.{Module}
use Rattle.mssp.specs.Module.{module_of}
use Rattle.firmware.specs.declared.Handler.{Handler}
use Rattle.firmware.specs.declared.State.{State}
use Rattle.firmware.specs.Handler.{state_of}
use Rattle.mssp.specs.Valid.{valid}
use Rattle.module_image.specs.ModulePart.{module_length, module_part, module_from, is_module, with_module, with_stand}
use Rattle.module_image.proofs.Laws.{module_back}
use Rattle.image.specs.HandlerPart.{low, high, word, handler_length, handler_part, handler_from, handler_valid, is_handler}
use Rattle.image.specs.Image.{image_length, encode_of, parse_of, is_state, decode_of, all_alike}

-- ---- a state comes back from its image
word_back : (n : ℕ) → word (low n) (high n) ≡ n
word_back n = omega arith

pub handler_back : (h : Handler) (rest : List ℕ) → handler_from (handler_part h ++ rest) ≡ h
handler_back h rest = simp (word_back, bool_back)

pub parse_encode : (s : State) → parse_of (encode_of s) ≡ s
unfolding parse_of encode_of
parse_encode s =
    let zeros : List ℕ = replicate 27 0 in
    rw (module_back s.mssp (handler_part s.handler ++ zeros), handler_back s.handler zeros)

pub encode_length : (s : State) → length (encode_of s) ≡ image_length
unfolding encode_of
encode_length s = refl

-- ---- another module, or another phase and line alone, written over an image
pub with_module_lem : (n : Module) (s : State) → with_module n (encode_of s) ≡ encode_of (state_of n s.handler)
unfolding encode_of
with_module_lem n s = refl

pub with_stand_lem :
    (ph : Phase) (line : Line) (s : State)
    → with_stand ph line (encode_of s) ≡ encode_of (state_of (module_of s.mssp.config s.mssp.live ph line) s.handler)
unfolding encode_of
with_stand_lem ph line s = refl

-- ---- what the code's steps come to
-- The parts written one after the other over zeros.
pub parts_joined :
    (s : State) {second once twice : List ℕ} → second ≡ handler_part s.handler
    → once ≡ with_module s.mssp (replicate image_length 0) → twice ≡ take (length second) second ++ drop (length second) (take (image_length - module_length) (drop module_length once))
    → take module_length once ++ (twice ++ drop (image_length - module_length) (drop module_length once)) ≡ encode_of s
unfolding encode_of
parts_joined s f g h = simp (h, g, f)

-- What is lent from a place on.
pub to_end : (k : ℕ) (b : List ℕ) → take (length b - k) (drop k b) ≡ drop k b
to_end k b = let rest : length (drop k b) ≤ length b - k = simp length-drop (omega arith) in take_all (length b - k) (drop k b) rest

-- The handler's part is read off what follows the module's.
pub parsed :
    (b : List ℕ) {m : Module} {h : Handler} → m ≡ module_from b
    → h ≡ handler_from (take (length b - module_length) (drop module_length b)) → state_of m h ≡ parse_of b
unfolding parse_of
parsed b e f = simp (e, f, to_end module_length b)

-- The module of the state that bytes name is the one that they name.
pub named : (b : List ℕ) → module_from b ≡ (parse_of b).mssp
unfolding parse_of
named b = refl

-- Comparing byte by byte, from the first on: what was found so far, and what the rest comes to.
folded_from :
    (found : Bool) (xs ys : List ℕ) → length xs ≡ length ys
    → fold (λ alike p. alike && eqb p.0 p.1) found (zip xs ys) ≡ found && same_bytes xs ys
folded_from found [] [] l = sym (and-true found)
folded_from found [] (y ∷ ys) l = absurd (omega arith)
folded_from found (x ∷ xs) [] l = absurd (omega arith)
folded_from found (x ∷ xs) (y ∷ ys) l =
    folded_from (found && eqb x y) xs ys (omega arith) ∙ and_assoc found (eqb x y) (same_bytes xs ys)

pub alike_same : (xs ys : List ℕ) → length xs ≡ length ys → all_alike xs ys ≡ same_bytes xs ys
alike_same = folded_from true

-- Comparing byte by byte: what was found so far, and what the rest comes to.
module _ (xs ys : List ℕ) (i : ℕ) (found : Bool) (l : length xs ≡ length ys) where
  pub same_on :
      i < length xs
      → (found && eqb (get_or xs i 0) (get_or ys i 0)) && same_bytes (drop (i + 1) xs) (drop (i + 1) ys)
      ≡ found && same_bytes (drop i xs) (drop i ys)
  same_on h =
      let k : i < length ys = omega arith in
      rw (add-one, drop-cons xs i 0 h, drop-cons ys i 0 k, and_assoc)

  pub same_end : length xs ≤ i → found && same_bytes (drop i xs) (drop i ys) ≡ found
  same_end h =
      let k : length ys ≤ i = omega arith in
      rw (drop_of_length-le xs h, drop_of_length-le ys k, and-true)

-- The handler's part, byte by byte.
pub handler_byte_by_byte :
    (b : List ℕ) {h : Handler} {part : List ℕ} → handler_length ≤ length b → h ≡ handler_from b → part ≡ handler_part h
    → eqb (get_or part 0 0) (get_or b 0 0) && eqb (get_or part 1 0) (get_or b 1 0) && eqb (get_or part 2 0) (get_or b 2 0)
    && eqb (get_or part 3 0) (get_or b 3 0) && eqb (get_or part 4 0) (get_or b 4 0)
    ≡ same_bytes (handler_part (handler_from b)) (take handler_length b)
handler_byte_by_byte b l e f = simp (f, e, same_at_lem (handler_part (handler_from b)) b 0 l, and_assoc, and-true)

-- Part by part: what is the same and what is valid, regrouped.
regrouped : (a b c v w : Bool) → (a && (b && c)) && (v && w) ≡ ((a && v) && (b && w)) && c
regrouped true true c v w = and_comm c (v && w)
regrouped true false c v w = rw (and-false v)
regrouped false b c v w = refl

-- Whether bytes are an image, part by part.
module _ (b : List ℕ) where
  abbrev m : Module
  m = module_from b

  abbrev h : Handler
  h = handler_from (drop module_length b)

  abbrev modules : Bool
  modules = same_bytes (module_part m) (take module_length b)

  abbrev handlers : Bool
  handlers = same_bytes (handler_part h) (take handler_length (drop module_length b))

  abbrev zeros : Bool
  zeros = same_bytes (replicate 27 0) (drop 21 b)

  split : same_bytes (encode_of (parse_of b)) b ≡ modules && (handlers && zeros)
  unfolding encode_of parse_of
  split =
      same_joined (module_part m) (handler_part h ++ replicate 27 0) b
      ∙ ap (λ (t : Bool). modules && t) (same_joined (handler_part h) (replicate 27 0) (drop module_length b))
      ∙ ap (λ (rest : List ℕ). modules && (handlers && same_bytes (replicate 27 0) rest)) (drop-drop 5 16 b)

  pub by_parts :
      {lent after : List ℕ} {first second third : Bool} → lent ≡ drop module_length b → after ≡ drop 21 b → first ≡ is_module b
      → second ≡ is_handler lent → third ≡ same_bytes (replicate 27 0) after → first && second && third ≡ is_state b
  unfolding is_state parse_of
  by_parts e z f g k =
      ap₂ (λ (x y : Bool). x && y) (ap₂ (λ (x y : Bool). x && y) f (g ∙ ap is_handler e)) (k ∙ ap (λ (rest : List ℕ). same_bytes (replicate 27 0) rest) z)
      ∙ sym (regrouped modules handlers zeros (valid m) (handler_valid h))
      ∙ sym (ap (λ (t : Bool). t && (valid m && handler_valid h)) split)

  -- The zeros are compared with what follows the two parts of an image.
  pub zeros_alike :
      length b ≡ image_length → let after : List ℕ = take (length b - 21) (drop 21 b) in
      all_alike (replicate 27 0) after ≡ same_bytes (replicate 27 0) after
  zeros_alike l =
      let rest : length {A = ℕ} (replicate 27 0) ≡ length (take (length b - 21) (drop 21 b)) = rw (to_end 21 b) (simp length-drop (omega arith)) in
      alike_same (replicate 27 0) (take (length b - 21) (drop 21 b)) rest

-- Bytes decode by whether they are an image.
pub decoded :
    (b : List ℕ) {s : State} {found t : Bool} → found ≡ is_state b → s ≡ parse_of b → found ≡ t → cond t (Some s) None ≡ decode_of b
unfolding is_state decode_of
decoded b e f g = rw (← g, e, f)
