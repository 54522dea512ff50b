-- Laws of the report's text that proofs cite: of a page, of decimal digits, and of how long a line is.
use Rattle.std.specs.Prelude.{ℕ, zero, suc, ◌+◌, ◌/◌, ◌%◌, ◌<◌, ◌≤◌, ◌≡◌, refl, Bool, true, false, cond, List, [], ◌∷◌, ◌++◌, ltb, length, take, get_or, set}
use Prim.Native.Char.{code}
use Rattle.std.proofs.Common.{ap, ap₂, ◌∙◌, append_assoc, arith, add-one, add-suc, suc-add, add-zero, add_assoc, length-append, take-suc, take_all, lt-ltb, le-ltb, ltb-true, ltb-false}
use Rattle.std.proofs.lemmas.List.Edits.{sets}
use Rattle.std.proofs.Math.Seq.{set_out}
use Rattle.address.specs.declared.Hit.{Hit}
use Rattle.reader.specs.declared.Heard.{Heard}
use Rattle.reader.specs.declared.Heard.TheVariants.{Silence, Started, Stopped, Byte}
use Rattle.text.specs.declared.Row.{Row}
use Rattle.text.specs.Text.{said, digit, decimal_in, decimal, condition_row, byte_row, middle, row_line, event_line, numbered}
use Rattle.text.specs.Page.{Page, page, penned}

-- ---- a page
sets_joined : (xs ys l : List ℕ) (i : ℕ) → sets (sets l i xs) (i + length xs) ys ≡ sets l i (xs ++ ys)
sets_joined [] ys l i = rw add-zero
sets_joined (x ∷ xs) ys l i = rw (add-suc i (length xs), ← suc-add) (sets_joined xs ys (set l i x) (suc i))

-- One text after another is the two as one.
pub penned_joined : (xs ys : List ℕ) (p : Page) → penned ys (penned xs p) ≡ penned (xs ++ ys) p
unfolding penned
penned_joined xs ys p = ap₂ page (rw length-append (add_assoc p.at (length xs) (length ys))) (sets_joined xs ys p.bytes p.at)

-- Where a text ends.
pub penned_at : (text : List ℕ) (p : Page) {q : Page} → q ≡ penned text p → q.at ≡ p.at + length text
unfolding penned
penned_at text p e = ap (λ (q : Page). q.at) e

pub penned_none : (at : ℕ) (bytes : List ℕ) → page at bytes ≡ penned [] (page at bytes)
unfolding penned
penned_none at bytes = rw add-zero

pub penned_byte : (byte at : ℕ) (bytes : List ℕ) → page (at + 1) (set bytes at byte) ≡ penned (byte ∷ []) (page at bytes)
unfolding penned
penned_byte byte at bytes = refl

-- A byte past the end is not kept.
pub penned_past : (byte at : ℕ) (bytes : List ℕ) → length bytes ≤ at → page (at + 1) bytes ≡ penned (byte ∷ []) (page at bytes)
unfolding penned
penned_past byte at bytes h = rw (set_out bytes at byte h)

-- Several texts.
pub texts_3 :
    (a b c : List ℕ) (p : Page) {q r s : Page} → q ≡ penned a p → r ≡ penned b q → s ≡ penned c r
    → s ≡ penned (a ++ (b ++ c)) p
texts_3 a b c p e f g = g ∙ rw (f, e) (simp (penned_joined, append_assoc))

pub texts_4 :
    (a b c d : List ℕ) (p : Page) {q r s t : Page} → q ≡ penned a p → r ≡ penned b q → s ≡ penned c r → t ≡ penned d s
    → t ≡ penned (a ++ (b ++ (c ++ d))) p
texts_4 a b c d p e f g h = h ∙ rw (g, penned_joined) (texts_3 a b (c ++ d) p e f refl)

-- A text, byte by byte.
module _ (text : List ℕ) (p : Page) (i : ℕ) where
  pub text_more :
      i < length text → {q r : Page} → q ≡ penned (take i text) p → r ≡ penned (get_or text i 0 ∷ []) q
      → r ≡ penned (take (i + 1) text) p
  text_more h f e = e ∙ rw (f, penned_joined, add-one, take-suc text i 0 h)

  pub text_end : length text ≤ i → penned (take i text) p ≡ penned text p
  text_end h = rw (take_all i text h)

-- ---- decimal digits
digits_by_size :
    (n a b : ℕ) (t : Bool) → (t ≡ false → decimal_in a (n / 10) ≡ decimal_in b (n / 10))
    → cond t (digit n ∷ []) (decimal_in a (n / 10) ++ (digit (n % 10) ∷ []))
    ≡ cond t (digit n ∷ []) (decimal_in b (n / 10) ++ (digit (n % 10) ∷ []))
digits_by_size n a b true h = refl
digits_by_size n a b false h = rw (h refl)

-- The bound has no part in the digits once it is above the number.
bound_free : (a b n : ℕ) → n < a → n < b → decimal_in a n ≡ decimal_in b n
bound_free zero b n h g = absurd (omega arith)
bound_free (suc a) zero n h g = absurd (omega arith)
bound_free (suc a) (suc b) n h g =
    digits_by_size n a b (ltb n 10)
    (λ e. let k : 10 ≤ n = ltb-false n 10 e in bound_free a b (n / 10) (omega arith) (omega arith))

pub decimal_one : (n : ℕ) → n < 10 → decimal n ≡ digit n ∷ []
unfolding decimal
decimal_one n h = rw (lt-ltb n 10 h)

pub decimal_more : (n : ℕ) → 10 ≤ n → decimal n ≡ decimal (n / 10) ++ (digit (n % 10) ∷ [])
unfolding decimal
decimal_more n h = rw (le-ltb n 10 h, bound_free n (suc (n / 10)) (n / 10) (omega arith) (omega arith))

-- A number is written by its tenth part, then its last digit.
module _ (n : ℕ) (p : Page) where
  pub number_one : n < 10 → {q : Page} → q ≡ penned (digit n ∷ []) p → q ≡ penned (decimal n) p
  number_one h e = e ∙ rw (decimal_one n h)

  -- One digit is the last one.
  pub number_last : n < 10 → {q : Page} → q ≡ penned (digit (n % 10) ∷ []) p → q ≡ penned (decimal n) p
  number_last h e = let same : n % 10 ≡ n = omega arith in number_one h (rw same at e)

  pub number_more : 10 ≤ n → {q r : Page} → q ≡ penned (decimal (n / 10)) p → r ≡ penned (digit (n % 10) ∷ []) q → r ≡ penned (decimal n) p
  number_more h f e = e ∙ rw (f, penned_joined, decimal_more n h)

-- It has one digit, or one more than its tenth part.
pub length_one : (n : ℕ) → n < 10 → length (decimal n) ≡ 1
length_one n h = ap length (decimal_one n h)

pub length_more : (n : ℕ) → 10 ≤ n → length (decimal n) ≡ length (decimal (n / 10)) + 1
length_more n h = ap length (decimal_more n h) ∙ length-append (decimal (n / 10)) (digit (n % 10) ∷ [])

digits_more :
    (k n : ℕ) (t : Bool) → ltb n 10 ≡ t → length (decimal (n / 10)) ≤ k → length (decimal n) ≤ k + 1
digits_more k n true e h = omega (arith, length_one n (ltb-true n 10 e))
digits_more k n false e h = omega (arith, length_more n (ltb-false n 10 e))

-- Numbers below 100,000 have at most five digits, those below 100 at most two.
pub digits_2 : (n : ℕ) → n < 100 → length (decimal n) ≤ 2
digits_2 n h = digits_more 1 n (ltb n 10) refl (omega (arith, length_one (n / 10) (omega arith)))

digits_3 : (n : ℕ) → n < 1000 → length (decimal n) ≤ 3
digits_3 n h = digits_more 2 n (ltb n 10) refl (digits_2 (n / 10) (omega arith))

digits_4 : (n : ℕ) → n < 10000 → length (decimal n) ≤ 4
digits_4 n h = digits_more 3 n (ltb n 10) refl (digits_3 (n / 10) (omega arith))

pub digits_5 : (n : ℕ) → n < 100000 → length (decimal n) ≤ 5
digits_5 n h = digits_more 4 n (ltb n 10) refl (digits_4 (n / 10) (omega arith))

-- ---- lines
-- A line has nine bytes beside its two numbers.
pub row_length : (item pointer : ℕ) (row : Row)
    → length (row_line item row pointer) ≡ length (decimal item) + length (decimal pointer) + 9
row_length item pointer row =
    let a = length-append (decimal item) (middle row ++ (decimal pointer ++ said "\n")) in
    let b = length-append (decimal pointer) (said "\n") in
    omega arith

pub line-length : (item pointer : ℕ) (heard : Heard) (hit : Hit)
    → length (event_line item heard hit pointer) ≤ length (decimal item) + length (decimal pointer) + 9
line-length item pointer Silence hit = omega arith
line-length item pointer Started hit = omega (arith, row_length item pointer (condition_row (code "S")))
line-length item pointer Stopped hit = omega (arith, row_length item pointer (condition_row (code "P")))
line-length item pointer (Byte first byte level) hit = omega (arith, row_length item pointer (byte_row first hit byte level))

pub line_room : (item pointer : ℕ) (heard : Heard) (hit : Hit) → item < 100000 → pointer < 100000 → length (event_line item heard hit pointer) ≤ 19
line_room item pointer heard hit h g = omega (arith, line-length item pointer heard hit, digits_5 item h, digits_5 pointer g)

pub numbered-length : (words : List ℕ) (n : ℕ) → length (numbered words n) ≡ length words + length (decimal n) + 1
numbered-length words n =
    let a = length-append words (decimal n ++ said "\n") in
    let b = length-append (decimal n) (said "\n") in
    omega arith

pub numbered_room : (words : List ℕ) (n : ℕ) → n < 100000 → length (numbered words n) ≤ length words + 6
numbered_room words n h = omega (arith, numbered-length words n, digits_5 n h)

-- Nothing is written where nothing is heard; else the row of what was heard.
module _ (item pointer : ℕ) {heard told : Heard} (hit : Hit) (e : heard ≡ told) where
  pub no_line : told ≡ Silence → (at : ℕ) (bytes : List ℕ) → page at bytes ≡ penned (event_line item heard hit pointer) (page at bytes)
  no_line s at bytes = rw (e, s) (penned_none at bytes)

  module _ {row shown : Row} (f : row ≡ shown) (same : event_line item told hit pointer ≡ row_line item shown pointer) where
    line_of_row : event_line item heard hit pointer ≡ row_line item row pointer
    line_of_row = rw e (same ∙ rw f)

    pub row_put : (p : Page) {q : Page} → q ≡ penned (row_line item row pointer) p → q ≡ penned (event_line item heard hit pointer) p
    row_put p w = w ∙ rw line_of_row

    pub room_for_row : (at most : ℕ) → at + length (event_line item heard hit pointer) < most → at + length (row_line item row pointer) < most
    room_for_row at most h = rw (← line_of_row) h
