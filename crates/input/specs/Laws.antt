-- Laws of the report's input that proofs cite: of what it asks for, of its bytes one by one, and of the items found.
use Rattle.std.specs.Prelude.{ℕ, suc, ◌+◌, ◌<◌, ◌≤◌, ◌≡◌, refl, Bool, true, false, ◌||◌, List, [], ◌∷◌, Some, None, Ok, Err, length, drop, get_or}
use Rattle.std.proofs.Common.{sym, ap, ◌∙◌, true≢false, arith, add-one, add-zero, drop_of_length-le, drop-cons}
use mir.Val.{bool_byte}
use Rattle.wire.specs.Laws.{one}
use Rattle.steps.specs.declared.Item.{Item}
use Rattle.input.specs.Input.{Meaning, Checked, cut_after, asks_general, Parsed, all, foreign, meaning_of, before, parse, checked, checked_of, is_foreign, item_count, clean}

pub neither_left : (a b : Bool) → a || b ≡ false → a ≡ false
neither_left true b h = h
neither_left false b h = refl

-- ---- the general call is asked for by a byte of the input
pub nothing_asked : (input : List ℕ) → length input ≡ 0 → false ≡ asks_general input
nothing_asked [] e = refl
nothing_asked (byte ∷ bytes) e = absurd (omega arith)

pub asked_within : (input : List ℕ) {asked : Bool} → asked ≡ asks_general input → bool_byte asked ≤ length input
asked_within [] e = rw e (omega arith)
asked_within (byte ∷ bytes) {asked} e = omega (arith, one asked)

-- ---- the input, byte by byte
-- A byte of the input stands in front of what is left.
pub parse_byte : (input : List ℕ) (i : ℕ) → i < length input
    → parse (drop i input) ≡ before (meaning_of (get_or input i 0)) (parse (drop (i + 1) input))
unfolding parse
parse_byte input i h = rw (add-one, drop-cons input i 0 h)

pub parse_end : (input : List ℕ) (i : ℕ) → length input ≤ i → parse (drop i input) ≡ all []
unfolding parse
parse_end input i h = rw (drop_of_length-le input h)

-- What is known with n items counted already and p left.
abbrev pub counted : ℕ → Parsed → Checked
counted n (all items) = Ok (n + length items)
counted n (foreign k) = cut_after (n + k)

counted_start : (p : Parsed) → counted 0 p ≡ checked p
counted_start (all items) = ap {B = Checked} Ok (omega arith)
counted_start (foreign k) = ap cut_after (omega arith)

counted_more : (n : ℕ) (m : Meaning) (p : Parsed) → is_foreign m ≡ false → counted n (before m p) ≡ counted (n + item_count m) p
counted_more n (Ok None) p h = rw add-zero
counted_more n (Ok (Some item)) (all items) h = ap {B = Checked} Ok (omega arith)
counted_more n (Ok (Some item)) (foreign k) h = ap cut_after (omega arith)
counted_more n (Err e) p h = absurd (true≢false h)

counted_cut : (n : ℕ) (m : Meaning) (p : Parsed) → is_foreign m ≡ true → counted n (before m p) ≡ cut_after n
counted_cut n (Ok None) p h = absurd (true≢false (sym h))
counted_cut n (Ok (Some item)) p h = absurd (true≢false (sym h))
counted_cut n (Err e) p h = ap cut_after (omega arith)

pub count_at_most : (m : Meaning) → item_count m ≤ 1
count_at_most (Ok None) = omega arith
count_at_most (Ok (Some item)) = omega arith
count_at_most (Err e) = omega arith

pub check_start : (input : List ℕ) → counted 0 (parse (drop 0 input)) ≡ checked_of input
check_start input = counted_start (parse input)

module _ (input : List ℕ) (i n : ℕ) where
  module _ (h : i < length input) {m : Meaning} (e : m ≡ meaning_of (get_or input i 0)) {f : Bool} (t : f ≡ is_foreign m) where
    pub check_more : f ≡ false → {c : ℕ} → c ≡ item_count m → counted n (parse (drop i input)) ≡ counted (n + c) (parse (drop (i + 1) input))
    check_more g k = rw (parse_byte input i h, ← e, k) (counted_more n m (parse (drop (i + 1) input)) (sym t ∙ g))

    pub check_cut : f ≡ true → counted n (parse (drop i input)) ≡ cut_after n
    check_cut g = rw (parse_byte input i h, ← e) (counted_cut n m (parse (drop (i + 1) input)) (sym t ∙ g))

  pub check_end : length input ≤ i → counted n (parse (drop i input)) ≡ Ok n
  check_end h = rw (parse_end input i h) (ap {B = Checked} Ok (omega arith))

-- ---- the items found
-- How many items were found.
abbrev pub found : Parsed → ℕ
found (all items) = length items
found (foreign n) = n

found_more : (m : Meaning) (p : Parsed) → found (before m p) ≤ suc (found p)
found_more (Ok None) p = omega arith
found_more (Ok (Some item)) (all items) = omega arith
found_more (Ok (Some item)) (foreign n) = omega arith
found_more (Err e) p = omega arith

pub found_short : (input : List ℕ) → found (parse input) ≤ length input
unfolding parse
found_short [] = omega arith
found_short (byte ∷ bytes) = omega (arith, found_short bytes, found_more (meaning_of byte) (parse bytes))

pub found-whole : {n : ℕ} (p : Parsed) → checked p ≡ Ok n → n ≡ found p
found-whole (all items) e = cc
found-whole (foreign k) e = cc

abbrev items_before : Checked → ℕ
items_before (Ok n) = n
items_before (Err cut) = cut.items

pub found_cut : {n : ℕ} (p : Parsed) → checked p ≡ cut_after n → n ≡ found p
found_cut (all items) e = cc
found_cut (foreign k) e = sym (ap items_before e)

clean-whole : {n : ℕ} (p : Parsed) → checked p ≡ Ok n → clean p ≡ true
clean-whole (all items) e = refl
clean-whole (foreign k) e = cc

module _ (input : List ℕ) {n : ℕ} where
  module _ (e : checked_of input ≡ Ok n) where
    pub whole_short : n ≤ length input
    whole_short = omega (arith, found_short input, found-whole (parse input) e)

    pub whole-clean : clean (parse input) ≡ true
    whole-clean = clean-whole (parse input) e

  pub cut_short : checked_of input ≡ cut_after n → n ≤ length input
  cut_short e = omega (arith, found_short input, found_cut (parse input) e)
