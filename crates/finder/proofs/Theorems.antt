-- What the finder's answers are, whatever the record and the item (01, "The wire record and the message under the
-- cursor", and refusals 4 and 7): a part is exactly the message, each of its items finds it, an item in no message has
-- the empty part, and each refusal has its one cause.
use Rattle.std.specs.Prelude.{ℕ, suc, ◌+◌, ◌-◌, ◌<◌, ◌≤◌, ◌≡◌, refl, List, ◌⊎◌, ◌↔◌, length, Option, None, Some}
use Rattle.std.proofs.Common.{sym, ap, ◌∙◌, inl, inr, ⊎_elim, arith}
use Rattle.std.proofs.Math.Decide.{dec_lt}
use Rattle.refusals.specs.declared.Refusal.{Refusal}
use Rattle.refusals.specs.declared.Refusal.TheVariants.{NoItem, PastRecord}
use Rattle.found.specs.Numbers.{part, not_found, refusal_of, bad_item_of, start_of, length_of}
use Rattle.finder.specs.Messages.{lies_at, end_at, IsMessage, Good, FirstBad, InNoMessage, TheMessage}
use Rattle.items.specs.Theorems.{first_above_lem, none_above, one_first}
use Rattle.finder.specs.Find.{first_bad_level, part_from, message_part, span_of}
use Rattle.finder.proofs.Extent.{outside_inside, whole_message, item_inside}
use Rattle.finder.proofs.BadLevel.{span_bad}
use Rattle.finder.proofs.Laws.{span_past, span_part}

-- The three ways a search goes, each with its cause. One of the causes always holds, and no two hold together.
pub data Searched (levels : List ℕ) (item : ℕ) : Type 0 where
  four : (bad : ℕ) → FirstBad levels bad → span_of levels item ≡ not_found NoItem bad → Searched levels item
  seven : Good levels → length levels ≤ item → span_of levels item ≡ not_found PastRecord 0 → Searched levels item
  given : Good levels → item < length levels → span_of levels item ≡ message_part levels item → Searched levels item

not_good : {levels : List ℕ} {bad : ℕ} → FirstBad levels bad → Good levels → ⊥
not_good {bad = bad} f g = let b = f.above in let h = g bad f.within in omega arith

good_searched :
    (levels : List ℕ) (item : ℕ) → length levels ≤ first_bad_level levels → Good levels → Dec (item < length levels) → Searched levels item
good_searched levels item e g (yes h) = given g h (sym (span_part levels item refl e h))
good_searched levels item e g (no h) = seven g (omega arith) (sym (span_past levels item refl e (omega arith)))

pub searched : (levels : List ℕ) (item : ℕ) → Searched levels item
searched levels item = by_first (dec_lt (first_bad_level levels) (length levels))
  where
    by_first : Dec (first_bad_level levels < length levels) → Searched levels item
    by_first (yes h) = four (first_bad_level levels) (first_above_lem 3 levels h) (sym (span_bad levels item refl h))
    by_first (no h) =
        let e : length levels ≤ first_bad_level levels = omega arith in
        good_searched levels item e (none_above 3 levels e) (dec_lt item (length levels))

-- A message's part is no refusal.
not_refused : (lies : Option ℕ) (item end : ℕ) {why : Refusal} {bad : ℕ} → part_from lies item end ≡ not_found why bad → ⊥
not_refused None item end e = let z : ◌≡◌ {A = ℕ} 0 1 = cc in omega arith
not_refused (Some start) item end e = let z : ◌≡◌ {A = ℕ} 0 1 = cc in omega arith

-- Where a part is given nothing is refused, and an item of a good record is given its part.
was_given : {levels : List ℕ} {item start count : ℕ} → Searched levels item → span_of levels item ≡ part start count
    → Good levels × (item < length levels) × (message_part levels item ≡ part start count)
was_given (four bad f p) e = let z : ◌≡◌ {A = ℕ} 0 1 = cc in absurd (omega arith)
was_given (seven g h p) e = let z : ◌≡◌ {A = ℕ} 0 1 = cc in absurd (omega arith)
was_given (given g h p) e = (g, h, sym p ∙ e)

is_given : {levels : List ℕ} {item : ℕ} → Searched levels item → Good levels → item < length levels
    → span_of levels item ≡ message_part levels item
is_given (four bad f p) g h = absurd (not_good f g)
is_given (seven f past p) g h = absurd (omega arith)
is_given (given f inside p) g h = p

lies_part : (levels : List ℕ) (item : ℕ) {start count : ℕ} (lies : Option ℕ) → lies_at levels item ≡ lies → item < length levels
    → part_from lies item (end_at levels item) ≡ part start count
    → TheMessage levels item start count ⊎ ((start ≡ item) × (count ≡ 0) × InNoMessage levels item)
lies_part levels item {start} {count} None p h e =
    let s : start ≡ item = sym (ap start_of e) in
    let n : count ≡ 0 = sym (ap length_of e) in
    inr (s, n, λ first last m f l. outside_inside (sym p ∙ (item_inside item m f l).0))
lies_part levels item {start} {count} (Some first) p h e =
    let s : first ≡ start = ap start_of e in
    let n : end_at levels item - first ≡ count = ap length_of e in
    let (last, f, b, l, m) = whole_message levels item first h p in
    inl (record { last = last; size = omega arith; since = omega arith; upto = l; message = rw (← s) m })

-- 1. A part that is not empty is exactly the message that the item lies in; an empty one stands at an item of no message.
pub part_is_message : (levels : List ℕ) (item : ℕ) {start count : ℕ} → span_of levels item ≡ part start count
    → TheMessage levels item start count ⊎ ((start ≡ item) × (count ≡ 0) × InNoMessage levels item)
part_is_message levels item e =
    let (g, h, p) = was_given (searched levels item) e in
    lies_part levels item (lies_at levels item) refl h p

-- The other way round: the message that an item lies in is what it finds.
pub message_is_part : (levels : List ℕ) (item : ℕ) {start last : ℕ} → Good levels → IsMessage levels start last
    → start ≤ item → item ≤ last → span_of levels item ≡ part start (suc last - start)
message_is_part levels item {start} {last} g m h l =
    let w : last < length levels = m.within in
    let (p, e) = item_inside item m h l in
    is_given (searched levels item) g (omega arith) ∙ rw (p, e)

-- 2. Every item of a part finds that part.
pub same_part : (levels : List ℕ) (item other : ℕ) {start count : ℕ} → span_of levels item ≡ part start count
    → start ≤ other → other < start + count → span_of levels other ≡ part start count
same_part levels item other {start} {count} e h l =
    ⊎_elim (same (was_given (searched levels item) e).0) (λ n. absurd (omega (arith, n.1))) (part_is_message levels item e)
  where
    same : Good levels → TheMessage levels item start count → span_of levels other ≡ part start count
    same g m =
        let n : suc m.last - start ≡ count = omega (arith, m.size) in
        rw n at (message_is_part levels other g m.message h (omega (arith, m.size)))

-- 3. An item of no message has the empty part at that item.
pub no_message : (levels : List ℕ) (item : ℕ) → Good levels → item < length levels → InNoMessage levels item
    → span_of levels item ≡ part item 0
no_message levels item g h n = is_given (searched levels item) g h ∙ by (lies_at levels item) refl
  where
    by : (lies : Option ℕ) → lies_at levels item ≡ lies → part_from lies item (end_at levels item) ≡ part item 0
    by None e = refl
    by (Some start) e = let (last, f, s, l, m) = whole_message levels item start h e in absurd (n start last m s l)

-- And so has an item that no item's part has.
pub in_no_part : (levels : List ℕ) (item : ℕ) → Good levels → item < length levels
    → ((other start count : ℕ) → span_of levels other ≡ part start count → start ≤ item → item < start + count → ⊥)
    → span_of levels item ≡ part item 0
in_no_part levels item g h n =
    no_message levels item g h
    (λ start last m s l. n item start (suc last - start) (message_is_part levels item g m s l) s (omega arith))

-- 4. Refusal 4 is given exactly when a level is bad, with the first bad item's number, whatever the item asked for.
pub four_exactly : (levels : List ℕ) (item bad : ℕ) → span_of levels item ≡ not_found NoItem bad ↔ FirstBad levels bad
four_exactly levels item bad = (λ e. why (searched levels item) e, λ f. then (searched levels item) f)
  where
    why : Searched levels item → span_of levels item ≡ not_found NoItem bad → FirstBad levels bad
    why (four other f p) e = let s : other ≡ bad = ap bad_item_of (sym p ∙ e) in rw (← s) f
    why (seven g h p) e = let z : ◌≡◌ {A = ℕ} 7 4 = ap refusal_of (sym p ∙ e) in absurd (omega arith)
    why (given g h p) e = absurd (not_refused (lies_at levels item) item (end_at levels item) (sym p ∙ e))

    then : Searched levels item → FirstBad levels bad → span_of levels item ≡ not_found NoItem bad
    then (four other o p) f = p ∙ ap (not_found NoItem) (one_first o ∙ sym (one_first f))
    then (seven g h p) f = absurd (not_good f g)
    then (given g h p) f = absurd (not_good f g)

-- 5. Refusal 7 is given exactly when no level is bad and the item is not below the record's length.
pub seven_exactly : (levels : List ℕ) (item : ℕ) → span_of levels item ≡ not_found PastRecord 0 ↔ Good levels × (length levels ≤ item)
seven_exactly levels item = (λ e. why (searched levels item) e, λ f. then (searched levels item) f.0 f.1)
  where
    why : Searched levels item → span_of levels item ≡ not_found PastRecord 0 → Good levels × (length levels ≤ item)
    why (four bad f p) e = let z : ◌≡◌ {A = ℕ} 4 7 = ap refusal_of (sym p ∙ e) in absurd (omega arith)
    why (seven g h p) e = (g, h)
    why (given g h p) e = absurd (not_refused (lies_at levels item) item (end_at levels item) (sym p ∙ e))

    then : Searched levels item → Good levels → length levels ≤ item → span_of levels item ≡ not_found PastRecord 0
    then (four bad f p) g h = absurd (not_good f g)
    then (seven g h p) f i = p
    then (given g h p) f i = absurd (omega arith)
