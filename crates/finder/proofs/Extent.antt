-- `lies_at` and `end_at` find exactly the messages: an item lies inside one if and only if that one is under way there,
-- and the end found makes it whole.
use Rattle.std.specs.Prelude.{ℕ, zero, suc, ◌+◌, ◌-◌, ◌<◌, ◌≤◌, ◌≡◌, refl, List, Bool, true, false, cond, ◌||◌, length, None, Some}
use Rattle.std.proofs.Common.{sym, ap, ◌∙◌, inl, inr, ⊎_elim, arith, eq-or-lt_of_le}
use Rattle.std.proofs.Math.Decide.{dec_lt}
use Rattle.finder.specs.Messages.{line_before, edge_at, start_at, stop_at, lies_by, lies_at, end_from, end_at, UnderWay, IsMessage}

not_both_lem : {b : Bool} → b ≡ true → b ≡ false → ⊥
not_both_lem t f = let z : ◌≡◌ {A = ℕ} 0 1 = cc in omega arith

pub outside_inside : {start : ℕ} → None ≡ Some start → ⊥
outside_inside e = let z : ◌≡◌ {A = ℕ} 0 1 = cc in omega arith

-- A message under way is so at its Start, goes on to the next item, and was so at each before.
way_opened : {levels : List ℕ} {item : ℕ} → start_at levels item ≡ true → UnderWay levels item item
way_opened h = record {
  opens = h;
  upto = omega arith;
  one_start = λ k g f. absurd (omega arith);
  no_stop = λ k g f. absurd (omega arith);
}

way_on : {levels : List ℕ} {start item : ℕ} → UnderWay levels start item → start_at levels (suc item) ≡ false
    → stop_at levels item ≡ false → UnderWay levels start (suc item)
way_on w no_start no_stop = record {
  opens = w.opens;
  upto = omega arith;
  one_start = λ k h g. ⊎_elim (λ e. rw e no_start) (λ l. w.one_start k h (omega arith)) (eq-or-lt_of_le g);
  no_stop = λ k h g. ⊎_elim (λ e. rw e no_stop) (λ l. w.no_stop k h l) (eq-or-lt_of_le (omega arith));
}

way_back : {levels : List ℕ} {start last : ℕ} (item : ℕ) → UnderWay levels start last → start ≤ item → item ≤ last
    → UnderWay levels start item
way_back item w h g = record {
  opens = w.opens;
  upto = h;
  one_start = λ k p q. w.one_start k p (omega arith);
  no_stop = λ k p q. w.no_stop k p (omega arith);
}

-- The message of an item that lies inside is under way there.
lies_way : {levels : List ℕ} {item start : ℕ} (a b : Bool) → start_at levels (suc item) ≡ a → stop_at levels item ≡ b
    → (lies_at levels item ≡ Some start → UnderWay levels start item)
    → lies_by a b (lies_at levels item) (suc item) ≡ Some start → UnderWay levels start (suc item)
lies_way {item = item} {start = start} true b p q before e = let s : start ≡ suc item = cc in rw s (way_opened p)
lies_way false true p q before e = absurd (outside_inside e)
lies_way false false p q before e = way_on (before e) p q

under_way : (levels : List ℕ) (item start : ℕ) → lies_at levels item ≡ Some start → UnderWay levels start item
unfolding lies_at
under_way levels zero start e = absurd (outside_inside e)
under_way levels (suc item) start e =
    lies_way (start_at levels (suc item)) (stop_at levels item) refl refl (under_way levels item start) e

-- The other way round. Item 0 makes no edge, so no message is under way there.
first_still : (levels : List ℕ) → start_at levels 0 ≡ false
unfolding edge_at line_before
first_still levels = refl

lies_inside : (levels : List ℕ) (item start : ℕ) → UnderWay levels start item → lies_at levels item ≡ Some start
unfolding lies_at
lies_inside levels zero start w =
    let s : start ≡ 0 = omega arith in
    absurd (not_both_lem w.opens (rw s (first_still levels)))
lies_inside levels (suc item) start w = ⊎_elim here (further (lies_inside levels item start)) (eq-or-lt_of_le w.upto)
  where
    here : start ≡ suc item → lies_at levels (suc item) ≡ Some start
    here e = let o : start_at levels (suc item) ≡ true = rw (← e) w.opens in rw o (ap Some (sym e))

    further : (UnderWay levels start item → lies_at levels item ≡ Some start) → start < suc item
        → lies_at levels (suc item) ≡ Some start
    further before l =
        let n : start_at levels (suc item) ≡ false = w.one_start (suc item) l (omega arith) in
        let t : stop_at levels item ≡ false = w.no_stop item (omega arith) (omega arith) in
        rw (n, t) (before (way_back item w (omega arith) (omega arith)))

-- Where `end_from` stops, the message under way is whole.
abbrev Ended : List ℕ → ℕ → ℕ → ℕ → Type 0
Ended levels start item end = (last : ℕ) × (end ≡ suc last) × (item ≤ last) × IsMessage levels start last

end_step : {levels : List ℕ} {item start further : ℕ} (a b : Bool) → stop_at levels item ≡ a → start_at levels (suc item) ≡ b
    → UnderWay levels start item → item < length levels → (UnderWay levels start (suc item) → Ended levels start (suc item) further)
    → Ended levels start item (cond (a || b) (suc item) further)
end_step {item = item} true b p q w h more = (item, refl, omega arith, record { way = w; within = h; ends = inl p })
end_step {item = item} false true p q w h more =
    (item, refl, omega arith, record { way = w; within = h; ends = inr (inl q) })
end_step false false p q w h more = let (last, e, l, m) = more (way_on w q p) in (last, e, omega arith, m)

end_message : (levels : List ℕ) (left item start : ℕ) → UnderWay levels start item → suc item + left ≡ length levels
    → Ended levels start item (end_from levels (suc item) left)
unfolding end_from
end_message levels zero item start w e =
    (item, refl, omega arith, record { way = w; within = omega arith; ends = inr (inr (omega arith)) })
end_message levels (suc left) item start w e =
    end_step (stop_at levels item) (start_at levels (suc item)) refl refl w (omega arith)
    (λ v. end_message levels left (suc item) start v (omega arith))

-- The message that an item lies in is whole, and ends where `end_at` says.
pub whole_message : (levels : List ℕ) (item start : ℕ) → item < length levels → lies_at levels item ≡ Some start
    → (last : ℕ) × (end_at levels item ≡ suc last) × (start ≤ item) × (item ≤ last) × IsMessage levels start last
whole_message levels item start h e =
    let w = under_way levels item start e in
    let (last, f, l, m) = end_message levels (length levels - suc item) item start w (omega arith) in
    (last, f, w.upto, l, m)

-- Two messages with one Start have one end: neither goes on past the end of the other.
ends_there : {levels : List ℕ} {start last other : ℕ} → IsMessage levels start last → IsMessage levels start other
    → Dec (last < other) → other ≤ last
ends_there {last = last} m n (yes h) =
    let u = m.way.upto in
    let w = n.within in
    absurd (⊎_elim (λ s. not_both_lem s (n.way.no_stop last u h))
    (⊎_elim (λ s. not_both_lem s (n.way.one_start (suc last) (omega arith) h)) (λ s. omega arith)) m.ends)
ends_there m n (no h) = omega arith

one_end : {levels : List ℕ} {start last other : ℕ} → IsMessage levels start last → IsMessage levels start other → last ≡ other
one_end {last = last} {other = other} m n =
    let f = ends_there m n (dec_lt last other) in
    let g = ends_there n m (dec_lt other last) in
    omega arith

-- Every item of a message lies inside it, and finds its end.
pub item_inside : {levels : List ℕ} {start last : ℕ} (item : ℕ) → IsMessage levels start last → start ≤ item → item ≤ last
    → (lies_at levels item ≡ Some start) × (end_at levels item ≡ suc last)
item_inside {levels} {start} {last} item m h g =
    let p : lies_at levels item ≡ Some start = lies_inside levels item start (way_back item m.way h g) in
    let w : last < length levels = m.within in
    let (other, e, s, l, n) = whole_message levels item start (omega arith) p in
    (p, e ∙ ap suc (one_end n m))
