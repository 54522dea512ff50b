-- Laws that the finder's proofs cite: what is carried one item on, the end of a message one item on, the first bad item, and
-- that a part lies inside its record.
use Rattle.std.specs.Prelude.{ℕ, zero, suc, ◌+◌, ◌-◌, ◌<◌, ◌≤◌, ◌≡◌, refl, List, Bool, true, false, None, Some}
use Rattle.std.proofs.Common.{◌∙◌, add-one}
use native.Mathlib.Omega.{arith}
use Rattle.std.proofs.Math.ListN.{length}
use borrow.Author.Tests.{lt-ltb, le-ltb}
use Rattle.refusals.specs.declared.Refusal.TheVariants.{PastRecord}
use Rattle.wire.specs.Wire.{is_start, is_stop}
use Rattle.finder.specs.declared.Carried.{Carried}
use Rattle.finder.specs.Messages.{level_at, line_before, edge_at, start_at, stop_before, past_end, lies_at, end_from, end_at}
use Rattle.finder.specs.Carried.{unread, read_on, carried_before}
use Rattle.found.specs.Numbers.{part, not_found}
use Rattle.finder.specs.Find.{first_bad_level, message_part, span_of}
use Rattle.finder.specs.Laws.{EndTest, PartOutside}
use Rattle.finder.proofs.Extent.{whole_message}

-- What is carried on from an item is what is carried to the next.
carried_next : (levels : List ℕ) (item : ℕ)
    → read_on (carried_before levels item) item (level_at levels item) ≡ carried_before levels (suc item)
unfolding carried_before line_before edge_at lies_at
carried_next levels zero = refl
carried_next levels (suc item) = refl

carried_stop : (levels : List ℕ) (item : ℕ) → is_stop (carried_before levels item).edge ≡ stop_before levels item
unfolding carried_before
carried_stop levels zero = refl
carried_stop levels (suc item) = refl

carried_start : (levels : List ℕ) (item : ℕ) → is_start (carried_before levels (suc item)).edge ≡ start_at levels item
unfolding carried_before
carried_start levels item = refl

pub carried_first : (levels : List ℕ) → unread ≡ carried_before levels 0
unfolding carried_before
carried_first levels = refl

module _ (levels : List ℕ) (item : ℕ) {carried next : Carried} (before : carried ≡ carried_before levels item)
    (went : next ≡ read_on carried item (level_at levels item)) where
  pub carried_went : next ≡ carried_before levels (item + 1)
  carried_went = went ∙ rw (before, add-one) (carried_next levels item)

  -- The two tests of the code are those of the message's end.
  pub end_test : {stopped started : Bool} → stopped ≡ is_stop carried.edge → started ≡ is_start next.edge
      → EndTest levels item stopped started
  end_test p q = rw (p, q, carried_went, add-one, carried_start levels item, before, carried_stop levels item)

-- Where the message ends, by what is left of the record.
module _ (levels : List ℕ) (item : ℕ) where
  pub end_none : length levels ≤ item → end_from levels item (length levels - item) ≡ item
  unfolding end_from
  end_none h = let z : length levels - item ≡ 0 = omega arith in rw z

  module _ (h : item < length levels) where
    left : length levels - item ≡ suc (length levels - (item + 1))
    left = omega arith

    pub end_here : past_end levels item ≡ true → end_from levels item (length levels - item) ≡ item
    unfolding end_from
    end_here t = rw (left, t)

    pub end_more : past_end levels item ≡ false
        → end_from levels item (length levels - item) ≡ end_from levels (item + 1) (length levels - (item + 1))
    unfolding end_from
    end_more t = rw (left, t, add-one)

-- Where an item lies, by what is carried on from it.
carried_lies : (levels : List ℕ) (item : ℕ) {carried : Carried} → carried ≡ carried_before levels (item + 1)
    → lies_at levels item ≡ carried.lies
unfolding carried_before
carried_lies levels item e = rw (e, add-one)

module _ (levels : List ℕ) (item : ℕ) {carried : Carried} (read : carried ≡ carried_before levels (item + 1)) where
  pub part_outside : carried.lies ≡ None → PartOutside levels item
  part_outside h = rw (carried_lies levels item read, h)

  module _ {start end : ℕ} (h : carried.lies ≡ Some start) (e : end ≡ end_at levels item) where
    pub part_inside : part start (end - start) ≡ message_part levels item
    part_inside = rw (carried_lies levels item read, h, e)

    pub part_order : item < length levels → start ≤ end
    part_order g =
        let (last, p, s, q, m) = whole_message levels item start g (carried_lies levels item read ∙ h) in
        omega arith

    pub part_ends : item < length levels → end ≤ length levels
    part_ends g =
        let (last, p, s, q, m) = whole_message levels item start g (carried_lies levels item read ∙ h) in
        let v : last < length levels = m.within in
        omega arith

-- The three ways through a call.
module _ (levels : List ℕ) (item : ℕ) {bad : ℕ} (first : bad ≡ first_bad_level levels) where
  pub span_past : length levels ≤ bad → length levels ≤ item → not_found PastRecord 0 ≡ span_of levels item
  unfolding span_of
  span_past h g = rw (← first, le-ltb bad (length levels) h, le-ltb item (length levels) g)

  pub span_part : length levels ≤ bad → item < length levels → message_part levels item ≡ span_of levels item
  unfolding span_of
  span_part h g = rw (← first, le-ltb bad (length levels) h, lt-ltb item (length levels) g)
