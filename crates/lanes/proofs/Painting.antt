-- The laws of painting: the same item again leaves the same word; and what is painted over a stretch are the words of its items.
use Prim.Native.Nat.{ℕ, zero, suc, ◌+◌, ◌-◌, ◌%◌, ◌<◌, ◌≤◌}
use Rattle.std.specs.Prelude.{◌≡◌, Bool, cond, ◌&&◌, ◌||◌, not, take, drop, get_or}
use Rattle.std.proofs.Math.Path.{refl, ap, ap₂}
use Rattle.std.proofs.Common.{sym, subst, ◌∙◌, drop_of_length-le, drop-cons, drop-drop, length-take-le, eqb-true}
use Rattle.std.proofs.Math.Bool.{true, false}
use Rattle.std.specs.Bool.{beq}
use mathlib.Core.List.{List, [], ◌∷◌, ◌++◌}
use native.Mathlib.Omega.{arith}
use Rattle.std.proofs.Math.Numerals.{add-one}
use Rattle.std.proofs.Math.Dec.{eqb}
use Rattle.std.proofs.Math.ListN.{length, length-drop}
use Rattle.items.specs.First.{leading, sames}
use Rattle.items.specs.Theorems.{leading_within}
use Rattle.wire.specs.declared.Edge.TheVariants.{Still}
use Rattle.wire.specs.Byte.{zero_at}
use Rattle.wire.specs.Wire.{scl_of, sda_of, on_wire}
use Rattle.sampling.proofs.Laws.{equal}
use Rattle.firmware.specs.Window.{splice}
use Rattle.words.specs.Words.{lines_by, events_of, word_by}
use Rattle.lanes.specs.declared.Brush.{Brush}
use Rattle.lanes.specs.Paint.{brush_on, ink_of, painted, repeated, same_until}
use Rattle.lanes.specs.Writing.{Written, part_written, all_written}

-- ---- so many times the same word
pub repeated_length : (n word : ℕ) → length (repeated n word) ≡ n
repeated_length zero word = refl
repeated_length (suc n) word = ap suc (repeated_length n word)

-- ---- the same item again
no_fall : (sends scl : Bool) → sends && scl && not scl ≡ false
no_fall true true = refl
no_fall true false = refl
no_fall false true = refl
no_fall false false = refl

-- It leaves the brush.
brush_again : (b : Brush) (item : ℕ) → let next : Brush = brush_on b item in brush_on next item ≡ next
brush_again b item =
    let next : Brush = brush_on b item in
    ap (λ (t : Bool). record { sends = next.sends; byte = next.byte; place = cond t (next.place % 8 + 1) next.place; pulls = t && zero_at next.byte (cond t (next.place % 8 + 1) next.place) || not t && next.pulls; scl = scl_of item })
    (no_fall b.sends (scl_of item))

module _ (standing item word : ℕ) (b : Brush) (same : brush_on b item ≡ b) (ink : ink_of standing b b item ≡ word) where
  past_if :
      (t : Bool) (x : ℕ) (xs : List ℕ) → eqb x item ≡ t
      → painted standing b xs ≡ repeated (sames item xs) word ++ painted standing b (drop (sames item xs) xs)
      → painted standing b (x ∷ xs)
      ≡ repeated (cond t (suc (sames item xs)) 0) word ++ painted standing b (drop (cond t (suc (sames item xs)) 0) (x ∷ xs))
  unfolding painted
  past_if true x xs e rest =
      ap (λ (y : ℕ). ink_of standing b (brush_on b y) y ∷ painted standing (brush_on b y) xs) (eqb-true x item e)
      ∙ ap (λ (c : Brush). ink_of standing b c item ∷ painted standing c xs) same ∙ ap₂ (λ (y : ℕ) (ys : List ℕ). y ∷ ys) ink rest
  past_if false x xs e rest = refl

  past : (xs : List ℕ) → painted standing b xs ≡ repeated (sames item xs) word ++ painted standing b (drop (sames item xs) xs)
  unfolding painted leading
  past [] = refl
  past (x ∷ xs) = past_if (eqb x item) x xs refl (past xs)

-- ---- the loop: a run of the same item at a time
module _ (standing : ℕ) (items : List ℕ) (i : ℕ) (b : Brush) (h : i < length items) where
  abbrev item : ℕ
  item = get_or items i 0

  abbrev next : Brush
  next = brush_on b item

  abbrev word : ℕ
  word = ink_of standing b next item

  abbrev Goes : Bool → Type 0
  Goes again =
      let end : ℕ = same_until items i item again in
      (painted standing b (drop i items) ≡ repeated (end - i) word ++ painted standing next (drop end items)) × (i < end) × (end ≤ length items)

  first : painted standing b (drop i items) ≡ word ∷ painted standing next (drop (i + 1) items)
  unfolding painted
  first = rw (drop-cons items i 0 h, add-one i) refl

  goes_if : (again : Bool) → beq b.pulls next.pulls ≡ again → Goes again
  goes_if true e =
      let k : ℕ = sames item (drop (i + 1) items) in
      let far : i + 1 + k - i ≡ suc k = omega arith in
      let l : length (drop (i + 1) items) ≡ length items - (i + 1) = length-drop (i + 1) items in
      let within : k ≤ length (drop (i + 1) items) = leading_within (λ (x : ℕ). eqb x item) (drop (i + 1) items) in (
        first
            ∙ ap (λ (xs : List ℕ). word ∷ xs)
            (past standing item word next (brush_again b item) (ap (λ (t : Bool). word_by standing (lines_by next.pulls next.scl (on_wire t (sda_of item))) (events_of false false Still (t && eqb item 3))) (sym (equal b.pulls next.pulls e))) (drop (i + 1) items)
            ∙ ap (λ (xs : List ℕ). repeated k word ++ painted standing next xs) (drop-drop k (i + 1) items))
            ∙ ap (λ (n : ℕ). repeated n word ++ painted standing next (drop (i + 1 + k) items)) (sym far),
        omega arith,
        omega arith,
      )
  goes_if false e =
      let far : i + 1 - i ≡ 1 = omega arith in
      (first ∙ ap (λ (n : ℕ). repeated n word ++ painted standing next (drop (i + 1) items)) (sym far), omega arith, omega arith)

  pub run_goes : Goes (beq b.pulls next.pulls)
  run_goes = goes_if (beq b.pulls next.pulls) refl

pub record Painting (standing : ℕ) (b₀ : Brush) (items : List ℕ) (i : ℕ) (lanes : List ℕ) (b : Brush) : Type 0 where
  pub written : Written (painted standing b₀ items) (length items) i lanes (painted standing b (drop i items))

-- What follows from what the code knows of a run.
pub record RunPainted (standing : ℕ) (b₀ : Brush) (items : List ℕ) (i word end : ℕ) (lanes : List ℕ) (next : Brush) : Type 0 where
  pub forward : i < end
  pub within : end ≤ length items
  pub painted_on :
      (filled : List ℕ) → filled ≡ repeated (length (take (end - i) (drop i lanes))) word
      → Painting standing b₀ items end (splice i (end - i) filled lanes) next

module _ {standing : ℕ} {b₀ : Brush} {items : List ℕ} {i : ℕ} {lanes : List ℕ} {b : Brush} (before : Painting standing b₀ items i lanes b) where
  pub run_painted :
      {word end : ℕ} {next : Brush} → i < length items → next ≡ brush_on b (get_or items i 0) → word ≡ ink_of standing b next (get_or items i 0)
      → end ≡ same_until items i (get_or items i 0) (beq b.pulls next.pulls) → RunPainted standing b₀ items i word end lanes next
  run_painted h en ew ee =
      rw (ee, ew, en)
      (let end : ℕ = same_until items i (get_or items i 0) (beq b.pulls (brush_on b (get_or items i 0)).pulls) in
      let next : Brush = brush_on b (get_or items i 0) in
      let word : ℕ = ink_of standing b next (get_or items i 0) in
      let w = before.written in
      let k = run_goes standing items i b h in
      let forward = k.1 in
      let within = k.2 in
      let back : i + (end - i) ≡ end = omega arith in
      let l = w.long in
      let left : length (drop i lanes) ≡ length lanes - i = length-drop i lanes in
      let lent : length (take (end - i) (drop i lanes)) ≡ end - i = length-take-le (end - i) (drop i lanes) (omega arith) in
      record {
        forward = forward;
        within = within;
        painted_on = λ filled f.
            let new : filled ≡ repeated (end - i) word = f ∙ ap (λ (n : ℕ). repeated n word) lent in
            record {
              written =
                  subst (λ (n : ℕ). Written (painted standing b₀ items) (length items) n (splice i (end - i) filled lanes) (painted standing next (drop end items))) back
                  (part_written w filled (painted standing next (drop end items)) (omega arith) (ap length new ∙ repeated_length (end - i) word)
                  (k.0 ∙ ap (λ (xs : List ℕ). xs ++ painted standing next (drop end items)) (sym new)));
            };
      })

  pub paint_ends : length items ≤ i → lanes ≡ painted standing b₀ items
  unfolding painted
  paint_ends h = all_written before.written h (ap (painted standing b) (drop_of_length-le items h))
