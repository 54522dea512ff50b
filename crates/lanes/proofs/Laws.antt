-- The ways through a drawing over a window: what the code knows on each, and what follows.
use Rattle.std.specs.Prelude.{ℕ, suc, ◌+◌, ◌-◌, ◌≤◌, ◌≡◌, refl, Bool, true, false, cond, not, Ok, List, [], ◌∷◌, ◌++◌, ltb, length, take, drop}
use Rattle.std.proofs.Common.{sym, ap, ap₂, subst, ◌∙◌, arith, length-take-le, ltb-true, ltb-false}
use Rattle.std.proofs.lemmas.Bool.{not-true}
use Rattle.refusals.specs.Numbers.{Verdict, accepted}
use Rattle.firmware.specs.declared.State.{State}
use Rattle.firmware.specs.Handler.{Served, served}
use Rattle.firmware.specs.Window.{window_of, splice, WindowOutcome, window_outcome}
use Rattle.firmware.proofs.Laws.{part_back}
use Rattle.trace.specs.Window.{judged_of}
use Rattle.trace.proofs.Laws.{work_refused, all_done}
use Rattle.words.specs.Words.{item_taken}
use Rattle.lanes.specs.Lanes.{all_taken, all_words, Laned, laned, laned_of, laned_in, shorter_of, drawing, drawn_if, draw_items, draw_in_of}

-- As many words as items.
pub words_length : (w : Served) (items : List ℕ) → length (all_words w items) ≡ length items
unfolding all_words
words_length w [] = refl
words_length w (item ∷ items) = ap suc (words_length (item_taken w item) items)

-- What was drawn over the window comes back into its place.
pub laned_back :
    (s : State) (buffer : List ℕ) (start n : ℕ) (items : List ℕ) {r : State} {left lanes : List ℕ}
    → laned (served r left) lanes ≡ laned_of (served s (window_of start (start + n - start) buffer)) items
    → laned (served r (splice start (start + n - start) left buffer)) lanes ≡ laned_in s buffer start n items
laned_back s buffer start n items e =
    let k : start + n - start ≡ n = omega arith in
    ap₂ laned (part_back (λ bytes. all_taken (served s bytes) items) buffer start n (ap (λ (d : Laned). d.left) e))
    (ap (λ (d : Laned). d.lanes) e ∙ ap (λ (x : ℕ). all_words (served s (window_of start x buffer)) items) k)

shorter_if : (t : Bool) (items room : ℕ) → ltb room items ≡ t → (cond t room items ≤ items) × (cond t room items ≤ room)
shorter_if true items room e = let k = ltb-true room items e in (omega arith, omega arith)
shorter_if false items room e = let k = ltb-false room items e in (omega arith, omega arith)

pub shorter_within : (items room : ℕ) {count : ℕ} → count ≡ shorter_of items room → (count ≤ items) × (count ≤ room)
shorter_within items room is =
    subst (λ (k : ℕ). (k ≤ items) × (k ≤ room)) (sym is) (shorter_if (ltb room items) items room refl)

module _ (s : State) (buffer : List ℕ) (start n : ℕ) (items lanes : List ℕ) {count : ℕ} (is : count ≡ shorter_of (length items) (length lanes)) where
  abbrev part : List ℕ
  part = take count items

  part_length : length part ≡ count
  part_length = length-take-le count items (shorter_within (length items) (length lanes) is).0

  pub lent_alike : length part ≡ length (take count lanes)
  lent_alike = part_length ∙ sym (length-take-le count lanes (shorter_within (length items) (length lanes) is).1)

  taken_as : draw_items s buffer start n part lanes ≡ draw_in_of s buffer start n items lanes
  taken_as = ap (λ (k : ℕ). draw_items s buffer start n (take k items) lanes) is

  module _ {v : Verdict} {item : ℕ} {a : Bool} (judged : window_outcome v item s buffer ≡ judged_of 3 s buffer start n part (served s buffer)) (told : a ≡ accepted v) where
    pub draw_refused : not a ≡ true → drawing (window_outcome v item s buffer) lanes ≡ draw_in_of s buffer start n items lanes
    draw_refused h =
        let done : Laned = laned_in s buffer start n part in
        let o : WindowOutcome = window_outcome v item s buffer in
        sym (ap (λ (t : Bool). drawing o (cond t (done.lanes ++ drop (length done.lanes) lanes) lanes)) (sym told ∙ not-true a h))
        ∙ ap (λ (x : WindowOutcome). drawn_if x done.lanes lanes) (work_refused 3 s buffer start n part judged told h done.left) ∙ taken_as

    pub draw_done :
        not a ≡ false → {r : State} {left words : List ℕ} → laned (served r left) words ≡ laned_in s buffer start n part
        → drawing (window_outcome (Ok 0) 0 r left) (words ++ drop count lanes) ≡ draw_in_of s buffer start n items lanes
    draw_done h {r} {left} {words} e =
        let long : length words ≡ count = ap (λ (d : Laned). length d.lanes) e ∙ words_length (served s (window_of start n buffer)) part ∙ part_length in
        let o : WindowOutcome = window_outcome (Ok 0) 0 r left in
        sym (ap (λ (k : ℕ). drawing o (words ++ drop k lanes)) long)
        ∙ ap₂ (λ (x : WindowOutcome) (ws : List ℕ). drawn_if x ws lanes) (all_done 3 s buffer start n part judged told h (ap (λ (d : Laned). d.left) e)) (ap (λ (d : Laned). d.lanes) e)
        ∙ taken_as
