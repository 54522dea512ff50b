-- The ways through a step and a window: what the code knows on each, and what follows.
use Rattle.std.specs.Prelude.{ℕ, ◌+◌, ◌<◌, ◌≤◌, ◌≡◌, refl, Bool, true, false, not, Ok, Err, List, eqb, ltb, length}
use Rattle.std.proofs.Common.{sym, ap, ap₂, ◌∙◌, arith, lt-ltb, le-ltb, eq-eqb, ne_eqb}
use Rattle.std.proofs.lemmas.Bool.{not-true, not-false}
use Rattle.truth.specs.Tests.{never}
use Rattle.refusals.specs.declared.Refusal.TheVariants.{NoWindow, NoItem}
use Rattle.refusals.specs.Numbers.{Verdict, accepted}
use Rattle.items.specs.First.{first_above}
use Rattle.firmware.specs.declared.State.{State}
use Rattle.firmware.specs.Handler.{Served, served, called}
use Rattle.firmware.specs.Window.{window_fits, WindowOutcome, window_outcome, work_done}
use Rattle.firmware.proofs.Laws.{inside}
use Rattle.trace.specs.Run.{byte_step_if, byte_step}
use Rattle.trace.specs.Window.{checked, judged_of}

-- ---- one item
module _ (s : State) (bytes : List ℕ) (item : ℕ) where
  by_tests : (a b : Bool) → ltb item 4 ≡ a → eqb item 4 ≡ b → byte_step_if a b s bytes item ≡ byte_step s bytes item
  by_tests a b ea eb = sym (ap₂ (λ (x y : Bool). byte_step_if x y s bytes item) ea eb)

  pub step_calls : item ≡ 4 → {w : Served} → w ≡ called s bytes → w ≡ byte_step s bytes item
  step_calls h e = e ∙ by_tests false true (le-ltb item 4 (omega arith)) (eq-eqb item 4 h)

  pub step_idle : 4 ≤ item → (item ≡ 4 → ⊥) → served s bytes ≡ byte_step s bytes item
  step_idle h n = by_tests false false (le-ltb item 4 h) (ne_eqb item 4 n)

-- ---- the window
-- What was judged, and what follows for the work.
module _ {s : State} {buffer : List ℕ} {item : ℕ} {v : Verdict} (k : ℕ) where
  refused_so :
      (fits bad : Bool) (idle done : Served) → window_outcome v item s buffer ≡ checked fits bad k s buffer idle → accepted v ≡ false
      → window_outcome v item s buffer ≡ checked fits bad k s buffer done
  refused_so false bad idle done e a = e
  refused_so true true idle done e a = e
  refused_so true false idle done e a = never (sym a ∙ ap (λ (o : WindowOutcome). accepted o.verdict) e)

  done_so : (fits bad : Bool) (idle : Served) → window_outcome v item s buffer ≡ checked fits bad k s buffer idle → accepted v ≡ true → (fits ≡ true) × (bad ≡ false)
  done_so false bad idle e a = never (sym (ap (λ (o : WindowOutcome). accepted o.verdict) e) ∙ a)
  done_so true true idle e a = never (sym (ap (λ (o : WindowOutcome). accepted o.verdict) e) ∙ a)
  done_so true false idle e a = (refl, refl)

module _ (most : ℕ) (s : State) (buffer : List ℕ) (start n : ℕ) (items : List ℕ) {v : Verdict} {item : ℕ} {a : Bool} (judged : window_outcome v item s buffer ≡ judged_of most s buffer start n items (served s buffer)) (told : a ≡ accepted v) where
  pub work_refused : not a ≡ true → (done : Served) → window_outcome v item s buffer ≡ judged_of most s buffer start n items done
  work_refused h done =
      refused_so (first_above most items) (window_fits (length buffer) start n s.handler.n) (ltb (first_above most items) (length items)) (served s buffer) done judged (sym told ∙ not-true a h)

  module _ (h : not a ≡ false) where
    work_done_lem : (window_fits (length buffer) start n s.handler.n ≡ true) × (ltb (first_above most items) (length items) ≡ false)
    work_done_lem = done_so (first_above most items) (window_fits (length buffer) start n s.handler.n) (ltb (first_above most items) (length items)) (served s buffer) judged (sym told ∙ not-false a h)

    pub work_inside : start + n ≤ length buffer
    work_inside = inside (length buffer) start n s.handler.n refl work_done_lem.0

    pub all_done : {done : Served} {r : State} {left : List ℕ} → served r left ≡ done → window_outcome (Ok 0) 0 r left ≡ judged_of most s buffer start n items done
    all_done {done} e =
        ap work_done e ∙ sym (ap₂ (λ (x y : Bool). checked x y (first_above most items) s buffer done) work_done_lem.0 work_done_lem.1)

-- The two tests, and what they tell.
module _ (most : ℕ) (s : State) (buffer : List ℕ) (start n : ℕ) (items : List ℕ) {f : Bool} (fits : f ≡ window_fits (length buffer) start n s.handler.n) where
  chosen :
      (a b : Bool) → f ≡ a → ltb (first_above most items) (length items) ≡ b
      → checked a b (first_above most items) s buffer (served s buffer) ≡ judged_of most s buffer start n items (served s buffer)
  chosen a b ea eb = sym (ap₂ (λ (x y : Bool). checked x y (first_above most items) s buffer (served s buffer)) (sym fits ∙ ea) eb)

  pub no_window : not f ≡ true → window_outcome (Err NoWindow) 0 s buffer ≡ judged_of most s buffer start n items (served s buffer)
  no_window h = chosen false (ltb (first_above most items) (length items)) (not-true f h) refl

  module _ (h : not f ≡ false) {bad : ℕ} (first : bad ≡ first_above most items) where
    pub no_item : bad < length items → window_outcome (Err NoItem) bad s buffer ≡ judged_of most s buffer start n items (served s buffer)
    no_item l =
        ap (λ (k : ℕ). window_outcome (Err NoItem) k s buffer) first
        ∙ chosen true true (not-false f h) (rw first at (lt-ltb bad (length items) l))

    pub none_bad : length items ≤ bad → window_outcome (Ok 0) 0 s buffer ≡ judged_of most s buffer start n items (served s buffer)
    none_bad l = chosen true false (not-false f h) (rw first at (le-ltb bad (length items) l))
