-- The ways through a call: what the code knows on each, and what follows.
use Rattle.std.specs.Prelude.{ℕ, ◌+◌, ◌-◌, ◌<◌, ◌≤◌, ◌≡◌, refl, Bool, true, false, not, ◌&&◌, Ok, Err, List, T, eqb, leb, length}
use Rattle.std.proofs.Common.{sym, ap, ap₂, ◌∙◌, arith, leb→le, leb-true, leb-false, le-leb}
use Rattle.std.proofs.lemmas.Bool.{not-true, not-false, lt-leb}
use Rattle.truth.specs.Tests.{by_test, and_first, and_left, and_right}
use Rattle.refusals.specs.declared.Refusal.TheVariants.{NoWindow}
use Rattle.firmware.specs.declared.State.{State}
use Rattle.firmware.specs.Handler.{longest_window, is_window_length, Served, served, acknowledged, addressed, sent, taken, serve, called_if, called}
use Rattle.firmware.specs.Window.{window_fits, window_of, splice, in_buffer, called_in, window_outcome, work_done, call_choice, call_of}

module _ (s : State) (bytes : List ℕ) where
  -- A call, by what its two tests are.
  by_tests : (i k : Bool) → s.mssp.live.sspif ≡ i → s.mssp.live.ckp ≡ k → called s bytes ≡ called_if i k s bytes
  by_tests i k ei ek = ap₂ (λ (x y : Bool). called_if x y s bytes) ei ek

  by_case :
      (w d : Bool) → s.mssp.live.rw ≡ w → s.mssp.live.da ≡ d
      → serve s.mssp.live.rw s.mssp.live.da (acknowledged s) bytes ≡ serve w d (acknowledged s) bytes
  by_case w d ew ed = ap₂ (λ (x y : Bool). serve x y (acknowledged s) bytes) ew ed

  pub call_idle : not s.mssp.live.sspif ≡ true → served s bytes ≡ called s bytes
  call_idle e = sym (by_tests false s.mssp.live.ckp (not-true s.mssp.live.sspif e) refl)

  module _ (e : not s.mssp.live.sspif ≡ false) {t : State} (cleared : t ≡ acknowledged s) where
    pub call_clears : s.mssp.live.ckp ≡ true → served t bytes ≡ called s bytes
    call_clears k =
        ap (λ (x : State). served x bytes) cleared ∙ sym (by_tests true true (not-false s.mssp.live.sspif e) k)

    module _ (k : s.mssp.live.ckp ≡ false) where
      serving : called s bytes ≡ serve s.mssp.live.rw s.mssp.live.da (acknowledged s) bytes
      serving = by_tests true false (not-false s.mssp.live.sspif e) k

      pub call_sends : s.mssp.live.rw ≡ true → {r : State} → r ≡ sent t bytes → served r bytes ≡ called s bytes
      call_sends w f =
          ap (λ (x : State). served x bytes) (rw cleared at f) ∙ sym (serving ∙ by_case true s.mssp.live.da w refl)

      module _ (w : s.mssp.live.rw ≡ false) where
        pub call_takes :
            s.mssp.live.da ≡ true → {r : State} {left : List ℕ} → served r left ≡ taken t bytes
            → served r left ≡ called s bytes
        call_takes d f = rw cleared at f ∙ sym (serving ∙ by_case false true w d)

        pub call_addresses : s.mssp.live.da ≡ false → {r : State} → r ≡ addressed t → served r bytes ≡ called s bytes
        call_addresses d f =
            ap (λ (x : State). served x bytes) (rw cleared at f) ∙ sym (serving ∙ by_case false false w d)

-- ---- the window
-- Its length, by the test and by the numbers.
pub length_within : (n : ℕ) → T (is_window_length n) → (1 ≤ n) × (n ≤ longest_window)
length_within n t =
    (leb→le 1 n (and_left (leb 1 n) (leb n longest_window) t), leb→le n longest_window (and_right (leb 1 n) (leb n longest_window) t))

pub within_length : (n : ℕ) → 1 ≤ n → n ≤ longest_window → is_window_length n ≡ true
within_length n some most = rw (le-leb 1 n some, le-leb n longest_window most)

fits_shift : (long start n : ℕ) → start ≤ long → leb n (long - start) ≡ leb (start + n) long
fits_shift long start n h =
    by_test (leb n (long - start))
    (λ t. let g = leb-true n (long - start) t in t ∙ sym (le-leb (start + n) long (omega arith)))
    (λ t. let g = leb-false n (long - start) t in t ∙ sym (lt-leb (start + n) long (omega arith)))

pub fits_not : (long start n wanted : ℕ) → long < start → false ≡ window_fits long start n wanted
fits_not long start n wanted h = rw (lt-leb (start + n) long (omega arith))

pub fits_so :
    (long start n wanted : ℕ) → start ≤ long → leb n (long - start) && eqb n wanted ≡ window_fits long start n wanted
fits_so long start n wanted h = rw (fits_shift long start n h)

pub inside : {f : Bool} (long start n wanted : ℕ) → f ≡ window_fits long start n wanted → f ≡ true → start + n ≤ long
inside long start n wanted e t = leb-true (start + n) long (and_first (leb (start + n) long) (eqb n wanted) (sym e ∙ t))

-- The part that was lent comes back into its place, whatever worked on it.
pub part_back :
    (work : List ℕ → Served) (buffer : List ℕ) (start n : ℕ) {r : State} {left : List ℕ}
    → served r left ≡ work (window_of start (start + n - start) buffer)
    → served r (splice start (start + n - start) left buffer) ≡ in_buffer work buffer start n
part_back work buffer start n e =
    let k : start + n - start ≡ n = omega arith in
    let f = rw k at e in
    rw (k, ← f)

module _ (s : State) (buffer : List ℕ) (start n : ℕ) where
  pub call_done :
      {f : Bool} → f ≡ window_fits (length buffer) start n s.handler.n → f ≡ true
      → {r : State} {left : List ℕ} → served r left ≡ called_in s buffer start n
      → window_outcome (Ok 0) 0 r left ≡ call_of s buffer start n
  call_done e t h = ap work_done h ∙ sym (ap (call_choice s buffer start n) (sym e ∙ t))

  pub call_refused :
      {f : Bool} → f ≡ window_fits (length buffer) start n s.handler.n → f ≡ false
      → window_outcome (Err NoWindow) 0 s buffer ≡ call_of s buffer start n
  call_refused e t = sym (ap (call_choice s buffer start n) (sym e ∙ t))
