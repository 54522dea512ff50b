-- A loop that writes lanes: what is written so far, with what is still to be written, is the whole.
use Rattle.std.specs.Prelude.{ℕ, ◌+◌, ◌-◌, ◌<◌, ◌≤◌, ◌≡◌, refl, List, [], ◌∷◌, ◌++◌, length, take, drop, set}
use Rattle.std.proofs.Common.{sym, ap, ap₂, ◌∙◌, append-nil, append_assoc, arith, add-one, length-set, length-append, length-drop, take_all, take_at, take-suc-set, length-take-le}
use Rattle.std.proofs.Math.Seq.{append_snoc, take-append-add}
use Rattle.firmware.specs.Window.{splice}

pub record Written (whole : List ℕ) (n i : ℕ) (lanes rest : List ℕ) : Type 0 where
  pub within : i ≤ n
  pub long : length lanes ≡ n
  pub words : take i lanes ++ rest ≡ whole

pub writing_begins : {n : ℕ} {lanes whole : List ℕ} → length lanes ≡ n → Written whole n 0 lanes whole
writing_begins l = record { within = omega arith; long = l; words = refl }

module _ {whole lanes rest : List ℕ} {n i : ℕ} (w : Written whole n i lanes rest) where
  pub one_written : {word : ℕ} {more : List ℕ} → i < n → rest ≡ word ∷ more → Written whole n (i + 1) (set lanes i word) more
  one_written {word} {more} h e =
      let l = w.long in
      record {
        within = omega arith;
        long = length-set lanes i word ∙ l;
        words =
            ap (λ (x : List ℕ). x ++ more) (ap (λ (k : ℕ). take k (set lanes i word)) (add-one i) ∙ take-suc-set lanes i word (omega arith))
            ∙ append_snoc (take i lanes) word more ∙ ap (λ (x : List ℕ). take i lanes ++ x) (sym e) ∙ w.words;
      }

  pub part_written :
      (new more : List ℕ) {k : ℕ} → i + k ≤ n → length new ≡ k → rest ≡ new ++ more → Written whole n (i + k) (splice i k new lanes) more
  part_written new more {k} h l e =
      let o = w.long in
      let behind : List ℕ = drop k (drop i lanes) in
      let front : length (take i lanes) ≡ i = length-take-le i lanes (omega arith) in
      let back : length behind ≡ n - i - k = length-drop k (drop i lanes) ∙ ap (λ (x : ℕ). x - k) (length-drop i lanes ∙ ap (λ (x : ℕ). x - i) o) in
      let whole_part : length (new ++ behind) ≡ k + (n - i - k) = length-append new behind ∙ ap₂ ◌+◌ l back in
      record {
        within = h;
        long = length-append (take i lanes) (new ++ behind) ∙ ap₂ ◌+◌ front whole_part ∙ omega arith;
        words =
            ap (λ (x : List ℕ). x ++ more)
            (sym (ap (λ (x : ℕ). take (x + k) (splice i k new lanes)) front) ∙ take-append-add (take i lanes) (new ++ behind) k
            ∙ ap (λ (x : List ℕ). take i lanes ++ x) (take_at new behind k l))
            ∙ append_assoc (take i lanes) new more ∙ ap (λ (x : List ℕ). take i lanes ++ x) (sym e) ∙ w.words;
      }

  pub all_written : n ≤ i → rest ≡ [] → lanes ≡ whole
  all_written h e =
      let l = w.long in
      sym (take_all i lanes (omega arith)) ∙ sym (append-nil (take i lanes)) ∙ ap (λ (x : List ℕ). take i lanes ++ x) (sym e) ∙ w.words
