-- What a drawing is, said without its code: a run of the record as a trace; and a record drawn in two parts is drawn as a whole.
use Rattle.std.specs.Prelude.{ℕ, suc, ◌≤◌, ◌≡◌, refl, Bool, true, false, cond, List, [], ◌∷◌, ◌++◌, eqb, ltb, length}
use Rattle.std.proofs.Common.{sym, ap, ◌∙◌, arith, lt-ltb, le-ltb, le-leb}
use Rattle.items.specs.First.{leading, NoneAbove}
use Rattle.wire.specs.Wire.{scl_of, sda_of}
use Rattle.firmware.specs.Handler.{Served}
use Rattle.steps.specs.declared.Item.TheVariants.{Sample}
use Rattle.steps.specs.Step.{after, after_all}
use Rattle.trace.specs.Run.{item_if, run_from, first_bad}
use Rattle.words.specs.Words.{is_called, met_if, item_taken, word_at}
use Rattle.lanes.specs.Lanes.{all_taken, all_words, driven}

-- ---- in two parts
pub taken_joined : (w : Served) (a b : List ℕ) → all_taken w (a ++ b) ≡ all_taken (all_taken w a) b
unfolding all_taken
taken_joined w [] b = refl
taken_joined w (x ∷ xs) b = taken_joined (item_taken w x) xs b

pub words_joined : (w : Served) (a b : List ℕ) → all_words w (a ++ b) ≡ all_words w a ++ all_words (all_taken w a) b
unfolding all_taken all_words
words_joined w [] b = refl
words_joined w (x ∷ xs) b = ap (λ (ys : List ℕ). word_at w x ∷ ys) (words_joined (item_taken w x) xs b)

called_joined : (called : Bool) (x : ℕ) (xs ys : List ℕ) → cond called (4 ∷ (x ∷ (xs ++ ys))) (x ∷ (xs ++ ys)) ≡ cond called (4 ∷ (x ∷ xs)) (x ∷ xs) ++ ys
called_joined true x xs ys = refl
called_joined false x xs ys = refl

pub driven_joined : (w : Served) (a b : List ℕ) → driven w (a ++ b) ≡ driven w a ++ driven (all_taken w a) b
unfolding all_taken driven
driven_joined w [] b = refl
driven_joined w (x ∷ xs) b =
    let called : Bool = is_called w.state.mssp.phase x in
    ap (λ (rest : List ℕ). cond called (4 ∷ (x ∷ rest)) (x ∷ rest)) (driven_joined (item_taken w x) xs b)
    ∙ called_joined called x (driven (item_taken w x) xs) (driven (all_taken (item_taken w x) xs) b)

-- ---- as a run
levels_rest : (x : ℕ) (xs : List ℕ) → NoneAbove 3 (x ∷ xs) → NoneAbove 3 xs
levels_rest x xs good k h = good (suc k) (omega arith)

level_first : (x : ℕ) (xs : List ℕ) → NoneAbove 3 (x ∷ xs) → x ≤ 3
level_first x xs good = good 0 (omega arith)

-- A level is a sample of a trace.
level_runs : (w : Served) (x : ℕ) (xs : List ℕ) → x ≤ 3 → run_from (after w (Sample (scl_of x) (sda_of x))) xs ≡ run_from w (x ∷ xs)
unfolding after_all
level_runs w x xs h = sym (ap (λ (t : Bool). run_from (after w (item_if t (eqb x 4) x)) xs) (lt-ltb x 4 (omega arith)))

runs_if :
    (called : Bool) (w : Served) (x : ℕ) (rest : List ℕ) → x ≤ 3
    → run_from (after (met_if called w) (Sample (scl_of x) (sda_of x))) rest ≡ run_from w (cond called (4 ∷ (x ∷ rest)) (x ∷ rest))
unfolding after_all
runs_if true w x rest h = level_runs (met_if true w) x rest h
runs_if false w x rest h = level_runs w x rest h

pub taken_is_run : (w : Served) (levels : List ℕ) → NoneAbove 3 levels → all_taken w levels ≡ run_from w (driven w levels)
unfolding all_taken driven after_all
taken_is_run w [] good = refl
taken_is_run w (x ∷ xs) good =
    taken_is_run (item_taken w x) xs (levels_rest x xs good)
    ∙ runs_if (is_called w.state.mssp.phase x) w x (driven (item_taken w x) xs) (level_first x xs good)

-- Each of its items is one.
items_if :
    (called : Bool) (x : ℕ) (rest : List ℕ) → x ≤ 3 → length rest ≤ first_bad rest
    → let trace : List ℕ = cond called (4 ∷ (x ∷ rest)) (x ∷ rest) in length trace ≤ first_bad trace
unfolding leading
items_if true x rest h more = rw (le-leb x 4 (omega arith)) (omega arith)
items_if false x rest h more = rw (le-leb x 4 (omega arith)) (omega arith)

driven_all : (w : Served) (levels : List ℕ) → NoneAbove 3 levels → length (driven w levels) ≤ first_bad (driven w levels)
unfolding driven leading
driven_all w [] good = omega arith
driven_all w (x ∷ xs) good =
    items_if (is_called w.state.mssp.phase x) x (driven (item_taken w x) xs) (level_first x xs good) (driven_all (item_taken w x) xs (levels_rest x xs good))

pub driven_items : (w : Served) (levels : List ℕ) → NoneAbove 3 levels → let trace : List ℕ = driven w levels in ltb (first_bad trace) (length trace) ≡ false
driven_items w levels good = le-ltb (first_bad (driven w levels)) (length (driven w levels)) (driven_all w levels good)
