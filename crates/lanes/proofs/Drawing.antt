-- The loop of a drawing, by what is left of the items: over a stretch the painted words are those of its items; every other item is
-- drawn by itself.
use Rattle.std.specs.Prelude.{ℕ, suc, ◌+◌, ◌-◌, ◌/◌, ◌%◌, ◌≤◌, ◌<◌, ◌≡◌, Bool, true, false, cond, ◌&&◌, eqb, leb, length, take, set}
use Rattle.std.proofs.Math.Path.{refl, sym, ap, ap₂}
use Rattle.std.proofs.Common.{subst, ◌∙◌, arith, length-take, length-drop, length-append, take-append-drop, leb-true, add-one, drop-drop, length-take-le}
use mathlib.Core.List.{List, [], ◌∷◌, ◌++◌}
use mir.Val.{bool_byte}
use Rattle.std.proofs.Math.ListN.{drop, get_or, drop_of_length-le}
use Rattle.truth.specs.Tests.{never, or_false}
use Rattle.items.specs.First.{leading, first_above}
use Rattle.wire.specs.declared.Edge.{Edge}
use Rattle.wire.specs.declared.Edge.TheVariants.{Still, Start, Stop, Rise, Fall}
use Rattle.wire.specs.Byte.{zero_at}
use Rattle.wire.specs.Wire.{scl_of, sda_of, on_wire, edge_of, scl_high}
use Rattle.mssp.specs.declared.Config.{Config}
use Rattle.mssp.specs.declared.Live.{Live}
use Rattle.mssp.specs.declared.Phase.{Phase}
use Rattle.mssp.specs.declared.Phase.TheVariants.{Quiet, Address, Data, HeldBefore, Slot, HeldForSending, Sending, MasterAcknowledge, HeldForAdd}
use Rattle.mssp.specs.declared.Module.{Module}
use Rattle.mssp.specs.Phases.{phase_number}
use Rattle.mssp.specs.Drivers.{scl_pulled, sda_pulled}
use Rattle.register_bytes.specs.Bytes.{stat_of}
use Rattle.sampling.specs.Rules.{sampled}
use Rattle.stretch.specs.declared.Seen.{Seen}
use Rattle.stretch.specs.declared.Stretch.{Stretch}
use Rattle.stretch.specs.Seen.{line_of, ended_by}
use Rattle.stretch.specs.Walk.{walked, steps}
use Rattle.stretch.specs.Stretch.{phase_over}
use Rattle.stretch.proofs.Sampled.{module_seen, Sampled}
use Rattle.samples.specs.Samples.{passed_over}
use Rattle.samples.proofs.Laws.{passed_along}
use Rattle.firmware.specs.declared.Handler.{Handler}
use Rattle.firmware.specs.Handler.{Served, served, state_of}
use Rattle.steps.specs.declared.Item.TheVariants.{Sample}
use Rattle.steps.specs.Step.{after}
use Rattle.words.specs.Words.{is_called, met_if, item_taken, edge_at, in_conflict, events_of, lines_by, lines_of, flags_of, standing_by, standing_of, word_by, word_at, storing, most_standing, DrawnItem, drawn, drawn_item}
use Rattle.lanes.specs.declared.Brush.{Brush}
use Rattle.lanes.specs.Paint.{brush_in, brush_step, brush_on, ink_of, painted}
use Rattle.lanes.specs.Lanes.{all_taken, all_words, free_of, free_stretch, laned, laned_of}
use Rattle.std.proofs.Math.Seq.{drop-cons}
use Rattle.std.proofs.lemmas.List.{drop-append-le, take-append-le}
use Rattle.stretch.proofs.Theorems.{stretch_within}
use Rattle.samples.proofs.Loop.{lent_from, lent_is}
use Rattle.firmware.specs.declared.State.{State}
use Rattle.firmware.specs.Window.{splice}
use Rattle.trace.proofs.Theorems.{called-length}
use Rattle.lanes.specs.Writing.{Written, writing_begins, one_written, part_written, all_written}

-- ---- what a level that ends no stretch leaves of a phase: number, hold and brush
sent_on :
    (byte place : ℕ) (w : Seen) (before scl : Bool) → w.scl ≡ before
    → brush_in (Sending byte (cond before (cond scl place (place % 8 + 1)) place)) scl ≡ brush_step (brush_in (Sending byte place) before) scl
sent_on byte place w true true e = refl
sent_on byte place w true false e =
    let on : ℕ = place % 8 + 1 in
    ap (λ (t : Bool). record { sends = true; byte = byte; place = on; pulls = t; scl = false }) (sym (or_false (zero_at byte on)))
sent_on byte place w false true e = refl
sent_on byte place w false false e = refl

abbrev Alike : Phase → Seen → Bool → Phase → Type 0
Alike ph w scl next =
    (phase_number next ≡ phase_number ph) × (scl_pulled next ≡ scl_pulled ph) × (brush_in next scl ≡ brush_step (brush_in ph w.scl) scl)

phase_alike : (ph : Phase) (w : Seen) (scl sda : Bool) → Alike ph w scl (phase_over ph w scl sda)
phase_alike Quiet w scl sda = (refl, refl, refl)
phase_alike (Address bits low) w scl sda = (refl, refl, refl)
phase_alike (Data bits true) w scl sda = (refl, refl, refl)
phase_alike (Data bits false) w scl sda = (refl, refl, refl)
phase_alike (HeldBefore refused which) w scl sda = (refl, refl, refl)
phase_alike (Slot slot which) w scl sda = (refl, refl, refl)
phase_alike HeldForSending w scl sda = (refl, refl, refl)
phase_alike (Sending byte place) w scl sda = (refl, refl, sent_on byte place w w.scl scl refl)
phase_alike MasterAcknowledge w scl sda = (refl, refl, refl)
phase_alike (HeldForAdd next) w scl sda = (refl, refl, refl)

-- ---- one item of a stretch at which the handler is not called
calm_events : (e : Edge) (conflict : Bool) → ended_by false false e ≡ false → events_of false false e conflict ≡ events_of false false Still conflict
calm_events Still conflict h = refl
calm_events Start conflict h = never (sym h)
calm_events Stop conflict h = never (sym h)
calm_events (Rise sda) conflict h = refl
calm_events Fall conflict h = refl

as_recorded : (pulled level : Bool) → pulled && level ≡ false → on_wire pulled level ≡ level
as_recorded true true h = never (sym h)
as_recorded true false h = refl
as_recorded false level h = refl

abbrev pub brush_of : Module → Brush
brush_of m = brush_in m.phase (scl_high m.line.remembered)

module _ (h : Handler) (bytes : List ℕ) where
  abbrev put : Module → Served
  put m = served (state_of m h) bytes

  record Over (m : Module) (item : ℕ) (n : Module) : Type 0 where
    pub held : scl_pulled n.phase ≡ scl_pulled m.phase
    pub stands : standing_of (state_of n h) ≡ standing_of (state_of m h)
    pub brush : brush_of n ≡ brush_on (brush_of m) item
    pub taken : item_taken (put m) item ≡ put n
    pub word : word_at (put m) item ≡ ink_of (standing_of (state_of m h)) (brush_of m) (brush_of n) item

  module _ (c : Config) (enabled : c.sspen ≡ true) (l : Live) (ph : Phase) (w : Seen) (item : ℕ) (free : is_called ph item ≡ false) where
    abbrev m : Module
    m = module_seen c l ph w

    abbrev next : Phase → Seen → Module
    next ph' w' = module_seen c l ph' w'

    -- Without a call the word is the sample's.
    word_free :
        {n : Module} → sampled m (scl_of item) (sda_of item) ≡ n
        → word_at (put m) item ≡ word_by (standing_of (state_of n h)) (lines_of n) (events_of false false (edge_at m item) (in_conflict ph item))
    word_free e =
        ap (λ (t : Bool). word_by (standing_of (after (met_if t (put m)) (Sample (scl_of item) (sda_of item))).state) (lines_of (after (met_if t (put m)) (Sample (scl_of item) (sda_of item))).state.mssp) (events_of t (t && storing (state_of m h)) (edge_at (met_if t (put m)).state.mssp item) (in_conflict (met_if t (put m)).state.mssp.phase item))) free
        ∙ ap (λ (n : Module). word_by (standing_of (state_of n h)) (lines_of n) (events_of false false (edge_at m item) (in_conflict ph item))) e

    over_so : {ph' : Phase} {w' : Seen} → Sampled c l ph w item ph' w' → Over m item (next ph' w')
    over_so {ph'} {w'} k =
        let scl : Bool = on_wire (scl_pulled ph) (scl_of item) in
        let sda : Bool = on_wire (sda_pulled ph) (sda_of item) in
        let same : scl ≡ scl_of item = as_recorded (scl_pulled ph) (scl_of item) free in
        let alike : Alike ph w scl ph' = subst (Alike ph w scl) (sym k.phase) (phase_alike ph w scl sda) in
        let stands : standing_of (state_of (next ph' w') h) ≡ standing_of (state_of m h) =
        ap₂ (λ (held : Bool) (number : ℕ). standing_by (bool_byte held) number (stat_of c l (eqb number 8)) (flags_of m) h.pointer l.buf) alike.1 alike.0 in
        let brush : brush_of (next ph' w') ≡ brush_on (brush_of m) item =
        ap (λ (x : Seen). brush_in ph' x.scl) k.wire ∙ alike.2 ∙ ap (brush_step (brush_in ph w.scl)) same in
        record {
          held = alike.1;
          stands = stands;
          brush = brush;
          taken = ap (λ (t : Bool). after (met_if t (put m)) (Sample (scl_of item) (sda_of item))) free ∙ ap put k.leaves;
          word =
              word_free k.leaves
              ∙ ap₂ (λ (s e : ℕ). word_by s (lines_of (next ph' w')) e) stands
              (ap (λ (t : Bool). events_of false false (cond t (edge_of (line_of w) scl sda) Still) (in_conflict ph item)) enabled
              ∙ calm_events (edge_of (line_of w) scl sda) (in_conflict ph item) k.calm)
              ∙ ap (λ (x : Seen). word_by (standing_of (state_of m h)) (lines_by (sda_pulled ph') w'.scl x.sda) (events_of false false Still (in_conflict ph item))) k.wire;
        }

  -- ---- a walk of samples
  record Passes (m : Module) (items : List ℕ) (n : Module) (k : ℕ) : Type 0 where
    pub stands : standing_of (state_of n h) ≡ standing_of (state_of m h)
    pub taken : (tail : List ℕ) → all_taken (put m) (items ++ tail) ≡ all_taken (put n) (drop k items ++ tail)
    pub words :
        (tail : List ℕ)
        → all_words (put m) (items ++ tail) ≡ painted (standing_of (state_of m h)) (brush_of m) (take k items) ++ all_words (put n) (drop k items ++ tail)

  -- Where the handler is not called at any of the items.
  data Free (held : Bool) : List ℕ → Type 0 where
    no_more : Free held []
    one_more : {item : ℕ} {items : List ℕ} → held && scl_of item ≡ false → Free held items → Free held (item ∷ items)

  abbrev FreePasses : Module → List ℕ → Module → ℕ → Type 0
  FreePasses m items n k = Free (scl_pulled m.phase) items → Passes m items n k

  passes_nowhere : (m : Module) (items : List ℕ) → FreePasses m items m 0
  unfolding painted
  passes_nowhere m items f = record { stands = refl; taken = λ tail. refl; words = λ tail. refl }

  passes_on : {m n o : Module} {item : ℕ} {items : List ℕ} {k : ℕ} → Over m item n → Passes n items o k → Passes m (item ∷ items) o (suc k)
  unfolding all_taken all_words painted
  passes_on {m} {n} {o} {item} {items} {k} step rest =
      record {
        stands = rest.stands ∙ step.stands;
        taken = λ tail. ap (λ (w : Served). all_taken w (items ++ tail)) step.taken ∙ rest.taken tail;
        words = λ tail.
            ap₂ (λ (x : ℕ) (w : Served). x ∷ all_words w (items ++ tail)) step.word step.taken
            ∙ ap (λ (xs : List ℕ). ink_of (standing_of (state_of m h)) (brush_of m) (brush_of n) item ∷ xs) (rest.words tail)
            ∙ ap₂ (λ (s : ℕ) (b : Brush). ink_of (standing_of (state_of m h)) (brush_of m) b item ∷ (painted s b (take k items) ++ all_words (put o) (drop k items ++ tail))) step.stands step.brush;
      }

  module _ (P : Type 0) (stops : P → ℕ → Bool) (goes : P → ℕ → P) (c : Config) (enabled : c.sspen ≡ true) (l : Live) (ph : P → Phase) (wire : P → Seen) (law : (p : P) (item : ℕ) → stops p item ≡ false → Sampled c l (ph p) (wire p) item (ph (goes p item)) (wire (goes p item))) where
    abbrev seen_at : P → Module
    seen_at p = module_seen c l (ph p) (wire p)

    walks_if :
        (t : Bool) (p : P) (x : ℕ) (xs : List ℕ) → stops p x ≡ t
        → FreePasses (seen_at (goes p x)) xs (seen_at (walked stops goes (goes p x) xs)) (steps stops goes (goes p x) xs)
        → FreePasses (seen_at p) (x ∷ xs) (seen_at (cond t p (walked stops goes (goes p x) xs))) (cond t 0 (suc (steps stops goes (goes p x) xs)))
    walks_if true p x xs e rest f = passes_nowhere (seen_at p) (x ∷ xs) f
    walks_if false p x xs e rest (one_more free f) =
        let o = over_so c enabled l (ph p) (wire p) x free (law p x e) in
        passes_on o (rest (subst (λ (held : Bool). Free held xs) (sym o.held) f))

    passes_walks : (p : P) (items : List ℕ) → FreePasses (seen_at p) items (seen_at (walked stops goes p items)) (steps stops goes p items)
    unfolding walked steps
    passes_walks p [] = passes_nowhere (seen_at p) []
    passes_walks p (x ∷ xs) = walks_if (stops p x) p x xs refl (passes_walks (goes p x) xs)

  -- ---- the stretch ahead, up to an item at which the handler can be called
  low_free : (item : ℕ) → leb item 1 ≡ true → scl_of item ≡ false
  low_free item e = let k = leb-true item 1 e in let z : item / 2 ≡ 0 = omega arith in ap (λ (x : ℕ). eqb (x % 2) 1) z

  front_if : (t : Bool) (x : ℕ) (xs : List ℕ) → leb x 1 ≡ t → Free true (take (first_above 1 xs) xs) → Free true (take (cond t (suc (first_above 1 xs)) 0) (x ∷ xs))
  front_if true x xs e rest = one_more (low_free x e) rest
  front_if false x xs e rest = no_more

  lows_free : (items : List ℕ) → Free true (take (first_above 1 items) items)
  unfolding leading
  lows_free [] = no_more
  lows_free (x ∷ xs) = front_if (leb x 1) x xs refl (lows_free xs)

  all_free : (items : List ℕ) → Free false items
  all_free [] = no_more
  all_free (x ∷ xs) = one_more refl (all_free xs)

  front_free : (held : Bool) (items : List ℕ) → Free held (take (cond held (first_above 1 items) (length items)) items)
  front_free true items = lows_free items
  front_free false items = all_free (take (length items) items)

  stretch_passes :
      (m : Module) (items : List ℕ) → let r : Stretch = free_stretch m items in
      Passes m (take (free_of m.phase items) items) (passed_over m r) r.length
  stretch_passes m items =
      passed_along FreePasses passes_nowhere (λ P stops goes c enabled l ph wire law. passes_walks P stops goes c enabled l ph wire law) m (take (free_of m.phase items) items)
      (front_free (scl_pulled m.phase) items)

-- ---- the loop
painted_length : (standing : ℕ) (b : Brush) (items : List ℕ) → length (painted standing b items) ≡ length items
unfolding painted
painted_length standing b [] = refl
painted_length standing b (item ∷ items) = ap suc (painted_length standing (brush_on b item) items)

pub record Underway (w₀ : Served) (items : List ℕ) (i : ℕ) (w : Served) (lanes : List ℕ) (stands : ℕ) : Type 0 where
  pub taken : all_taken w (drop i items) ≡ all_taken w₀ items
  pub written : Written (all_words w₀ items) (length items) i lanes (all_words w (drop i items))
  pub standing : stands ≡ standing_of w.state
  pub most : stands ≤ most_standing

pub drawing_begins :
    {w : Served} {items lanes : List ℕ} {stands : ℕ} → length items ≡ length lanes
    → (stands ≡ standing_of w.state) × (stands ≤ most_standing) → Underway w items 0 w lanes stands
drawing_begins l s = record { taken = refl; written = writing_begins (sym l); standing = s.0; most = s.1 }

-- ---- the stretch ahead
-- What is passed of the items from i on, and how many they are.
record PassedFrom (items : List ℕ) (i : ℕ) (t : State) (bytes : List ℕ) (r : Stretch) : Type 0 where
  within : i + r.length ≤ length items
  long : length (take r.length (drop i items)) ≡ r.length
  taken : all_taken (served t bytes) (drop i items) ≡ all_taken (served (state_of (passed_over t.mssp r) t.handler) bytes) (drop (i + r.length) items)
  words :
      all_words (served t bytes) (drop i items)
      ≡ painted (standing_of t) (brush_of t.mssp) (take r.length (drop i items)) ++ all_words (served (state_of (passed_over t.mssp r) t.handler) bytes) (drop (i + r.length) items)
  stands : standing_of (state_of (passed_over t.mssp r) t.handler) ≡ standing_of t

passed_from :
    (items : List ℕ) (i : ℕ) → i ≤ length items → (t : State) (bytes : List ℕ) → let rest : List ℕ = drop i items in
    PassedFrom items i t bytes (free_stretch t.mssp rest)
passed_from items i h t bytes =
    let rest : List ℕ = drop i items in
    let m : Module = t.mssp in
    let part : List ℕ = take (free_of m.phase rest) rest in
    let tail : List ℕ = drop (free_of m.phase rest) rest in
    let r : Stretch = free_stretch m rest in
    let k : ℕ = r.length in
    let all : part ++ tail ≡ rest = take-append-drop (free_of m.phase rest) rest in
    let p = stretch_passes t.handler bytes m rest in
    let inside = stretch_within m part in
    let sum : length part + length tail ≡ length rest = sym (length-append part tail) ∙ ap length all in
    let left : length rest ≡ length items - i = length-drop i items in
    let on : drop k part ++ tail ≡ drop (i + k) items = sym (drop-append-le k part tail inside) ∙ ap (drop k) all ∙ drop-drop k i items in
    let front : take k part ≡ take k rest = sym (take-append-le k part tail inside) ∙ ap (take k) all in
    let after : Served = served (state_of (passed_over t.mssp r) t.handler) bytes in
    record {
      within = omega arith;
      long = length-take-le k rest (omega arith);
      taken = ap (all_taken (served t bytes)) (sym all) ∙ p.taken tail ∙ ap (all_taken after) on;
      words =
          ap (all_words (served t bytes)) (sym all) ∙ p.words tail
          ∙ ap₂ (λ (xs ys : List ℕ). painted (standing_of t) (brush_of m) xs ++ all_words after ys) front on;
      stands = p.stands;
    }

module _ {w₀ : Served} {items : List ℕ} {i : ℕ} {t : State} {bytes lanes : List ℕ} {stands : ℕ} (before : Underway w₀ items i (served t bytes) lanes stands) where
  passed_so : {r : Stretch} → r ≡ free_stretch t.mssp (lent_from i items) → PassedFrom items i t bytes r
  passed_so {r} is =
      subst (PassedFrom items i t bytes) (sym (is ∙ ap (λ (xs : List ℕ). free_stretch t.mssp xs) (lent_is i items)))
      (passed_from items i before.written.within t bytes)

  pub stretch_inside :
      {r : Stretch} → r ≡ free_stretch t.mssp (lent_from i items) → i + r.length ≤ length items
  stretch_inside is = (passed_so is).within

  -- As many words as items are lent.
  pub stretch_alike :
      {r : Stretch} → r ≡ free_stretch t.mssp (lent_from i items)
      → length (take (i + r.length - i) (drop i items)) ≡ length (take (i + r.length - i) (drop i lanes))
  stretch_alike is = simp (length-take, length-drop, before.written.long)

  pub stretch_drawn :
      {r : Stretch} {scl : Bool} {b : Brush} {n : Module} {u : State} {filled : List ℕ} → r ≡ free_stretch t.mssp (lent_from i items)
      → scl ≡ scl_high t.mssp.line.remembered → b ≡ brush_in t.mssp.phase scl
      → filled ≡ painted stands b (take (i + r.length - i) (drop i items)) → n ≡ passed_over t.mssp r
      → u ≡ state_of n t.handler
      → Underway w₀ items (i + r.length) (served u bytes) (splice i (i + r.length - i) filled lanes) stands
  stretch_drawn {r} {b = b} {u = u} {filled} is high e f over at =
      let p = passed_so is in
      let v : u ≡ state_of (passed_over t.mssp r) t.handler = at ∙ ap (λ (x : Module). state_of x t.handler) over in
      let k : i + r.length - i ≡ r.length = omega arith in
      let inked : filled ≡ painted (standing_of t) (brush_of t.mssp) (take r.length (drop i items)) =
      f ∙ ap (λ (n : ℕ). painted stands b (take n (drop i items))) k ∙ ap₂ (λ (s : ℕ) (c : Brush). painted s c (take r.length (drop i items))) before.standing (e ∙ ap (brush_in t.mssp.phase) high) in
      let more : List ℕ = all_words (served u bytes) (drop (i + r.length) items) in
      record {
        taken = ap (λ (x : State). all_taken (served x bytes) (drop (i + r.length) items)) v ∙ sym p.taken ∙ before.taken;
        written =
            subst (λ (n : ℕ). Written (all_words w₀ items) (length items) (i + r.length) (splice i n filled lanes) more) (sym k)
            (part_written before.written filled more p.within (ap length inked ∙ painted_length _ _ _ ∙ p.long)
            (p.words ∙ ap₂ (λ (xs : List ℕ) (x : State). xs ++ all_words (served x bytes) (drop (i + r.length) items)) (sym inked) (sym v)));
        standing = before.standing ∙ sym p.stands ∙ ap standing_of (sym v);
        most = before.most;
      }

  -- ---- one item
  pub item_next :
      {v : Served} {st word : ℕ} → i < length items → drawn v st word ≡ drawn_item (served t bytes) (get_or items i 0) → st ≤ most_standing
      → Underway w₀ items (i + 1) v (set lanes i word) st
  unfolding all_taken all_words
  item_next {v} {st} {word} h e m =
      let w : Served = served t bytes in
      let here : drop i items ≡ get_or items i 0 ∷ drop (i + 1) items = drop-cons items i 0 h ∙ ap (λ (k : ℕ). get_or items i 0 ∷ drop k items) (sym (add-one i)) in
      let left : v ≡ item_taken w (get_or items i 0) = ap (λ (d : DrawnItem). d.left) e in
      let told = ap (λ (d : DrawnItem). d.word) e in
      record {
        taken = ap (λ (x : Served). all_taken x (drop (i + 1) items)) left ∙ sym (ap (all_taken w) here) ∙ before.taken;
        written =
            one_written before.written h
            (ap (all_words w) here ∙ ap₂ (λ (x : ℕ) (y : Served). x ∷ all_words y (drop (i + 1) items)) (sym told) (sym left));
        standing = ap (λ (d : DrawnItem). d.standing) e ∙ ap (λ (x : Served). standing_of x.state) (sym left);
        most = m;
      }

  pub drawing-ends : length items ≤ i → laned (served t bytes) lanes ≡ laned_of w₀ items
  unfolding all_taken all_words
  drawing-ends h =
      let none : drop i items ≡ [] = drop_of_length-le items h in
      ap₂ laned (sym (ap (all_taken (served t bytes)) none) ∙ before.taken) (all_written before.written h (ap (all_words (served t bytes)) none))

-- ---- the window keeps its length
met-length : (called : Bool) (w : Served) → length (met_if called w).bytes ≡ length w.bytes
met-length true w = called-length w.state w.bytes
met-length false w = refl

pub taken-length : (w : Served) (items : List ℕ) → length (all_taken w items).bytes ≡ length w.bytes
unfolding all_taken
taken-length w [] = refl
taken-length w (item ∷ items) = taken-length (item_taken w item) items ∙ met-length (is_called w.state.mssp.phase item) w

pub window_stays :
    {w₀ : Served} {items : List ℕ} {i : ℕ} {w : Served} {lanes : List ℕ} {stands : ℕ} → Underway w₀ items i w lanes stands → length items ≤ i
    → length w.bytes ≡ length w₀.bytes
unfolding all_taken
window_stays {w₀} {items} {i} {w} before h =
    ap (λ (v : Served). length v.bytes) (sym (ap (all_taken w) (drop_of_length-le items h)) ∙ before.taken) ∙ taken-length w₀ items
