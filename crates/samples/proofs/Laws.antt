-- A stretch is a part of the samples: every item of it is a sample that the rules leave the module with where the stretch does.
use Rattle.std.specs.Prelude.{ℕ, zero, suc, ◌+◌, ◌-◌, ◌<◌, ◌≤◌, ◌≡◌, refl, Bool, true, false, List, [], ◌∷◌, leb, ltb, length, drop, get_or, Option, Some, None}
use Rattle.std.proofs.Math.Path.{sym, ap, subst}
use Rattle.std.proofs.Common.{ap₂, ◌∙◌, add-zero, eqb-true, ltb-true, ltb-false, leb-true, leb-false, lt-ltb, le-ltb}
use Rattle.std.proofs.Math.Bool.{cond}
use native.Mathlib.Omega.{arith}
use Rattle.truth.specs.Tests.{never, by_test, and_first, and_second}
use Rattle.wire.specs.declared.Bits.{Bits}
use Rattle.wire.specs.declared.Level.{Level}
use Rattle.mssp.specs.declared.Config.{Config}
use Rattle.mssp.specs.declared.Live.{Live}
use Rattle.mssp.specs.declared.Phase.{Phase}
use Rattle.mssp.specs.declared.Phase.TheVariants.{Quiet, Address, Data, HeldBefore, Slot, HeldForSending, Sending, MasterAcknowledge, HeldForAdd}
use Rattle.mssp.specs.declared.Module.{Module}
use Rattle.mssp.specs.declared.Stand.{Stand}
use Rattle.mssp.specs.Module.{module_of, stand_of}
use Rattle.mssp.specs.Phases.{phase_number, bits_of, is_sending}
use Rattle.phase_image.proofs.Laws.{by_number}
use Rattle.mssp.specs.Drivers.{scl_pulled, sda_pulled}
use Rattle.stretch.specs.declared.Seen.{Seen}
use Rattle.stretch.specs.declared.Taken.{Taken}
use Rattle.stretch.specs.declared.Sent.{Sent}
use Rattle.stretch.specs.declared.Stretch.{Stretch}
use Rattle.stretch.specs.Walk.{walked, steps}
use Rattle.stretch.specs.Walking.{Onward, walk_onward, Walking, walk_on, walk_by, walk_stops, walk_out}
use Rattle.stretch.specs.Stretch.{takes_bits, with_bits, rise_rule, fall_rule, stretch_by, taken_with, taking_stops, taking_goes, sent_with, sending_stops, sending_goes, resting_stops, resting_goes, stretch_from, stand_stretch, stretch_of}
use Rattle.stretch.proofs.Theorems.{stretch_within}
use Rattle.stretch.proofs.Sampled.{module_seen, Sampled, bits_go, sending_goes_lem, rest_goes}
use Rattle.samples.proofs.Loop.{lent_from, lent_is}
use Rattle.samples.specs.Samples.{no_sample, sample_at, sampled_at, moved_on, passed_over, fed_by, fed_of}

-- A phase has its own bits, and a byte that is sent its own place.
own_bits : (ph : Phase) → with_bits ph (bits_of ph) ≡ ph
own_bits Quiet = refl
own_bits (Address bits low) = refl
own_bits (Data bits held) = refl
own_bits (HeldBefore refused which) = refl
own_bits (Slot slot which) = refl
own_bits HeldForSending = refl
own_bits (Sending byte place) = refl
own_bits MasterAcknowledge = refl
own_bits (HeldForAdd next) = refl

own-byte : (ph : Phase) → is_sending ph ≡ true → Sending (bits_of ph).value (bits_of ph).count ≡ ph
own-byte ph s = by_number ph (eqb-true (phase_number ph) 6 s)

-- The byte that is sent stays the same.
byte_if : (t : Bool) (p q : Sent) → q.byte ≡ p.byte → (cond t p q).byte ≡ p.byte
byte_if true p q e = refl
byte_if false p q e = e

byte_stays : (p : Sent) (items : List ℕ) → (walked sending_stops sending_goes p items).byte ≡ p.byte
unfolding walked
byte_stays p [] = refl
byte_stays p (x ∷ xs) = byte_if (sending_stops p x) p (walked sending_stops sending_goes (sending_goes p x) xs) (byte_stays (sending_goes p x) xs)

-- ---- a stretch is a walk, and what holds along each walk of samples holds along the stretch ahead
-- It holds from a module over none of the items, and along each walk whose items are samples that leave what the walk does.
abbrev pub OnEachWalk : (Module → List ℕ → Module → ℕ → Type 0) → Type 1
OnEachWalk Along =
    (P : Type 0) (stops : P → ℕ → Bool) (goes : P → ℕ → P) (c : Config) → c.sspen ≡ true → (l : Live) (ph : P → Phase) (wire : P → Seen)
    → ((p : P) (item : ℕ) → stops p item ≡ false → Sampled c l (ph p) (wire p) item (ph (goes p item)) (wire (goes p item)))
    → (p : P) (items : List ℕ)
    → Along (module_seen c l (ph p) (wire p)) items (module_seen c l (ph (walked stops goes p items)) (wire (walked stops goes p items))) (steps stops goes p items)

module _ (Along : Module → List ℕ → Module → ℕ → Type 0) (nowhere : (m : Module) (items : List ℕ) → Along m items m 0) (walks : OnEachWalk Along) where
  module _ (c : Config) (enabled : c.sspen ≡ true) (l : Live) where
    abbrev AlongPhase : Phase → Seen → List ℕ → Stretch → Type 0
    AlongPhase ph w items r = Along (module_seen c l ph w) items (module_seen c l r.phase r.wire) r.length

    -- By whether the phase takes bits, else by whether it sends.
    along_by :
        (takes sends : Bool) (ph : Phase) (w : Seen) (items : List ℕ) → takes_bits ph ≡ takes → is_sending ph ≡ sends
        → AlongPhase ph w items (stretch_by takes sends ph l.acktim w items)
    along_by true sends ph w items t s =
        subst (λ (x : Phase). AlongPhase x w items (stretch_by true sends ph l.acktim w items)) (own_bits ph)
        (walks Taken taking_stops taking_goes c enabled l (λ (p : Taken). with_bits ph p.bits) (λ (p : Taken). p.wire) (λ p item e. bits_go c enabled l ph t p item e) (taken_with (bits_of ph) w) items)
    along_by false true ph w items t s =
        let from : Sent = sent_with (bits_of ph).value (bits_of ph).count w in let end : Sent = walked sending_stops sending_goes from items in
        subst (λ (x : Phase). AlongPhase x w items (stretch_by false true ph l.acktim w items)) (own-byte ph s)
        (subst (λ (byte : ℕ). Along (module_seen c l (Sending (bits_of ph).value (bits_of ph).count) w) items (module_seen c l (Sending byte end.place) end.wire) (steps sending_stops sending_goes from items))
        (byte_stays from items)
        (walks Sent sending_stops sending_goes c enabled l (λ (p : Sent). Sending p.byte p.place) (λ (p : Sent). p.wire) (λ p item e. sending_goes_lem c enabled l p item e) from items))
    along_by false false ph w items t s =
        walks Seen (resting_stops (scl_pulled ph) (sda_pulled ph) (rise_rule ph l.acktim) (fall_rule ph)) (resting_goes (scl_pulled ph) (sda_pulled ph))
        c enabled l (λ (x : Seen). ph) (λ (x : Seen). x) (λ x item e. rest_goes c enabled l ph t s x item e) w items

  module _ (m : Module) (items : List ℕ) where
    abbrev from : Option Level → Module
    from rem = module_of m.config m.live m.phase (record { remembered = rem; mark = m.line.mark })

    along_from :
        (on : Bool) → m.config.sspen ≡ on → (rem : Option Level)
        → let r : Stretch = stretch_from on rem m.line.mark m.phase m.live.acktim items in
        0 < r.length → Along (from rem) items (moved_on m r) r.length
    along_from on e None h = absurd (omega arith)
    along_from false e (Some level) h = absurd (omega arith)
    along_from true e (Some level) h =
        along_by m.config e m.live (takes_bits m.phase) (is_sending m.phase) m.phase (record { scl = level.scl; sda = level.sda; mark = m.line.mark }) items refl refl

    pub ahead_along : let r : Stretch = stretch_of m items in 0 < r.length → Along m items (moved_on m r) r.length
    ahead_along = along_from m.config.sspen refl m.line.remembered

    passed_if :
        (t : Bool) → let r : Stretch = stretch_of m items in ltb 0 r.length ≡ t
        → Along m items (cond t (moved_on m r) m) r.length
    passed_if true e = ahead_along (ltb-true 0 _ e)
    passed_if false e =
        let k : (stretch_of m items).length ≤ 0 = ltb-false 0 (stretch_of m items).length e in
        let none : (stretch_of m items).length ≡ 0 = omega arith in
        subst (Along m items m) (sym none) (nowhere m items)

    -- Passed over or not.
    pub passed_along : let r : Stretch = stretch_of m items in Along m items (passed_over m r) r.length
    passed_along = passed_if (ltb 0 (stretch_of m items).length) refl

-- ---- the samples go on from where a stretch leads
goes_so :
    {c : Config} {l : Live} {ph ph' : Phase} {w w' : Seen} (item : ℕ) → Sampled c l ph w item ph' w'
    → (no_sample (module_seen c l ph w) item ≡ false) × (sampled_at (module_seen c l ph w) item ≡ module_seen c l ph' w')
goes_so item k = let h = k.level in (le-ltb 3 item (omega arith), k.leaves)

abbrev Feeds : Module → List ℕ → Module → ℕ → Type 0
Feeds m items n k = Onward no_sample sampled_at m items n k

feeds_nowhere : (m : Module) (items : List ℕ) → Feeds m items m 0
feeds_nowhere m items = record { place = refl; count = omega arith }

feeds_walks : OnEachWalk Feeds
feeds_walks P stops goes c enabled l ph wire law =
    walk_onward stops goes no_sample sampled_at (λ (p : P). module_seen c l (ph p) (wire p)) (λ p item e. goes_so item (law p item e))

-- ---- a single level
module _ (m : Module) (level : ℕ) (h : level ≤ 3) where
  one_walked : walked no_sample sampled_at m (level ∷ []) ≡ sampled_at m level
  unfolding walked
  one_walked = ap (λ (t : Bool). cond t m (sampled_at m level)) (le-ltb 3 level h)

  -- Where the level is a stretch of its own, it leads where the sample does.
  pub level_passed : {r : Stretch} → r ≡ stretch_of m (level ∷ []) → 0 < r.length → moved_on m r ≡ sampled_at m level
  unfolding walked
  level_passed {r} e l =
      let within : r.length ≤ 1 = subst (λ (x : Stretch). x.length ≤ 1) (sym e) (stretch_within m (level ∷ [])) in
      let once : r.length ≡ 1 = omega arith in
      let on = subst (λ (x : Stretch). 0 < x.length → Onward no_sample sampled_at m (level ∷ []) (moved_on m x) x.length) (sym e) (ahead_along Feeds feeds_nowhere feeds_walks m (level ∷ [])) l in
      sym (ap (λ (n : ℕ). walked no_sample sampled_at (moved_on m r) (drop n (level ∷ []))) once) ∙ sym on.place ∙ one_walked

-- ---- the loop, by what is left of the items
sample_here : (items : List ℕ) (i : ℕ) → sample_at items i ≡ true → (i < length items) × (get_or items i 0 ≤ 3)
sample_here items i t =
    (ltb-true i (length items) (and_first (ltb i (length items)) (leb (get_or items i 0) 3) t), leb-true (get_or items i 0) 3 (and_second (ltb i (length items)) (leb (get_or items i 0) 3) t))

passed_some : (items : List ℕ) (i k : ℕ) → sample_at items i ≡ true → sample_at items (i + k) ≡ false → 0 < k
passed_some items i zero t f = never (sym f ∙ ap (sample_at items) (add-zero i) ∙ t)
passed_some items i (suc k) t f = omega arith

module _ {items : List ℕ} {m₀ : Module} {i : ℕ} {m : Module} (before : Walking no_sample sampled_at items m₀ i m) where
  pub stretch_walked :
      {st : Stand} {r : Stretch} {n : Module} → st ≡ stand_of m → r ≡ stand_stretch st (lent_from i items) → n ≡ passed_over m r
      → Walking no_sample sampled_at items m₀ (i + r.length) n
  stretch_walked {st} {r} {n} stands is over =
      let e : r ≡ stretch_of m (drop i items) = is ∙ ap₂ stand_stretch stands (lent_is i items) in
      subst (Walking no_sample sampled_at items m₀ (i + r.length)) (sym over)
      (subst (λ (x : Stretch). Walking no_sample sampled_at items m₀ (i + x.length) (passed_over m x)) (sym e)
      (walk_by before (passed_along Feeds feeds_nowhere feeds_walks m (drop i items)) (stretch_within m (drop i items)) refl))

  -- Where a sample stood and none does any more, the stretch had items.
  pub stretch_moved :
      {st : Stand} {r : Stretch} → st ≡ stand_of m → r ≡ stand_stretch st (lent_from i items) → sample_at items i ≡ true
      → sample_at items (i + r.length) ≡ false → length items - (i + r.length) < length items - i
  stretch_moved {r = r} stands is t f = let h = (sample_here items i t).0 in let k = passed_some items i r.length t f in omega arith

  pub sample_stands : sample_at items i ≡ true → i < length items
  sample_stands t = (sample_here items i t).0

  -- One sample by the rules.
  pub sample_walked :
      {n : Module} → sample_at items i ≡ true → n ≡ sampled_at m (get_or items i 0) → Walking no_sample sampled_at items m₀ (i + 1) n
  sample_walked t e = let k = sample_here items i t in walk_on before k.0 (le-ltb 3 (get_or items i 0) k.1) e

  -- Where no sample stands, the walk has ended.
  pub samples_end : sample_at items i ≡ false → fed_by m i ≡ fed_of m₀ items
  samples_end t =
      by_test (ltb i (length items))
      (λ l. walk_stops fed_by before (ltb-true i (length items) l) (lt-ltb 3 (get_or items i 0) (leb-false (get_or items i 0) 3 (rw l at t))))
      (λ l. walk_out fed_by before (ltb-false i (length items) l))
