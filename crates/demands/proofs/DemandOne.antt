-- Demand 1: one outcome for every call, nothing changed that may not be, and refusals exactly for their causes.
use Prim.Native.Nat.{ℕ, ◌+◌, ◌/◌, ◌%◌, ◌<◌, ◌≤◌}
use Rattle.std.specs.Prelude.{◌⊎◌, ◌↔◌, ◌≡◌, true, cond, ◌&&◌, not, eqb, leb, length, Result, Err, Ok, Option, None, Some}
use Rattle.std.proofs.Common.{inl, inr, ⊎_elim, sym, ap, ap₂, ◌∙◌, true≢false, arith, eqb-true, eq-eqb, ne_eqb, leb-false, ltb-true, ltb-false, lt-ltb, le-ltb}
use Rattle.std.proofs.Math.Path.{refl, subst}
use Rattle.std.proofs.Math.Bool.{Bool, false, and-false}
use mathlib.Core.List.{List, [], ◌∷◌, map}
use Rattle.std.proofs.Math.Dec.{ltb}
use Rattle.std.proofs.lemmas.Bool.{eqb-false, lt-leb, not-true}
use Rattle.truth.specs.Tests.{never, by_test, by_choice, and_first, and_second}
use Rattle.items.specs.First.{first_above, FirstAbove}
use Rattle.items.specs.Theorems.{first_above_lem, none_above}
use Rattle.refusals.specs.declared.Refusal.{Refusal}
use Rattle.refusals.specs.declared.Refusal.TheVariants.{NoState, NoRegister, ReservedBit, NoMode, ModeChange, MaskedTenBits, NoWindow, NoItem}
use Rattle.refusals.specs.Numbers.{Verdict, number_of, first_cause}
use Rattle.wire.specs.Byte.{bit}
use Rattle.mssp.specs.declared.Config.{Config}
use Rattle.mssp.specs.declared.Module.{Module}
use Rattle.mssp.specs.Module.{modelled, ten_bits, is_ten_bit, setup}
use Rattle.mssp.specs.Valid.{masks_none}
use Rattle.address.specs.declared.Hit.{Hit}
use Rattle.address.specs.Comparison.{hit_number, hit_of}
use Rattle.register_bytes.specs.Bytes.{byte_of, sspm_of}
use Rattle.register_bytes.proofs.Bits.{small, half_back}
use Rattle.registers.specs.declared.Register.{Register}
use Rattle.registers.specs.declared.Register.TheVariants.{Buf, Stat, Con1, Con2, Con3, Add, Msk, Flag}
use Rattle.registers.specs.Values.{register_of, register_number, is_msk, is_con1, is_con2, is_con3, read_at}
use Rattle.writes.specs.Writes.{sets_reserved, no_mode, mode_change, masked, masked_ten, write_at}
use Rattle.firmware.specs.declared.State.{State}
use Rattle.firmware.specs.Handler.{longest_window, is_window_length, Served, served, state_of, handler_of}
use Rattle.firmware.specs.Window.{window_of}
use Rattle.firmware.proofs.Laws.{inside}
use Rattle.steps.specs.declared.Item.{Item}
use Rattle.steps.specs.declared.Item.TheVariants.{Call}
use Rattle.steps.specs.Step.{step_of}
use Rattle.trace.specs.Run.{first_bad, item_if, item_at, run_of}
use Rattle.trace.specs.Window.{SameOutside}
use Rattle.trace.proofs.Theorems.{run_length, window_length, splice_outside}
use Rattle.found.specs.Numbers.{Found, refusal_of, bad_item_of, start_of, length_of}
use Rattle.finder.specs.Messages.{lies_at, end_at}
use Rattle.finder.specs.Find.{first_bad_level, part_from, span_if, span_of}
use Rattle.image.specs.Image.{image_length, decode_of}
use Rattle.image.specs.Theorems.{encode_injective}
use Rattle.view.specs.declared.View.{View}
use Rattle.view.specs.View.{view_of, no_view}
use Rattle.settling.specs.declared.Answer.{Answer}
use Rattle.settling.specs.Outcome.{done, refused, by_state}
use Rattle.settling.proofs.Theorems.{one_lent, by_state_lem}
use Rattle.firmware_calls.specs.Calls.{setup_if}
use Rattle.firmware_calls.proofs.Theorems.{setup_keeps, call_keeps, run_keeps, draw_keeps, lanes_keep}
use Rattle.module_calls.specs.Calls.{level_verdict, door_hit}
use Rattle.module_calls.specs.Theorems.{read_keeps, write_keeps, sample_keeps}
use Rattle.door.specs.declared.Part.{Part as Parted}
use Rattle.door.specs.Door.{door_find}
use Rattle.lanes.specs.Lanes.{driven, shorter_of}
use Rattle.demands.specs.Calls.{DoorCall, set_up, read_register, write_register, feed_sample, call_handler, run_trace, Host, host, reply, at_door, told, in_window, has_window, by_definition, ImageOf, ImageOfNone, shown_con1, SetsReserved, HasTenBits, SetsNoMode, ChangesMode, MasksTenBits, SetUpFor, FitsNot, SomeAbove, Cause, ◌when◌, causes, look_causes, find_causes, Numbered, OnlyBeside, Beside, draw_lanes, drawn_levels}
use Rattle.demands.specs.Demands.{OneOutcome, RefusedKeeps, OutsideKept, ExactCauses, ItemBeside, DemandOne}
use Rattle.demands.proofs.DemandTwo.{image_or_none, by_image, look_is, shown_is}

pub one_reply : OneOutcome
one_reply before c r t a b e f = let one = one_lent e f in (one.0, ap₂ host one.1 one.2)

-- ---- refused, nothing changes
keeps : (h : Host) (c : DoorCall) → 0 < (at_door h c).answer.refusal → (at_door h c).left ≡ h
keeps h (set_up add n) l = ap (λ (b : List ℕ). host b h.buffer) (setup_keeps h.state add n l)
keeps h (read_register number) l = ap (λ (b : List ℕ). host b h.buffer) (read_keeps h.state number l)
keeps h (write_register number value) l = ap (λ (b : List ℕ). host b h.buffer) (write_keeps h.state number value l)
keeps h (feed_sample level) l = ap (λ (b : List ℕ). host b h.buffer) (sample_keeps h.state level l)
keeps h (call_handler start n) l = let k = call_keeps h.state h.buffer start n l in ap₂ host k.0 k.1
keeps h (run_trace start n items) l = let k = run_keeps h.state h.buffer start n items l in ap₂ host k.0 k.1
keeps h (draw_lanes start n levels lanes) l = let k = draw_keeps h.state h.buffer start n levels lanes l in ap₂ host k.0 k.1

empty_part : (found : Found) → 0 < refusal_of found → (start_of found ≡ 0) × (length_of found ≡ 0)
empty_part (Ok part) l = absurd (omega arith)
empty_part (Err why) l = (refl, refl)

-- What holds of every answer to a question which address hits, by the bytes' being no state's image or one's.
by_hit :
    (P : Answer → Type 0) (bytes : List ℕ) (byte : ℕ) → P (refused NoState 0) → ((hit : Hit) → P (done (hit_number hit))) → P (door_hit bytes byte)
by_hit P bytes byte p q = by_state_lem P (decode_of bytes) (refused NoState 0) _ p (λ s e. q (hit_of s.mssp.config byte))

none-taken : (refusal count : ℕ) → 0 < refusal → cond (eqb refusal 0) count 0 ≡ 0
none-taken refusal count l = rw (ne_eqb refusal 0 (λ e. omega arith))

pub refused_keeps : RefusedKeeps
refused_keeps = (
  keeps,
  λ levels item. empty_part (span_of levels item),
  λ bytes byte. by_hit (λ a. 0 < a.refusal → a.value ≡ 0) bytes byte (λ l. refl) (λ hit l. absurd (omega arith)),
  λ h start n levels lanes l. (lanes_keep h.state h.buffer start n levels lanes l, none-taken (at_door h (draw_lanes start n levels lanes)).answer.refusal (shorter_of (length levels) (length lanes)) l),
)

-- ---- outside the window
outside_if :
    (w : Served) (start n : ℕ) (trace : List ℕ) (f bad : Bool) (item : ℕ) → f ≡ has_window w start n
    → SameOutside start n w.bytes (in_window f bad item w start n (map item_at trace)).left.bytes
outside_if w start n trace false bad item e = record { below = refl; above = refl }
outside_if w start n trace true true item e = record { below = refl; above = refl }
outside_if w start n trace true false item e =
    let h : start + n ≤ length w.bytes = inside (length w.bytes) start n w.state.handler.n e refl in
    let window : List ℕ = window_of start n w.bytes in
    splice_outside start n (run_of w.state window trace).bytes w.bytes h
    (run_length w.state window trace ∙ window_length start n w.bytes h)

pub outside_the_window : OutsideKept
unfolding by_state
outside_the_window h start n items levels lanes = (
  by_image h (call_handler start n) (λ e. rw e) (λ r. SameOutside start n h.buffer r.left.buffer)
      (λ nobody. record { below = refl; above = refl })
      (λ s image. let w : Served = served s h.buffer in outside_if w start n (4 ∷ []) (has_window w start n) false 0 refl),
  by_image h (run_trace start n items) (λ e. rw e) (λ r. SameOutside start n h.buffer r.left.buffer)
      (λ nobody. record { below = refl; above = refl })
      (λ s image.
      let w : Served = served s h.buffer in
      outside_if w start n items (has_window w start n) (ltb (first_bad items) (length items)) (first_bad items) refl),
  by_image h (draw_lanes start n levels lanes) (λ e. rw e) (λ r. SameOutside start n h.buffer r.left.buffer)
      (λ nobody. record { below = refl; above = refl })
      (λ s image.
      let w : Served = served s h.buffer in
      let part : List ℕ = drawn_levels levels lanes in
      outside_if w start n (driven (served s (window_of start n h.buffer)) part) (has_window w start n) (ltb (first_above 3 part) (length part)) (first_above 3 part) refl),
)

-- ---- a refusal's number and the item beside it, by the first cause of a list that holds
data FirstOf (named : ℕ → Type 0) : List Cause → ℕ → ℕ → Type 1 where
  none : FirstOf named [] 0 0
  here :
      {next : Cause} {rest : List Cause} {item : ℕ} → next.holds → OnlyBeside (number_of next.why) (named item) item
      → FirstOf named (next ∷ rest) (number_of next.why) item
  later :
      {next : Cause} {rest : List Cause} {refusal item : ℕ} → (next.holds → ⊥) → FirstOf named rest refusal item
      → FirstOf named (next ∷ rest) refusal item

module _ {named : ℕ → Type 0} where
  numbers :
      {list : List Cause} {refusal item : ℕ} → FirstOf named list refusal item → (number : ℕ) → (refusal ≡ number) ↔ Numbered list number
  numbers none number = (sym, sym)
  numbers (here g b) number = (λ e. inl (sym e, g), ⊎_elim (λ x. sym x.0) (λ x. absurd (x.0 g)))
  numbers (later fails more) number =
      let rest = numbers more number in
      (λ e. inr (fails, rest.0 e), ⊎_elim (λ x. absurd (fails x.1)) (λ x. rest.1 x.1))

  beside : {list : List Cause} {refusal item : ℕ} → FirstOf named list refusal item → OnlyBeside refusal (named item) item
  beside none = (λ e. absurd (omega arith), λ e. refl)
  beside (here g b) = b
  beside (later fails more) = beside more

-- Tests in the order of causes, each of which tells whether its cause holds.
data Tell : List (Bool × Refusal) → List Cause → Type 1 where
  all : Tell [] []
  one :
      {t : Bool} {why : Refusal} {holds : Type 0} {tests : List (Bool × Refusal)} {list : List Cause} → (t ≡ true) ↔ holds
      → Tell tests list → Tell ((t, why) ∷ tests) ((why when holds) ∷ list)

by_tests :
    {tests : List (Bool × Refusal)} {list : List Cause} (value : ℕ) → Tell tests list
    → let answer : Answer = told (first_cause value tests) in FirstOf (λ item. item ≡ 0) list answer.refusal answer.item
by_tests value all = none
by_tests value (one {t = true} tells more) = here (tells.0 refl) (λ e. refl, λ e. refl)
by_tests value (one {t = false} tells more) = later (λ g. never (tells.1 g)) (by_tests value more)

no_item : {named : Type 0} (number : ℕ) → (number ≡ 4 → ⊥) → OnlyBeside number named 0
no_item number other = (λ e. absurd (other e), λ e. refl)

-- ---- what the tests tell
not_equal : (a b : ℕ) → (not (eqb a b) ≡ true) ↔ (a ≡ b → ⊥)
not_equal a b = (λ t. eqb-false a b (not-true (eqb a b) t), λ other. rw (ne_eqb a b other))

pub equal : (a b : ℕ) → (eqb a b ≡ true) ↔ (a ≡ b)
equal a b = (eqb-true a b, eq-eqb a b)

below : (a b : ℕ) → (ltb a b ≡ true) ↔ (a < b)
below a b = (ltb-true a b, lt-ltb a b)

pub both : {A B : Type 0} (a b : Bool) → (a ≡ true) ↔ A → (b ≡ true) ↔ B → (a && b ≡ true) ↔ (A × B)
both a b f g = (λ t. (f.0 (and_first a b t), g.0 (and_second a b t)), λ k. rw (f.1 k.0) (g.1 k.1))

pub is_one : (b : Bool) → (b ≡ true) ↔ (b ≡ true)
is_one b = (λ t. t, λ t. t)

n_outside : (n : ℕ) → (not (is_window_length n) ≡ true) ↔ ((n ≡ 0) ⊎ (longest_window < n))
n_outside n = (
  λ t.
      by_test (leb 1 n) (λ e. inr (leb-false n longest_window (rw e at (not-true (is_window_length n) t))))
      (λ e. inl (omega (arith, leb-false 1 n e))),
  ⊎_elim (λ e. rw e) (λ h. rw (lt-leb n longest_window h, and-false (leb 1 n))),
)

module _ (most : ℕ) (items : List ℕ) where
  is_first : ltb (first_above most items) (length items) ≡ true → FirstAbove most items (first_above most items)
  is_first t = first_above_lem most items (ltb-true (first_above most items) (length items) t)

  some_above : (ltb (first_above most items) (length items) ≡ true) ↔ SomeAbove most items
  some_above = (
    λ t. let k = is_first t in (first_above most items, k.within, k.above),
    λ k.
        by_test (ltb (first_above most items) (length items)) (λ t. t)
        (λ t.
        let h = ltb-false (first_above most items) (length items) t in
        absurd (omega (arith, none_above most items h k.0 k.1, k.2))),
  )

fits_not :
    (h : Host) (start n : ℕ) (s : State) → ImageOf s h.state → (not (has_window (served s h.buffer) start n) ≡ true) ↔ FitsNot h start n
fits_not h start n s image = (
  λ t.
      by_test (leb (start + n) (length h.buffer))
      (λ a. inr (λ k. eqb-false n s.handler.n (not-true (eqb n s.handler.n) (rw a at t)) (same k)))
      (λ a. inl (leb-false (start + n) (length h.buffer) a)),
  ⊎_elim (λ l. rw (lt-leb (start + n) (length h.buffer) l))
      (λ other.
      by_test (eqb n s.handler.n) (λ e. absurd (other (s, image, sym (eqb-true n s.handler.n e)))) (λ e. rw (e, and-false))),
)
  where
    same : SetUpFor n h.state → n ≡ s.handler.n
    same k = sym k.2 ∙ ap (λ (t : State). t.handler.n) (encode_injective k.0 s (k.1.0 ∙ sym image.0))

-- SSPM is four bits, and the number that they make.
half_other :
    (b3 b2 b1 b0 : Bool) → let half : ℕ = byte_of false false false false b3 b2 b1 b0 in
    (not (modelled b2 b1) ≡ true) ↔ ((half ≡ 6 → ⊥) × (half ≡ 14 → ⊥) × ((half ≡ 7) ⊎ (half ≡ 15) → ⊥))
half_other true true true true = (λ t. never t, λ k. absurd (k.2 (inr refl)))
half_other true true true false = (λ t. never t, λ k. absurd (k.1 refl))
half_other false true true true = (λ t. never t, λ k. absurd (k.2 (inl refl)))
half_other false true true false = (λ t. never t, λ k. absurd (k.0 refl))
half_other b3 b2 false b0 =
    let s = small b2 in let t = small b0 in
    (λ u. (λ e. omega (arith, s, t), λ e. omega (arith, s, t), ⊎_elim (λ e. omega (arith, s, t)) (λ e. omega (arith, s, t))), λ k. refl)
half_other b3 false true b0 =
    let t = small b0 in (λ u. (λ e. omega (arith, t), λ e. omega (arith, t), ⊎_elim (λ e. omega (arith, t)) (λ e. omega (arith, t))), λ k. refl)

other_mode :
    (v : ℕ) → (not (modelled (bit 2 v) (bit 1 v)) ≡ true) ↔ ((v % 16 ≡ 6 → ⊥) × (v % 16 ≡ 14 → ⊥) × (HasTenBits v → ⊥))
other_mode v = rw (half_back v) at (half_other (bit 3 v) (bit 2 v) (bit 1 v) (bit 0 v))

half_ten :
    (b3 b2 b1 b0 : Bool) → let half : ℕ = byte_of false false false false b3 b2 b1 b0 in
    (ten_bits b2 b1 b0 ≡ true) ↔ ((half ≡ 7) ⊎ (half ≡ 15))
half_ten true true true true = (λ t. inr refl, λ k. refl)
half_ten false true true true = (λ t. inl refl, λ k. refl)
half_ten b3 true true false = (λ t. never t, ⊎_elim (λ e. absurd (omega (arith, small b3))) (λ e. absurd (omega (arith, small b3))))
half_ten b3 true false b0 = (λ t. never t, ⊎_elim (λ e. absurd (omega (arith, small b0))) (λ e. absurd (omega (arith, small b0))))
half_ten b3 false b1 b0 =
    (λ t. never t, ⊎_elim (λ e. absurd (omega (arith, small b1, small b0))) (λ e. absurd (omega (arith, small b1, small b0))))

ten_bits_lem : (v : ℕ) → (ten_bits (bit 2 v) (bit 1 v) (bit 0 v) ≡ true) ↔ HasTenBits v
ten_bits_lem v = rw (half_back v) at (half_ten (bit 3 v) (bit 2 v) (bit 1 v) (bit 0 v))

-- The mode of a state has ten bits where look shows it.
pub shown_ten : (s : State) (h : Host) → ImageOf s h.state → (is_ten_bit s.mssp.config ≡ true) ↔ HasTenBits (shown_con1 h)
shown_ten s h image =
    let c = s.mssp.config in
    rw (shown_is s h image).1 (half_ten c.sspm3 c.sspm2 c.sspm1 c.sspm0)

-- ---- a register by its number
-- What the number of an access finds: the register that has it, or, above 7, none.
pub data Registered (number : ℕ) : Result Register Refusal → Type 0 where
  register : (r : Register) → register_number r ≡ number → Registered number (Ok r)
  beyond : 7 < number → Registered number (Err NoRegister)

pub registered : (number : ℕ) → Registered number (register_of number)
registered number =
    choose 0 (omega arith) (register Buf refl) (λ h. choose 1 h (register Stat refl) (λ h. choose 2 h (register Con1 refl) (λ h. choose 3 h (register Con2 refl) (λ h.
    choose 4 h (register Con3 refl) (λ h. choose 5 h (register Add refl) (λ h. choose 6 h (register Msk refl) (λ h. choose 7 h (register Flag refl) beyond)))))))
  where
    choose :
        (k : ℕ) {here rest : Result Register Refusal} → k ≤ number → Registered k here → (k < number → Registered number rest)
        → Registered number (cond (eqb number k) here rest)
    choose k {here} low is more =
        by_choice (Registered number) (eqb number k) (λ e. subst (λ (n : ℕ). Registered n here) (sym (eqb-true number k e)) is) (λ e. more (omega (arith, eqb-false number k e)))

up_to_seven : (r : Register) → register_number r ≤ 7
up_to_seven Buf = omega arith
up_to_seven Stat = omega arith
up_to_seven Con1 = omega arith
up_to_seven Con2 = omega arith
up_to_seven Con3 = omega arith
up_to_seven Add = omega arith
up_to_seven Msk = omega arith
up_to_seven Flag = omega arith

level_verdict_lem :
    (s : State) (bytes : List ℕ) (level : ℕ) → level_verdict level ≡ (step_of s bytes (item_if (ltb level 4) false level)).verdict
level_verdict_lem s bytes level =
    by_test (ltb 3 level) (λ t. let h = ltb-true 3 level t in rw (t, le-ltb level 4 h))
    (λ t. let h = ltb-false 3 level t in rw (t, lt-ltb level 4 (omega arith)))

-- ---- what the tests of a write tell
module _ {number : ℕ} (r : Register) (is : register_number r ≡ number) (v : ℕ) where
  register_is : (k : ℕ) → (eqb (register_number r) k ≡ true) ↔ (number ≡ k)
  register_is k = (λ t. sym is ∙ eqb-true (register_number r) k t, λ e. eq-eqb (register_number r) k (is ∙ e))

  con1 : (is_con1 r ≡ true) ↔ (number ≡ 2)
  con1 = register_is 2

  reserved : (sets_reserved r v ≡ true) ↔ SetsReserved number v
  reserved =
      let three = register_is 3 in
      let boen = both (is_con3 r) (bit 4 v) (register_is 4) (is_one (bit 4 v)) in
      let master = not_equal (v / 2 % 16) 0 in (
        λ t. by_test (is_con2 r) (λ e. inl (three.0 e, master.0 (rw e at t))) (λ e. inr (boen.0 (rw e at t))),
        ⊎_elim (λ k. rw (three.1 k.0) (master.1 k.1))
            (λ k. by_test (is_con2 r) (λ e. absurd (omega (arith, three.0 e, k.0))) (λ e. rw e (boen.1 k))),
      )

  no_mode_lem : (is_con1 r && no_mode v ≡ true) ↔ SetsNoMode number v
  no_mode_lem =
      let on = both (bit 5 v) (not (modelled (bit 2 v) (bit 1 v))) (is_one (bit 5 v)) (other_mode v) in
      let all = both (is_con1 r) (no_mode v) con1 on in
      (λ t. let k = all.0 t in (k.0, k.1.0, k.1.1.0, k.1.1.1, k.1.1.2), λ k. all.1 (k.0, (k.1, (k.2, k.3, k.4))))

  mode_change_lem :
      (h : Host) (s : State) → ImageOf s h.state
      → (is_con1 r && mode_change s.mssp.config.sspen (sspm_of s.mssp.config) v ≡ true) ↔ ChangesMode h number v
  mode_change_lem h s image =
      let c = s.mssp.config in
      let on = both c.sspen (bit 5 v) (is_one c.sspen) (is_one (bit 5 v)) in
      let other = both (c.sspen && bit 5 v) (not (eqb (v % 16) (sspm_of c))) on (not_equal (v % 16) (sspm_of c)) in
      let all = both (is_con1 r) (mode_change c.sspen (sspm_of c) v) con1 other in
      rw ((shown_is s h image).0, (shown_is s h image).1)
      (λ t. let k = all.0 t in (k.0, k.1.0.0, k.1.0.1, k.1.1), λ k. all.1 (k.0, ((k.1, k.2), k.3)))

-- Whether a write would run ten bits with a mask, by what the number finds; where it finds no register, nothing is written.
abbrev masked_by : Result Register Refusal → ℕ → Config → Bool
masked_by (Ok r) v c = masked_ten r v c
masked_by (Err why) v c = false

masked_ten_lem :
    {number : ℕ} {known : Result Register Refusal} → Registered number known → (v : ℕ) (h : Host) (s : State) → ImageOf s h.state
    → (masked_by known v s.mssp.config ≡ true) ↔ MasksTenBits h number v
masked_ten_lem (register r is) v h s image =
    let c = s.mssp.config in
    let six = register_is r is v 6 in
    let runs = both _ (not (masks_none v)) (both c.sspen (is_ten_bit c) (is_one c.sspen) (shown_ten s h image)) (not_equal v 255) in
    let ten : Bool = ten_bits (bit 2 v) (bit 1 v) (bit 0 v) in
    let mask : ℕ = c.msk in
    let enables = both _ (not (masks_none mask)) (both (bit 5 v) ten (is_one (bit 5 v)) (ten_bits_lem v)) (not_equal mask 255) in
    let by-con1 = both (is_con1 r) (masked (bit 5 v) ten mask) (con1 r is v) enables in
    rw ((shown_is s h image).0, ap (λ (shown : View). shown.msk) (look_is s h image)) (
      λ t.
          by_test (is_msk r) (λ e. let k = runs.0 (rw e at t) in inr (omega (arith, six.0 e), k.0.0, k.0.1, k.1))
          (λ e. let k = by-con1.0 (rw e at t) in inl (k.0, k.1.0.0, k.1.0.1, k.1.1)),
      ⊎_elim (λ k. by_test (is_msk r) (λ e. absurd (omega (arith, six.0 e, k.0))) (λ e. rw e (by-con1.1 (k.0, ((k.1, k.2), k.3)))))
          (λ k. rw (six.1 (omega (arith, k.0, is, up_to_seven r))) (runs.1 ((k.1, k.2), k.3))),
    )
masked_ten_lem (beyond above) v h s image =
    (λ t. never t, ⊎_elim (λ k. absurd (omega (arith, k.0, above))) (λ k. absurd (omega (arith, k.0, above))))

-- ---- what each call looks at
above_looks :
    (most : ℕ) (items : List ℕ) {rest : List Cause} {refusal : ℕ} (bad : Bool) → bad ≡ ltb (first_above most items) (length items)
    → (bad ≡ false → FirstOf (FirstAbove most items) rest refusal 0)
    → FirstOf (FirstAbove most items) ((NoItem when SomeAbove most items) ∷ rest) (cond bad 4 refusal) (cond bad (first_above most items) 0)
above_looks most items true e more = here ((some_above most items).0 (sym e)) (λ q. is_first most items (sym e), λ q. absurd (q refl))
above_looks most items false e more = later (λ g. true≢false (sym ((some_above most items).1 g) ∙ sym e)) (more refl)

module _ (h : Host) where
  abbrev Looks : DoorCall → Type 1
  Looks c = FirstOf (Beside c) (causes h c) (at_door h c).answer.refusal (at_door h c).answer.item

  setup_looks :
      (add n : ℕ) (s : State) (long good : Bool) → (not long ≡ true) ↔ (length h.state ≡ image_length → ⊥)
      → (not good ≡ true) ↔ ((n ≡ 0) ⊎ (longest_window < n))
      → let answer : Answer = (setup_if long (cond good (Ok s) (Err NoWindow)) h.state).answer in
      FirstOf (Beside (set_up add n)) (causes h (set_up add n)) answer.refusal answer.item
  setup_looks add n s false good six five = here (six.0 refl) (λ e. refl, λ e. refl)
  setup_looks add n s true false six five = later (λ g. never (six.1 g)) (here (five.0 refl) (λ e. refl, λ e. refl))
  setup_looks add n s true true six five = later (λ g. never (six.1 g)) (later (λ g. never (five.1 g)) none)

  window_looks :
      {named : ℕ → Type 0} {four : List Cause} (w : Served) (start n item : ℕ) (items : List Item) (f bad : Bool)
      → (not f ≡ true) ↔ FitsNot h start n → FirstOf named four (cond bad 4 0) (cond bad item 0)
      → let answer : Answer = (in_window f bad item w start n items).answer in
      FirstOf named ((NoWindow when FitsNot h start n) ∷ four) answer.refusal answer.item
  window_looks w start n item items false bad five more = here (five.0 refl) (no_item 5 (λ e. omega arith))
  window_looks w start n item items true true five more = later (λ g. never (five.1 g)) more
  window_looks w start n item items true false five more = later (λ g. never (five.1 g)) more

  -- 6 where there is no state, else what is looked at on the state.
  on_image :
      {rest : List Cause} (c : DoorCall) → (decode_of h.state ≡ None → at_door h c ≡ reply (refused NoState 0) h)
      → ((s : State) → ImageOf s h.state
      → let answer : Answer = (by_definition (served s h.buffer) c).answer in FirstOf (Beside c) rest answer.refusal answer.item)
      → FirstOf (Beside c) ((NoState when ImageOfNone h.state) ∷ rest) (at_door h c).answer.refusal (at_door h c).answer.item
  on_image {rest} c six looks =
      by_image h c six (λ r. FirstOf (Beside c) ((NoState when ImageOfNone h.state) ∷ rest) r.answer.refusal r.answer.item)
      (λ nobody. here nobody (no_item 6 (λ e. omega arith)))
      (λ s image. later (λ nobody. nobody s image) (looks s image))

  read_looks :
      (m : Module) {number : ℕ} {known : Result Register Refusal} → Registered number known
      → let answer : Answer = told (read_at known m).verdict in
      FirstOf (λ item. item ≡ 0) ((NoRegister when 7 < number) ∷ []) answer.refusal answer.item
  read_looks m (register r is) = later (λ above. absurd (omega (arith, is, up_to_seven r))) none
  read_looks m (beyond above) = here above (λ e. refl, λ e. refl)

  write_looks :
      (s : State) → ImageOf s h.state → (value : ℕ) {number : ℕ} {known : Result Register Refusal} → Registered number known
      → let answer : Answer = told (write_at known value s.mssp).verdict in
      FirstOf (λ item. item ≡ 0) ((NoRegister when 7 < number) ∷ (ReservedBit when SetsReserved number value) ∷ (NoMode when SetsNoMode number value) ∷ (ModeChange when ChangesMode h number value) ∷ (MaskedTenBits when MasksTenBits h number value) ∷ []) answer.refusal answer.item
  write_looks s image value (register r is) =
      later (λ above. absurd (omega (arith, is, up_to_seven r)))
      (by_tests 0
      (one (reserved r is value) (one (no_mode_lem r is value) (one (mode_change_lem r is value h s image) (one (masked_ten_lem (register r is) value h s image) all)))))
  write_looks s image value (beyond above) = here above (λ e. refl, λ e. refl)

  looked : (c : DoorCall) → Looks c
  unfolding by_state
  looked (set_up add n) =
      setup_looks add n (state_of (setup add) (handler_of n 0 false)) (eqb (length h.state) image_length) (is_window_length n)
      (not_equal (length h.state) image_length) (n_outside n)
  looked (read_register number) =
      on_image (read_register number) (λ e. rw e)
      (λ s image.
      read_looks s.mssp (registered number))
  looked (write_register number value) =
      on_image (write_register number value) (λ e. rw e)
      (λ s image.
      write_looks s image value (registered number))
  looked (feed_sample level) =
      on_image (feed_sample level) (λ e. rw e)
      (λ s image.
      subst (λ (v : Verdict). FirstOf (λ item. item ≡ 0) ((NoItem when 3 < level) ∷ []) (told v).refusal (told v).item)
      (level_verdict_lem s h.buffer level) (by_tests 0 (one (below 3 level) all)))
  looked (call_handler start n) =
      on_image (call_handler start n) (λ e. rw e)
      (λ s image.
      let w : Served = served s h.buffer in
      window_looks w start n 0 (Call ∷ []) (has_window w start n) false (fits_not h start n s image) none)
  looked (run_trace start n items) =
      on_image (run_trace start n items) (λ e. rw e)
      (λ s image.
      let w : Served = served s h.buffer in
      let bad : Bool = ltb (first_bad items) (length items) in
      window_looks w start n (first_bad items) (map item_at items) (has_window w start n) bad (fits_not h start n s image) (above_looks 4 items bad refl (λ no. none)))
  looked (draw_lanes start n levels lanes) =
      on_image (draw_lanes start n levels lanes) (λ e. rw e)
      (λ s image.
      let w : Served = served s h.buffer in
      let part : List ℕ = drawn_levels levels lanes in
      let bad : Bool = ltb (first_above 3 part) (length part) in
      window_looks w start n (first_above 3 part) (map item_at (driven (served s (window_of start n h.buffer)) part)) (has_window w start n) bad (fits_not h start n s image) (above_looks 3 part bad refl (λ no. none)))

-- A look and a hit: 6 where there is no state, else nothing is refused.
look_looks :
    {A : Type 0} (refusal : A → ℕ) (nothing : A) (work : State → A) (bytes : List ℕ) → refusal nothing ≡ 6 → ((s : State) → refusal (work s) ≡ 0)
    → FirstOf (λ item. ⊥) (look_causes bytes) (refusal (by_state (decode_of bytes) nothing work)) 0
unfolding by_state
look_looks refusal nothing work bytes six zero =
    ⊎_elim (λ k. rw (k.0, six) (here k.1 (no_item 6 (λ e. omega arith))))
    (λ k. rw (k.1, zero k.0) (later (λ (nobody : ImageOfNone bytes). nobody k.0 k.2) none))
    (image_or_none bytes)

part_looks :
    {named : ℕ → Type 0} {list : List Cause} (lies : Option ℕ) (item end : ℕ) → FirstOf named list 0 0
    → FirstOf named list (refusal_of (part_from lies item end)) (bad_item_of (part_from lies item end))
part_looks None item end first = first
part_looks (Some start) item end first = first

find_looks :
    (levels : List ℕ) (item : ℕ) (bad in-it : Bool) → bad ≡ ltb (first_bad_level levels) (length levels) → in-it ≡ ltb item (length levels)
    → let found : Found = span_if bad in-it levels item in
    FirstOf (FirstAbove 3 levels) (find_causes levels item) (refusal_of found) (bad_item_of found)
find_looks levels item true in-it e f = above_looks 3 levels {refusal = 0} true e (λ no. absurd (true≢false no))
find_looks levels item false false e f =
    above_looks 3 levels false e (λ no. here (ltb-false item (length levels) (sym f)) (no_item 7 (λ q. omega arith)))
find_looks levels item false true e f =
    part_looks (lies_at levels item) item (end_at levels item)
    (above_looks 3 levels false e (λ no. later (λ (g : length levels ≤ item). omega (arith, ltb-true item (length levels) (sym f))) none))

found_looks : (levels : List ℕ) (item : ℕ) → let part : Parted = door_find levels item in FirstOf (FirstAbove 3 levels) (find_causes levels item) part.refusal part.item
unfolding span_of
found_looks levels item = find_looks levels item (ltb (first_bad_level levels) (length levels)) (ltb item (length levels)) refl refl

pub exact_causes : ExactCauses
exact_causes = (
  λ h c. numbers (looked h c),
  λ bytes. numbers (look_looks (λ (v : View). v.refusal) no_view view_of bytes refl (λ s. refl)),
  λ bytes byte. numbers (look_looks (λ (a : Answer). a.refusal) (refused NoState 0) (λ s. done (hit_number (hit_of s.mssp.config byte))) bytes refl (λ s. refl)),
  λ levels item. numbers (found_looks levels item),
)

pub item_beside : ItemBeside
item_beside = (
  λ h c. beside (looked h c),
  λ levels item. beside (found_looks levels item),
  λ bytes byte. by_hit (λ a. a.item ≡ 0) bytes byte refl (λ hit. refl),
)

pub demand_one : DemandOne
demand_one = (one_reply, refused_keeps, outside_the_window, exact_causes, item_beside)
