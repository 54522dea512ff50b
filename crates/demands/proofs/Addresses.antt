-- Which address hit (02, 1): what hit says, by the registers that look shows, and that the module takes an address just as it says. And
-- ten bits (02, 9): UA and the hold for ADD, what ends it, and which bytes a ten-bit module acknowledges.
use Rattle.std.specs.Prelude.{ℕ, ◌/◌, ◌%◌, ◌^◌, ◌≤◌, ◌⊎◌, ◌↔◌, ◌≡◌, refl, Bool, true, false, ◌&&◌, not, cond, ◌||◌, Result, Ok, Err, T, eqb, ltb, length, Option, Some, None as Unseen}
use Rattle.std.proofs.Math.Logic.{inl, inr, ⊎_elim}
use Rattle.std.proofs.Math.Path.{sym, ap}
use Rattle.std.proofs.Common.{subst, ◌∙◌, true≢false, arith, eqb→eq}
use Rattle.std.proofs.Math.Bool.{and-false}
use mathlib.Core.List.{[], ◌∷◌, List, map}
use mir.Val.{bool_byte}
use borrow.Author.Tests.{eqb-true, eqb-false, eq-eqb, ne_eqb, lt-ltb, not-false}
use Rattle.truth.specs.Tests.{by_test, never, and_left, by_choice, or_false, neither, and_first, and_second}
use Rattle.refusals.specs.declared.Refusal.{Refusal}
use Rattle.refusals.specs.Numbers.{accepted}
use Rattle.wire.specs.declared.Bits.{Bits}
use Rattle.wire.specs.declared.Level.{Level}
use Rattle.wire.specs.declared.Edge.TheVariants.{Fall}
use Rattle.wire.specs.Byte.{bit}
use Rattle.wire.specs.Wire.{sda_of, on_wire, edge_between, edge_from, scl_of, wire}
use Rattle.mssp.specs.declared.Config.{Config}
use Rattle.mssp.specs.declared.Live.{Live}
use Rattle.mssp.specs.declared.Which.{Which}
use Rattle.mssp.specs.declared.Which.TheVariants.{Other, High, HighToSend, Low}
use Rattle.mssp.specs.declared.Phase.{Phase}
use Rattle.mssp.specs.declared.Phase.TheVariants.{Address, Slot, HeldForAdd}
use Rattle.mssp.specs.declared.Module.{Module}
use Rattle.mssp.specs.declared.SlotCase.{SlotCase}
use Rattle.mssp.specs.declared.SlotCase.TheVariants.{Pulls, Refuses, Declines}
use Rattle.mssp.specs.declared.Next.{Next}
use Rattle.mssp.specs.declared.Next.TheVariants.{NextQuiet, NextLow, NextData}
use Rattle.mssp.specs.Module.{is_ten_bit, set_da, set_rw, set_full}
use Rattle.mssp.specs.Phases.{phase_number, bits_of, phase_which, is_quiet, which_number, phase_mark, is_held_for_add, of_ten_bits}
use Rattle.mssp.specs.Drivers.{sda_pulled, scl_pulled}
use Rattle.mssp.specs.Valid.{off_fits, eight_fit, valid, Valid, ten_fit}
use Rattle.mssp.specs.Laws.{clauses}
use Rattle.address.specs.declared.Hit.{Hit}
use Rattle.address.specs.declared.Hit.TheVariants.{None, Own, GeneralCall}
use Rattle.address.specs.Comparison.{hit_number, agrees, fitting, hit_of, is_taken}
use Rattle.address.specs.Theorems.{own-said, general_said, taken_by_test}
use Rattle.effects.specs.Effects.{emptied, released_phase, next_phase, updated_phase}
use Rattle.sampling.specs.Rules.{Moved, intake, high_if, first_if, address_byte, ◌at◌, edge_step, seen_if, low_if, slot_ended, fallen}
use Rattle.register_bytes.specs.Bytes.{con1_of}
use Rattle.register_bytes.proofs.Bits.{bits_back}
use Rattle.registers.specs.declared.Register.{Register}
use Rattle.registers.specs.declared.Register.TheVariants.{Buf, Stat, Con1, Con2, Con3, Add, Msk, Flag}
use Rattle.registers.specs.Values.{register_of, register_number, is_buf, read_at}
use Rattle.writes.specs.Writes.{con1_stored, con1_then, written, verdict_of, write_at}
use Rattle.firmware.specs.declared.State.{State}
use Rattle.firmware.specs.Handler.{Served, served, acknowledged, serve, called_if}
use Rattle.firmware.specs.Window.{window_of}
use Rattle.steps.specs.Step.{after_all}
use Rattle.trace.specs.Run.{first_bad, item_at, byte_step_if, byte_step, run_of}
use Rattle.phase_image.proofs.Laws.{by_number}
use Rattle.phase_image.specs.PhasePart.{slot_from, which_from, next_from, wire_byte}
use Rattle.image.specs.HandlerPart.{handler_valid}
use Rattle.view.specs.declared.View.{View}
use Rattle.view.specs.View.{which_seen, view_of, next_seen}
use Rattle.settling.specs.declared.Answer.{Answer}
use Rattle.settling.specs.Outcome.{by_state}
use Rattle.module_calls.specs.Calls.{door_look, door_hit}
use Rattle.lanes.specs.Lanes.{driven}
use Rattle.items.specs.First.{first_above}
use Rattle.demands.specs.Calls.{shown_con1, HasTenBits, AgreesIn, Fits, TakenAsSaid, feed_sample, Host, at_door, by_definition, ImageOf, DoorCall, set_up, read_register, write_register, call_handler, run_trace, has_window, in_window, CanEndTheHold, FollowsAsShown, Matches, EndsAs, draw_lanes, drawn_levels}
use Rattle.demands.specs.Demands.{HitSays, TakesWhatHits, UAInTheHold, HeldUntilADD, EndedByADD, AcknowledgesTenBits, NinthFallOfTenBits, SevenBitsAlone}
use Rattle.demands.proofs.DemandTwo.{look_is, hit_is, image_or_none, demand_two, shown_is}
use Rattle.demands.proofs.DemandOne.{both, is_one, equal, shown_ten, Registered, register, beyond, registered}

-- ---- a byte fits
agrees_in : (i add msk byte : ℕ) → (agrees i add msk byte ≡ true) ↔ AgreesIn i add msk byte
agrees_in i add msk byte =
    let m = msk / 2 ^ i % 2 in let b = byte / 2 ^ i % 2 in let a = add / 2 ^ i % 2 in (
      λ t asked. eqb-true b a (rw (eqb-true m 1 asked) at t),
      λ same. by_test (eqb m 0) (λ e. rw e) (λ e. rw e (eq-eqb b a (same (eq-eqb m 1 (omega (arith, eqb-false m 0 e)))))),
    )

fits_exactly : (add msk byte : ℕ) → (fitting add msk byte ≡ true) ↔ Fits add msk byte
fits_exactly add msk byte =
    let a : (i : ℕ) → (agrees i add msk byte ≡ true) ↔ AgreesIn i add msk byte = λ i. agrees_in i add msk byte in
    let all = both _ _ (both _ _ (both _ _ (both _ _ (both _ _ (both _ _ (a 1) (a 2)) (a 3)) (a 4)) (a 5)) (a 6)) (a 7) in (
      λ t. let k = all.0 t in (k.0.0.0.0.0.0, k.0.0.0.0.0.1, k.0.0.0.0.1, k.0.0.0.1, k.0.0.1, k.0.1, k.1),
      λ k. all.1 ((((((k.0, k.1), k.2), k.3), k.4), k.5), k.6),
    )

-- ---- what hit says
module _ (c : Config) (byte : ℕ) where
  abbrev said : ℕ
  said = hit_number (hit_of c byte)

  says_seven :
      is_ten_bit c ≡ false → ((said ≡ hit_number Own) ↔ Fits c.add c.msk byte)
      × ((said ≡ hit_number GeneralCall) ↔ ((byte ≡ 0) × (c.gcen ≡ true) × (Fits c.add c.msk 0 → ⊥)))
  says_seven seven =
      let fits = fits_exactly c.add c.msk byte in
      let own = own-said (fitting c.add c.msk byte) (c.gcen && eqb byte 0) in
      let general = general_said (fitting c.add c.msk byte) (c.gcen && eqb byte 0) in
      let call = both c.gcen (eqb byte 0) (is_one c.gcen) (equal byte 0) in
      rw seven (
        (λ e. fits.0 (own.0 e), λ f. own.1 (fits.1 f)),
        (
          λ e. let k = general.0 e in let g = call.0 k.1 in (g.1, g.0, λ f. true≢false (sym (fits.1 (rw g.1 f)) ∙ k.0)),
          λ k. general.1 (by_test (fitting c.add c.msk byte) (λ t. absurd (k.2 (rw k.0 at (fits.0 t)))) (λ t. t), call.1 (k.1, k.0)),
        ),
      )

  says_ten : is_ten_bit c ≡ true → ((said ≡ hit_number Own) ↔ Fits c.add 255 byte) × (said ≡ hit_number GeneralCall → ⊥)
  says_ten ten =
      let fits = fits_exactly c.add 255 byte in
      let own = own-said (fitting c.add 255 byte) false in
      rw ten (
        (λ e. fits.0 (own.0 e), λ f. own.1 (fits.1 f)),
        λ e. true≢false (sym ((general_said (fitting c.add 255 byte) false).0 e).1),
      )

one_of : (hit : Hit) → (hit_number hit ≡ 0) ⊎ (hit_number hit ≡ 1) ⊎ (hit_number hit ≡ 2)
one_of None = inl refl
one_of Own = inr (inl refl)
one_of GeneralCall = inr (inr refl)

pub hit_says : HitSays
unfolding by_state
hit_says h byte accepted =
    ⊎_elim (λ k. absurd (omega (arith, rw (door_hit, k.0) at accepted)))
    (λ k.
    let s = k.0 in let c = s.mssp.config in let l = s.mssp.live in
    let gcen = (bits_back c.gcen l.ackstat c.ackdt false false false false c.sen).is7 in
    let shown = shown_ten s h k.2 in
    let is : shown_con1 h ≡ con1_of c l = ap (λ (v : View). v.con1) (look_is s h k.2) in
    rw (look_is s h k.2, hit_is s h k.2 byte, gcen) (
      λ no. says_seven c byte (by_test (is_ten_bit c) (λ t. absurd (no (subst HasTenBits is (shown.0 t)))) (λ t. t)),
      λ ten. says_ten c byte (shown.1 (subst HasTenBits (sym is) ten)),
      one_of (hit_of c byte),
    ))
    (image_or_none h.state)

-- ---- a sample with SCL low, by what its fall does to the module
-- The clauses that the module of a state's image meets.
image_clauses : (s : State) (h : Host) → ImageOf s h.state → Valid s.mssp
image_clauses s h image = clauses s.mssp (and_left (valid s.mssp) (handler_valid s.handler) image.1)

-- What the edge of a sample with SCL low does.
abbrev lowered : Module → ℕ → Moved
lowered m level =
    edge_step m.config m.live m.phase
    (edge_from m.line.mark m.line.remembered false (on_wire (sda_pulled m.phase) (sda_of level)))

-- The state that it leaves, as look shows it.
record Lowered (h : Host) (level : ℕ) (s : State) : Type 0 where
  pub left : State
  pub shown : door_look (at_door h (feed_sample level)).left.state ≡ view_of left
  pub moved : left.mssp.live at left.mssp.phase ≡ lowered s.mssp level

low_sample :
    (w : Served) (level : ℕ) → level ≤ 1 → let m : Module = w.state.mssp in
    (by_definition w (feed_sample level)).left.state.mssp ≡ seen_if m.config.sspen m false (on_wire (sda_pulled m.phase) (sda_of level))
low_sample w level low =
    let high : level / 2 ^ 1 % 2 ≡ 1 → ⊥ = λ e. omega arith in
    rw (lt-ltb level 4 (omega arith), ne_eqb (level / 2 ^ 1 % 2) 1 high, and-false)

-- A module that is not quiet is enabled.
enabled_moves :
    (on : Bool) (m : Module) (sda : Bool) → T (off_fits on m.phase m.line.mark) → (phase_number m.phase ≡ 0 → ⊥)
    → let after : Module = seen_if on m false sda in
    after.live at after.phase ≡ edge_step m.config m.live m.phase (edge_from m.line.mark m.line.remembered false sda)
enabled_moves true m sda off busy = refl
enabled_moves false m sda off busy = absurd (busy (eqb→eq (phase_number m.phase) 0 (and_left (is_quiet m.phase) (not m.line.mark) off)))

sample_lowers :
    (s : State) (h : Host) → ImageOf s h.state → (level : ℕ) → level ≤ 1 → (phase_number s.mssp.phase ≡ 0 → ⊥) → Lowered h level s
sample_lowers s h image level low busy =
    let m = s.mssp in
    let w : Served = served s h.buffer in
    let is = low_sample w level low in
    record {
      left = (by_definition w (feed_sample level)).left.state;
      shown = (demand_two s h (feed_sample level ∷ []) image).3;
      moved =
          ap (λ (n : Module). n.live at n.phase) is
          ∙ enabled_moves m.config.sspen m (on_wire (sda_pulled m.phase) (sda_of level)) (image_clauses s h image).off busy;
    }

-- ---- an eighth fall: in an address of eight bits SCL was high
abbrev is_low : Phase → Bool
is_low ph = eqb (phase_which ph) 2

eighth_between :
    (c : Config) (l : Live) (bits : Bits) (low mark scl before sda : Bool) → bits.count ≡ 8
    → T (eight_fit (Address bits low) (Some (wire scl before)))
    → edge_step c l (Address bits low) (edge_between mark scl before false sda) ≡ address_byte (is_low (Address bits low)) c l bits.value
eighth_between c l bits true mark true before sda e k = rw e refl
eighth_between c l bits false mark true before sda e k = rw e refl
eighth_between c l bits low mark false before sda e k = absurd (rw e at k)

falls_eighth :
    (c : Config) (l : Live) (bits : Bits) (low mark : Bool) (seen : Option Level) (sda : Bool) → bits.count ≡ 8
    → T (eight_fit (Address bits low) seen)
    → edge_step c l (Address bits low) (edge_from mark seen false sda) ≡ address_byte (is_low (Address bits low)) c l bits.value
falls_eighth c l bits low mark (Some before) sda e k = eighth_between c l bits low mark before.scl before.sda sda e k
falls_eighth c l bits low mark Unseen sda e k = absurd (rw e at k)

eighth_falls :
    (s : State) (h : Host) → ImageOf s h.state → (level : ℕ) → phase_number s.mssp.phase ≡ 1 → (bits_of s.mssp.phase).count ≡ 8
    → lowered s.mssp level ≡ address_byte (is_low s.mssp.phase) s.mssp.config s.mssp.live (bits_of s.mssp.phase).value
eighth_falls s h image level p e =
    let m = s.mssp in let is = by_number m.phase p in
    let sda = on_wire (sda_pulled m.phase) (sda_of level) in
    subst
    (λ (ph : Phase). T (eight_fit ph m.line.remembered) → edge_step m.config m.live ph (edge_from m.line.mark m.line.remembered false sda) ≡ address_byte (is_low ph) m.config m.live (bits_of ph).value)
    is (falls_eighth m.config m.live (bits_of m.phase) (eqb (phase_which m.phase) 2) m.line.mark m.line.remembered sda e)
    (image_clauses s h image).eight

-- ---- what the module takes
which_is : (ph : Phase) → phase_number ph ≡ 1 → phase_which ph ≡ which_seen ph
which_is ph number = rw number refl

is_true : (b : Bool) → bool_byte b ≡ 1 → b ≡ true
is_true true e = refl
is_true false e = absurd (omega arith)

intake_follows :
    (c : Config) (l : Live) (byte : ℕ) (hold : Bool) (which : Which) → let after : ℕ = phase_number (intake c l byte hold which).phase in
    (after ≡ 3) ⊎ (after ≡ 4)
intake_follows c l byte true which = inl refl
intake_follows c l byte false which = inr refl

-- A high byte that is taken, with R/W 0 or after the full match.
high_follows :
    (sends full : Bool) (c : Config) (l : Live) (byte : ℕ) → (sends ≡ true → full ≡ true)
    → let after : ℕ = phase_number (high_if true sends full c l byte).phase in (after ≡ 3) ⊎ (after ≡ 4)
high_follows false full c l byte known = intake_follows c (set_da false (set_rw false (set_full false l))) byte c.ahen High
high_follows true true c l byte known = intake_follows c (set_da false (set_rw true l)) byte c.ahen HighToSend
high_follows true false c l byte known = never (known refl)

first_taken :
    (ten : Bool) (hit : Hit) (c : Config) (l : Live) (byte : ℕ) → (ten ≡ true → bit 0 byte ≡ true → l.full ≡ true)
    → TakenAsSaid (phase_number (first_if ten (is_taken hit) c l byte).phase) (hit_number hit)
first_taken true None c l byte known = inl (refl, refl)
first_taken true Own c l byte known = inr (high_follows (bit 0 byte) l.full c l byte (known refl), inl refl)
first_taken true GeneralCall c l byte known = inr (high_follows (bit 0 byte) l.full c l byte (known refl), inr refl)
first_taken false None c l byte known = inl (refl, refl)
first_taken false Own c l byte known = inr (intake_follows c (set_da false (set_rw (bit 0 byte) l)) byte c.ahen Other, inl refl)
first_taken false GeneralCall c l byte known = inr (intake_follows c (set_da false (set_rw (bit 0 byte) l)) byte c.ahen Other, inr refl)

same-said : {a b x y : ℕ} → a ≡ x → b ≡ y → TakenAsSaid x y → TakenAsSaid a b
same-said e f t = rw (e, f) t

pub takes_what_hits : TakesWhatHits
unfolding by_state
takes_what_hits h level low p e first known =
    ⊎_elim (λ k. absurd (omega (arith, rw (door_look, k.0) at p)))
    (λ k.
    let s = k.0 in let m = s.mssp in let ph = m.phase in
    let was = look_is s h k.2 in
    let number : phase_number ph ≡ 1 = sym (ap (λ (shown : View). shown.phase) was) ∙ p in
    let count : (bits_of ph).count ≡ 8 = sym (ap (λ (shown : View). shown.bits) was) ∙ e in
    let which : phase_which ph ≡ 0 = which_is ph number ∙ sym (ap (λ (shown : View). shown.which) was) ∙ first in
    let fell = sample_lowers s h k.2 level low (λ q. omega (arith, number, q)) in
    let after = fell.moved ∙ eighth_falls s h k.2 level number count ∙ ap (λ (t : Bool). address_byte t m.config m.live (bits_of ph).value) (ap (λ (n : ℕ). eqb n 2) which) in
    let asks : is_ten_bit m.config ≡ true → bit 0 (bits_of ph).value ≡ true → m.live.full ≡ true =
    λ ten sends.
    is_true m.live.full (sym (ap (λ (shown : View). shown.full) was) ∙ known ((shown_ten s h k.2).0 ten) (ap (λ (shown : View). bit 0 shown.byte) was ∙ sends)) in
    let taken = first_taken (is_ten_bit m.config) (hit_of m.config (bits_of ph).value) m.config m.live (bits_of ph).value asks in
    let phase = ap (λ (shown : View). shown.phase) fell.shown ∙ ap (λ (n : Moved). phase_number n.phase) after in
    let says = ap (λ (shown : View). (door_hit h.state shown.byte).value) was ∙ ap (λ (a : Answer). a.value) (hit_is s h k.2 (bits_of ph).value) in
    same-said phase says taken)
    (image_or_none h.state)

-- ---- UA
stat_ua : (s : State) → bit 1 (view_of s).stat ≡ is_held_for_add s.mssp.phase
stat_ua s =
    let c = s.mssp.config in let l = s.mssp.live in
    (bits_back c.smp c.cke l.da l.p l.s l.rw (is_held_for_add s.mssp.phase) l.bf).is1

ua_shown : (s : State) → (bit 1 (view_of s).stat ≡ true) ↔ (phase_number s.mssp.phase ≡ 8)
ua_shown s = (
  λ t. eqb-true (phase_number s.mssp.phase) 8 (sym (stat_ua s) ∙ t),
  λ e. stat_ua s ∙ eq-eqb (phase_number s.mssp.phase) 8 e,
)

pub ua_in_the_hold : UAInTheHold
unfolding by_state
ua_in_the_hold h =
    ⊎_elim (λ k. rw (door_look, k.0) (λ t. never t, λ e. absurd (omega arith))) (λ k. rw (look_is k.0 h k.2) (ua_shown k.0))
    (image_or_none h.state)

-- ---- the hold for ADD, from call to call
add_by : (ph : Phase) → phase_number ph ≡ 8 → (next : Next) × (ph ≡ HeldForAdd next)
add_by ph e = (next_from (phase_which ph), sym (by_number ph e))

module _ (next : Next) where
  abbrev Waits : Module → Type 0
  Waits m = m.phase ≡ HeldForAdd next

  -- SCL is pulled, so that no edge but its fall can come.
  between_waits :
      (c : Config) (l : Live) (ph : Phase) (mark scl before sda : Bool) → ph ≡ HeldForAdd next
      → (edge_step c l ph (edge_between mark scl before false sda)).phase ≡ HeldForAdd next
  between_waits c l ph mark false before sda e = e
  between_waits c l ph mark true before sda e = ap (λ (x : Phase). (fallen c l x).phase) e

  edge_waits :
      (c : Config) (l : Live) (ph : Phase) (mark : Bool) (seen : Option Level) (sda : Bool) → ph ≡ HeldForAdd next
      → (edge_step c l ph (edge_from mark seen false sda)).phase ≡ HeldForAdd next
  edge_waits c l ph mark Unseen sda e = e
  edge_waits c l ph mark (Some before) sda e = between_waits c l ph mark before.scl before.sda sda e

  seen_waits : (on : Bool) (m : Module) (sda : Bool) → Waits m → Waits (seen_if on m false sda)
  seen_waits true m sda e = edge_waits m.config m.live m.phase m.line.mark m.line.remembered sda e
  seen_waits false m sda e = e

  serve_waits : (sends da : Bool) (s : State) (bytes : List ℕ) → Waits s.mssp → Waits (serve sends da s bytes).state.mssp
  serve_waits true da s bytes e =
      let m = s.mssp in
      ap (released_phase _ _) (by_choice (λ (n : Module). n.phase ≡ HeldForAdd next) m.live.da {a = m} {b = emptied m} (λ t. e) (λ t. e))
  serve_waits false true s bytes e = ap (released_phase s.mssp.config.ackdt s.mssp.live.buf) e
  serve_waits false false s bytes e = ap (released_phase s.mssp.config.ackdt s.mssp.live.buf) e

  called_waits : (flag ckp : Bool) (s : State) (bytes : List ℕ) → Waits s.mssp → Waits (called_if flag ckp s bytes).state.mssp
  called_waits false ckp s bytes e = e
  called_waits true true s bytes e = e
  called_waits true false s bytes e = serve_waits s.mssp.live.rw s.mssp.live.da (acknowledged s) bytes e

  step_waits :
      (level call : Bool) (s : State) (bytes : List ℕ) (item : ℕ) → Waits s.mssp → Waits (byte_step_if level call s bytes item).state.mssp
  step_waits true call s bytes item e =
      let m = s.mssp in
      let sda = on_wire (sda_pulled m.phase) (sda_of item) in
      ap (λ (x : Bool). (seen_if m.config.sspen m x sda).phase) (ap (λ (ph : Phase). on_wire (scl_pulled ph) (scl_of item)) e)
      ∙ seen_waits m.config.sspen m sda e
  step_waits false true s bytes item e = called_waits s.mssp.live.sspif s.mssp.live.ckp s bytes e
  step_waits false false s bytes item e = e

  run_waits : (s : State) (bytes items : List ℕ) → Waits s.mssp → Waits (run_of s bytes items).state.mssp
  unfolding after_all
  run_waits s bytes [] e = e
  run_waits s bytes (x ∷ xs) e =
      run_waits (byte_step s bytes x).state (byte_step s bytes x).bytes xs (step_waits (ltb x 4) (eqb x 4) s bytes x e)

  window_waits :
      (w : Served) (start n : ℕ) (trace : List ℕ) (f bad : Bool) (item : ℕ) → Waits w.state.mssp
      → Waits (in_window f bad item w start n (map item_at trace)).left.state.mssp
  window_waits w start n trace false bad item e = e
  window_waits w start n trace true true item e = e
  window_waits w start n trace true false item e = run_waits w.state (window_of start n w.bytes) trace e

  -- A write that neither is ADD's nor disables.
  con1_waits : (off ckp : Bool) (m : Module) → off ≡ false → Waits m → Waits (con1_then off ckp m)
  con1_waits true ckp m f e = absurd (true≢false f)
  con1_waits false true m f e = ap (released_phase m.config.ackdt m.live.buf) e
  con1_waits false false m f e = e

  stays_on : (on value : Bool) → (value ≡ false → ⊥) → on && not value ≡ false
  stays_on true true other = refl
  stays_on true false other = absurd (other refl)
  stays_on false value other = refl

  written_waits :
      (v : ℕ) (m : Module) → Waits m → (r : Register) → (CanEndTheHold (write_register (register_number r) v) → ⊥) → Waits (written r v m)
  written_waits v m e Buf other = e
  written_waits v m e Stat other = e
  written_waits v m e Con1 other =
      con1_waits (m.config.sspen && not (bit 5 v)) (bit 4 v) (con1_stored v m) (stays_on m.config.sspen (bit 5 v) (λ off. other (inr (refl, off)))) e
  written_waits v m e Con2 other = e
  written_waits v m e Con3 other = e
  written_waits v m e Add other = absurd (other (inl refl))
  written_waits v m e Msk other = e
  written_waits v m e Flag other = e

  write_waits :
      (v : ℕ) (m : Module) → Waits m → {number : ℕ} {known : Result Register Refusal} → Registered number known
      → (CanEndTheHold (write_register number v) → ⊥) → Waits (write_at known v m).mssp
  write_waits v m e (register r is) other =
      by_choice Waits (accepted (verdict_of r v m)) {b = m} (λ t. written_waits v m e r (rw is other)) (λ t. e)
  write_waits v m e (beyond above) other = e

  read_waits : (m : Module) → Waits m → (known : Result Register Refusal) → Waits (read_at known m).mssp
  read_waits m e (Ok r) = by_choice Waits (is_buf r) {a = emptied m} {b = m} (λ t. e) (λ t. e)
  read_waits m e (Err why) = e

  call_waits : (w : Served) (c : DoorCall) → (CanEndTheHold c → ⊥) → Waits w.state.mssp → Waits (by_definition w c).left.state.mssp
  call_waits w (set_up add n) other e = absurd (other tt)
  call_waits w (read_register number) other e =
      read_waits w.state.mssp e (register_of number)
  call_waits w (write_register number value) other e =
      write_waits value w.state.mssp e (registered number) other
  call_waits w (feed_sample level) other e = step_waits (ltb level 4) false w.state w.bytes level e
  call_waits w (call_handler start n) other e = window_waits w start n (4 ∷ []) (has_window w start n) false 0 e
  call_waits w (run_trace start n items) other e =
      window_waits w start n items (has_window w start n) (ltb (first_bad items) (length items)) (first_bad items) e
  call_waits w (draw_lanes start n levels lanes) other e =
      let part : List ℕ = drawn_levels levels lanes in
      window_waits w start n (driven (served w.state (window_of start n w.bytes)) part) (has_window w start n) (ltb (first_above 3 part) (length part)) (first_above 3 part) e

-- What look showed and shows of it.
module _ (s : State) (h : Host) (image : ImageOf s h.state) (p : (door_look h.state).phase ≡ 8) where
  held : (next : Next) × (s.mssp.phase ≡ HeldForAdd next)
  held = add_by s.mssp.phase (sym (ap (λ (v : View). v.phase) (look_is s h image)) ∙ p)

  next_shown : (door_look h.state).next ≡ next_seen (HeldForAdd held.0)
  next_shown = ap (λ (v : View). v.next) (look_is s h image) ∙ ap next_seen held.1

  waits_on : (c : DoorCall) → (CanEndTheHold c → ⊥) → let after : View = door_look (at_door h c).left.state in
      (after.phase ≡ 8) × (after.next ≡ (door_look h.state).next)
  waits_on c other =
      let w : Served = served s h.buffer in
      let left = (demand_two s h (c ∷ []) image).3 in
      let e = call_waits held.0 w c other held.1 in (
        ap (λ (v : View). v.phase) left ∙ ap phase_number e,
        ap (λ (v : View). v.next) left ∙ ap next_seen e ∙ sym next_shown,
      )

pub held_until_add : HeldUntilADD
unfolding by_state
held_until_add h c p other =
    ⊎_elim (λ k. absurd (omega (arith, rw (door_look, k.0) at p))) (λ k. waits_on k.0 h k.2 p c other) (image_or_none h.state)

-- ---- what ends it
follows_next : (s : State) (next : Next) → s.mssp.phase ≡ next_phase next → FollowsAsShown (next_seen (HeldForAdd next)) (view_of s)
follows_next s NextQuiet e = (inl (refl, ap phase_number e), ap (λ (ph : Phase). (bits_of ph).count) e, ap (λ (ph : Phase). bool_byte (scl_pulled ph)) e)
follows_next s NextLow e =
    (inr (inl (refl, ap phase_number e, ap which_seen e)), ap (λ (ph : Phase). (bits_of ph).count) e, ap (λ (ph : Phase). bool_byte (scl_pulled ph)) e)
follows_next s NextData e =
    (inr (inr (refl, ap phase_number e)), ap (λ (ph : Phase). (bits_of ph).count) e, ap (λ (ph : Phase). bool_byte (scl_pulled ph)) e)

module _ (s : State) (h : Host) (image : ImageOf s h.state) (p : (door_look h.state).phase ≡ 8) (value : ℕ) where
  add_ends : FollowsAsShown (door_look h.state).next (door_look (at_door h (write_register 5 value)).left.state)
  add_ends =
      let t : State = (by_definition (served s h.buffer) (write_register 5 value)).left.state in
      subst (λ (n : ℕ). FollowsAsShown n (door_look (at_door h (write_register 5 value)).left.state)) (sym (next_shown s h image p))
      (subst (FollowsAsShown (next_seen (HeldForAdd (held s h image p).0))) (sym (demand_two s h (write_register 5 value ∷ []) image).3)
      (follows_next t (held s h image p).0 (ap updated_phase (held s h image p).1)))

  off_ends : bit 5 value ≡ false → (door_look (at_door h (write_register 2 value)).left.state).phase ≡ 0
  off_ends off =
      let m = s.mssp in
      let on = on_by m.config.sspen m.phase m.line.mark (held s h image p).1 (image_clauses s h image).off in
      ap (λ (v : View). v.phase) (demand_two s h (write_register 2 value ∷ []) image).3 ∙ rw (off, on) refl
    where
      on_by : (on : Bool) (ph : Phase) (mark : Bool) {next : Next} → ph ≡ HeldForAdd next → T (off_fits on ph mark) → on ≡ true
      on_by true ph mark e f = refl
      on_by false ph mark e f = absurd (rw e at f)

pub ended_by_add : EndedByADD
unfolding by_state
ended_by_add h value p =
    ⊎_elim (λ k. absurd (omega (arith, rw (door_look, k.0) at p)))
    (λ k. (add_ends k.0 h k.2 p value, off_ends k.0 h k.2 p value)) (image_or_none h.state)

-- ---- what is acknowledged
module _ (c : Config) (l : Live) (byte : ℕ) (a : c.ahen ≡ false) (b : l.bf ≡ false) (o : l.sspov ≡ false) where
  low-pulls : (fits : Bool) → sda_pulled (low_if fits c l byte).phase ≡ fits
  low-pulls true = rw (a, b, o) refl
  low-pulls false = refl

  high-pulls : (fits sends full : Bool) → sda_pulled (high_if fits sends full c l byte).phase ≡ fits && (not sends || full)
  high-pulls true false full = rw (a, b, o) refl
  high-pulls true true true = rw (a, b, o) refl
  high-pulls true true false = refl
  high-pulls false sends full = refl

  first_pulls : (hits : Bool) → is_ten_bit c ≡ true → sda_pulled (first_if (is_ten_bit c) hits c l byte).phase ≡ hits && (not (bit 0 byte) || l.full)
  first_pulls hits ten = ap (λ (t : Bool). sda_pulled (first_if t hits c l byte).phase) ten ∙ high-pulls hits (bit 0 byte) l.full

-- In ten bits a first byte hits where it fits.
hits_by_fit : (c : Config) (byte : ℕ) → is_ten_bit c ≡ true → is_taken (hit_of c byte) ≡ fitting c.add 255 byte
hits_by_fit c byte ten = rw ten (taken_by_test (fitting c.add 255 byte) false ∙ or_false (fitting c.add 255 byte))

sends_or_full : (fits sends full : Bool) → (fits && (not sends || full) ≡ true) ↔ ((fits ≡ true) × (sends ≡ true → bool_byte full ≡ 1))
sends_or_full false sends full = (λ t. never t, λ k. k.0)
sends_or_full true false full = (λ t. (refl, λ e. never e), λ k. refl)
sends_or_full true true true = (λ t. (refl, λ e. refl), λ k. refl)
sends_or_full true true false = (λ t. never t, λ k. absurd (omega (arith, k.1 refl)))

byte_is : (b : Bool) → (bool_byte b ≡ 1) ↔ (b ≡ true)
byte_is b = (is_true b, λ e. ap bool_byte e)

-- Either kind of address, by the number that look shows.
low_by : (low : Bool) → let n : ℕ = cond low (which_number Low) (which_number Other) in ((n ≡ 0) × (eqb n 2 ≡ false)) ⊎ ((n ≡ 2) × (eqb n 2 ≡ true))
low_by true = inr (refl, refl)
low_by false = inl (refl, refl)

which_two : (ph : Phase) → phase_number ph ≡ 1 → ((phase_which ph ≡ 0) × (is_low ph ≡ false)) ⊎ ((phase_which ph ≡ 2) × (is_low ph ≡ true))
which_two ph e =
    subst (λ (x : Phase). ((phase_which x ≡ 0) × (is_low x ≡ false)) ⊎ ((phase_which x ≡ 2) × (is_low x ≡ true))) (by_number ph e)
    (low_by (eqb (phase_which ph) 2))

module _ (s : State) (ten : is_ten_bit s.mssp.config ≡ true) (number : phase_number s.mssp.phase ≡ 1) (a : s.mssp.config.ahen ≡ false) (b : s.mssp.live.bf ≡ false) (o : s.mssp.live.sspov ≡ false) where
  abbrev byte_of : ℕ
  byte_of = (bits_of s.mssp.phase).value

  unfoldable pulls : Bool → Bool
  pulls low = sda_pulled (address_byte low s.mssp.config s.mssp.live byte_of).phase

  low_matches : phase_which s.mssp.phase ≡ 2 → (pulls true ≡ true) ↔ Matches (view_of s)
  unfolding pulls
  low_matches w =
      let c = s.mssp.config in
      let is = low-pulls c s.mssp.live byte_of a b o (eqb byte_of c.add) in
      let which = sym (which_is s.mssp.phase number) ∙ w in (
        λ t. inr (which, eqb-true byte_of c.add (sym is ∙ t)),
        ⊎_elim (λ k. absurd (omega (arith, k.0, which))) (λ k. is ∙ eq-eqb byte_of c.add k.1),
      )

  first_matches : phase_which s.mssp.phase ≡ 0 → (pulls false ≡ true) ↔ Matches (view_of s)
  unfolding pulls
  first_matches w =
      let c = s.mssp.config in let l = s.mssp.live in
      let is = first_pulls c l byte_of a b o (is_taken (hit_of c byte_of)) ten ∙ ap (λ (t : Bool). t && (not (bit 0 byte_of) || l.full)) (hits_by_fit c byte_of ten) in
      let fits = fits_exactly c.add 255 byte_of in
      let told = sends_or_full (fitting c.add 255 byte_of) (bit 0 byte_of) l.full in
      let which = sym (which_is s.mssp.phase number) ∙ w in (
        λ t. let k = told.0 (sym is ∙ t) in inl (which, fits.0 k.0, k.1),
        ⊎_elim (λ k. is ∙ told.1 (fits.1 k.1, k.2)) (λ k. absurd (omega (arith, k.0, which))),
      )

  matches : (pulls (is_low s.mssp.phase) ≡ true) ↔ Matches (view_of s)
  matches =
      ⊎_elim (λ k. subst (λ (t : Bool). (pulls t ≡ true) ↔ Matches (view_of s)) (sym k.1) (first_matches k.0))
      (λ k. subst (λ (t : Bool). (pulls t ≡ true) ↔ Matches (view_of s)) (sym k.1) (low_matches k.0)) (which_two s.mssp.phase number)

pub acknowledges_ten_bits : AcknowledgesTenBits
unfolding by_state pulls
acknowledges_ten_bits h level low ten p e a b o =
    ⊎_elim (λ k. absurd (omega (arith, rw (door_look, k.0) at p)))
    (λ k.
    let s = k.0 in let m = s.mssp in let c = m.config in let l = m.live in
    let was = look_is s h k.2 in
    let number : phase_number m.phase ≡ 1 = sym (ap (λ (v : View). v.phase) was) ∙ p in
    let count : (bits_of m.phase).count ≡ 8 = sym (ap (λ (v : View). v.bits) was) ∙ e in
    let ahen = sym (bits_back l.acktim c.pcie c.scie false c.sdaht c.sbcde c.ahen c.dhen).is1 ∙ sym (ap (λ (v : View). bit 1 v.con3) was) ∙ a in
    let bf = sym (bits_back c.smp c.cke l.da l.p l.s l.rw (is_held_for_add m.phase) l.bf).is0 ∙ sym (ap (λ (v : View). bit 0 v.stat) was) ∙ b in
    let sspov = sym (bits_back c.wcol l.sspov c.sspen l.ckp c.sspm3 c.sspm2 c.sspm1 c.sspm0).is6 ∙ sym (ap (λ (v : View). bit 6 v.con1) was) ∙ o in
    let fell = sample_lowers s h k.2 level low (λ q. omega (arith, number, q)) in
    let pulled = ap (λ (v : View). v.sda_pulled) fell.shown ∙ ap (λ (n : Moved). bool_byte (sda_pulled n.phase)) (fell.moved ∙ eighth_falls s h k.2 level number count) in
    let all = matches s ((shown_ten s h k.2).1 ten) number ahen bf sspov in
    let one = byte_is (sda_pulled (address_byte (is_low m.phase) c l (bits_of m.phase).value).phase) in (
      λ t. subst Matches (sym was) (all.0 (one.0 (sym pulled ∙ t))),
      λ t. pulled ∙ one.1 (all.1 (subst Matches was t)),
    ))
    (image_or_none h.state)

-- ---- the ninth fall
slot_by : (ph : Phase) → phase_number ph ≡ 4 → (slot : SlotCase) × (which : Which) × (ph ≡ Slot slot which)
slot_by ph e = (slot_from (phase_mark ph), which_from (phase_which ph), sym (by_number ph e))

-- SCL was high where the wire's number is 2 or 3.
high_between :
    (scl before : Bool) → 2 ≤ wire_byte (Some (wire scl before)) → wire_byte (Some (wire scl before)) ≤ 3 → (mark sda : Bool)
    → edge_between mark scl before false sda ≡ Fall
high_between true before low high mark sda = refl
high_between false true low high mark sda = absurd (omega arith)
high_between false false low high mark sda = absurd (omega arith)

was_high : (seen : Option Level) → 2 ≤ wire_byte seen → wire_byte seen ≤ 3 → (mark sda : Bool) → edge_from mark seen false sda ≡ Fall
was_high Unseen low high mark sda = absurd (omega arith)
was_high (Some before) low high mark sda = high_between before.scl before.sda low high mark sda

-- What look shows of where an edge left the module.
abbrev Shows : View → Moved → Type 0
Shows v n = (v.phase ≡ phase_number n.phase) × (v.next ≡ next_seen n.phase) × (v.full ≡ bool_byte n.live.full)

ends_as : (c : Config) (l : Live) (slot : SlotCase) (which : Which) (v : View) → Shows v (slot_ended c l slot which) → EndsAs (which_number which) (bool_byte (sda_pulled (Slot slot which))) v
ends_as c l slot Other v k = inl refl
ends_as c l Pulls High v k = inr (inl (refl, refl, k.0, k.1))
ends_as c l Refuses High v k = inr (inr (inl (refl, refl, k.0)))
ends_as c l Declines High v k = inr (inr (inl (refl, refl, k.0)))
ends_as c l Pulls Low v k = inr (inr (inr (inl (refl, refl, k.0, k.1, k.2))))
ends_as c l Refuses Low v k = inr (inr (inr (inr (inl (refl, refl, k.0, k.1)))))
ends_as c l Declines Low v k = inr (inr (inr (inr (inl (refl, refl, k.0, k.1)))))
ends_as c l Pulls HighToSend v k = inr (inr (inr (inr (inr (inl (refl, refl, k.0))))))
ends_as c l Refuses HighToSend v k = inr (inr (inr (inr (inr (inr (refl, refl, k.0, k.2))))))
ends_as c l Declines HighToSend v k = inr (inr (inr (inr (inr (inr (refl, refl, k.0, k.2))))))

pub ninth_fall_of_ten_bits : NinthFallOfTenBits
unfolding by_state
ninth_fall_of_ten_bits h level low p above below =
    ⊎_elim (λ k. absurd (omega (arith, rw (door_look, k.0) at p)))
    (λ k.
    let s = k.0 in let m = s.mssp in
    let was = look_is s h k.2 in
    let wire = ap (λ (v : View). v.wire) was in
    let slot = slot_by m.phase (sym (ap (λ (v : View). v.phase) was) ∙ p) in
    let fell = sample_lowers s h k.2 level low (λ q. omega (arith, ap phase_number slot.2, q)) in
    let sda = on_wire (sda_pulled m.phase) (sda_of level) in
    let falls = was_high m.line.remembered (rw wire at above) (rw wire at below) m.line.mark sda in
    let after : View = door_look (at_door h (feed_sample level)).left.state in
    let moved = fell.moved ∙ ap (edge_step m.config m.live m.phase) falls ∙ ap (λ (ph : Phase). fallen m.config m.live ph) slot.2 in
    let shows : Shows after (slot_ended m.config m.live slot.0 slot.1) = (
      ap (λ (v : View). v.phase) fell.shown ∙ ap (λ (n : Moved). phase_number n.phase) moved,
      ap (λ (v : View). v.next) fell.shown ∙ ap (λ (n : Moved). next_seen n.phase) moved,
      ap (λ (v : View). v.full) fell.shown ∙ ap (λ (n : Moved). bool_byte n.live.full) moved,
    ) in
    same_end after (ap (λ (v : View). v.which) was ∙ ap which_seen slot.2) (ap (λ (v : View). v.sda_pulled) was ∙ ap (λ (ph : Phase). bool_byte (sda_pulled ph)) slot.2)
    (ends_as m.config m.live slot.0 slot.1 after shows))
    (image_or_none h.state)
  where
    same_end : {a b x y : ℕ} (v : View) → a ≡ x → b ≡ y → EndsAs x y v → EndsAs a b v
    same_end v e f t = rw (e, f) t

-- ---- seven bits
which_none : (ph : Phase) → of_ten_bits ph ≡ false → (which_seen ph ≡ 0) × (next_seen ph ≡ 0) × (is_held_for_add ph ≡ false)
which_none ph e =
    by_test (is_held_for_add ph) (λ t. absurd (true≢false (sym (rw t refl) ∙ e)))
    (λ t. let w = eqb-true (phase_which ph) 0 (not-false (eqb (phase_which ph) 0) (rw t at e)) in rw (t, w) (refl, refl, refl))

abbrev is_ten_runs : State → Bool
is_ten_runs s = s.mssp.config.sspen && is_ten_bit s.mssp.config

alone : (s : State) → is_ten_runs s ≡ false → T (ten_fit (is_ten_runs s) s.mssp.live.full s.mssp.phase)
    → (bit 1 (view_of s).stat ≡ false) × ((view_of s).full ≡ 0) × ((view_of s).which ≡ 0) × ((view_of s).next ≡ 0)
alone s off fit =
    let n = neither s.mssp.live.full (of_ten_bits s.mssp.phase) (rw off at fit) in
    let w = which_none s.mssp.phase n.1 in
    (stat_ua s ∙ w.2, ap bool_byte n.0, w.0, w.1)

pub seven_bits_alone : SevenBitsAlone
unfolding by_state
seven_bits_alone h other =
    ⊎_elim (λ k. rw (door_look, k.0) (refl, refl, refl, refl))
    (λ k.
    let s = k.0 in let c = s.mssp.config in
    let was = look_is s h k.2 in
    let off = by_test (is_ten_runs s) (λ t. absurd (other ((shown_is s h k.2).0 ∙ and_first c.sspen (is_ten_bit c) t, (shown_ten s h k.2).0 (and_second c.sspen (is_ten_bit c) t)))) (λ t. t) in
    let all = alone s off (image_clauses s h k.2).ten in
    rw was all)
    (image_or_none h.state)
