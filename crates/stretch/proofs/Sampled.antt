-- Every item of a stretch is a sample that leaves all flags as they are: what the stretch says of phase and line is what
-- the rules say.
use Rattle.std.specs.Prelude.{ℕ, ◌+◌, ◌%◌, ◌<◌, ◌≡◌, refl, Bool, true, false, cond, ◌||◌, ltb, leb}
use Rattle.std.proofs.Common.{sym, ap, ap₂, ◌∙◌, arith, lt-ltb, leb-false, ltb-false}
use Rattle.truth.specs.Tests.{never}
use Rattle.wire.specs.declared.Bits.{Bits}
use Rattle.wire.specs.declared.Edge.{Edge}
use Rattle.wire.specs.declared.Edge.TheVariants.{Still, Start, Stop, Rise, Fall}
use Rattle.wire.specs.Byte.{pushed, whole}
use Rattle.wire.specs.Wire.{edge_of, scl_of, sda_of, on_wire}
use Rattle.mssp.specs.declared.Config.{Config}
use Rattle.mssp.specs.declared.Live.{Live}
use Rattle.mssp.specs.declared.Phase.{Phase}
use Rattle.mssp.specs.declared.Phase.TheVariants.{Quiet, Address, Data, HeldBefore, Slot, HeldForSending, Sending, MasterAcknowledge, HeldForAdd}
use Rattle.mssp.specs.declared.Module.{Module}
use Rattle.mssp.specs.Module.{module_of, set_acktim}
use Rattle.mssp.specs.Phases.{bits_of, is_sending}
use Rattle.mssp.specs.Drivers.{scl_pulled, sda_pulled}
use Rattle.sampling.specs.Rules.{Moved, ◌at◌, address_fall_if, data_fall_if, bit_sent_if, edge_step, seen_if, sampled}
use Rattle.stretch.specs.declared.Seen.{Seen}
use Rattle.stretch.specs.declared.Taken.{Taken}
use Rattle.stretch.specs.declared.Sent.{Sent}
use Rattle.stretch.specs.Seen.{line_of, seen_on, ended_by, ends, taken_at, place_seen}
use Rattle.stretch.specs.Stretch.{takes_bits, with_bits, rise_rule, fall_rule, taking_stops, taking_goes, sending_stops, sending_goes, resting_stops, resting_goes, phase_over}

-- A module whose line is a wire that was seen.
abbrev pub module_seen : Config → Live → Phase → Seen → Module
module_seen c l ph w = module_of c l ph (line_of w)

-- Where an edge leads a phase that goes on to up at a rise and to down at a fall.
abbrev phase_by : Phase → Phase → Phase → Bool → Bool → Phase
phase_by ph up down before scl = cond before (cond scl ph down) (cond scl up ph)

-- An edge that does not end the stretch moves the phase and no flag.
module _ (c : Config) (l : Live) (ph : Phase) (rise fall : Bool) (up : Bool → Phase) (down : Phase) (rises : rise ≡ false → (sda : Bool) → edge_step c l ph (Rise sda) ≡ l at up sda) (falls : fall ≡ false → edge_step c l ph Fall ≡ l at down) where
  module _ (mark : Bool) where
    abbrev before : Bool → Bool → Seen
    before scl sda = record { scl = scl; sda = sda; mark = mark }

    abbrev Goes : Bool → Bool → Bool → Bool → Type 0
    Goes scl₀ sda₀ scl sda =
        ends (before scl₀ sda₀) scl sda rise fall ≡ false
        → seen_if true (module_seen c l ph (before scl₀ sda₀)) scl sda
        ≡ module_seen c l (phase_by ph (up sda) down scl₀ scl) (seen_on (before scl₀ sda₀) scl sda)

  -- SCL stays high.
  high : (mark sda₀ sda : Bool) → Goes mark true sda₀ true sda
  high true sda₀ sda h = refl
  high false true true h = refl
  high false false false h = refl
  high false true false h = never (sym h)
  high false false true h = never (sym h)

  goes : (mark scl₀ sda₀ scl sda : Bool) → Goes mark scl₀ sda₀ scl sda
  goes mark true sda₀ true sda h = high mark sda₀ sda h
  goes mark true sda₀ false sda h = ap (λ (n : Moved). module_of c n.live n.phase (line_of (seen_on (before mark true sda₀) false sda))) (falls h)
  goes true false sda₀ true sda h = ap (λ (n : Moved). module_of c n.live n.phase (line_of (seen_on (before true false sda₀) true sda))) (rises h sda)
  goes false false sda₀ true sda h = ap (λ (n : Moved). module_of c n.live n.phase (line_of (seen_on (before false false sda₀) true sda))) (rises h sda)
  goes mark false sda₀ false sda h = refl

-- ---- the three kinds of stretch
-- An item that does not end a stretch is a level, and does not end it as one.
level_goes : (item : ℕ) {b : Bool} → ltb 3 item || b ≡ false → (item < 4) × (b ≡ false)
level_goes item {b} h = by (ltb 3 item) refl
  where
    by : (t : Bool) → ltb 3 item ≡ t → (item < 4) × (b ≡ false)
    by true e = never (sym (sym (ap (λ (t : Bool). t || b) e) ∙ h))
    by false e = let k = ltb-false 3 item e in (omega arith, sym (ap (λ (t : Bool). t || b) e) ∙ h)

taken_phase :
    (ph : Bits → Phase) (b : Bits) (scl₀ scl sda : Bool)
    → phase_by (ph b) (ph (pushed b sda)) (ph b) scl₀ scl ≡ ph (cond scl₀ b (cond scl (pushed b sda) b))
taken_phase ph b true true sda = refl
taken_phase ph b true false sda = refl
taken_phase ph b false true sda = refl
taken_phase ph b false false sda = refl

-- Below the last place the remainder changes nothing.
sent_phase :
    (byte place : ℕ) (w : Seen) (scl sda : Bool) → ends w scl sda false (leb 7 place) ≡ false
    → phase_by (Sending byte place) (Sending byte place) (Sending byte (place + 1)) w.scl scl ≡ Sending byte (place_seen place w scl)
sent_phase byte place w scl sda h = by w.scl scl h
  where
    by :
        (scl₀ scl : Bool) → ends (record { scl = scl₀; sda = w.sda; mark = w.mark }) scl sda false (leb 7 place) ≡ false
        → phase_by (Sending byte place) (Sending byte place) (Sending byte (place + 1)) scl₀ scl
        ≡ Sending byte (cond scl₀ (cond scl place (place % 8 + 1)) place)
    by true true h = refl
    by true false h = let k = leb-false 7 place h in ap (λ (x : ℕ). Sending byte x) (omega arith)
    by false true h = refl
    by false false h = refl

rested_phase : (ph : Phase) (scl₀ scl : Bool) → phase_by ph ph ph scl₀ scl ≡ ph
rested_phase ph true true = refl
rested_phase ph true false = refl
rested_phase ph false true = refl
rested_phase ph false false = refl

-- What does not end a stretch is no Start and no Stop.
calm_by : (rise fall : Bool) (e : Edge) → ended_by rise fall e ≡ false → ended_by false false e ≡ false
calm_by rise fall Still h = refl
calm_by rise fall Start h = h
calm_by rise fall Stop h = h
calm_by rise fall (Rise sda) h = refl
calm_by rise fall Fall h = refl

-- A stretch goes over an item: it is a level, neither Start nor Stop, and the sample leaves the module where the stretch does,
-- which is where a single level on the wire leads.
pub record Sampled (c : Config) (l : Live) (ph : Phase) (w : Seen) (item : ℕ) (ph' : Phase) (w' : Seen) : Type 0 where
  pub level : item < 4
  pub calm : ends w (on_wire (scl_pulled ph) (scl_of item)) (on_wire (sda_pulled ph) (sda_of item)) false false ≡ false
  pub leaves : sampled (module_seen c l ph w) (scl_of item) (sda_of item) ≡ module_seen c l ph' w'
  pub phase : ph' ≡ phase_over ph w (on_wire (scl_pulled ph) (scl_of item)) (on_wire (sda_pulled ph) (sda_of item))
  pub wire : w' ≡ seen_on w (on_wire (scl_pulled ph) (scl_of item)) (on_wire (sda_pulled ph) (sda_of item))

module _ (c : Config) (enabled : c.sspen ≡ true) (l : Live) where
  -- An item that ends nothing is a sample that leads where the edges of the phase lead.
  goes_over :
      (ph ph' : Phase) (w : Seen) (item : ℕ) (rise fall : Bool) (up : Bool → Phase) (down : Phase)
      → (rise ≡ false → (sda : Bool) → edge_step c l ph (Rise sda) ≡ l at up sda)
      → (fall ≡ false → edge_step c l ph Fall ≡ l at down)
      → let scl : Bool = on_wire (scl_pulled ph) (scl_of item) in let sda : Bool = on_wire (sda_pulled ph) (sda_of item) in
      ltb 3 item || ends w scl sda rise fall ≡ false
      → (ends w scl sda rise fall ≡ false → phase_by ph (up sda) down w.scl scl ≡ ph') → ph' ≡ phase_over ph w scl sda
      → Sampled c l ph w item ph' (seen_on w scl sda)
  goes_over ph ph' w item rise fall up down rises falls h leads over =
      let scl : Bool = on_wire (scl_pulled ph) (scl_of item) in let sda : Bool = on_wire (sda_pulled ph) (sda_of item) in
      let k = level_goes item h in
      record {
        level = k.0;
        calm = calm_by rise fall (edge_of (line_of w) scl sda) k.1;
        phase = over;
        wire = refl;
        leaves =
            ap (λ (t : Bool). seen_if t (module_seen c l ph w) scl sda) enabled
            ∙ goes c l ph rise fall up down rises falls w.mark w.scl w.sda scl sda k.1
            ∙ ap (λ (x : Phase). module_seen c l x (seen_on w scl sda)) (leads k.1);
      }

  pub sending_goes_lem :
      (p : Sent) (item : ℕ) → sending_stops p item ≡ false
      → Sampled c l (Sending p.byte p.place) p.wire item (Sending p.byte (sending_goes p item).place) (sending_goes p item).wire
  sending_goes_lem p item h =
      let byte : ℕ = p.byte in let place : ℕ = p.place in
      goes_over (Sending byte place) _ p.wire item false (leb 7 place) (λ x. Sending byte place) (Sending byte (place + 1)) (λ e x. refl)
      (λ e. ap (λ (t : Bool). bit_sent_if t l byte place) (lt-ltb place 7 (leb-false 7 place e))) h
      (sent_phase byte place p.wire (scl_of item) (on_wire (sda_pulled (Sending byte place)) (sda_of item))) refl

  -- By phase: where the phase takes bits, these move.
  pub bits_go :
      (ph : Phase) → takes_bits ph ≡ true → (p : Taken) (item : ℕ) → taking_stops p item ≡ false
      → Sampled c l (with_bits ph p.bits) p.wire item (with_bits ph (taking_goes p item).bits) (taking_goes p item).wire
  bits_go Quiet t p item h = never t
  bits_go (Address bits low) t p item h =
      goes_over (Address p.bits low) _ p.wire item false (whole p.bits) (λ x. Address (pushed p.bits x) low) (Address p.bits low) (λ e sda. refl)
      (λ e. ap (λ (x : Bool). address_fall_if x c l p.bits low) e) h (λ k. taken_phase (λ (b : Bits). Address b low) p.bits p.wire.scl (scl_of item) (sda_of item)) refl
  bits_go (Data bits true) t p item h = never t
  bits_go (Data bits false) t p item h =
      goes_over (Data p.bits false) _ p.wire item false (whole p.bits) (λ x. Data (pushed p.bits x) false) (Data p.bits false) (λ e sda. refl)
      (λ e. ap (λ (x : Bool). data_fall_if x c l p.bits false) e) h (λ k. taken_phase (λ (b : Bits). Data b false) p.bits p.wire.scl (scl_of item) (sda_of item)) refl
  bits_go (HeldBefore refused which) t p item h = never t
  bits_go (Slot slot which) t p item h = never t
  bits_go HeldForSending t p item h = never t
  bits_go (Sending byte place) t p item h = never t
  bits_go MasterAcknowledge t p item h = never t
  bits_go (HeldForAdd next) t p item h = never t

  -- Any other phase stays as it is at the edges that it has no rule for.
  rises_by :
      (ph : Phase) → takes_bits ph ≡ false → rise_rule ph l.acktim ≡ false → (sda : Bool) → edge_step c l ph (Rise sda) ≡ l at ph
  rises_by Quiet t r sda = refl
  rises_by (Address bits low) t r sda = never (sym t)
  rises_by (Data bits true) t r sda = refl
  rises_by (Data bits false) t r sda = never (sym t)
  rises_by (HeldBefore refused which) t r sda = refl
  rises_by (Slot slot which) t r sda = ap (λ (x : Bool). set_acktim x l at Slot slot which) (sym r)
  rises_by HeldForSending t r sda = refl
  rises_by (Sending byte place) t r sda = refl
  rises_by MasterAcknowledge t r sda = never (sym r)
  rises_by (HeldForAdd next) t r sda = refl

  falls_by :
      (ph : Phase) → takes_bits ph ≡ false → is_sending ph ≡ false → fall_rule ph ≡ false → edge_step c l ph Fall ≡ l at ph
  falls_by Quiet t s f = refl
  falls_by (Address bits low) t s f = never (sym t)
  falls_by (Data bits true) t s f = ap (λ (x : Bool). data_fall_if x c l bits true) f
  falls_by (Data bits false) t s f = never (sym t)
  falls_by (HeldBefore refused which) t s f = refl
  falls_by (Slot slot which) t s f = never (sym f)
  falls_by HeldForSending t s f = refl
  falls_by (Sending byte place) t s f = never (sym s)
  falls_by MasterAcknowledge t s f = never (sym f)
  falls_by (HeldForAdd next) t s f = refl

  pub rest_goes :
      (ph : Phase) → takes_bits ph ≡ false → is_sending ph ≡ false → (w : Seen) (item : ℕ)
      → resting_stops (scl_pulled ph) (sda_pulled ph) (rise_rule ph l.acktim) (fall_rule ph) w item ≡ false
      → Sampled c l ph w item ph (resting_goes (scl_pulled ph) (sda_pulled ph) w item)
  rest_goes ph t s w item h =
      let scl : Bool = on_wire (scl_pulled ph) (scl_of item) in let sda : Bool = on_wire (sda_pulled ph) (sda_of item) in
      goes_over ph ph w item (rise_rule ph l.acktim) (fall_rule ph) (λ x. ph) ph (rises_by ph t) (falls_by ph t s) h (λ k. rested_phase ph w.scl scl)
      (sym (ap₂ (λ (a b : Bool). cond a (with_bits ph (taken_at (bits_of ph) w scl sda)) (cond b (Sending (bits_of ph).value (place_seen (bits_of ph).count w scl)) ph)) t s))
