-- The ways through the functions of a stretch: what the code knows on each, and what follows.
use Rattle.std.specs.Prelude.{ℕ, ◌+◌, ◌%◌, ◌≤◌, ◌≡◌, refl, Bool, true, false, cond, ◌&&◌, ◌||◌, not, [], ◌∷◌, ltb, Option, Some, None}
use Rattle.std.proofs.Common.{sym, ap, ap₂, subst, ◌∙◌, le-ltb}
use Rattle.truth.specs.Tests.{never}
use Rattle.wire.specs.declared.Bits.{Bits}
use Rattle.wire.specs.declared.Level.{Level}
use Rattle.wire.specs.Wire.{scl_of, sda_of, on_wire, edge_from, wire}
use Rattle.wire.specs.Laws.{level_again}
use Rattle.mssp.specs.declared.Phase.{Phase}
use Rattle.mssp.specs.declared.Phase.TheVariants.{Quiet, Address, Data, HeldBefore, Slot, HeldForSending, Sending, MasterAcknowledge, HeldForAdd}
use Rattle.mssp.specs.Drivers.{scl_pulled, sda_pulled}
use Rattle.stretch.specs.declared.Seen.{Seen}
use Rattle.stretch.specs.declared.Taken.{Taken}
use Rattle.stretch.specs.declared.Sent.{Sent}
use Rattle.stretch.specs.declared.Stretch.{Stretch}
use Rattle.stretch.specs.Seen.{seen_on, ended_by, ends, taken_at, place_seen}
use Rattle.stretch.specs.Walk.{walked, steps, Idle}
use Rattle.stretch.specs.Stretch.{taken_with, taking_stops, taking_goes, sent_with, sent_level, sending_stops, sending_goes, resting_stops, resting_goes, stretch_at, rise_rule, phase_stretch, fall_ends, phase_over}

-- A level ends a stretch where its edge does.
pub by_level : (item : ℕ) {a b v : Bool} → item ≤ 3 → a ≡ b → a ≡ v → ltb 3 item || b ≡ v
by_level item {a} {b} h e f = ap (λ (t : Bool). t || b) (le-ltb 3 item h) ∙ sym e ∙ f

-- A step that was taken, and one that was not.
pub gone_on : {P : Type 0} (t : Bool) {q r : P} → Some q ≡ cond t None (Some r) → (t ≡ false) × (q ≡ r)
gone_on true e = cc
gone_on false e = (refl, cc)

pub ended_on : {P : Type 0} (t : Bool) (r : P) → None ≡ cond t None (Some r) → t ≡ true
ended_on true r e = refl
ended_on false r e = cc

-- ---- the same level again: once seen it changes nothing
twice : (scl mark : Bool) → scl && (scl && mark) ≡ scl && mark
twice true mark = refl
twice false mark = refl

still : (mark scl sda rise fall : Bool) → ended_by rise fall (edge_from (scl && mark) (Some (wire scl sda)) scl sda) ≡ false
still mark scl sda rise fall = ap (ended_by rise fall) (level_again (scl && mark) scl sda (twice scl mark)).0

seen_again : (w : Seen) (scl sda : Bool) → seen_on (seen_on w scl sda) scl sda ≡ seen_on w scl sda
seen_again w scl sda = ap (λ (mark : Bool). record { scl = scl; sda = sda; mark = mark }) (twice scl w.mark)

level_still : (item : ℕ) → item ≤ 3 → (w : Seen) (scl sda rise fall : Bool) → ltb 3 item || ends (seen_on w scl sda) scl sda rise fall ≡ false
level_still item h w scl sda rise fall = by_level item h refl (still w.mark scl sda rise fall)

taken_again : (b : Bits) (w : Seen) (scl sda : Bool) → taken_at b (seen_on w scl sda) scl sda ≡ b
taken_again b w true sda = refl
taken_again b w false sda = refl

pub taking_again : (p : Taken) (item : ℕ) → item ≤ 3 → Idle taking_stops taking_goes (taking_goes p item) item
taking_again p item h =
    let scl : Bool = scl_of item in let sda : Bool = sda_of item in let b : Bits = taken_at p.bits p.wire scl sda in
    (level_still item h p.wire scl sda _ _, ap₂ taken_with (taken_again b p.wire scl sda) (seen_again p.wire scl sda))

pub resting_again :
    (holds pulls rise fall : Bool) (w : Seen) (item : ℕ) → item ≤ 3
    → Idle (resting_stops holds pulls rise fall) (resting_goes holds pulls) (resting_goes holds pulls w item) item
resting_again holds pulls rise fall w item h =
    (level_still item h w (on_wire holds (scl_of item)) (on_wire pulls (sda_of item)) rise fall, seen_again w (on_wire holds (scl_of item)) (on_wire pulls (sda_of item)))

-- Without a fall the place stays, and with it what is pulled.
placed_again : (place : ℕ) (w : Seen) (scl sda : Bool) → place_seen place (seen_on w scl sda) scl ≡ place
placed_again place w true sda = refl
placed_again place w false sda = refl

place_stays : (place : ℕ) (before scl : Bool) → before && not scl ≡ false → cond before (cond scl place (place % 8 + 1)) place ≡ place
place_stays place true true h = refl
place_stays place true false h = never (sym h)
place_stays place false scl h = refl

pub sending_again :
    (p : Sent) (item : ℕ) → item ≤ 3 → p.wire.scl && not (scl_of item) ≡ false → Idle sending_stops sending_goes (sending_goes p item) item
sending_again p item h f =
    let byte : ℕ = p.byte in let place : ℕ = p.place in let w : Seen = p.wire in let scl : Bool = scl_of item in
    let sda : Bool = sent_level byte place item in
    subst (λ (x : ℕ). Idle sending_stops sending_goes (sent_with byte x (seen_on w scl sda)) item) (sym (place_stays place w.scl scl f))
    (level_still item h w scl sda _ _, ap₂ (sent_with byte) (placed_again place w scl sda) (seen_again w scl sda))

-- ---- a single item: where it stops the stretch, and where the stretch goes over it
stop_or_go : {P : Type 0} (stop : Bool) (p q : P) (at : P → ℕ → Stretch) → cond stop (at p 0) (at q 1) ≡ at (cond stop p q) (cond stop 0 1)
stop_or_go true p q at = refl
stop_or_go false p q at = refl

abbrev over_if : Bool → Phase → Seen → Bool → Bool → Stretch
over_if stop ph w scl sda = cond stop (stretch_at ph w 0) (stretch_at (phase_over ph w scl sda) (seen_on w scl sda) 1)

abbrev pub stops : Phase → Bool → Seen → ℕ → Bool
stops ph acktim w level =
    ltb 3 level || ends w (on_wire (scl_pulled ph) (scl_of level)) (on_wire (sda_pulled ph) (sda_of level)) (rise_rule ph acktim) (fall_ends ph)

abbrev over_of : Phase → Bool → Seen → ℕ → Stretch
over_of ph acktim w level = over_if (stops ph acktim w level) ph w (on_wire (scl_pulled ph) (scl_of level)) (on_wire (sda_pulled ph) (sda_of level))

over_is : (ph : Phase) (acktim : Bool) (w : Seen) (level : ℕ) → over_of ph acktim w level ≡ phase_stretch ph acktim w (level ∷ [])
unfolding walked steps
over_is Quiet acktim w level = stop_or_go (stops Quiet acktim w level) _ _ (stretch_at Quiet)
over_is (Address bits low) acktim w level =
    stop_or_go (stops (Address bits low) acktim w level) (taken_with bits w) (taking_goes (taken_with bits w) level) (λ (p : Taken). stretch_at (Address p.bits low) p.wire)
over_is (Data bits true) acktim w level = stop_or_go (stops (Data bits true) acktim w level) _ _ (stretch_at (Data bits true))
over_is (Data bits false) acktim w level =
    stop_or_go (stops (Data bits false) acktim w level) (taken_with bits w) (taking_goes (taken_with bits w) level) (λ (p : Taken). stretch_at (Data p.bits false) p.wire)
over_is (HeldBefore refused which) acktim w level = stop_or_go (stops (HeldBefore refused which) acktim w level) _ _ (stretch_at (HeldBefore refused which))
over_is (Slot slot which) acktim w level = stop_or_go (stops (Slot slot which) acktim w level) _ _ (stretch_at (Slot slot which))
over_is HeldForSending acktim w level = stop_or_go (stops HeldForSending acktim w level) _ _ (stretch_at HeldForSending)
over_is (Sending byte place) acktim w level =
    stop_or_go (stops (Sending byte place) acktim w level) (sent_with byte place w) (sending_goes (sent_with byte place w) level) (λ (p : Sent). stretch_at (Sending byte p.place) p.wire)
over_is MasterAcknowledge acktim w level = stop_or_go (stops MasterAcknowledge acktim w level) _ _ (stretch_at MasterAcknowledge)
over_is (HeldForAdd next) acktim w level = stop_or_go (stops (HeldForAdd next) acktim w level) _ _ (stretch_at (HeldForAdd next))

module _ (ph : Phase) (acktim : Bool) (w : Seen) (level : ℕ) where
  pub over_stops : stops ph acktim w level ≡ true → stretch_at ph w 0 ≡ phase_stretch ph acktim w (level ∷ [])
  over_stops e = rw e at (over_is ph acktim w level)

  pub over_goes :
      let scl : Bool = on_wire (scl_pulled ph) (scl_of level) in let sda : Bool = on_wire (sda_pulled ph) (sda_of level) in
      stops ph acktim w level ≡ false → stretch_at (phase_over ph w scl sda) (seen_on w scl sda) 1 ≡ phase_stretch ph acktim w (level ∷ [])
  over_goes e = rw e at (over_is ph acktim w level)
