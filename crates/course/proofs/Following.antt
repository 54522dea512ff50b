-- Every sample keeps module and reader together, on the course that it leads to; and what the module pulls on each.
use Rattle.std.specs.Prelude.{ℕ, ◌+◌, ◌%◌, ◌<◌, pred, ◌≡◌, refl, Bool, true, false, ltb, Option, Some, None}
use Rattle.std.proofs.Common.{sym, ap, ◌∙◌, arith, ltb-true, ltb-false, eq-eqb, ne_eqb}
use Rattle.truth.specs.Tests.{by_test, or_false}
use Rattle.wire.specs.declared.Bits.{Bits}
use Rattle.wire.specs.declared.Line.{Line}
use Rattle.wire.specs.declared.Level.{Level}
use Rattle.wire.specs.declared.Edge.{Edge}
use Rattle.wire.specs.declared.Edge.TheVariants.{Still, Start, Stop, Rise, Fall}
use Rattle.wire.specs.Byte.{pushed, whole, zero_at}
use Rattle.wire.specs.Wire.{condition, edge_between, edge_from, edge_of, line_after, on_wire, scl_high, wire}
use Rattle.mssp.specs.declared.Config.{Config}
use Rattle.mssp.specs.declared.Live.{Live}
use Rattle.mssp.specs.declared.Phase.{Phase}
use Rattle.mssp.specs.declared.Phase.TheVariants.{Quiet, Sending}
use Rattle.mssp.specs.declared.Module.{Module}
use Rattle.mssp.specs.Module.{module_of, chosen}
use Rattle.mssp.specs.Phases.{is_refused}
use Rattle.mssp.specs.Drivers.{scl_pulled, sda_pulled}
use Rattle.sampling.specs.Rules.{Moved, edge_step, seen_if, seen, sampled}
use Rattle.address.specs.Theorems.{taken_by_test}
use Rattle.reader.specs.declared.Place.{Place}
use Rattle.reader.specs.declared.Heard.TheVariants.{Silence}
use Rattle.reader.specs.declared.Reader.{Reader}
use Rattle.reader.specs.Reader.{line, reader_of, within_fall, fall_place, fall_heard, rise_place, place_after, heard_at, reader_after, heard_of}
use Rattle.plain.specs.Device.{own, owes}
use Rattle.course.specs.Course.{AnswersAlone, Kind, off, turn_of, Course, free, unheard, start, stop, others_address, others_byte, write_address, read_address, written, read_on_lem, read_out, Apart, idle, within, not_ours, passing, own_address, write_byte, Runs, apart, addressing, slot_low, slot_high, taking, sent-low, sent-high, asked_low, asked_high, held_address, held-byte, held_load, flags, Follows, runs, waits, Led, to}

-- Setup's configuration, with MSK FF and no general call, answers where bits 7 to 1 are ADD's.
pub setup-answers : (add : ℕ) → AnswersAlone add (chosen add)
setup-answers add =
    record {
      enabled = refl;
      seven_bits = refl;
      held_after = refl;
      address_not_held = refl;
      data_not_held = refl;
      own_alone = λ byte. taken_by_test (own add byte) false ∙ or_false (own add byte);
    }

-- ---- which edge a change of the wire can be
data Move : Option Level → Option Level → Edge → Type 0 where
  first : {scl sda : Bool} → Move None (Some (wire scl sda)) Still
  stays : {scl before sda : Bool} → Move (Some (wire scl before)) (Some (wire scl sda)) Still
  rises : {before sda : Bool} → Move (Some (wire false before)) (Some (wire true sda)) (Rise sda)
  falls : {before sda : Bool} → Move (Some (wire true before)) (Some (wire false sda)) Fall
  starts : Move (Some (wire true true)) (Some (wire true false)) Start
  stops : Move (Some (wire true false)) (Some (wire true true)) Stop

sda_move : (mark before sda : Bool) → Move (Some (wire true before)) (Some (wire true sda)) (condition mark before sda)
sda_move true before sda = stays
sda_move false true true = stays
sda_move false true false = starts
sda_move false false true = stops
sda_move false false false = stays

move_between :
    (mark scl_before before scl sda : Bool)
    → Move (Some (wire scl_before before)) (Some (wire scl sda)) (edge_between mark scl_before before scl sda)
move_between mark false before false sda = stays
move_between mark false before true sda = rises
move_between mark true before false sda = falls
move_between mark true before true sda = sda_move mark before sda

move : (mark : Bool) (seen : Option Level) (scl sda : Bool) → Move seen (Some (wire scl sda)) (edge_from mark seen scl sda)
move mark None scl sda = first
move mark (Some before) scl sda = move_between mark before.scl before.sda scl sda

-- Module and reader after an edge.
unfoldable pub module_at_edge : Edge → Bool → Bool → Module → Module
module_at_edge e scl sda m =
    let moved : Moved = edge_step m.config m.live m.phase e in
    module_of m.config moved.live moved.phase (line_after m.line.mark e scl sda)

unfoldable pub reader_at_edge : Edge → Bool → Bool → Reader → Reader
reader_at_edge e scl sda r = reader_of (line_after r.line.mark e scl sda) (place_after r.place e)

-- ---- one edge, course by course
still :
    {add : ℕ} {c : Config} {kind : Kind} {v : ℕ} {bf da rw i ks kt s p mark : Bool} {ph : Phase} {z : Option Level} {place : Place}
    → Runs add kind v bf da rw ks ph z place
    → Led add c (free kind) Silence (module_of c (flags v bf da rw true i ks kt s p) ph (line z mark)) (reader_of (line z mark) place)
still f = to unheard (runs f)

apart_rise : {add : ℕ} {place : Place} (sda : Bool) → Apart add place → Apart add (rise_place place sda)
apart_rise sda idle = idle
apart_rise sda within = within
apart_rise sda (not_ours e) = not_ours e
apart_rise sda passing = passing

apart_within : {add : ℕ} (b : Bits) (t : Bool) → Apart add (within_fall t false b)
apart_within b true = passing
apart_within b false = within

apart_fall :
    {add : ℕ} {c : Config} {v : ℕ} {da rw i ks kt s p mark : Bool} {z : Option Level} {place : Place} → Apart add place
    → Led add c (free off) (fall_heard place) (module_of c (flags v false da rw true i ks kt s p) Quiet (line z mark))
    (reader_of (line z mark) (fall_place place))
apart_fall idle = still (apart idle)
apart_fall (within {b = b}) = still (apart (apart_within b (whole b)))
apart_fall (not_ours {y = None} e) = still (apart (not_ours e))
apart_fall (not_ours {y = Some level} e) = to (others_address e) (runs (apart within))
apart_fall (passing {y = None}) = still (apart passing)
apart_fall (passing {y = Some level}) = to others_byte (runs (apart within))

-- While a byte is sent, whatever SDA does.
sends :
    {add x place : ℕ} {c c' : Config} {w : Course} {l : Live} {y : Line} {r : Reader} {scl sda : Bool} {e : Edge}
    → Follows add c w (module_of c' l (Sending x place) y) r → Move y.remembered (Some (wire scl sda)) e
    → Led add c w (heard_at r.place e) (module_at_edge e scl sda (module_of c' l (Sending x place) y)) (reader_at_edge e scl sda r)
unfolding module_at_edge reader_at_edge
sends (runs (sent-low h)) stays = still (sent-low h)
sends (runs (sent-low {b = b} h)) (rises {sda = y}) = still (sent-high b y h)
sends (runs (sent-high b y h)) stays = still (sent-high b y h)
sends (runs (sent-high b y h)) falls =
    by_test (ltb b.count 7)
    (λ t.
    let g = ltb-true b.count 7 t in
    let k : b.count + 1 ≡ b.count % 8 + 1 = omega arith in
    rw (t, ne_eqb (b.count % 8 + 1) 8 (λ e. omega arith), k) (still (sent-low {b = pushed b y} (omega arith))))
    (λ t. let g = ltb-false b.count 7 t in rw (t, eq-eqb (b.count % 8 + 1) 8 (omega arith)) (still asked_low))
sends (runs (sent-high b y h)) starts = to start (runs addressing)
sends (runs (sent-high b y h)) stops = to stop (runs (apart idle))
sends (waits x) _ = elim x [ ]

looks :
    {add : ℕ} {c : Config} {w : Course} {m : Module} {r : Reader} {e : Edge} (l d : Bool) → AnswersAlone add c
    → Follows add c w m r
    → (let scl : Bool = on_wire (scl_pulled m.phase) l in let sda : Bool = on_wire (sda_pulled m.phase) d in
    Move m.line.remembered (Some (wire scl sda)) e
    → Led add c w (heard_at r.place e) (module_at_edge e scl sda m) (reader_at_edge e scl sda r))
unfolding module_at_edge reader_at_edge
looks l d a (runs (apart f)) first = still (apart f)
looks l d a (runs (apart f)) stays = still (apart f)
looks l d a (runs (apart f)) rises = still (apart (apart_rise d f))
looks l d a (runs (apart f)) falls = apart_fall f
looks l d a (runs (apart f)) starts = to start (runs addressing)
looks l d a (runs (apart f)) stops = to stop (runs (apart idle))
looks l d a (runs addressing) stays = still addressing
looks l d a (runs addressing) rises = still addressing
looks {add = add} l d a (runs (addressing {b = b})) falls =
    by_test (whole b)
    (λ t. by_test (own add b.value)
    (λ u. rw (t, a.own_alone b.value, a.seven_bits, u, a.address_not_held) (still (slot_low (own_address u refl))))
    (λ u. rw (t, a.own_alone b.value, a.seven_bits, u) (still (apart (not_ours u)))))
    (λ t. rw t (still addressing))
looks l d a (runs addressing) starts = to start (runs addressing)
looks l d a (runs addressing) stops = to stop (runs (apart idle))
looks l d a (runs (slot_low f)) stays = still (slot_low f)
looks l d a (runs (slot_low f)) rises = still (slot_high f)
looks l d a (runs (slot_high f)) stays = still (slot_high f)
looks l d a (runs (slot_high (own_address {r = true} e g))) falls = to (read_address e g) (waits held_load)
looks l d a (runs (slot_high (own_address {r = false} e g))) falls = rw a.held_after (to (write_address e g) (waits held_address))
looks l d a (runs (slot_high write_byte)) falls = rw a.held_after (to written (waits held-byte))
looks l d a (runs taking) stays = still taking
looks l d a (runs taking) rises = still taking
looks l d a (runs (taking {b = b})) falls =
    by_test (whole b) (λ t. rw (t, a.data_not_held) (still (slot_low write_byte))) (λ t. rw t (still taking))
looks l d a (runs taking) starts = to start (runs addressing)
looks l d a (runs taking) stops = to stop (runs (apart idle))
looks l d a (runs {mark = mark} (sent-low h)) v = sends (runs {mark = mark} (sent-low h)) v
looks l d a (runs {mark = mark} (sent-high b y h)) v = sends (runs {mark = mark} (sent-high b y h)) v
looks l d a (runs asked_low) stays = still asked_low
looks l d a (runs asked_low) rises = still asked_high
looks l d a (runs asked_high) stays = still asked_high
looks l d a (runs (asked_high {ks = true})) falls = to read_out (runs (apart within))
looks l d a (runs (asked_high {ks = false})) falls = to read_on_lem (waits held_load)
looks l d a (runs asked_high) starts = to start (runs addressing)
looks l d a (runs asked_high) stops = to stop (runs (apart idle))
looks l d a (waits held_address) stays = to unheard (waits held_address)
looks l d a (waits held-byte) stays = to unheard (waits held-byte)
looks l d a (waits held_load) stays = to unheard (waits held_load)

-- A sample: the module is enabled, and both remember one line, so that they see one edge.
seen_enabled :
    (m : Module) (scl sda : Bool) → m.config.sspen ≡ true → seen m scl sda ≡ module_at_edge (edge_of m.line scl sda) scl sda m
unfolding module_at_edge
seen_enabled m scl sda e = ap (λ (on : Bool). seen_if on m scl sda) e

pub sample_follows :
    {add : ℕ} {c : Config} {w : Course} {m : Module} {r : Reader} (l d : Bool) → AnswersAlone add c → Follows add c w m r
    → (let scl : Bool = on_wire (scl_pulled m.phase) l in let sda : Bool = on_wire (sda_pulled m.phase) d in
    Led add c w (heard_of r scl sda) (sampled m l d) (reader_after r scl sda))
unfolding reader_at_edge
sample_follows {m = m} l d a (runs {mark = mark} {ph = ph} {z = z} f) =
    let scl : Bool = on_wire (scl_pulled ph) l in
    let sda : Bool = on_wire (sda_pulled ph) d in
    rw (seen_enabled m scl sda a.enabled) (looks l d a (runs f) (move mark z scl sda))
sample_follows {m = m} l d a (waits {d = before} {mark = mark} {ph = ph} f) =
    let scl : Bool = on_wire (scl_pulled ph) l in
    let sda : Bool = on_wire (sda_pulled ph) d in
    rw (seen_enabled m scl sda a.enabled) (looks l d a (waits f) (move mark (Some (wire false before)) scl sda))

-- ---- what the module pulls
-- While the clock is free it is not pulled; and no byte of this course was refused.
pub clear :
    {add v : ℕ} {kind : Kind} {bf da rw ks : Bool} {ph : Phase} {z : Option Level} {place : Place}
    → Runs add kind v bf da rw ks ph z place → (scl_pulled ph ≡ false) × (is_refused ph ≡ false)
clear (apart f) = (refl, refl)
clear addressing = (refl, refl)
clear (slot_low f) = (refl, refl)
clear (slot_high f) = (refl, refl)
clear taking = (refl, refl)
clear (sent-low h) = (refl, refl)
clear (sent-high b y h) = (refl, refl)
clear asked_low = (refl, refl)
clear asked_high = (refl, refl)

-- While SCL is high the bit just taken is the one on the wire.
just_taken : (count : ℕ) → count < 8 → count ≡ pred (count % 8 + 1)
just_taken count h = omega arith

pub pulls_what_is_owed :
    {add v : ℕ} {kind : Kind} {bf da rw ks : Bool} {ph : Phase} {z : Option Level} {place : Place} (due : Bool)
    → Runs add kind v bf da rw ks ph z place → sda_pulled ph ≡ owes add false (scl_high z) place (turn_of due kind)
pulls_what_is_owed due (apart idle) = refl
pulls_what_is_owed due (apart within) = refl
pulls_what_is_owed due (apart (not_ours e)) = sym e
pulls_what_is_owed due (apart passing) = refl
pulls_what_is_owed due addressing = refl
pulls_what_is_owed due (slot_low (own_address e g)) = sym e
pulls_what_is_owed due (slot_low write_byte) = refl
pulls_what_is_owed due (slot_high (own_address e g)) = sym e
pulls_what_is_owed due (slot_high write_byte) = refl
pulls_what_is_owed due taking = refl
pulls_what_is_owed due (sent-low h) = refl
pulls_what_is_owed due (sent-high {x = x} b y h) = ap (zero_at x) (just_taken b.count h)
pulls_what_is_owed due asked_low = refl
pulls_what_is_owed due asked_high = refl
