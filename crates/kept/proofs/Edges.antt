-- What one edge keeps of each clause of a state (01, "A state is any setting of ..").
use Rattle.kept.specs.Edges.{Seven, Alone, is_rise, EightKept, TenKept, MarkKept}
use Rattle.std.specs.Prelude.{ℕ, ◌+◌, ◌*◌, ◌%◌, ◌^◌, ◌<◌, ◌≤◌, ◌≡◌, refl, Bool, true, false, cond, ◌||◌, ◌&&◌, not, T, eqb, leb, ltb, Option, Some, None}
use Rattle.std.proofs.Common.{ap, ◌∙◌, true≢false, arith, mod-eq_of_lt, pow-suc, add-one, T_not, leb→le, ltb→lt, le→leb, lt→ltb, ltb-true}
use mir.Val.{bool_byte}
use Rattle.std.proofs.lemmas.Bool.{not-false}
use Rattle.truth.specs.Tests.{and_both, and_left, and_right, or_left, or_right, or_false, neither, by_test, never}
use Rattle.wire.specs.declared.Bits.{Bits}
use Rattle.wire.specs.declared.Level.{Level}
use Rattle.wire.specs.declared.Edge.{Edge}
use Rattle.wire.specs.declared.Edge.TheVariants.{Still, Start, Stop, Rise, Fall}
use Rattle.wire.specs.Byte.{bit, none, pushed, whole}
use Rattle.wire.specs.Wire.{condition, edge_between, edge_from, is_start, wire}
use Rattle.wire.specs.Laws.{one}
use Rattle.address.specs.Comparison.{hit_of, is_taken}
use Rattle.mssp.specs.declared.Config.{Config}
use Rattle.mssp.specs.declared.Live.{Live}
use Rattle.mssp.specs.declared.SlotCase.{SlotCase}
use Rattle.mssp.specs.declared.SlotCase.TheVariants.{Pulls, Refuses, Declines}
use Rattle.mssp.specs.declared.Which.{Which}
use Rattle.mssp.specs.declared.Which.TheVariants.{Other, High, Low, HighToSend}
use Rattle.mssp.specs.declared.Next.{Next}
use Rattle.mssp.specs.declared.Next.TheVariants.{NextQuiet, NextLow, NextData}
use Rattle.mssp.specs.declared.Phase.{Phase}
use Rattle.mssp.specs.declared.Phase.TheVariants.{Quiet, Address, Data, HeldBefore, Slot, HeldForSending, Sending, MasterAcknowledge, HeldForAdd}
use Rattle.mssp.specs.Module.{is_ten_bit, set_da, set_rw, set_full}
use Rattle.mssp.specs.Phases.{slot_after, which_number, eight_bits, of_ten_bits}
use Rattle.mssp.specs.Valid.{bits_fit, parts_fit, address_begins, one_condition, mark_fits, eight_fit, hold_fits}
use Rattle.sampling.specs.Rules.{Moved, intake, address_if, high_if, first_if, low_if, address_fall_if, data_fall_if, followed, awaits_add, fail_ended, slot_ended, bit_sent_if, fallen, risen, edge_step}

low : (s b : Bool) → T (s && false && b) → ⊥
low true b t = t
low false b t = t

-- ---- one bit more
bits_pushed : (b : Bits) (sda : Bool) → T (bits_fit b) → T (not (whole b)) → T (bits_fit (pushed b sda))
bits_pushed b sda h k =
    let c : b.count ≤ 8 = leb→le b.count 8 (and_left (leb b.count 8) (ltb b.value (2 ^ b.count)) h) in
    let v : b.value < 2 ^ b.count = ltb→lt b.value (2 ^ b.count) (and_right (leb b.count 8) (ltb b.value (2 ^ b.count)) h) in
    let n : b.count ≡ 8 → ⊥ = λ e. T_not (whole b) k (rw e tt) in
    let d : b.count < 8 = omega arith in
    let p : b.value % 128 * 2 + bool_byte sda < 2 ^ (b.count % 8 + 1) = rw (mod-eq_of_lt d, add-one, pow-suc) (omega (arith, one sda)) in
    and_both (leb (b.count % 8 + 1) 8) (ltb (b.value % 128 * 2 + bool_byte sda) (2 ^ (b.count % 8 + 1)))
    (le→leb (b.count % 8 + 1) 8 (omega arith))
    (lt→ltb (b.value % 128 * 2 + bool_byte sda) (2 ^ (b.count % 8 + 1)) p)

-- ---- without ten bits no edge makes what they alone have

either : (b : Bool) (x y : Phase) → of_ten_bits x ≡ false → of_ten_bits y ≡ false → of_ten_bits (cond b x y) ≡ false
either true x y hx hy = hx
either false x y hx hy = hy

-- ---- a fall leaves parts that fit, no eight bits, and CKP 0 in a hold; S and P stay; in seven bits nothing of ten
pub record Settled (seven : Type 0) (l : Live) (n : Moved) : Type 0 where
  pub parts : T (parts_fit n.phase)
  pub short : T (not (eight_bits n.phase))
  pub hold : T (hold_fits n.phase n.live.ckp)
  pub start : n.live.s ≡ l.s
  pub stop : n.live.p ≡ l.p
  pub alone : seven → Seven n

-- A hold that is asked for comes with CKP 0.
held_low :
    (hold refused ckp : Bool) (which : Which)
    → T (hold_fits (cond hold (HeldBefore refused which) (Slot (slot_after refused false) which)) (ckp && not hold))
held_low true refused true which = tt
held_low true refused false which = tt
held_low false refused ckp which = tt

chosen : (P : Phase → Bool) (b : Bool) (x y : Phase) → T (P x) → T (P y) → T (P (cond b x y))
chosen P true x y hx hy = hx
chosen P false x y hx hy = hy

slot_low : (send sen ckp : Bool) → T (hold_fits (cond send HeldForSending (Data none sen)) (ckp && not (send || sen)))
slot_low true sen true = tt
slot_low true sen false = tt
slot_low false false ckp = tt
slot_low false true true = tt
slot_low false true false = tt

sen_fits : (sen : Bool) → T (parts_fit (Data none sen))
sen_fits true = tt
sen_fits false = tt

answer_low : (ackstat ckp : Bool) → T (hold_fits (cond ackstat Quiet HeldForSending) (ckp && ackstat))
answer_low true ckp = tt
answer_low false true = tt
answer_low false false = tt

module _ {seven : Type 0} where
  intake-settled :
      (c : Config) (l k : Live) (byte : ℕ) (hold : Bool) (which : Which) → l.s ≡ k.s → l.p ≡ k.p
      → (seven → (l.full ≡ false) × (eqb (which_number which) 0 ≡ true)) → Settled seven k (intake c l byte hold which)
  intake-settled c l k byte hold which es ep alone =
      let held : Phase = HeldBefore (l.bf || l.sspov) which in
      let slot : Phase = Slot (slot_after (l.bf || l.sspov) false) which in
      record {
        parts = chosen parts_fit hold held slot tt tt;
        short = chosen (λ ph. not (eight_bits ph)) hold held slot tt tt;
        hold = held_low hold (l.bf || l.sspov) l.ckp which;
        start = es;
        stop = ep;
        alone = λ t. let k = alone t in (k.0, either hold held slot (ap not k.1) (ap not k.1));
      }

  address_settled : (c : Config) (l : Live) (byte : ℕ) (t : Bool) → (seven → l.full ≡ false) → Settled seven l (address_if t c l byte)
  address_settled c l byte true f =
      intake-settled c (set_da false (set_rw (bit 0 byte) l)) l byte c.ahen Other refl refl (λ t. (f t, refl))
  address_settled c l byte false f = record { parts = tt; short = tt; hold = tt; start = refl; stop = refl; alone = λ t. (f t, refl) }

  data_fall_settled :
      (c : Config) (l : Live) (bits : Bits) (held t : Bool) → whole bits ≡ t
      → T (parts_fit (Data bits held)) → T (hold_fits (Data bits held) l.ckp) → (seven → l.full ≡ false) → Settled seven l (data_fall_if t c l bits held)
  data_fall_settled c l bits held true e h k f =
      intake-settled c (set_da true l) l bits.value c.dhen Other refl refl (λ t. (f t, refl))
  data_fall_settled c l bits held false e h k f =
      record { parts = h; short = rw e tt; hold = k; start = refl; stop = refl; alone = λ t. (f t, refl) }

  followed-settled : (c : Config) (l : Live) (send : Bool) → (seven → l.full ≡ false) → Settled seven l (followed send c l)
  followed-settled c l send f =
      record {
        parts = chosen parts_fit send HeldForSending (Data none c.sen) tt (sen_fits c.sen);
        short = chosen (λ ph. not (eight_bits ph)) send HeldForSending (Data none c.sen) tt tt;
        hold = slot_low send c.sen l.ckp;
        start = refl;
        stop = refl;
        alone = λ t. (f t, either send HeldForSending (Data none c.sen) refl refl);
      }

  sent-settled : (l : Live) (byte place : ℕ) (t : Bool) → ltb place 7 ≡ t → (seven → l.full ≡ false) → Settled seven l (bit_sent_if t l byte place)
  sent-settled l byte place true e f =
      record { parts = lt→ltb (place + 1) 8 (omega (arith, ltb-true place 7 e)); short = tt; hold = tt; start = refl; stop = refl; alone = λ t. (f t, refl) }
  sent-settled l byte place false e f = record { parts = tt; short = tt; hold = tt; start = refl; stop = refl; alone = λ t. (f t, refl) }

  -- What only ten bits have.
  high-settled : (c : Config) (l : Live) (byte : ℕ) (fits sends full : Bool) → (seven → ⊥) → Settled seven l (high_if fits sends full c l byte)
  high-settled c l byte true false full other =
      intake-settled c (set_da false (set_rw false (set_full false l))) l byte c.ahen High refl refl (λ t. absurd (other t))
  high-settled c l byte true true true other = intake-settled c (set_da false (set_rw true l)) l byte c.ahen HighToSend refl refl (λ t. absurd (other t))
  high-settled c l byte true true false other = record { parts = tt; short = tt; hold = tt; start = refl; stop = refl; alone = λ t. absurd (other t) }
  high-settled c l byte false sends full other = record { parts = tt; short = tt; hold = tt; start = refl; stop = refl; alone = λ t. absurd (other t) }

  low-settled : (c : Config) (l : Live) (byte : ℕ) (t : Bool) → (seven → ⊥) → Settled seven l (low_if t c l byte)
  low-settled c l byte true other = intake-settled c (set_da false l) l byte c.ahen Low refl refl (λ t. absurd (other t))
  low-settled c l byte false other = record { parts = tt; short = tt; hold = tt; start = refl; stop = refl; alone = λ t. absurd (other t) }

  first_settled :
      (c : Config) (l : Live) (byte : ℕ) (ten hits : Bool) → (seven → ten ≡ false) → (seven → l.full ≡ false)
      → Settled seven l (first_if ten hits c l byte)
  first_settled c l byte true hits other f = high-settled c l byte hits (bit 0 byte) l.full (λ t. true≢false (other t))
  first_settled c l byte false hits other f = address_settled c l byte hits f

  add_settled : (l : Live) (next : Next) (full : Bool) → (seven → ⊥) → Settled seven l (awaits_add (set_full full l) next)
  add_settled l next full other = record { parts = tt; short = tt; hold = tt; start = refl; stop = refl; alone = λ t. absurd (other t) }

  fail_settled :
      (refused : Bool) (l : Live) (which : Which) → (seven → l.full ≡ false) → (seven → eqb (which_number which) 0 ≡ true)
      → Settled seven l (fail_ended refused l which)
  fail_settled refused l Other f o = record { parts = tt; short = tt; hold = tt; start = refl; stop = refl; alone = λ t. (f t, refl) }
  fail_settled refused l High f o = record { parts = tt; short = tt; hold = tt; start = refl; stop = refl; alone = λ t. (f t, refl) }
  fail_settled refused l Low f o = add_settled l NextQuiet l.full (λ t. never (o t))
  fail_settled refused l HighToSend f o = record { parts = tt; short = tt; hold = tt; start = refl; stop = refl; alone = λ t. (refl, refl) }

  slot_settled :
      (c : Config) (l : Live) (slot : SlotCase) (which : Which) → (seven → l.full ≡ false) → (seven → eqb (which_number which) 0 ≡ true)
      → Settled seven l (slot_ended c l slot which)
  slot_settled c l Pulls Other f o = followed-settled c l (not l.da && l.rw) f
  slot_settled c l Pulls High f o = add_settled l NextLow l.full (λ t. never (o t))
  slot_settled c l Pulls Low f o = add_settled l NextData true (λ t. never (o t))
  slot_settled c l Pulls HighToSend f o = followed-settled c l true f
  slot_settled c l Refuses which f o = fail_settled true l which f o
  slot_settled c l Declines which f o = fail_settled false l which f o

address_fall_settled :
    (c : Config) (l : Live) (bits : Bits) (low t : Bool) → whole bits ≡ t → T (bits_fit bits)
    → Settled (Alone c l (Address bits low)) l (address_fall_if t c l bits low)
address_fall_settled c l bits true true e h = low-settled c l bits.value (eqb bits.value c.add) (λ t. true≢false t.2)
address_fall_settled c l bits false true e h =
    first_settled c l bits.value (is_ten_bit c) (is_taken (hit_of c bits.value)) (λ t. t.0) (λ t. t.1)
address_fall_settled c l bits low false e h =
    record { parts = h; short = rw e tt; hold = tt; start = refl; stop = refl; alone = λ t. (t.1, t.2) }

pub fall_settled :
    (c : Config) (l : Live) (ph : Phase) → T (parts_fit ph) → T (hold_fits ph l.ckp) → Settled (Alone c l ph) l (fallen c l ph)
fall_settled c l Quiet h k = record { parts = tt; short = tt; hold = tt; start = refl; stop = refl; alone = λ t. (t.1, refl) }
fall_settled c l (Address bits low) h k = address_fall_settled c l bits low (whole bits) refl h
fall_settled c l (Data bits held) h k = data_fall_settled c l bits held (whole bits) refl h k (λ t. t.1)
fall_settled c l (HeldBefore refused which) h k = record { parts = tt; short = tt; hold = k; start = refl; stop = refl; alone = λ t. (t.1, t.2) }
fall_settled c l (Slot slot which) h k = slot_settled c l slot which (λ t. t.1) (λ t. not-false (eqb (which_number which) 0) t.2)
fall_settled c l HeldForSending h k = record { parts = tt; short = tt; hold = k; start = refl; stop = refl; alone = λ t. (t.1, refl) }
fall_settled c l (Sending byte place) h k = sent-settled l byte place (ltb place 7) refl (λ t. t.1)
fall_settled c l MasterAcknowledge h k =
    record {
      parts = chosen parts_fit l.ackstat Quiet HeldForSending tt tt;
      short = chosen (λ ph. not (eight_bits ph)) l.ackstat Quiet HeldForSending tt tt;
      hold = answer_low l.ackstat l.ckp;
      start = refl;
      stop = refl;
      alone = λ t. (t.1, either l.ackstat Quiet HeldForSending refl refl);
    }
fall_settled c l (HeldForAdd next) h k = record { parts = tt; short = tt; hold = tt; start = refl; stop = refl; alone = λ t. (t.1, t.2) }

-- ---- a rise meets fewer than eight bits
pub record Risen (l : Live) (ph : Phase) (n : Moved) : Type 0 where
  pub parts : T (parts_fit n.phase)
  pub hold : T (hold_fits n.phase n.live.ckp)
  pub start : n.live.s ≡ l.s
  pub stop : n.live.p ≡ l.p
  pub full : n.live.full ≡ l.full
  pub kind : of_ten_bits n.phase ≡ of_ten_bits ph

pub rise_fits :
    (l : Live) (ph : Phase) (sda : Bool) → T (parts_fit ph) → T (hold_fits ph l.ckp) → T (not (eight_bits ph)) → Risen l ph (risen l ph sda)
rise_fits l Quiet sda h k s = record { parts = tt; hold = tt; start = refl; stop = refl; full = refl; kind = refl }
rise_fits l (Address bits low) sda h k s = record { parts = bits_pushed bits sda h s; hold = tt; start = refl; stop = refl; full = refl; kind = refl }
rise_fits l (Data bits true) sda h k s = record { parts = h; hold = k; start = refl; stop = refl; full = refl; kind = refl }
rise_fits l (Data bits false) sda h k s = record { parts = bits_pushed bits sda h s; hold = tt; start = refl; stop = refl; full = refl; kind = refl }
rise_fits l (HeldBefore refused which) sda h k s = record { parts = tt; hold = k; start = refl; stop = refl; full = refl; kind = refl }
rise_fits l (Slot slot which) sda h k s = record { parts = tt; hold = tt; start = refl; stop = refl; full = refl; kind = refl }
rise_fits l HeldForSending sda h k s = record { parts = tt; hold = k; start = refl; stop = refl; full = refl; kind = refl }
rise_fits l (Sending byte place) sda h k s = record { parts = h; hold = tt; start = refl; stop = refl; full = refl; kind = refl }
rise_fits l MasterAcknowledge sda h k s = record { parts = tt; hold = tt; start = refl; stop = refl; full = refl; kind = refl }
rise_fits l (HeldForAdd next) sda h k s = record { parts = tt; hold = tt; start = refl; stop = refl; full = refl; kind = refl }

-- ---- the clauses after a level, by what was remembered

no_rise : (mark before sda : Bool) → is_rise (condition mark before sda) ≡ false
no_rise true before sda = refl
no_rise false true true = refl
no_rise false true false = refl
no_rise false false true = refl
no_rise false false false = refl

-- Parts and hold, S and P, what ten bits alone have, after any edge that can come.
pub record KeptByEdge (seven : Type 0) (n : Moved) : Type 0 where
  pub parts : T (parts_fit n.phase)
  pub hold : T (hold_fits n.phase n.live.ckp)
  pub condition : T (one_condition n.live)
  pub alone : seven → Seven n

pub edge_stepped :
    (c : Config) (l : Live) (ph : Phase) (e : Edge) → T (parts_fit ph) → T (hold_fits ph l.ckp) → T (one_condition l)
    → T (not (is_rise e) || not (eight_bits ph)) → KeptByEdge (Alone c l ph) (edge_step c l ph e)
edge_stepped c l ph Still h k o r = record { parts = h; hold = k; condition = o; alone = λ a. (a.1, a.2) }
edge_stepped c l ph Start h k o r = record { parts = tt; hold = tt; condition = tt; alone = λ a. (a.1, refl) }
edge_stepped c l ph Stop h k o r = record { parts = tt; hold = tt; condition = tt; alone = λ a. (refl, refl) }
edge_stepped c l ph (Rise sda) h k o r =
    let n = rise_fits l ph sda h k r in
    record { parts = n.parts; hold = n.hold; condition = rw (n.start, n.stop) o; alone = λ a. (n.full ∙ a.1, n.kind ∙ a.2) }
edge_stepped c l ph Fall h k o r =
    let n = fall_settled c l ph h k in
    record { parts = n.parts; hold = n.hold; condition = rw (n.start, n.stop) o; alone = n.alone }

-- A rise comes only where SCL was low, and there eight bits are not.
rise_between :
    (mark scl_before before scl sda : Bool) (ph : Phase) → T (eight_fit ph (Some (wire scl_before before)))
    → T (not (is_rise (edge_between mark scl_before before scl sda)) || not (eight_bits ph))
rise_between mark false before false sda ph h = tt
rise_between mark false before true sda ph h = rw or_false at h
rise_between mark true before false sda ph h = tt
rise_between mark true before true sda ph h = rw (no_rise mark before sda) tt

pub rise_short :
    (mark : Bool) (seen : Option Level) (scl sda : Bool) (ph : Phase) → T (eight_fit ph seen)
    → T (not (is_rise (edge_from mark seen scl sda)) || not (eight_bits ph))
rise_short mark None scl sda ph h = tt
rise_short mark (Some before) scl sda ph h = rise_between mark before.scl before.sda scl sda ph h

eight_between :
    (c : Config) (l : Live) (ph : Phase) (mark scl_before before sda : Bool)
    → T (parts_fit ph) → T (hold_fits ph l.ckp) → T (eight_fit ph (Some (wire scl_before before)))
    → T (eight_fit (edge_step c l ph (edge_between mark scl_before before false sda)).phase (Some (wire false sda)))
eight_between c l ph mark false before sda h k e = e
eight_between c l ph mark true before sda h k e = or_left (not (eight_bits (fallen c l ph).phase)) false (fall_settled c l ph h k).short

pub eight_kept : EightKept
eight_kept c l ph mark seen true sda h k e = or_right (not (eight_bits (edge_step c l ph (edge_from mark seen true sda)).phase)) true tt
eight_kept c l ph mark None false sda h k e = e
eight_kept c l ph mark (Some before) false sda h k e = eight_between c l ph mark before.scl before.sda sda h k e

pub ten_kept : TenKept
ten_kept c l ph e h alone =
    by_test (is_ten_bit c) (λ t. or_left (is_ten_bit c) _ (rw t tt))
    (λ t.
    let n = neither l.full (of_ten_bits ph) (rw t at h) in
    let k = alone (t, n.0, n.1) in
    rw (t, k.0, k.1) tt)

-- The mark stands only where a Start made it or nothing has changed since.
mark_start :
    (c : Config) (l : Live) (ph : Phase) (before sda : Bool)
    → T (mark_fits (false || is_start (condition false before sda)) (edge_step c l ph (condition false before sda)).live.s (Some (wire true sda)) (edge_step c l ph (condition false before sda)).phase)
mark_start c l ph true true = tt
mark_start c l ph true false = tt
mark_start c l ph false true = tt
mark_start c l ph false false = tt

mark_between :
    (c : Config) (l : Live) (ph : Phase) (mark scl_before before sda : Bool)
    → T (mark_fits mark l.s (Some (wire scl_before before)) ph)
    → T (mark_fits (mark || is_start (edge_between mark scl_before before true sda)) (edge_step c l ph (edge_between mark scl_before before true sda)).live.s (Some (wire true sda)) (edge_step c l ph (edge_between mark scl_before before true sda)).phase)
mark_between c l ph false false before sda h = tt
mark_between c l ph false true before sda h = mark_start c l ph before sda
mark_between c l ph true false before sda h = absurd (low l.s (address_begins ph) h)
mark_between c l ph true true before sda h = h

pub mark_kept : MarkKept
mark_kept c l ph mark seen false sda h = tt
mark_kept c l ph false None true sda h = tt
mark_kept c l ph true None true sda h = absurd (low l.s (address_begins ph) h)
mark_kept c l ph mark (Some before) true sda h = mark_between c l ph mark before.scl before.sda sda h
