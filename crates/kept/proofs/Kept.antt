-- A state stays a state: after set-up, and after every sample, read and accepted write.
use Rattle.kept.specs.Kept.{AccessReadKept, AccessWriteKept}
use Rattle.std.specs.Prelude.{ℕ, ◌%◌, ◌≡◌, refl, Bool, true, false, ◌||◌, ◌&&◌, not, Result, Ok, Err, T, eqb}
use Rattle.std.proofs.Common.{sym, ap, subst, ◌∙◌, true≢false, eqb→eq, eqb-true}
use Rattle.truth.specs.Tests.{and_both, and_left, and_right, or_left, or_right, neither, by_choice}
use Rattle.wire.specs.Byte.{bit}
use Rattle.wire.specs.Wire.{edge_of, on_wire, scl_high}
use Rattle.refusals.specs.declared.Refusal.{Refusal}
use Rattle.refusals.specs.Numbers.{accepted}
use Rattle.refusals.specs.Laws.{none-holds}
use Rattle.mssp.specs.declared.Config.{Config}
use Rattle.mssp.specs.declared.Next.{Next}
use Rattle.mssp.specs.declared.Next.TheVariants.{NextQuiet, NextLow, NextData}
use Rattle.mssp.specs.declared.Phase.{Phase}
use Rattle.mssp.specs.declared.Phase.TheVariants.{Quiet, Address, Data, HeldBefore, Slot, HeldForSending, Sending, MasterAcknowledge, HeldForAdd}
use Rattle.mssp.specs.declared.Module.{Module}
use Rattle.mssp.specs.Module.{fresh, setup, modelled, ten_bits, is_ten_bit}
use Rattle.mssp.specs.Drivers.{scl_pulled, sda_pulled}
use Rattle.effects.specs.Effects.{emptied, released_phase, released, next_phase, updated_phase, updated}
use Rattle.mssp.specs.Phases.{phase_number, is_quiet, is_held_for_add, eight_bits, of_ten_bits}
use Rattle.mssp.specs.Valid.{Valid, bits_fit, no_bits, parts_fit, address_begins, masks_none, mode_fits, off_fits, mark_fits, eight_fit, hold_fits, ten_fit}
use Rattle.sampling.specs.Rules.{seen_if, sampled}
use Rattle.registers.specs.declared.Register.{Register}
use Rattle.registers.specs.declared.Register.TheVariants.{Buf, Stat, Con1, Con2, Con3, Add, Msk, Flag}
use Rattle.registers.specs.Values.{register_of, is_buf, after_read, read_at}
use Rattle.writes.specs.Writes.{con1_config, con1_stored, con1_then, written, write_causes, verdict_of, write_at}
use Rattle.register_bytes.specs.Bytes.{sspm_of}
use Rattle.register_bytes.proofs.Bits.{bits_back, half_back}
use Rattle.kept.proofs.Edges.{edge_stepped, rise_short, eight_kept, ten_kept, mark_kept}

-- ---- set-up
pub fresh-valid : Valid fresh
fresh-valid = record { parts = tt; condition = tt; mode = tt; off = tt; mark = tt; eight = tt; hold = tt; ten = tt }

pub setup-valid : (add : ℕ) → Valid (setup add)
setup-valid add = record { parts = tt; condition = tt; mode = tt; off = tt; mark = tt; eight = tt; hold = tt; ten = tt }

-- ---- samples
-- A disabled module is quiet and unmarked, and stays so.
quiet_short : (ph : Phase) → T (is_quiet ph) → T (not (eight_bits ph))
quiet_short ph h = rw (eqb→eq (phase_number ph) 0 h) tt

unmarked_stays : (mark scl : Bool) → T (not mark) → T (not (scl && (mark || false)))
unmarked_stays true scl h = absurd h
unmarked_stays false true h = tt
unmarked_stays false false h = tt

unmarked_fits : (mark s b : Bool) → T (not mark) → T (not mark || s && b)
unmarked_fits true s b h = absurd h
unmarked_fits false s b h = tt

-- Whether a ten-bit mode runs, of a module that is enabled.
abbrev Runs : Bool → Bool → Bool → Type 0
Runs ten x on = T (on && ten || x)

pub seen_kept : (on : Bool) (m : Module) (scl sda : Bool) → m.config.sspen ≡ on → Valid m → Valid (seen_if on m scl sda)
seen_kept true m scl sda e v =
    let n = edge_stepped m.config m.live m.phase (edge_of m.line scl sda) v.parts v.hold v.condition
    (rise_short m.line.mark m.line.remembered scl sda m.phase v.eight) in
    record {
      parts = n.parts;
      condition = n.condition;
      mode = v.mode;
      off = rw e tt;
      mark = mark_kept m.config m.live m.phase m.line.mark m.line.remembered scl sda v.mark;
      eight = eight_kept m.config m.live m.phase m.line.mark m.line.remembered scl sda v.parts v.hold v.eight;
      hold = n.hold;
      ten = subst (Runs _ _) (sym e) (ten_kept m.config m.live m.phase (edge_of m.line scl sda) (subst (Runs _ _) e v.ten) n.alone);
    }
seen_kept false m scl sda e v =
    let o : T (is_quiet m.phase && not m.line.mark) = rw e at v.off in
    let still : Bool = not (scl && (m.line.mark || false)) in
    let q = and_left (is_quiet m.phase) (not m.line.mark) o in
    let u = unmarked_stays m.line.mark scl (and_right (is_quiet m.phase) (not m.line.mark) o) in
    record {
      parts = v.parts;
      condition = v.condition;
      mode = v.mode;
      off = or_right m.config.sspen (is_quiet m.phase && still) (and_both (is_quiet m.phase) still q u);
      mark = unmarked_fits (scl && (m.line.mark || false)) (m.live.s && scl) (address_begins m.phase) u;
      eight = or_left (not (eight_bits m.phase)) scl (quiet_short m.phase q);
      hold = v.hold;
      ten = v.ten;
    }

pub sample_kept : (m : Module) (scl sda : Bool) → Valid m → Valid (sampled m scl sda)
sample_kept m scl sda v =
    seen_kept m.config.sspen m (on_wire (scl_pulled m.phase) scl) (on_wire (sda_pulled m.phase) sda) refl v

-- ---- register accesses
-- What no clause reads may change.
same :
    (m n : Module) → n.phase ≡ m.phase → n.line ≡ m.line → n.live.s ≡ m.live.s → n.live.p ≡ m.live.p
    → n.live.ckp ≡ m.live.ckp → n.live.full ≡ m.live.full → n.config.sspen ≡ m.config.sspen
    → is_ten_bit n.config ≡ is_ten_bit m.config → T (mode_fits n.config) → Valid m → Valid n
same m n ph line s p ckp full on ten mode v =
    record {
      parts = rw ph v.parts;
      condition = rw (s, p) v.condition;
      mode = mode;
      off = rw (on, ph, line) v.off;
      mark = rw (line, s, ph) v.mark;
      eight = rw (ph, line) v.eight;
      hold = rw (ph, ckp) v.hold;
      ten = rw (on, ten, full, ph) v.ten;
    }

pub read_kept : (r : Register) (m : Module) → Valid m → Valid (after_read r m)
read_kept r m v = by_choice Valid (is_buf r) (λ e. same m (emptied m) refl refl refl refl refl refl refl refl v.mode v) (λ e. v)

-- An accepted write to CON1 leaves a mode that is modelled, ten bits with no mask, or the module off.
accepted_mode :
    (on mode ten none : Bool) → on && not mode ≡ false → on && ten && not none ≡ false → T (not on || mode && (not ten || none))
accepted_mode false mode ten none h k = tt
accepted_mode true false ten none h k = absurd (true≢false h)
accepted_mode true true false none h k = tt
accepted_mode true true true true h k = tt
accepted_mode true true true false h k = absurd (true≢false k)

-- So does one to MSK: the mode is the one that stands.
mode_stands : (on mode other : Bool) → T (not on || mode && other) → on && not mode ≡ false
mode_stands false mode other h = refl
mode_stands true true other h = refl
mode_stands true false other h = absurd h

-- Where SSPM is not changed, neither is whether it has ten bits.
same_ten :
    (v : ℕ) (c : Config) → v % 16 ≡ sspm_of c → ten_bits (bit 2 v) (bit 1 v) (bit 0 v) ≡ is_ten_bit c
same_ten v c e =
    let was = bits_back false false false false c.sspm3 c.sspm2 c.sspm1 c.sspm0 in
    let now = bits_back false false false false (bit 3 v) (bit 2 v) (bit 1 v) (bit 0 v) in
    let h = half_back v ∙ e in
    rw (sym now.is2 ∙ ap (bit 2) h ∙ was.is2, sym now.is1 ∙ ap (bit 1) h ∙ was.is1, sym now.is0 ∙ ap (bit 0) h ∙ was.is0) refl

-- Where SSPEN does not go from 1 to 0, and stays 1 in the same mode only, what ten bits alone have stays with them.
ten_runs :
    (was on ten now same x : Bool) → was && not on ≡ false → was && on && not same ≡ false → (same ≡ true → now ≡ ten)
    → T (was && ten || x) → T (on && now || x)
ten_runs false on ten now same x e k f h = or_right (on && now) x h
ten_runs true false ten now same x e k f h = absurd (true≢false e)
ten_runs true true ten now true x e k f h = rw (f refl) h
ten_runs true true ten now false x e k f h = absurd (true≢false k)

-- CKP 1 ends every hold but the one for ADD, and leaves bits and marks as they were.
released-same :
    (ackdt : Bool) (buf : ℕ) (ph : Phase)
    → (is_quiet (released_phase ackdt buf ph) ≡ is_quiet ph) × (address_begins (released_phase ackdt buf ph) ≡ address_begins ph)
    × (eight_bits (released_phase ackdt buf ph) ≡ eight_bits ph) × (of_ten_bits (released_phase ackdt buf ph) ≡ of_ten_bits ph)
    × T (hold_fits (released_phase ackdt buf ph) true) × (T (parts_fit ph) → T (parts_fit (released_phase ackdt buf ph)))
released-same ackdt buf Quiet = (refl, refl, refl, refl, tt, λ h. h)
released-same ackdt buf (Address bits low) = (refl, refl, refl, refl, tt, λ h. h)
released-same ackdt buf (Data bits held) = (refl, refl, refl, refl, tt, and_right (not (scl_pulled (Data bits held)) || no_bits bits) (bits_fit bits))
released-same ackdt buf (HeldBefore refused which) = (refl, refl, refl, refl, tt, λ h. h)
released-same ackdt buf (Slot slot which) = (refl, refl, refl, refl, tt, λ h. h)
released-same ackdt buf HeldForSending = (refl, refl, refl, refl, tt, λ h. h)
released-same ackdt buf (Sending byte place) = (refl, refl, refl, refl, tt, λ h. h)
released-same ackdt buf MasterAcknowledge = (refl, refl, refl, refl, tt, λ h. h)
released-same ackdt buf (HeldForAdd next) = (refl, refl, refl, refl, tt, λ h. h)

pub released_kept : (m : Module) → Valid m → Valid (released m)
released_kept m v =
    let r = released-same m.config.ackdt m.live.buf m.phase in
    record { parts = r.5 v.parts; condition = v.condition; mode = v.mode; off = rw r.0 v.off; mark = rw r.1 v.mark; eight = rw r.2 v.eight; hold = r.4; ten = rw r.3 v.ten }

-- ADD written ends the hold for it, and leaves every other phase as it is.
by_update :
    (P : Phase → Type 0) → ((next : Next) → P (HeldForAdd next) → P (next_phase next)) → (ph : Phase) → P ph → P (updated_phase ph)
by_update P f Quiet h = h
by_update P f (Address bits low) h = h
by_update P f (Data bits held) h = h
by_update P f (HeldBefore refused which) h = h
by_update P f (Slot slot which) h = h
by_update P f HeldForSending h = h
by_update P f (Sending byte place) h = h
by_update P f MasterAcknowledge h = h
by_update P f (HeldForAdd next) h = f next h

-- What was to follow begins with parts that fit, and holds nothing.
next_fits : (next : Next) (ckp : Bool) → T (parts_fit (next_phase next)) × T (not (eight_bits (next_phase next))) × T (hold_fits (next_phase next) ckp)
next_fits NextQuiet ckp = (tt, tt, tt)
next_fits NextLow ckp = (tt, tt, tt)
next_fits NextData ckp = (tt, tt, tt)

-- A test that holds by its left side alone, whatever stands on the right.
left_alone : (a b other : Bool) → (T b → ⊥) → T (a || b) → T (a || other)
left_alone true b other f h = tt
left_alone false b other f h = absurd (f h)

pub updated_kept : (v : ℕ) (m : Module) → Valid m → Valid (updated v m)
updated_kept v m h =
    let line = m.line in
    let runs : Bool = m.config.sspen && is_ten_bit m.config in
    let high : Bool = m.live.s && scl_high line.remembered in
    record {
      parts = by_update (λ ph. T (parts_fit ph)) (λ next p. (next_fits next true).0) m.phase h.parts;
      condition = h.condition;
      mode = h.mode;
      off =
          by_update (λ ph. T (off_fits m.config.sspen ph line.mark))
          (λ next. left_alone m.config.sspen false (is_quiet (next_phase next) && not line.mark) (λ t. t)) m.phase h.off;
      mark =
          by_update (λ ph. T (mark_fits line.mark m.live.s line.remembered ph))
          (λ next. left_alone (not line.mark) (high && false) (high && address_begins (next_phase next)) (and_right high false)) m.phase h.mark;
      eight =
          by_update (λ ph. T (eight_fit ph line.remembered))
          (λ next p. or_left (not (eight_bits (next_phase next))) (scl_high line.remembered) (next_fits next true).1) m.phase h.eight;
      hold = by_update (λ ph. T (hold_fits ph m.live.ckp)) (λ next p. (next_fits next m.live.ckp).2) m.phase h.hold;
      ten =
          by_update (λ ph. T (ten_fit runs m.live.full ph))
          (λ next. left_alone runs (not (m.live.full || true)) (not (m.live.full || of_ten_bits (next_phase next))) (λ t. true≢false (neither m.live.full true t).1)) m.phase h.ten;
    }

-- Where SSPEN does not go from 1 to 0, an off module was off, quiet and unmarked before.
off_stays : (was on quiet : Bool) → was && not on ≡ false → T (was || quiet) → T (on || quiet)
off_stays was true quiet e h = tt
off_stays true false quiet e h = absurd (true≢false e)
off_stays false false quiet e h = h

no_pull : (pulled other : Bool) → T (not (pulled && other && false))
no_pull true true = tt
no_pull true false = tt
no_pull false other = tt

low_fits : (ph : Phase) (ckp : Bool) → ckp ≡ false → T (hold_fits ph ckp)
low_fits ph ckp e = rw e (no_pull (scl_pulled ph) (not (is_held_for_add ph)))

con1_ten :
    (v : ℕ) (m : Module) → m.config.sspen && not (bit 5 v) ≡ false
    → m.config.sspen && bit 5 v && not (eqb (v % 16) (sspm_of m.config)) ≡ false
    → (ph : Phase) → T (ten_fit (m.config.sspen && is_ten_bit m.config) m.live.full ph)
    → T (ten_fit (bit 5 v && ten_bits (bit 2 v) (bit 1 v) (bit 0 v)) m.live.full ph)
con1_ten v m e stays ph h =
    ten_runs m.config.sspen (bit 5 v) (is_ten_bit m.config) (ten_bits (bit 2 v) (bit 1 v) (bit 0 v))
    (eqb (v % 16) (sspm_of m.config)) (not (m.live.full || of_ten_bits ph)) e stays
    (λ t. same_ten v m.config (eqb-true (v % 16) (sspm_of m.config) t)) h

pub con1_kept :
    (off ckp : Bool) (v : ℕ) (m : Module) → m.config.sspen && not (bit 5 v) ≡ off → bit 4 v ≡ ckp
    → T (mode_fits (con1_config v m.config))
    → m.config.sspen && bit 5 v && not (eqb (v % 16) (sspm_of m.config)) ≡ false
    → Valid m → Valid (con1_then off ckp (con1_stored v m))
con1_kept true ckp v m e k mode stays h =
    let ten = or_right (bit 5 v && ten_bits (bit 2 v) (bit 1 v) (bit 0 v)) true tt in
    record { parts = tt; condition = tt; mode = mode; off = or_right (bit 5 v) true tt; mark = tt; eight = tt; hold = tt; ten = ten }
con1_kept false true v m e k mode stays h =
    let r = released-same m.config.ackdt m.live.buf m.phase in
    record {
      parts = r.5 h.parts;
      condition = h.condition;
      mode = mode;
      off = rw r.0 (off_stays m.config.sspen (bit 5 v) (is_quiet m.phase && not m.line.mark) e h.off);
      mark = rw r.1 h.mark;
      eight = rw r.2 h.eight;
      hold = r.4;
      ten = rw r.3 (con1_ten v m e stays m.phase h.ten);
    }
con1_kept false false v m e k mode stays h =
    record {
      parts = h.parts;
      condition = h.condition;
      mode = mode;
      off = off_stays m.config.sspen (bit 5 v) (is_quiet m.phase && not m.line.mark) e h.off;
      mark = h.mark;
      eight = h.eight;
      hold = low_fits m.phase (bit 4 v) k;
      ten = con1_ten v m e stays m.phase h.ten;
    }

pub write_kept : (r : Register) (v : ℕ) (m : Module) → accepted (verdict_of r v m) ≡ true → Valid m → Valid (written r v m)
write_kept Buf v m a h = same m (written Buf v m) refl refl refl refl refl refl refl refl h.mode h
write_kept Stat v m a h = same m (written Stat v m) refl refl refl refl refl refl refl refl h.mode h
write_kept Con1 v m a h =
    let none = (none-holds 0 (write_causes Con1 v m) a).1 in
    con1_kept (m.config.sspen && not (bit 5 v)) (bit 4 v) v m refl refl
    (accepted_mode (bit 5 v) (modelled (bit 2 v) (bit 1 v)) (ten_bits (bit 2 v) (bit 1 v) (bit 0 v)) (masks_none m.config.msk) none.0 none.1.1.0)
    none.1.0 h
write_kept Con2 v m a h = same m (written Con2 v m) refl refl refl refl refl refl refl refl h.mode h
write_kept Con3 v m a h = same m (written Con3 v m) refl refl refl refl refl refl refl refl h.mode h
write_kept Add v m a h = updated_kept v m h
write_kept Msk v m a h =
    same m (written Msk v m) refl refl refl refl refl refl refl refl
    (accepted_mode m.config.sspen (modelled m.config.sspm2 m.config.sspm1) (is_ten_bit m.config) (masks_none v)
    (mode_stands m.config.sspen (modelled m.config.sspm2 m.config.sspm1) (not (is_ten_bit m.config) || masks_none m.config.msk) h.mode) (none-holds 0 (write_causes Msk v m) a).1.1.1.0) h
write_kept Flag v m a h = same m (written Flag v m) refl refl refl refl refl refl refl refl h.mode h

-- By number: an accepted write keeps the state a state, and a refused one leaves it.
pub access_read_kept : AccessReadKept
access_read_kept m number h = at (register_of number)
  where
    at : (found : Result Register Refusal) → Valid (read_at found m).mssp
    at (Ok r) = read_kept r m h
    at (Err why) = h

pub access_write_kept : AccessWriteKept
access_write_kept m number v h = at (register_of number)
  where
    at : (found : Result Register Refusal) → Valid (write_at found v m).mssp
    at (Ok r) = by_choice Valid (accepted (verdict_of r v m)) (λ a. write_kept r v m a h) (λ a. h)
    at (Err why) = h
