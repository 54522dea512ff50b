-- Demand 2: after every list of calls the bytes are the image of the state that the definitions give.
use Rattle.std.specs.Prelude.{ℕ, ◌%◌, ◌⊎◌, ◌≡◌, Bool, List, [], ◌∷◌, map, T, ltb, length, Err, Ok, Result, Option, Some, None}
use Rattle.std.proofs.Common.{inl, inr, ⊎_elim, sym, ap, subst, ◌∙◌, true≢false, arith, eqb-true, eq-eqb, ltb-true, ltb-false, lt-ltb, le-ltb}
use Rattle.std.proofs.Math.Path.{refl}
use Rattle.std.proofs.Math.Bool.{true, false}
use Rattle.std.proofs.lemmas.Option.{none-some}
use Rattle.truth.specs.Tests.{by_test}
use Rattle.refusals.specs.declared.Refusal.{Refusal}
use Rattle.refusals.specs.declared.Refusal.TheVariants.{NoState}
use Rattle.refusals.specs.Numbers.{Verdict, accepted}
use Rattle.wire.specs.Byte.{bit}
use Rattle.mssp.specs.declared.Module.{Module}
use Rattle.address.specs.Comparison.{hit_number, hit_of}
use Rattle.register_bytes.specs.Bytes.{con1_of, sspm_of}
use Rattle.register_bytes.proofs.Bits.{bits_back, packed_half}
use Rattle.registers.specs.declared.Register.{Register}
use Rattle.registers.specs.Values.{Access, register_of, read_at, read_of}
use Rattle.writes.specs.Writes.{write_of}
use Rattle.readback.proofs.Readback.{refused_leaves}
use Rattle.firmware.specs.declared.State.{State}
use Rattle.firmware.specs.Handler.{Served, served, state_of, setup_of}
use Rattle.firmware.specs.Window.{window_fits, window_of, splice, in_buffer, call_of, call_choice}
use Rattle.steps.specs.declared.Item.TheVariants.{Call}
use Rattle.steps.specs.Step.{after_all}
use Rattle.trace.specs.Run.{first_bad, sampled_by, item_at}
use Rattle.trace.specs.Window.{ran_in, checked, run_in_of}
use Rattle.lanes.specs.Lanes.{laned_in, driven, draw_in_of}
use Rattle.lanes.specs.Theorems.{taken_is_run}
use Rattle.items.specs.First.{first_above}
use Rattle.items.specs.Theorems.{none_above}
use Rattle.steps.specs.declared.Item.{Item}
use Rattle.image.specs.Image.{image_length, valid_state, encode_of, decode_of}
use Rattle.image.specs.Laws.{encode_length}
use Rattle.image.specs.Theorems.{decode_encode, decode_exactly, encode_injective}
use Rattle.view.specs.declared.View.{View}
use Rattle.view.specs.View.{view_of, no_view}
use Rattle.settling.specs.declared.Answer.{Answer}
use Rattle.settling.specs.Outcome.{Outcome, Lent, lent, done, refused, settled, settled_access, no_state, by_state, by_access}
use Rattle.settling.specs.Left.{ImageOfSome}
use Rattle.settling.proofs.Theorems.{stays}
use Rattle.firmware_calls.specs.Calls.{setup_if, door_setup, settled_work}
use Rattle.firmware_calls.proofs.Theorems.{setup_keeps}
use Rattle.module_calls.specs.Calls.{module_in, image_with, level_verdict, door_look, door_hit}
use Rattle.doorkept.proofs.Image.{setup_leaves, read_stays, write_stays, sample_stays, call_stays, run_stays, draw_stays}
use Rattle.demands.specs.Calls.{DoorCall, set_up, read_register, write_register, feed_sample, call_handler, run_trace, draw_lanes, drawn_levels, Host, host, Reply, reply, answers, left_after, at_door, told, in_window, has_window, made_of, by_definition, ImageOf, ImageOfNone, shown_con1}
use Rattle.demands.specs.Demands.{DemandTwo}

-- What a host holds of a state and its buffer, and what it is answered and left of them.
abbrev pub image_host : Served → Host
image_host w = host (encode_of w.state) w.bytes

abbrev pub image_reply : Reply Served → Reply Host
image_reply r = reply r.answer (image_host r.left)

-- An image that is a state's bytes is that state's.
pub image_is : (s : State) → ImageOfSome decode_of (encode_of s) → T (valid_state s)
image_is s image =
    let is : ImageOf image.of (encode_of s) = (decode_exactly (encode_of s) image.of).0 image.decodes in
    rw (encode_injective image.of s is.0) at is.1

-- A call works on the state whose image it is given.
pub on_state :
    {A : Type 0} (nothing : A) (work : State → A) (s : State) → T (valid_state s) → by_state (decode_of (encode_of s)) nothing work ≡ work s
unfolding by_state
on_state nothing work s v = rw (decode_encode s v)

-- What a look shows is the state, and what a hit says is by its registers.
pub look_is : (s : State) (h : Host) → ImageOf s h.state → door_look h.state ≡ view_of s
look_is s h image = subst (λ (b : List ℕ). door_look b ≡ view_of s) image.0 (on_state no_view view_of s image.1)

pub hit_is : (s : State) (h : Host) → ImageOf s h.state → (byte : ℕ) → door_hit h.state byte ≡ done (hit_number (hit_of s.mssp.config byte))
hit_is s h image byte =
    let said : State → Answer = λ t. done (hit_number (hit_of t.mssp.config byte)) in
    subst (λ (b : List ℕ). door_hit b byte ≡ said s) image.0 (on_state (refused NoState 0) said s image.1)

-- SSPEN and SSPM as a look shows them are the state's.
pub shown_is :
    (s : State) (h : Host) → ImageOf s h.state
    → (bit 5 (shown_con1 h) ≡ s.mssp.config.sspen) × (shown_con1 h % 16 ≡ sspm_of s.mssp.config)
shown_is s h image =
    let c = s.mssp.config in let l = s.mssp.live in
    let is : shown_con1 h ≡ con1_of c l = ap (λ (v : View). v.con1) (look_is s h image) in (
      rw is (bits_back c.wcol l.sspov c.sspen l.ckp c.sspm3 c.sspm2 c.sspm1 c.sspm0).is5,
      rw is (packed_half c.wcol l.sspov c.sspen l.ckp c.sspm3 c.sspm2 c.sspm1 c.sspm0),
    )

-- ---- one call
-- A read that is refused leaves the module as it was.
read_refused : (known : Result Register Refusal) (m : Module) → accepted (read_at known m).verdict ≡ false → (read_at known m).mssp ≡ m
read_refused (Ok r) m e = absurd (true≢false e)
read_refused (Err why) m e = refl

abbrev unlent : List ℕ → Outcome → Reply Host
unlent buffer o = reply o.answer (host o.state buffer)

abbrev lends : Lent → Reply Host
lends o = reply o.outcome.answer (host o.outcome.state o.buffer)

module _ (w : Served) where
  abbrev s : State
  s = w.state

  abbrev bytes : List ℕ
  bytes = encode_of w.state

  -- Done, the bytes are the image of the next state; refused, that of the same.
  settles :
      (v : Verdict) (next : State) → (accepted v ≡ false → next ≡ s)
      → unlent w.bytes (settled v 0 (encode_of next) bytes) ≡ image_reply (reply (told v) (served next w.bytes))
  settles (Ok value) next same = refl
  settles (Err why) next same = rw (same refl)

  made : (m : Result State Refusal) → unlent w.bytes (setup_if true m bytes) ≡ image_reply (made_of m w)
  made (Ok next) = refl
  made (Err why) = refl

  sampled :
      (level : ℕ)
      → unlent w.bytes (settled (level_verdict level) 0 (encode_of (sampled_by s level)) bytes)
      ≡ image_reply (by_definition w (feed_sample level))
  sampled level =
      by_test (ltb 3 level) (λ t. let h = ltb-true 3 level t in rw (t, le-ltb level 4 h))
      (λ t. let h = ltb-false 3 level t in rw (t, lt-ltb level 4 (omega arith)))

  module _ (start n : ℕ) where
    called_if_lem : (fits : Bool) → lends (settled_work bytes (call_choice s w.bytes start n fits)) ≡ image_reply (in_window fits false 0 w start n (Call ∷ []))
    unfolding after_all
    called_if_lem true = refl
    called_if_lem false = refl

    -- Work that is judged first, where what it leaves is what its items leave.
    judged_if :
        (fits bad : Bool) (item : ℕ) (left : Served) (items : List Item)
        → (bad ≡ false → left ≡ in_buffer (λ window. after_all (served s window) items) w.bytes start n)
        → lends (settled_work bytes (checked fits bad item s w.bytes left)) ≡ image_reply (in_window fits bad item w start n items)
    judged_if false bad item left items same = refl
    judged_if true true item left items same = refl
    judged_if true false item left items same = ap (λ (x : Served). image_reply (reply (done 0) x)) (same refl)

    -- A drawing's levels leave what the trace does that they are driven by.
    drawn-same :
        (part : List ℕ) → ltb (first_above 3 part) (length part) ≡ false
        → (laned_in s w.bytes start n part).left
        ≡ in_buffer (λ window. after_all (served s window) (map item_at (driven (served s (window_of start n w.bytes)) part))) w.bytes start n
    drawn-same part e =
        let window : List ℕ = window_of start n w.bytes in
        ap (λ (x : Served). served x.state (splice start n x.bytes w.bytes))
        (taken_is_run (served s window) part (none_above 3 part (ltb-false (first_above 3 part) (length part) e)))

  module _ (v : T (valid_state s)) where
    accesses :
        (work : Module → Access) → (accepted (work s.mssp).verdict ≡ false → (work s.mssp).mssp ≡ s.mssp)
        → unlent w.bytes (by_access module_in image_with (decode_of bytes) work bytes)
        ≡ image_reply (reply (told (work s.mssp).verdict) (served (state_of (work s.mssp).mssp s.handler) w.bytes))
    accesses work same =
        ap (unlent w.bytes) (on_state (no_state bytes) (λ t. settled_access (image_with t) (work t.mssp) bytes) s v)
        ∙ settles (work s.mssp).verdict (state_of (work s.mssp).mssp s.handler)
        (λ e. ap (λ (m : Module). state_of m s.handler) (same e))

    one_call : (c : DoorCall) → at_door (image_host w) c ≡ image_reply (by_definition w c)
    one_call (set_up add n) = rw (eq-eqb (length bytes) image_length (encode_length s)) (made (setup_of add n))
    one_call (read_register number) =
        accesses (λ m. read_of m number) (read_refused (register_of number) s.mssp)
    one_call (write_register number value) = accesses (λ m. write_of m number value) (refused_leaves number value s.mssp)
    one_call (feed_sample level) =
        ap (unlent w.bytes) (on_state (no_state bytes) (λ t. settled (level_verdict level) 0 (encode_of (sampled_by t level)) bytes) s v)
        ∙ sampled level
    one_call (call_handler start n) =
        ap lends (on_state (lent (no_state bytes) w.bytes) (λ t. settled_work bytes (call_of t w.bytes start n)) s v)
        ∙ called_if_lem start n (window_fits (length w.bytes) start n s.handler.n)
    one_call (run_trace start n items) =
        ap lends (on_state (lent (no_state bytes) w.bytes) (λ t. settled_work bytes (run_in_of t w.bytes start n items)) s v)
        ∙ judged_if start n (has_window w start n) (ltb (first_bad items) (length items)) (first_bad items) (ran_in s w.bytes start n items) (map item_at items) (λ e. refl)
    one_call (draw_lanes start n levels lanes) =
        let part : List ℕ = drawn_levels levels lanes in
        ap lends (on_state (lent (no_state bytes) w.bytes) (λ t. settled_work bytes (draw_in_of t w.bytes start n levels lanes).outcome) s v)
        ∙ judged_if start n (has_window w start n) (ltb (first_above 3 part) (length part)) (first_above 3 part) (laned_in s w.bytes start n part).left
        (map item_at (driven (served s (window_of start n w.bytes)) part)) (drawn-same start n part)

-- Bytes are no state's image, or that of one.
pub image_or_none :
    (bytes : List ℕ) → ((decode_of bytes ≡ None) × ImageOfNone bytes) ⊎ ((s : State) × (decode_of bytes ≡ Some s) × ImageOf s bytes)
image_or_none bytes = by (decode_of bytes) refl
  where
    by : (found : Option State) → decode_of bytes ≡ found → ((decode_of bytes ≡ None) × ImageOfNone bytes) ⊎ ((s : State) × (decode_of bytes ≡ Some s) × ImageOf s bytes)
    by None e = inl (e, λ s image. none-some s (sym e ∙ (decode_exactly bytes s).1 image))
    by (Some s) e = inr (s, e, (decode_exactly bytes s).0 e)

-- On the image of a state a call does what the definitions say of that state.
pub at_image : (s : State) (h : Host) (c : DoorCall) → ImageOf s h.state → at_door h c ≡ image_reply (by_definition (served s h.buffer) c)
at_image s h c image =
    let w : Served = served s h.buffer in
    subst (λ (b : List ℕ). at_door (host b h.buffer) c ≡ image_reply (by_definition w c)) image.0 (one_call w image.1 c)

-- What holds of a call that answers 6 where there is no state, and else works on the state whose image the bytes are.
pub by_image {ℓ} :
    (h : Host) (c : DoorCall) → (decode_of h.state ≡ None → at_door h c ≡ reply (refused NoState 0) h) → (P : Reply Host → Type ℓ)
    → (ImageOfNone h.state → P (reply (refused NoState 0) h))
    → ((s : State) → ImageOf s h.state → P (image_reply (by_definition (served s h.buffer) c))) → P (at_door h c)
by_image h c six P p q =
    ⊎_elim (λ k. subst P (sym (six k.0)) (p k.1))
    (λ k. subst P (sym (at_image k.0 h c k.2)) (q k.0 k.2))
    (image_or_none h.state)

-- ---- an image stays an image, so the next state is one
image_stays : (h : Host) (c : DoorCall) → ImageOfSome decode_of h.state → ImageOfSome decode_of (at_door h c).left.state
image_stays h (set_up add n) image =
    stays decode_of (door_setup h.state add n) (setup_keeps h.state add n) (setup_leaves h.state add n) image
image_stays h (read_register number) image = read_stays h.state image number
image_stays h (write_register number value) image = write_stays h.state image number value
image_stays h (feed_sample level) image = sample_stays h.state image level
image_stays h (call_handler start n) image = call_stays h.state image h.buffer start n
image_stays h (run_trace start n items) image = run_stays h.state image h.buffer start n items
image_stays h (draw_lanes start n levels lanes) image = draw_stays h.state image h.buffer start n levels lanes

next_valid : (w : Served) (c : DoorCall) → T (valid_state w.state) → T (valid_state (by_definition w c).left.state)
next_valid w c v =
    image_is (by_definition w c).left.state
    (subst (λ (r : Reply Host). ImageOfSome decode_of r.left.state) (one_call w v c)
    (image_stays (image_host w) c (record { of = w.state; decodes = decode_encode w.state v })))

-- ---- all the calls of a list
pub record SameAsDefined (w : Served) (calls : List DoorCall) : Type 0 where
  pub valid : T (valid_state (left_after by_definition w calls).state)
  pub answered : answers at_door (image_host w) calls ≡ answers by_definition w calls
  pub left : left_after at_door (image_host w) calls ≡ image_host (left_after by_definition w calls)

pub follows : (w : Served) (calls : List DoorCall) → T (valid_state w.state) → SameAsDefined w calls
follows w [] v = record { valid = v; answered = refl; left = refl }
follows w (c ∷ calls) v =
    let one = one_call w v c in
    let rest = follows (by_definition w c).left calls (next_valid w c v) in
    record {
      valid = rest.valid;
      answered =
          ap (λ (r : Reply Host). r.answer ∷ answers at_door r.left calls) one
          ∙ ap (λ (more : List Answer). (by_definition w c).answer ∷ more) rest.answered;
      left = ap (λ (r : Reply Host). left_after at_door r.left calls) one ∙ rest.left;
    }

pub demand_two : DemandTwo
demand_two s h calls image =
    let w : Served = served s h.buffer in
    let k = follows w calls image.1 in
    let is : h ≡ image_host w = ap (λ (b : List ℕ). host b h.buffer) (sym image.0) in
    rw is (
      k.answered,
      (ap (λ (x : Host). x.state) (sym k.left), k.valid),
      ap (λ (x : Host). x.buffer) k.left,
      rw k.left (look_is (left_after by_definition w calls).state (image_host (left_after by_definition w calls)) (refl, k.valid)),
      rw k.left (hit_is (left_after by_definition w calls).state (image_host (left_after by_definition w calls)) (refl, k.valid)),
    )
