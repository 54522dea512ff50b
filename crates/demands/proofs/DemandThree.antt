-- Set up, and fed through the door: the registers after setup; a run is the calls one after the other, however its items are fed;
-- demand 3, and that no byte is refused there.
use Rattle.std.specs.Prelude.{ℕ, ◌+◌, ◌≤◌, ◌≡◌, refl, Bool, true, false, cond, ◌||◌, T, eqb, ltb, length, take, drop, Err, Ok}
use Rattle.std.proofs.Common.{sym, ◌∙◌, subst, true≢false, arith, take-append-drop, length-append, length-drop, length-take-le, take_at, drop_at, get_or-append-add, ltb-false, lt-ltb, le-ltb, eq-eqb, le-leb}
use Rattle.std.proofs.Math.Path.{ap}
use mathlib.Core.List.{List, [], ◌∷◌, map, ◌++◌}
use mir.Val.{bool_byte}
use Rattle.std.proofs.Math.ListN.{get_or-append}
use Rattle.truth.specs.Tests.{by_test, by_choice}
use Rattle.items.specs.First.{first_above, NoneAbove}
use Rattle.items.specs.Theorems.{none_above, none_first}
use Rattle.refusals.specs.declared.Refusal.TheVariants.{NoWindow}
use Rattle.wire.specs.Byte.{bit}
use Rattle.wire.specs.Wire.{scl_of, sda_of, on_wire}
use Rattle.mssp.specs.declared.Module.{Module}
use Rattle.mssp.specs.Module.{setup}
use Rattle.mssp.specs.Drivers.{scl_pulled, sda_pulled}
use Rattle.effects.specs.Effects.{emptied}
use Rattle.sampling.specs.Rules.{seen_if}
use Rattle.register_bytes.specs.Bytes.{sspm_of}
use Rattle.register_bytes.proofs.Bits.{bits_back}
use Rattle.firmware.specs.declared.State.{State}
use Rattle.firmware.specs.Handler.{is_window_length, Served, served, state_of, handler_of, acknowledged, serve, called_if}
use Rattle.firmware.specs.Window.{window_of, splice, in_buffer}
use Rattle.firmware.proofs.Laws.{within_length, inside}
use Rattle.steps.specs.declared.Item.{Item}
use Rattle.steps.specs.Step.{after_all}
use Rattle.steps.specs.Laws.{after_joined}
use Rattle.trace.specs.Run.{first_bad, byte_step_if, byte_step, item_if, item_at, run_from, run_of}
use Rattle.trace.specs.Window.{SameOutside}
use Rattle.trace.proofs.Theorems.{run_length, window_length, splice_outside}
use Rattle.agreement.specs.Joint.{Joint, run, afresh, SamplesAndCalls, ended, sample, call as call-more, Agrees, NotRefused}
use Rattle.agreement.specs.Record.{joint_run_is_the_run}
use Rattle.agreement.proofs.Demand.{demand_three, no_intake_refused}
use Rattle.image.specs.Image.{image_length, valid_state, encode_of, decode_of}
use Rattle.view.specs.declared.View.{View}
use Rattle.view.specs.View.{view_of, no_view}
use Rattle.settling.specs.declared.Answer.{Answer}
use Rattle.settling.specs.Outcome.{Outcome, outcome, by_state, done}
use Rattle.settling.specs.Left.{ImageOfSome}
use Rattle.firmware_calls.specs.Calls.{setup_if, door_setup}
use Rattle.doorkept.proofs.Image.{setup_leaves}
use Rattle.demands.specs.Calls.{DoorCall, set_up, read_register, run_trace, Host, host, Reply, reply, answers, left_after, at_door, has_window, in_window, by_definition, ImageOf, AllItems, ShowsNoneRefused, Asks, a_run, a_sample, a_call, Feeds, nothing, one_more}
use Rattle.demands.specs.Demands.{SetupRegisters, RunIsCalls, DemandThree, NoneRefused}
use Rattle.demands.proofs.DemandTwo.{image_is, on_state, look_is, follows, image_host, by_image, SameAsDefined}

-- ---- setup
-- The state that an accepted setup makes.
abbrev made_for : ℕ → ℕ → State
made_for add n = state_of (setup add) (handler_of n 0 false)

module _ (bytes : List ℕ) (add n : ℕ) where
  made_if :
      (long good : Bool) → let o : Outcome = setup_if long (cond good (Ok (made_for add n)) (Err NoWindow)) bytes in
      o.answer.refusal ≡ 0 → o ≡ outcome (done 0) (encode_of (made_for add n))
  made_if false good e = absurd (omega arith)
  made_if true false e = absurd (omega arith)
  made_if true true e = refl

  module _ (e : (door_setup bytes add n).answer.refusal ≡ 0) where
    setup_made : door_setup bytes add n ≡ outcome (done 0) (encode_of (made_for add n))
    setup_made = made_if (eqb (length bytes) image_length) (is_window_length n) e

    setup-valid : T (valid_state (made_for add n))
    setup-valid = image_is (made_for add n) (subst (λ (o : Outcome). ImageOfSome decode_of o.state) setup_made (setup_leaves bytes add n e))

pub setup_registers : SetupRegisters
setup_registers h add n e =
    let w : Served = served (made_for add n) h.buffer in
    let valid : T (valid_state w.state) = setup-valid h.state add n e in
    rw (ap (λ (o : Outcome). o.state) (setup_made h.state add n e)) (
      on_state no_view view_of w.state valid,
      (follows w (map read_register (0 ∷ 1 ∷ 2 ∷ 3 ∷ 4 ∷ 5 ∷ 6 ∷ 7 ∷ [])) valid).answered,
    )

-- ---- a run is the calls one after the other
-- Other bytes in a window
module _ (start n : ℕ) (bytes buffer : List ℕ) (h : start + n ≤ length buffer) (e : length bytes ≡ n) where
  front : length (take start buffer) ≡ start
  front = length-take-le start buffer (omega arith)

  behind : drop start (splice start n bytes buffer) ≡ bytes ++ drop n (drop start buffer)
  behind = drop_at (take start buffer) (bytes ++ drop n (drop start buffer)) start front

  splice_window : window_of start n (splice start n bytes buffer) ≡ bytes
  splice_window = rw behind (take_at bytes (drop n (drop start buffer)) n e)

  splice_again : (other : List ℕ) → splice start n other (splice start n bytes buffer) ≡ splice start n other buffer
  splice_again other =
      rw (take_at (take start buffer) (bytes ++ drop n (drop start buffer)) start front, behind, drop_at bytes (drop n (drop start buffer)) n e)

  splice-length : length (splice start n bytes buffer) ≡ length buffer
  splice-length = simp (length-append, front, e, length-drop) (omega arith)

splice-own : (start n : ℕ) (buffer : List ℕ) → splice start n (window_of start n buffer) buffer ≡ buffer
splice-own start n buffer = rw (take-append-drop n (drop start buffer), take-append-drop start buffer)

-- What no sample and no handler call changes: the handler's n, and SSPM
abbrev pub unmoved : State → ℕ × ℕ
unmoved s = (s.handler.n, sspm_of s.mssp.config)

seen_stands : (on : Bool) (m : Module) (scl sda : Bool) → (seen_if on m scl sda).config ≡ m.config
seen_stands true m scl sda = refl
seen_stands false m scl sda = refl

serve_stands : (sends da : Bool) (s : State) (bytes : List ℕ) → unmoved (serve sends da s bytes).state ≡ unmoved s
serve_stands true da s bytes =
    let m = s.mssp in
    rw (by_choice (λ (n : Module). n.config ≡ m.config) m.live.da {a = m} {b = emptied m} (λ e. refl) (λ e. refl))
serve_stands false true s bytes = refl
serve_stands false false s bytes = refl

called_stands : (flag ckp : Bool) (s : State) (bytes : List ℕ) → unmoved (called_if flag ckp s bytes).state ≡ unmoved s
called_stands false ckp s bytes = refl
called_stands true true s bytes = refl
called_stands true false s bytes = serve_stands s.mssp.live.rw s.mssp.live.da (acknowledged s) bytes

pub step_stands : (level call : Bool) (s : State) (bytes : List ℕ) (item : ℕ) → unmoved (byte_step_if level call s bytes item).state ≡ unmoved s
step_stands true call s bytes item =
    let m = s.mssp in
    rw (seen_stands m.config.sspen m (on_wire (scl_pulled m.phase) (scl_of item)) (on_wire (sda_pulled m.phase) (sda_of item)))
step_stands false true s bytes item = called_stands s.mssp.live.sspif s.mssp.live.ckp s bytes
step_stands false false s bytes item = refl

pub run_stands : (s : State) (bytes items : List ℕ) → unmoved (run_of s bytes items).state ≡ unmoved s
unfolding after_all
run_stands s bytes [] = refl
run_stands s bytes (x ∷ xs) =
    run_stands (byte_step s bytes x).state (byte_step s bytes x).bytes xs ∙ step_stands (ltb x 4) (eqb x 4) s bytes x

-- Every item is one.
pub none_bad : (most : ℕ) (items : List ℕ) → NoneAbove most items → ltb (first_above most items) (length items) ≡ false
none_bad most items good = le-ltb (first_above most items) (length items) (omega (arith, none_first most items good))

all_good : (items : List ℕ) → ltb (first_bad items) (length items) ≡ false → AllItems items
all_good items e = none_above 4 items (ltb-false (first_bad items) (length items) e)

module _ {most : ℕ} (xs ys : List ℕ) (good : NoneAbove most (xs ++ ys)) where
  pub good_first : NoneAbove most xs
  good_first k h = rw (← get_or-append xs ys 0 k h) (good k (simp length-append (omega arith)))

  pub good_rest : NoneAbove most ys
  good_rest k h = rw (← get_or-append-add xs ys k 0) (good (length xs + k) (simp length-append (omega arith)))

-- Items in a window of the buffer, and the rest of them in the same window
module _ (start n : ℕ) where
  abbrev pub ranOn : Served → List ℕ → Served
  ranOn w items = in_buffer (λ window. run_from (served w.state window) items) w.bytes start n

  ran_none : (w : Served) → w ≡ ranOn w []
  unfolding after_all
  ran_none w = ap (λ (b : List ℕ). served w.state b) (sym (splice-own start n w.bytes))

  module _ (w : Served) (f : has_window w start n ≡ true) where
    within : start + n ≤ length w.bytes
    within = inside (length w.bytes) start n w.state.handler.n (sym f) refl

    module _ (xs : List ℕ) where
      abbrev left : Served
      left = run_of w.state (window_of start n w.bytes) xs

      left-length : length left.bytes ≡ n
      left-length = run_length w.state (window_of start n w.bytes) xs ∙ window_length start n w.bytes within

      pub ran_fits : has_window (ranOn w xs) start n ≡ true
      ran_fits = rw (splice-length start n left.bytes w.bytes within left-length, ap (λ (x : ℕ × ℕ). x.0) (run_stands w.state (window_of start n w.bytes) xs)) f

      -- The window holds what the items left in it.
      pub left_window : window_of start n (ranOn w xs).bytes ≡ left.bytes
      left_window = splice_window start n left.bytes w.bytes within left-length

      pub ran_on : (ys : List ℕ) → ranOn (ranOn w xs) ys ≡ ranOn w (xs ++ ys)
      ran_on ys =
          rw (splice_window start n left.bytes w.bytes within left-length, ← after_joined item_at (served w.state (window_of start n w.bytes)) xs ys, splice_again start n left.bytes w.bytes within left-length (run_of w.state (window_of start n w.bytes) (xs ++ ys)).bytes)

  -- What calls that feed items do by the definitions: each is done, and they leave what the run leaves
  pub record Fed (w : Served) (calls : List DoorCall) (items : List ℕ) : Type 0 where
    pub answered : answers by_definition w calls ≡ map (λ c. done 0) calls
    pub left : left_after by_definition w calls ≡ ranOn w items

  asked :
      {c : DoorCall} {items : List ℕ} → Asks start n c items → (w : Served) → has_window w start n ≡ true → AllItems items
      → by_definition w c ≡ reply (done 0) (ranOn w items)
  unfolding after_all
  asked (a_run {items = items}) w f good = rw (f, none_bad 4 items good)
  asked (a_sample {level = level} h) w f good = rw (lt-ltb level 4 (omega arith), splice-own start n w.bytes)
  asked a_call w f good = rw f

  fed :
      {calls : List DoorCall} {items : List ℕ} → Feeds start n calls items → (w : Served) → has_window w start n ≡ true → AllItems items
      → Fed w calls items
  fed nothing w f good = record { answered = refl; left = ran_none w }
  fed (one_more {c = c} {calls = calls} {items = xs} {rest = ys} asks more) w f good =
      let e = asked asks w f (good_first xs ys good) in
      let rest = fed more (ranOn w xs) (ran_fits w f xs) (good_rest xs ys good) in
      record {
        answered =
            ap (λ (r : Reply Served). r.answer ∷ answers by_definition r.left calls) e
            ∙ ap (λ (answers : List Answer). done 0 ∷ answers) rest.answered;
        left = ap (λ (r : Reply Served). left_after by_definition r.left calls) e ∙ rest.left ∙ ran_on w f xs ys;
      }

  -- At the door.
  pub was_run :
      (w : Served) (items : List Item) (f bad : Bool) (item : ℕ) → (in_window f bad item w start n items).answer.refusal ≡ 0
      → (f ≡ true) × (bad ≡ false)
  was_run w items false bad item e = absurd (omega arith)
  was_run w items true true item e = absurd (omega arith)
  was_run w items true false item e = (refl, refl)

pub run_is_calls : RunIsCalls
unfolding by_state
run_is_calls start n h calls items feeds =
    by_image h (run_trace start n items) (λ e. rw e)
    (λ r. r.answer.refusal ≡ 0 → (answers at_door h calls ≡ map (λ c. done 0) calls) × (left_after at_door h calls ≡ r.left))
    (λ nobody e. absurd (omega arith))
    (λ s image e.
    let w : Served = served s h.buffer in
    let k = was_run start n w (map item_at items) (has_window w start n) (ltb (first_bad items) (length items)) (first_bad items) e in
    let parts = fed start n feeds w k.0 (all_good items k.1) in
    let all = follows w calls image.1 in
    let whole = asked start n a_run w k.0 (all_good items k.1) in
    subst
    (λ (b : List ℕ). (answers at_door (host b h.buffer) calls ≡ map (λ c. done 0) calls) × (left_after at_door (host b h.buffer) calls ≡ image_host (by_definition w (run_trace start n items)).left))
    image.0 (all.answered ∙ parts.answered, all.left ∙ ap image_host (parts.left ∙ sym (ap (λ (r : Reply Served). r.left) whole))))

-- ---- demand 3
-- A trace of items is made of samples and handler calls.
joined_by :
    (level call : Bool) (x : ℕ) {items : List Item} → level || call ≡ true → SamplesAndCalls items
    → SamplesAndCalls (item_if level call x ∷ items)
joined_by true call x e p = sample p
joined_by false true x e p = call-more p
joined_by false false x e p = absurd (true≢false (sym e))

samples_and_calls : (items : List ℕ) → AllItems items → SamplesAndCalls (map item_at items)
samples_and_calls [] good = ended
samples_and_calls (x ∷ xs) good =
    joined_by (ltb x 4) (eqb x 4) x (at_most_four x (good 0 (omega arith))) (samples_and_calls xs (good_rest (x ∷ []) xs good))
  where
    at_most_four : (k : ℕ) → k ≤ 4 → ltb k 4 || eqb k 4 ≡ true
    at_most_four k h =
        by_test (ltb k 4) (λ t. rw t) (λ t. let l = ltb-false k 4 t in rw (t, eq-eqb k 4 (omega arith)))

pub demand_three_at_door : DemandThree
demand_three_at_door add start n h calls items long low high inside feeds good = (
  ap (λ (r : Reply Host). r.answer ∷ answers at_door r.left calls) begins
      ∙ ap (λ (more : List Answer). done 0 ∷ more) (all_follow.answered ∙ all_fed.answered),
  (sym (ap (λ (x : Host). x.state) left), rw defined at all_follow.valid),
  ap (λ (x : Host). x.buffer) left,
  subst (λ (k : ℕ). Agrees add (run k add (afresh add window) (map item_at items))) sized (demand_three add window (map item_at items) (samples_and_calls items good)),
  rw left outside,
)
  where
    window : List ℕ
    window = window_of start n h.buffer

    sized : length window ≡ n
    sized = window_length start n h.buffer inside

    begun : Served
    begun = served (made_for add n) h.buffer

    accepted : (door_setup h.state add n).answer.refusal ≡ 0
    accepted = rw (eq-eqb (length h.state) image_length long, within_length n low high)

    begins : at_door h (set_up add n) ≡ reply (done 0) (image_host begun)
    begins = ap (λ (o : Outcome). reply o.answer (host o.state h.buffer)) (setup_made h.state add n accepted)

    fitting : has_window begun start n ≡ true
    fitting = rw (le-leb (start + n) (length h.buffer) inside, eq-eqb n n refl)

    all_fed : Fed start n begun calls items
    all_fed = fed start n feeds begun fitting good

    all_follow : SameAsDefined begun calls
    all_follow = follows begun calls (setup-valid h.state add n accepted)

    joint : Joint
    joint = run n add (afresh add window) (map item_at items)

    ran : run_of (made_for add n) window items ≡ served joint.state joint.bytes
    ran = ap (λ (k : ℕ). run_of (made_for add k) window items) (sym sized) ∙ sym (joint_run_is_the_run n add (afresh add window) (map item_at items))

    ended : Served
    ended = served joint.state (splice start n joint.bytes h.buffer)

    defined : left_after by_definition begun calls ≡ ended
    defined = all_fed.left ∙ ap (λ (w : Served). served w.state (splice start n w.bytes h.buffer)) ran

    left : left_after at_door h (set_up add n ∷ calls) ≡ image_host ended
    left = ap (λ (r : Reply Host). left_after at_door r.left calls) begins ∙ all_follow.left ∙ ap image_host defined

    outside : SameOutside start n h.buffer ended.bytes
    outside =
        splice_outside start n joint.bytes h.buffer inside
        (ap (λ (w : Served). length w.bytes) (sym ran) ∙ run_length (made_for add n) window items ∙ sized)

-- ---- no byte is refused
refusal_not_shown : (j : Joint) (h : Host) → ImageOf j.state h.state → NotRefused j → ShowsNoneRefused h
refusal_not_shown j h image none =
    let c = j.state.mssp.config in let l = j.state.mssp.live in
    let look = look_is j.state h image in (
      ap (λ (v : View). v.refused) look ∙ ap bool_byte none.0,
      ap (λ (v : View). bit 6 v.con1) look
          ∙ (bits_back c.wcol l.sspov c.sspen l.ckp c.sspm3 c.sspm2 c.sspm1 c.sspm0).is6 ∙ none.1,
    )

pub none-refused : NoneRefused
none-refused add start n h calls items long low high fits feeds good =
    let joint : ℕ → Joint = λ k. run k add (afresh add (window_of start n h.buffer)) (map item_at items) in
    let none = no_intake_refused add (window_of start n h.buffer) (map item_at items) (samples_and_calls items good) in
    refusal_not_shown (joint n) (left_after at_door h (set_up add n ∷ calls))
    (demand_three_at_door add start n h calls items long low high fits feeds good).1
    (subst (λ (k : ℕ). NotRefused (joint k)) (window_length start n h.buffer fits) none)
