-- A drawing is a run of the record as a trace, cut anywhere it goes on where it was, and its words are what looks show.
use Rattle.std.specs.Prelude.{ℕ, ◌+◌, ◌≡◌, refl, Bool, cond, ◌&&◌, List, [], ◌∷◌, ◌++◌, map, T, eqb, ltb, length, take, drop}
use Rattle.std.proofs.Common.{⊎_elim, sym, subst, ◌∙◌, append-nil, arith, length-append, drop_of_length-le, length-take-le, ltb-false}
use Rattle.std.proofs.Math.Path.{ap, ap₂}
use Rattle.std.proofs.Math.Bool.{true, false}
use Rattle.std.proofs.Math.Seq.{take-length}
use Rattle.items.specs.First.{first_above, NoneAbove}
use Rattle.items.specs.Theorems.{none_above}
use Rattle.wire.specs.declared.Edge.{Edge}
use Rattle.wire.specs.Laws.{bool_back}
use Rattle.mssp.specs.Phases.{is_held_for_add}
use Rattle.mssp.specs.Drivers.{scl_pulled, sda_pulled}
use Rattle.register_bytes.proofs.Bits.{bits_back}
use Rattle.firmware.specs.declared.State.{State}
use Rattle.firmware.specs.Handler.{Served, served}
use Rattle.firmware.specs.Window.{window_of}
use Rattle.steps.specs.declared.Item.TheVariants.{Call}
use Rattle.steps.specs.Step.{after_all}
use Rattle.trace.specs.Run.{item_at, first_bad}
use Rattle.trace.specs.Window.{checked}
use Rattle.words.specs.Words.{is_called, storing, met_if, met, item_taken, edge_at, in_conflict, events_of, lines_of, standing_of, word_by}
use Rattle.lanes.specs.Lanes.{all_taken, all_words, driven, shorter_of, drawn_if, laned_in, draw_in_of}
use Rattle.lanes.proofs.Laws.{words_length, shorter_within}
use Rattle.lanes.specs.Theorems.{words_joined, driven_joined, taken_is_run, driven_items}
use Rattle.phase_image.proofs.Laws.{wire_back}
use Rattle.view.specs.declared.View.{View}
use Rattle.view.specs.View.{view_of}
use Rattle.image.specs.Image.{valid_state, decode_of, encode_of}
use Rattle.image.specs.Theorems.{decode_exactly}
use Rattle.settling.specs.Outcome.{done, by_state}
use Rattle.settling.specs.Left.{ImageOfSome}
use Rattle.doorkept.proofs.Image.{draw_stays}
use Rattle.module_calls.specs.Calls.{door_look}
use Rattle.door.specs.Door.{Drawn, door_draw}
use Rattle.demands.specs.Calls.{DoorCall, call_handler, draw_lanes, drawn_levels, run_trace, Host, Reply, reply, at_door, by_definition, has_window, in_window, called_seen, met_by, stores_seen, edge_seen, conflict_seen, standing_seen, lines_seen, word_seen, ImageOf}
use Rattle.demands.specs.Demands.{DrawIsRun, DrawnInParts, WordIsLooks}
use Rattle.demands.proofs.DemandTwo.{image_is, at_image, on_state, look_is, image_host, image_reply, image_or_none, demand_two}
use Rattle.demands.proofs.DemandThree.{good_first, good_rest, none_bad, was_run, ranOn, ran_fits, ran_on, left_window}

-- ---- what an accepted drawing has found: a window that fits, and levels alone
record Found (s : State) (h : Host) (start n : ℕ) (part : List ℕ) : Type 0 where
  fits : has_window (served s h.buffer) start n ≡ true
  good : NoneAbove 3 part
  tested : ltb (first_above 3 part) (length part) ≡ false

module _ (s : State) (h : Host) (start n : ℕ) (levels lanes : List ℕ) (image : ImageOf s h.state) where
  abbrev part : List ℕ
  part = drawn_levels levels lanes

  abbrev w : Served
  w = served s h.buffer

  abbrev window : Served
  window = served s (window_of start n h.buffer)

  found : (at_door h (draw_lanes start n levels lanes)).answer.refusal ≡ 0 → Found s h start n part
  found e =
      let told = sym (ap (λ (r : Reply Host). r.answer.refusal) (at_image s h (draw_lanes start n levels lanes) image)) ∙ e in
      let k = was_run start n w (map item_at (driven window part)) (has_window w start n) (ltb (first_above 3 part) (length part)) (first_above 3 part) told in
      record { fits = k.0; good = none_above 3 part (ltb-false (first_above 3 part) (length part) k.1); tested = k.1 }

  module _ (k : Found s h start n part) where
    -- It is done, and leaves what the trace leaves.
    drawn-run : at_door h (draw_lanes start n levels lanes) ≡ image_reply (reply (done 0) (ranOn start n w (driven window part)))
    drawn-run =
        at_image s h (draw_lanes start n levels lanes) image
        ∙ ap₂ (λ (f bad : Bool). image_reply (in_window f bad (first_above 3 part) w start n (map item_at (driven window part)))) k.fits k.tested

    ran_same : at_door h (run_trace start n (driven window part)) ≡ at_door h (draw_lanes start n levels lanes)
    ran_same =
        let trace : List ℕ = driven window part in
        at_image s h (run_trace start n trace) image
        ∙ ap₂ (λ (f bad : Bool). image_reply (in_window f bad (first_bad trace) w start n (map item_at trace))) k.fits (driven_items window part k.good)
        ∙ sym drawn-run

    lanes_drawn : (door_draw h.state h.buffer start n levels lanes).lanes ≡ all_words window part ++ drop (length part) lanes
    lanes_drawn =
        let words : List ℕ = all_words window part in
        ap (λ (b : List ℕ). (door_draw b h.buffer start n levels lanes).lanes) (sym image.0)
        ∙ on_state lanes (λ t. (draw_in_of t h.buffer start n levels lanes).lanes) s image.1
        ∙ ap₂ (λ (f bad : Bool). (drawn_if (checked f bad (first_above 3 part) s h.buffer (laned_in s h.buffer start n part).left) words lanes).lanes) k.fits k.tested
        ∙ ap (λ (x : ℕ). words ++ drop x lanes) (words_length window part)

drawn-length : (levels lanes : List ℕ) → length (drawn_levels levels lanes) ≡ shorter_of (length levels) (length lanes)
drawn-length levels lanes = length-take-le (shorter_of (length levels) (length lanes)) levels (shorter_within (length levels) (length lanes) refl).0

pub draw_is_run : DrawIsRun
draw_is_run s h start n levels lanes image e =
    let k = found s h start n levels lanes image e in (
      ran_same s h start n levels lanes image k,
      lanes_drawn s h start n levels lanes image k,
      ap (λ (refusal : ℕ). cond (eqb refusal 0) (shorter_of (length levels) (length lanes)) 0) e ∙ sym (drawn-length levels lanes),
    )

-- ---- in two parts
either_same : (t : Bool) (a : ℕ) → cond t a a ≡ a
either_same true a = refl
either_same false a = refl

-- As many levels as words: all of them are taken, and all the words are theirs.
module _ (s : State) (h : Host) (start n : ℕ) (levels lanes : List ℕ) (image : ImageOf s h.state) (e : length levels ≡ length lanes) where
  all_drawn : drawn_levels levels lanes ≡ levels
  all_drawn =
      ap (λ (k : ℕ). take (shorter_of (length levels) k) levels) (sym e)
      ∙ ap (λ (k : ℕ). take k levels) (either_same (ltb (length levels) (length levels)) (length levels)) ∙ take-length levels

  module _ (fits : has_window (served s h.buffer) start n ≡ true) (good : NoneAbove 3 levels) where
    all_found : Found s h start n (drawn_levels levels lanes)
    all_found = subst (Found s h start n) (sym all_drawn) (record { fits = fits; good = good; tested = none_bad 3 levels good })

    whole_run : at_door h (draw_lanes start n levels lanes) ≡ image_reply (reply (done 0) (ranOn start n (served s h.buffer) (driven (served s (window_of start n h.buffer)) levels)))
    whole_run =
        drawn-run s h start n levels lanes image all_found
        ∙ ap (λ (xs : List ℕ). image_reply (reply (done 0) (ranOn start n (served s h.buffer) (driven (served s (window_of start n h.buffer)) xs)))) all_drawn

    whole_lanes : (door_draw h.state h.buffer start n levels lanes).lanes ≡ all_words (served s (window_of start n h.buffer)) levels
    whole_lanes =
        let words : List ℕ = all_words (served s (window_of start n h.buffer)) levels in
        lanes_drawn s h start n levels lanes image all_found
        ∙ ap (λ (xs : List ℕ). all_words (served s (window_of start n h.buffer)) xs ++ drop (length xs) lanes) all_drawn
        ∙ ap (λ (xs : List ℕ). words ++ xs) (drop_of_length-le lanes {i = length levels} (omega arith)) ∙ append-nil words

module _ (s : State) (h : Host) (image : ImageOf s h.state) (start n : ℕ) (a b la lb : List ℕ) (ea : length a ≡ length la) (eb : length b ≡ length lb) (fits : has_window (served s h.buffer) start n ≡ true) (good : NoneAbove 3 (a ++ b)) where
  abbrev outer : Served
  outer = served s h.buffer

  abbrev inner : Served
  inner = served s (window_of start n h.buffer)

  abbrev between : Served
  between = ranOn start n outer (driven inner a)

  abbrev ended : Served
  ended = ranOn start n outer (driven inner (a ++ b))

  first_run : at_door h (draw_lanes start n a la) ≡ image_reply (reply (done 0) between)
  first_run = whole_run s h start n a la image ea fits (good_first a b good)

  between_valid : T (valid_state between.state)
  between_valid =
      image_is between.state
      (subst (λ (r : Reply Host). ImageOfSome decode_of r.left.state) first_run
      (draw_stays h.state (record { of = s; decodes = (decode_exactly h.state s).1 image }) h.buffer start n a la))

  -- What the inner holds in between.
  window_between : served between.state (window_of start n between.bytes) ≡ all_taken inner a
  window_between =
      ap (served between.state) (left_window start n outer fits (driven inner a)) ∙ sym (taken_is_run inner a (good_first a b good))

  abbrev Goes : Host → Type 0
  Goes g =
      let second : Drawn = door_draw g.state g.buffer start n b lb in
      (second.taken.refusal ≡ 0) × (second.state ≡ encode_of ended.state) × (second.buffer ≡ ended.bytes) × (second.lanes ≡ all_words (all_taken inner a) b)

  goes_on : Goes (image_host between)
  goes_on =
      let here : ImageOf between.state (image_host between).state = (refl, between_valid) in
      let fit = ran_fits start n outer fits (driven inner a) in
      let second = whole_run between.state (image_host between) start n b lb here eb fit (good_rest a b good) in
      let left : ranOn start n between (driven (served between.state (window_of start n between.bytes)) b) ≡ ended =
      ap (λ (x : Served). ranOn start n between (driven x b)) window_between ∙ ran_on start n outer fits (driven inner a) (driven (all_taken inner a) b)
      ∙ ap (ranOn start n outer) (sym (driven_joined inner a b)) in
      let all : at_door (image_host between) (draw_lanes start n b lb) ≡ image_reply (reply (done 0) ended) = second ∙ ap (λ (x : Served). image_reply (reply (done 0) x)) left in (
        ap (λ (r : Reply Host). r.answer.refusal) all,
        ap (λ (r : Reply Host). r.left.state) all,
        ap (λ (r : Reply Host). r.left.buffer) all,
        whole_lanes between.state (image_host between) start n b lb here eb fit (good_rest a b good) ∙ ap (λ (x : Served). all_words x b) window_between,
      )

pub drawn_in_parts : DrawnInParts
unfolding by_state
drawn_in_parts h start n a b la lb ea eb e =
    ⊎_elim (λ k. let six : ◌≡◌ {A = ℕ} 6 0 = rw k.0 at e in absurd (omega arith))
    (λ k.
    let s : State = k.0 in
    let image : ImageOf s h.state = k.2 in
    let long : length (a ++ b) ≡ length (la ++ lb) = length-append a b ∙ ap₂ ◌+◌ ea eb ∙ sym (length-append la lb) in
    let whole = found s h start n (a ++ b) (la ++ lb) image e in
    let fits = whole.fits in
    let good : NoneAbove 3 (a ++ b) = subst (NoneAbove 3) (all_drawn s h start n (a ++ b) (la ++ lb) image long) whole.good in
    let first = first_run s h image start n a b la lb ea eb fits good in
    let rest = subst (Goes s h image start n a b la lb ea eb fits good) (sym (ap (λ (r : Reply Host). r.left) first)) (goes_on s h image start n a b la lb ea eb fits good) in
    let ran = whole_run s h start n (a ++ b) (la ++ lb) image long fits good in
    let window : Served = served s (window_of start n h.buffer) in (
      ap (λ (r : Reply Host). r.answer.refusal) first,
      rest.0,
      rest.1 ∙ sym (ap (λ (r : Reply Host). r.left.state) ran),
      rest.2 ∙ sym (ap (λ (r : Reply Host). r.left.buffer) ran),
      whole_lanes s h start n (a ++ b) (la ++ lb) image long fits good ∙ words_joined window a b
          ∙ ap₂ ◌++◌ (sym (whole_lanes s h start n a la image ea fits (good_first a b good))) (sym rest.3),
    ))
    (image_or_none h.state)

-- ---- a word by looks
-- What stands, and the lines, by a look after the item.
standing_seen_lem : (u : State) → standing_seen (view_of u) ≡ standing_of u
standing_seen_lem u =
    let c = u.mssp.config in let l = u.mssp.live in
    let con1 = bits_back c.wcol l.sspov c.sspen l.ckp c.sspm3 c.sspm2 c.sspm1 c.sspm0 in
    let ackstat = (bits_back c.gcen l.ackstat c.ackdt false false false false c.sen).is6 in
    let acktim = (bits_back l.acktim c.pcie c.scie false c.sdaht c.sbcde c.ahen c.dhen).is7 in
    rw (bool_back l.sspif, con1.is4, con1.is6, con1.is7, ackstat, acktim)

lines_seen_lem : (u : State) → lines_seen (view_of u) ≡ lines_of u.mssp
lines_seen_lem u = rw (bool_back (sda_pulled u.mssp.phase), wire_back u.mssp.line.remembered)

-- The handler's call and what it stores, by a look before it.
called-seen : (s : State) (level : ℕ) → called_seen (view_of s) level ≡ is_called s.mssp.phase level
called-seen s level = rw (bool_back (scl_pulled s.mssp.phase))

stores_seen_lem : (s : State) → stores_seen (view_of s) ≡ storing s
stores_seen_lem s =
    let c = s.mssp.config in let l = s.mssp.live in
    let stat = bits_back c.smp c.cke l.da l.p l.s l.rw (is_held_for_add s.mssp.phase) l.bf in
    let ckp = (bits_back c.wcol l.sspov c.sspen l.ckp c.sspm3 c.sspm2 c.sspm1 c.sspm0).is4 in
    rw (bool_back l.sspif, bool_back s.handler.due, stat.is5, stat.is2, ckp)

-- Edge and conflict, by the look that the item meets.
edge_seen_lem : (t : State) (level : ℕ) → edge_seen (view_of t) level ≡ edge_at t.mssp level
edge_seen_lem t level =
    let c = t.mssp.config in let l = t.mssp.live in
    let sspen = (bits_back c.wcol l.sspov c.sspen l.ckp c.sspm3 c.sspm2 c.sspm1 c.sspm0).is5 in
    rw (bool_back (scl_pulled t.mssp.phase), bool_back (sda_pulled t.mssp.phase), bool_back t.mssp.line.mark, wire_back t.mssp.line.remembered, sspen)

conflict_seen_lem : (t : State) (level : ℕ) → conflict_seen (view_of t) level ≡ in_conflict t.mssp.phase level
conflict_seen_lem t level = rw (bool_back (sda_pulled t.mssp.phase))

-- What looks show of three states is what a word is made of.
seen_so :
    (s t u : State) (level : ℕ) → let called : Bool = is_called s.mssp.phase level in
    word_seen (view_of s) (view_of t) (view_of u) level
    ≡ word_by (standing_of u) (lines_of u.mssp) (events_of called (called && storing s) (edge_at t.mssp level) (in_conflict t.mssp.phase level))
seen_so s t u level =
    let events : Bool → Bool → Edge → Bool → ℕ = λ called stores edge conflict. events_of called (called && stores) edge conflict in
    ap₂ (λ (stands lines : ℕ). word_by stands lines (events (called_seen (view_of s) level) (stores_seen (view_of s)) (edge_seen (view_of t) level) (conflict_seen (view_of t) level))) (standing_seen_lem u) (lines_seen_lem u)
    ∙ ap₂ (λ (called stores : Bool). word_by (standing_of u) (lines_of u.mssp) (events called stores (edge_seen (view_of t) level) (conflict_seen (view_of t) level))) (called-seen s level) (stores_seen_lem s)
    ∙ ap₂ (λ (edge : Edge) (conflict : Bool). word_by (standing_of u) (lines_of u.mssp) (events (is_called s.mssp.phase level) (storing s) edge conflict)) (edge_seen_lem t level) (conflict_seen_lem t level)

-- What a look shows after one call.
look_after : (s : State) (h : Host) (c : DoorCall) → ImageOf s h.state → door_look (at_door h c).left.state ≡ view_of (by_definition (served s h.buffer) c).left.state
look_after s h c image = (demand_two s h (c ∷ []) image).3

module _ (s : State) (h : Host) (start n level : ℕ) (image : ImageOf s h.state) (k : Found s h start n (level ∷ [])) where
  abbrev here : Served
  here = served s (window_of start n h.buffer)

  met_if_lem : (c : Bool) → door_look (cond c (at_door h (call_handler start n)).left h).state ≡ view_of (met_if c here).state
  unfolding after_all
  met_if_lem true =
      look_after s h (call_handler start n) image
      ∙ ap (λ (f : Bool). view_of (in_window f false 0 (served s h.buffer) start n (Call ∷ [])).left.state) k.fits
  met_if_lem false = look_is s h image

  met-shown : door_look (met_by h start n level).state ≡ view_of (met here level).state
  met-shown = rw (look_is s h image, called-seen s level) (met_if_lem (is_called s.mssp.phase level))

  left-shown : (lane : ℕ) → door_look (at_door h (draw_lanes start n (level ∷ []) (lane ∷ []))).left.state ≡ view_of (item_taken here level).state
  unfolding all_taken
  left-shown lane =
      look_after s h (draw_lanes start n (level ∷ []) (lane ∷ [])) image
      ∙ ap₂ (λ (f bad : Bool). view_of (in_window f bad (first_above 3 (level ∷ [])) (served s h.buffer) start n (map item_at (driven here (level ∷ [])))).left.state) k.fits k.tested
      ∙ ap (λ (x : Served). view_of x.state) (sym (taken_is_run here (level ∷ []) k.good))

pub word_is_looks : WordIsLooks
unfolding by_state all_words
word_is_looks h start n level lane e =
    ⊎_elim (λ k. let six : ◌≡◌ {A = ℕ} 6 0 = rw k.0 at e in absurd (omega arith))
    (λ k.
    let s : State = k.0 in
    let image : ImageOf s h.state = k.2 in
    let whole = found s h start n (level ∷ []) (lane ∷ []) image e in
    let window : Served = served s (window_of start n h.buffer) in
    lanes_drawn s h start n (level ∷ []) (lane ∷ []) image whole
    ∙ ap (λ (word : ℕ). word ∷ []) (sym (seen_so s (met window level).state (item_taken window level).state level))
    ∙ ap (λ (before : View). word_seen before (view_of (met window level).state) (view_of (item_taken window level).state) level ∷ []) (sym (look_is s h image))
    ∙ ap₂ (λ (met after : View). word_seen (door_look h.state) met after level ∷ []) (sym (met-shown s h start n level image whole)) (sym (left-shown s h start n level image whole lane)))
    (image_or_none h.state)
