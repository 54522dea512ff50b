-- The demands, said of the functions that C calls: wherryoar_setup, read, write, sample, call, run and draw, look, hit and find.
-- Statements alone: their words are in Calls.antt, their proofs in the other files.
use Rattle.std.specs.Prelude.{ℕ, ◌+◌, ◌%◌, ◌<◌, ◌≤◌, ◌⊎◌, ◌↔◌, ◌≡◌, true, false, List, [], ◌∷◌, ◌++◌, map, length, drop}
use Rattle.items.specs.First.{FirstAbove}
use Rattle.wire.specs.Byte.{bit}
use Rattle.address.specs.declared.Hit.TheVariants.{None, Own, GeneralCall}
use Rattle.address.specs.Comparison.{hit_number, hit_of}
use Rattle.memory.specs.Memory.{peeked}
use Rattle.firmware.specs.declared.State.{State}
use Rattle.firmware.specs.Handler.{longest_window, Served, served, state_of, memory_in, called}
use Rattle.firmware.specs.Window.{window_of, splice}
use Rattle.trace.specs.Run.{item_at}
use Rattle.trace.specs.Window.{SameOutside}
use Rattle.lanes.specs.Lanes.{all_words, driven}
use Rattle.agreement.specs.Joint.{Joint, run, afresh, Agrees}
use Rattle.image.specs.Image.{image_length}
use Rattle.view.specs.declared.View.{View}
use Rattle.view.specs.View.{view_of}
use Rattle.settling.specs.declared.Answer.{Answer}
use Rattle.settling.specs.Outcome.{done}
use Rattle.module_calls.specs.Calls.{door_look, door_hit}
use Rattle.door.specs.declared.Part.{Part}
use Rattle.door.specs.Door.{door_find, Drawn, door_draw}
use Rattle.demands.specs.Calls.{DoorCall, set_up, read_register, write_register, feed_sample, call_handler, run_trace, draw_lanes, drawn_levels, Host, answers, left_after, Allows, at_door, by_definition, ImageOf, shown_con1, HasTenBits, causes, look_causes, find_causes, Exactly, OnlyBeside, Beside, StaysEnabled, Fits, TakenAsSaid, CanEndTheHold, FollowsAsShown, Matches, EndsAs, AllItems, Feeds, ShowsNoneRefused, met_by, word_seen, firmware}

-- ---- DEMAND 1: every call has one outcome, changes only what it may, and refuses by number, exactly for the causes of the table
-- Only one answer fits a call's contract, with one state and one buffer. (What look, hit and find answer is an equation as it
-- stands, and they are lent nothing to change; what draw answers and leaves, the lanes too, is one equation: `door_draw`.)
abbrev pub OneOutcome : Type 0
OneOutcome =
    (before : Host) (c : DoorCall) (r t : Answer) (a b : Host) → Allows before c r a → Allows before c t b → (r ≡ t) × (a ≡ b)

-- A refused call changes no byte of state or buffer, a refused search hands back the empty part at 0, a refused question which
-- address hits the value 0, and a refused drawing leaves the lanes and has taken nothing.
abbrev pub RefusedKeeps : Type 0
RefusedKeeps =
    ((h : Host) (c : DoorCall) → 0 < (at_door h c).answer.refusal → (at_door h c).left ≡ h)
    × ((levels : List ℕ) (item : ℕ) → let part : Part = door_find levels item in
    0 < part.refusal → (part.start ≡ 0) × (part.length ≡ 0))
    × ((bytes : List ℕ) (byte : ℕ) → 0 < (door_hit bytes byte).refusal → (door_hit bytes byte).value ≡ 0)
    × ((h : Host) (start n : ℕ) (levels lanes : List ℕ) → let d : Drawn = door_draw h.state h.buffer start n levels lanes in
    0 < d.taken.refusal → (d.lanes ≡ lanes) × (d.taken.samples ≡ 0))

-- A handler call, a run and a drawing change no byte outside their window.
abbrev pub OutsideKept : Type 0
OutsideKept =
    (h : Host) (start n : ℕ) (items levels lanes : List ℕ)
    → SameOutside start n h.buffer (at_door h (call_handler start n)).left.buffer
    × SameOutside start n h.buffer (at_door h (run_trace start n items)).left.buffer
    × SameOutside start n h.buffer (at_door h (draw_lanes start n levels lanes)).left.buffer

-- Every refusal number is answered exactly for its cause, where none that is looked at before it holds.
abbrev pub ExactCauses : Type 0
ExactCauses =
    ((h : Host) (c : DoorCall) → Exactly (at_door h c).answer.refusal (causes h c))
    × ((bytes : List ℕ) → Exactly (door_look bytes).refusal (look_causes bytes))
    × ((bytes : List ℕ) (byte : ℕ) → Exactly (door_hit bytes byte).refusal (look_causes bytes))
    × ((levels : List ℕ) (item : ℕ) → Exactly (door_find levels item).refusal (find_causes levels item))

-- Beside refusal 4 of a run, of a drawing and of the finder stands the number of the first bad item, beside everything else 0.
abbrev pub ItemBeside : Type 0
ItemBeside =
    ((h : Host) (c : DoorCall) → let answer : Answer = (at_door h c).answer in
    OnlyBeside answer.refusal (Beside c answer.item) answer.item)
    × ((levels : List ℕ) (item : ℕ) → let part : Part = door_find levels item in
    OnlyBeside part.refusal (FirstAbove 3 levels part.item) part.item)
    × ((bytes : List ℕ) (byte : ℕ) → (door_hit bytes byte).item ≡ 0)

abbrev pub DemandOne : Type 0
DemandOne = OneOutcome × RefusedKeeps × OutsideKept × ExactCauses × ItemBeside

-- ---- DEMAND 2: from any state's image, after every list of calls, refused ones among them, the answers are the definitions', the
-- bytes are the image of the state that the definitions give, the buffer is theirs, look shows that state, and hit says what the
-- comparison says by its registers. It holds of every list, so after each call of a list.
abbrev pub DemandTwo : Type 0
DemandTwo =
    (s : State) (h : Host) (calls : List DoorCall) → ImageOf s h.state
    → let after : Host = left_after at_door h calls in
    let w : Served = served s h.buffer in
    let defined : Served = left_after by_definition w calls in
    (answers at_door h calls ≡ answers by_definition w calls)
    × ImageOf defined.state after.state
    × (after.buffer ≡ defined.bytes)
    × (door_look after.state ≡ view_of defined.state)
    × ((byte : ℕ) → door_hit after.state byte ≡ done (hit_number (hit_of defined.state.mssp.config byte)))

-- ---- DEMAND 3: for every ADD, every 48 bytes, every buffer, every window of 1 to 256 bytes inside it and every list of items 0 to
-- 4: set up and fed through the door, in one run, in several or call by call, all is done; the bytes are the image of the joint
-- run's state, the window holds its bytes, and it agrees with the plain device; the bytes outside the window are as they were.
-- It holds of every list of items, so after each item of a list. The setup chooses seven bits: the handler cannot run ten (02, 9).
abbrev pub DemandThree : Type 0
DemandThree =
    (add start n : ℕ) (h : Host) (calls : List DoorCall) (items : List ℕ) → length h.state ≡ image_length → 1 ≤ n → n ≤ longest_window
    → start + n ≤ length h.buffer → Feeds start n calls items → AllItems items
    → let after : Host = left_after at_door h (set_up add n ∷ calls) in
    let joint : Joint = run n add (afresh add (window_of start n h.buffer)) (map item_at items) in
    (answers at_door h (set_up add n ∷ calls) ≡ map (λ c. done 0) (set_up add n ∷ calls))
    × ImageOf joint.state after.state
    × (after.buffer ≡ splice start n joint.bytes h.buffer)
    × Agrees add joint
    × SameOutside start n h.buffer after.buffer

-- ---- why demand 3 knows no refused byte: set up and fed through the door as there, with no register access but the handler's, no
-- intake is ever refused. It holds of every list of items, so after each item of a list.
abbrev pub NoneRefused : Type 0
NoneRefused =
    (add start n : ℕ) (h : Host) (calls : List DoorCall) (items : List ℕ) → length h.state ≡ image_length → 1 ≤ n → n ≤ longest_window
    → start + n ≤ length h.buffer → Feeds start n calls items → AllItems items
    → ShowsNoneRefused (left_after at_door h (set_up add n ∷ calls))

-- ---- a run is the calls one after the other: however its items are fed, in runs, samples and handler calls, where the run is
-- accepted each of these is, and they leave the same bytes and buffer
abbrev pub RunIsCalls : Type 0
RunIsCalls =
    (start n : ℕ) (h : Host) (calls : List DoorCall) (items : List ℕ) → Feeds start n calls items
    → (at_door h (run_trace start n items)).answer.refusal ≡ 0
    → (answers at_door h calls ≡ map (λ c. done 0) calls)
    × (left_after at_door h calls ≡ (at_door h (run_trace start n items)).left)

-- ---- a drawing is a run, and so the calls one after the other: of the levels that it takes, with a handler call (4) before each at
-- which the module holds the clock and the record shows SCL high (`driven`). Accepted, it answers and leaves what that run does; its
-- lanes are the words of these levels, one after the other (`all_words`, each by `word_at` what is seen after its item), and behind
-- them what was there
abbrev pub DrawIsRun : Type 0
DrawIsRun =
    (s : State) (h : Host) (start n : ℕ) (levels lanes : List ℕ) → ImageOf s h.state
    → (at_door h (draw_lanes start n levels lanes)).answer.refusal ≡ 0
    → let part : List ℕ = drawn_levels levels lanes in
    let w : Served = served s (window_of start n h.buffer) in
    let d : Drawn = door_draw h.state h.buffer start n levels lanes in
    (at_door h (run_trace start n (driven w part)) ≡ at_door h (draw_lanes start n levels lanes))
    × (d.lanes ≡ all_words w part ++ drop (length part) lanes)
    × (d.taken.samples ≡ length part)

-- Cut anywhere it goes on where it was: where the whole record is accepted its two parts are, one after the other; they leave the
-- same bytes and buffer, and the lanes of the whole are theirs.
abbrev pub DrawnInParts : Type 0
DrawnInParts =
    (h : Host) (start n : ℕ) (a b la lb : List ℕ) → length a ≡ length la → length b ≡ length lb
    → let whole : Drawn = door_draw h.state h.buffer start n (a ++ b) (la ++ lb) in
    let first : Drawn = door_draw h.state h.buffer start n a la in
    let second : Drawn = door_draw first.state first.buffer start n b lb in
    whole.taken.refusal ≡ 0
    → (first.taken.refusal ≡ 0) × (second.taken.refusal ≡ 0) × (second.state ≡ whole.state) × (second.buffer ≡ whole.buffer)
    × (whole.lanes ≡ first.lanes ++ second.lanes)

-- A word shows what looks show: of one level drawn, and so by the parts above of every one, the word is what the look after it shows
-- (`standing_seen` and the lines), with what happened by the look before it and the one that the item meets.
abbrev pub WordIsLooks : Type 0
WordIsLooks =
    (h : Host) (start n level lane : ℕ) → let d : Drawn = door_draw h.state h.buffer start n (level ∷ []) (lane ∷ []) in
    d.taken.refusal ≡ 0
    → d.lanes ≡ word_seen (door_look h.state) (door_look (met_by h start n level).state) (door_look d.state) level ∷ []

-- ---- while SSPEN stays 1, no list of calls changes SSPM, the low four bits of CON1: another mode comes only by disabling or by
-- a setup
abbrev pub ModeStays : Type 0
ModeStays =
    (h : Host) (calls : List DoorCall) → StaysEnabled h calls → shown_con1 (left_after at_door h calls) % 16 ≡ shown_con1 h % 16

-- ---- which address hit: by the registers that look shows, hit says own exactly where the byte fits ADD under MSK, and general call
-- exactly for 00 where GCEN, bit 7 of CON2, is 1 and 00 does not fit; in a ten-bit mode own exactly where bits 7 to 1 are ADD's,
-- and never general call; else it says none
abbrev pub HitSays : Type 0
HitSays =
    (h : Host) (byte : ℕ) → (door_hit h.state byte).refusal ≡ 0
    → let shown : View = door_look h.state in
    let says : ℕ = (door_hit h.state byte).value in
    ((HasTenBits shown.con1 → ⊥)
    → ((says ≡ hit_number Own) ↔ Fits shown.add shown.msk byte)
    × ((says ≡ hit_number GeneralCall) ↔ ((byte ≡ 0) × (bit 7 shown.con2 ≡ true) × (Fits shown.add shown.msk 0 → ⊥))))
    × (HasTenBits shown.con1 → ((says ≡ hit_number Own) ↔ Fits shown.add 0xFF byte) × (says ≡ hit_number GeneralCall → ⊥))
    × ((says ≡ hit_number None) ⊎ (says ≡ hit_number Own) ⊎ (says ≡ hit_number GeneralCall))

-- ---- the module takes an address exactly where that says own or general call: where look shows a first byte (phase 1, which 0) of
-- eight bits, at the sample with SCL low; in a ten-bit mode with R/W 1 after the full match alone
abbrev pub TakesWhatHits : Type 0
TakesWhatHits =
    (h : Host) (level : ℕ) → level ≤ 1
    → let shown : View = door_look h.state in
    shown.phase ≡ 1 → shown.bits ≡ 8 → shown.which ≡ 0 → (HasTenBits shown.con1 → bit 0 shown.byte ≡ true → shown.full ≡ 1)
    → TakenAsSaid (door_look (at_door h (feed_sample level)).left.state).phase (door_hit h.state shown.byte).value

-- ---- ten bits: UA, bit 1 of STAT, is 1 exactly in the hold for ADD, phase 8
abbrev pub UAInTheHold : Type 0
UAInTheHold = (h : Host) → let shown : View = door_look h.state in (bit 1 shown.stat ≡ true) ↔ (shown.phase ≡ 8)

-- That hold ends by a write to ADD, by disabling or by a new setup, and by no other call, whatever it is: CKP is one of them.
abbrev pub HeldUntilADD : Type 0
HeldUntilADD =
    (h : Host) (c : DoorCall) → let shown : View = door_look h.state in
    let after : View = door_look (at_door h c).left.state in
    shown.phase ≡ 8 → (CanEndTheHold c → ⊥) → (after.phase ≡ 8) × (after.next ≡ shown.next)

-- A write to ADD does end it, and what look showed to follow does; so does disabling, and quiet follows.
abbrev pub EndedByADD : Type 0
EndedByADD =
    (h : Host) (value : ℕ) → let shown : View = door_look h.state in
    shown.phase ≡ 8
    → FollowsAsShown shown.next (door_look (at_door h (write_register 5 value)).left.state)
    × (bit 5 value ≡ false → (door_look (at_door h (write_register 2 value)).left.state).phase ≡ 0)

-- A ten-bit module acknowledges exactly where the high byte fits, and then the low byte: where look shows an address (phase 1) of
-- eight bits, AHEN (bit 1 of CON3), BF (bit 0 of STAT) and SSPOV (bit 6 of CON1) 0, at the sample with SCL low.
abbrev pub AcknowledgesTenBits : Type 0
AcknowledgesTenBits =
    (h : Host) (level : ℕ) → level ≤ 1
    → let shown : View = door_look h.state in
    HasTenBits shown.con1 → shown.phase ≡ 1 → shown.bits ≡ 8
    → bit 1 shown.con3 ≡ false → bit 0 shown.stat ≡ false → bit 6 shown.con1 ≡ false
    → ((door_look (at_door h (feed_sample level)).left.state).sda_pulled ≡ 1) ↔ Matches shown

-- And what the fall after it leaves: where look shows a slot (phase 4) with SCL high on the wire, at the sample with SCL low.
abbrev pub NinthFallOfTenBits : Type 0
NinthFallOfTenBits =
    (h : Host) (level : ℕ) → level ≤ 1
    → let shown : View = door_look h.state in
    shown.phase ≡ 4 → 2 ≤ shown.wire → shown.wire ≤ 3
    → EndsAs shown.which shown.sda_pulled (door_look (at_door h (feed_sample level)).left.state)

-- In every other mode, and disabled, UA stays 0, and there is no full match, no high and no low byte.
abbrev pub SevenBitsAlone : Type 0
SevenBitsAlone =
    (h : Host) → let shown : View = door_look h.state in
    ((bit 5 shown.con1 ≡ true) × HasTenBits shown.con1 → ⊥)
    → (bit 1 shown.stat ≡ false) × (shown.full ≡ 0) × (shown.which ≡ 0) × (shown.next ≡ 0)

-- ---- after an accepted setup look shows, and reads give, CON1 36, CON2 01, CON3 00, MSK FF (hex) and ADD; the rest is as fresh
abbrev pub SetupRegisters : Type 0
SetupRegisters =
    (h : Host) (add n : ℕ) → let after : Host = (at_door h (set_up add n)).left in
    (at_door h (set_up add n)).answer.refusal ≡ 0
    → (door_look after.state ≡ record {
      refusal = 0;
      buf = 0;
      stat = 0;
      con1 = 0x36;
      con2 = 0x01;
      con3 = 0x00;
      add = add;
      msk = 0xFF;
      flag = 0;
      scl_pulled = 0;
      sda_pulled = 0;
      phase = 0;
      bits = 0;
      byte = 0;
      refused = 0;
      wire = 0xFF;
      mark = 0;
      due = 0;
      n = n;
      pointer = 0;
      which = 0;
      next = 0;
      full = 0;
    })
    × (answers at_door after (map read_register (0 ∷ 1 ∷ 2 ∷ 3 ∷ 4 ∷ 5 ∷ 6 ∷ 7 ∷ []))
    ≡ map done (0 ∷ 0 ∷ 0x36 ∷ 0x01 ∷ 0x00 ∷ add ∷ 0xFF ∷ 0 ∷ []))

-- ---- the handler is a firmware: what an accepted handler call does to the module is what register accesses do
abbrev pub HandlerIsFirmware : Type 0
HandlerIsFirmware =
    (s : State) (h : Host) (start n : ℕ) → ImageOf s h.state → (at_door h (call_handler start n)).answer.refusal ≡ 0
    → let window : List ℕ = window_of start n h.buffer in
    ImageOf (state_of (firmware (peeked (memory_in s window)) s.mssp) (called s window).state.handler)
    (at_door h (call_handler start n)).left.state
