-- The words of the demands: a host's call, what it answers and leaves at the door and by the definitions, and the causes of each
-- refusal (01, "Calls, refusals and their order"; 02, 1, 6 and 9).
use Rattle.std.specs.Prelude.{ℕ, ◌+◌, ◌/◌, ◌%◌, ◌^◌, ◌<◌, ◌≤◌, ◌⊎◌, ◌↔◌, ◌≡◌, Bool, true, false, cond, ◌&&◌, not, List, [], ◌∷◌, ◌++◌, map, T, eqb, ltb, length, take, get_or, Err, Ok, Result}
use Rattle.items.specs.First.{first_above, FirstAbove, NoneAbove}
use Rattle.refusals.specs.declared.Refusal.{Refusal}
use Rattle.refusals.specs.declared.Refusal.TheVariants.{NoState, NoRegister, ReservedBit, NoMode, ModeChange, MaskedTenBits, NoWindow, NoItem, PastRecord}
use Rattle.refusals.specs.Numbers.{Verdict, number_of}
use Rattle.wire.specs.declared.Edge.{Edge}
use Rattle.wire.specs.declared.Edge.TheVariants.{Still}
use Rattle.wire.specs.Byte.{bit}
use Rattle.wire.specs.Wire.{scl_of, sda_of, on_wire, edge_of}
use Rattle.mssp.specs.declared.Module.{Module}
use Rattle.address.specs.declared.Hit.TheVariants.{None, Own, GeneralCall}
use Rattle.address.specs.Comparison.{hit_number}
use Rattle.register_bytes.specs.Bytes.{byte_of}
use Rattle.registers.specs.Values.{read_of}
use Rattle.writes.specs.Writes.{write_of}
use Rattle.firmware.specs.declared.State.{State}
use Rattle.firmware.specs.Handler.{longest_window, Served, served, setup_of}
use Rattle.firmware.specs.Window.{window_fits, window_of, in_buffer}
use Rattle.steps.specs.declared.Item.{Item}
use Rattle.steps.specs.declared.Item.TheVariants.{Call, Read, Write}
use Rattle.steps.specs.Step.{Stepped, step_of, after_all}
use Rattle.trace.specs.Run.{first_bad, item_if, item_at}
use Rattle.words.specs.Words.{events_of, lines_from, standing_by, word_by}
use Rattle.lanes.specs.Lanes.{driven, shorter_of}
use Rattle.phase_image.specs.PhasePart.{wire_from, line_from}
use Rattle.image.specs.Image.{image_length, valid_state, encode_of}
use Rattle.view.specs.declared.View.{View}
use Rattle.settling.specs.declared.Answer.{Answer}
use Rattle.settling.specs.Outcome.{Lent, outcome, lent, done, refused}
use Rattle.firmware_calls.specs.Calls.{door_setup, door_call, door_run, door_lanes}
use Rattle.module_calls.specs.Calls.{door_read, door_write, door_sample, door_look}

-- ---- a host's calls, over the bytes of one state and one buffer
pub data DoorCall : Type 0 where
  set_up : (add n : ℕ) → DoorCall
  read_register : (number : ℕ) → DoorCall
  write_register : (number value : ℕ) → DoorCall
  feed_sample : (level : ℕ) → DoorCall
  call_handler : (start n : ℕ) → DoorCall
  run_trace : (start n : ℕ) (items : List ℕ) → DoorCall
  draw_lanes : (start n : ℕ) (levels lanes : List ℕ) → DoorCall

-- The levels that a drawing takes: as many as the shorter of record and lanes has.
abbrev pub drawn_levels : List ℕ → List ℕ → List ℕ
drawn_levels levels lanes = take (shorter_of (length levels) (length lanes)) levels

-- What a host lends.
pub record Host : Type 0 where
  pub state : List ℕ
  pub buffer : List ℕ

abbrev pub host : List ℕ → List ℕ → Host
host state buffer = record { state = state; buffer = buffer }

-- What a call answers, and what it leaves of what it worked on.
pub record Reply (W : Type 0) : Type 0 where
  pub answer : Answer
  pub left : W

abbrev pub reply : {W : Type 0} → Answer → W → Reply W
reply answer left = record { answer = answer; left = left }

-- Calls one after the other, each on what the one before it left: all their answers, and what is left at the end.
abbrev pub answers : {W : Type 0} → (W → DoorCall → Reply W) → W → List DoorCall → List Answer
answers work w [] = []
answers work w (c ∷ calls) = (work w c).answer ∷ answers work (work w c).left calls

abbrev pub left_after : {W : Type 0} → (W → DoorCall → Reply W) → W → List DoorCall → W
left_after work w [] = w
left_after work w (c ∷ calls) = left_after work (work w c).left calls

-- ---- at the door: what the contract of each exported function says; only a handler call, a run and a drawing are lent the buffer. Of
-- a drawing this is the answer's refusal and item, the state and the buffer; its lanes stand in `door_draw`.
abbrev pub contract : Host → DoorCall → Lent
contract h (set_up add n) = lent (door_setup h.state add n) h.buffer
contract h (read_register number) = lent (door_read h.state number) h.buffer
contract h (write_register number value) = lent (door_write h.state number value) h.buffer
contract h (feed_sample level) = lent (door_sample h.state level) h.buffer
contract h (call_handler start n) = door_call h.state h.buffer start n
contract h (run_trace start n items) = door_run h.state h.buffer start n items
contract h (draw_lanes start n levels lanes) = (door_lanes h.state h.buffer start n levels lanes).work

-- What a call's contract allows it to answer and leave.
abbrev pub Allows : Host → DoorCall → Answer → Host → Type 0
Allows before c answer after = lent (outcome answer after.state) after.buffer ≡ contract before c

abbrev pub at_door : Host → DoorCall → Reply Host
at_door h c =
    let o : Lent = contract h c in
    reply o.outcome.answer (host o.outcome.state o.buffer)

-- ---- by the definitions: one step for each item, on a state and the whole buffer
abbrev pub told : Verdict → Answer
told (Ok value) = done value
told (Err why) = refused why 0

abbrev pub step_by : Served → Item → Reply Served
step_by w item =
    let step : Stepped = step_of w.state w.bytes item in
    reply (told step.verdict) step.left

-- Items in a window of the buffer: 5 where the window does not fit, then 4 with the first bad item's number.
abbrev pub in_window : Bool → Bool → ℕ → Served → ℕ → ℕ → List Item → Reply Served
in_window false bad item w start n items = reply (refused NoWindow 0) w
in_window true true item w start n items = reply (refused NoItem item) w
in_window true false item w start n items =
    reply (done 0) (in_buffer (λ window. after_all (served w.state window) items) w.bytes start n)

-- The window lies inside the buffer and has the setup's length.
abbrev pub has_window : Served → ℕ → ℕ → Bool
has_window w start n = window_fits (length w.bytes) start n w.state.handler.n

abbrev pub made_of : Result State Refusal → Served → Reply Served
made_of (Ok s) w = reply (done 0) (served s w.bytes)
made_of (Err why) w = reply (refused why 0) w

abbrev pub by_definition : Served → DoorCall → Reply Served
by_definition w (set_up add n) = made_of (setup_of add n) w
by_definition w (read_register number) = step_by w (Read number)
by_definition w (write_register number value) = step_by w (Write number value)
by_definition w (feed_sample level) = step_by w (item_if (ltb level 4) false level)
by_definition w (call_handler start n) = in_window (has_window w start n) false 0 w start n (Call ∷ [])
by_definition w (run_trace start n items) =
    in_window (has_window w start n) (ltb (first_bad items) (length items)) (first_bad items) w start n (map item_at items)
by_definition w (draw_lanes start n levels lanes) =
    let part : List ℕ = drawn_levels levels lanes in
    in_window (has_window w start n) (ltb (first_above 3 part) (length part)) (first_above 3 part) w start n
    (map item_at (driven (served w.state (window_of start n w.bytes)) part))

-- ---- the image of a state, and bytes that are no state's
abbrev pub ImageOf : State → List ℕ → Type 0
ImageOf s bytes = (encode_of s ≡ bytes) × T (valid_state s)

abbrev pub ImageOfNone : List ℕ → Type 0
ImageOfNone bytes = (s : State) → ImageOf s bytes → ⊥

-- ---- the causes of the refusals
pub record Cause : Type 1 where
  pub why : Refusal
  pub holds : Type 0

infix 1 ◌when◌
abbrev pub ◌when◌ : Refusal → Type 0 → Cause
◌when◌ why holds = record { why = why; holds = holds }

-- CON2 (3) with bits 4..1 not all 0, or CON3 (4) with BOEN.
abbrev pub SetsReserved : ℕ → ℕ → Type 0
SetsReserved number value = ((number ≡ 3) × (value / 2 % 16 ≡ 0 → ⊥)) ⊎ ((number ≡ 4) × (bit 4 value ≡ true))

-- Of a value of CON1: SSPM, its low four bits, is 0111 or 1111.
abbrev pub HasTenBits : ℕ → Type 0
HasTenBits con1 = (con1 % 16 ≡ 0b0111) ⊎ (con1 % 16 ≡ 0b1111)

-- CON1 (2) with SSPEN 1 and SSPM neither 0110 nor 1110, and not of ten bits.
abbrev pub SetsNoMode : ℕ → ℕ → Type 0
SetsNoMode number value =
    (number ≡ 2) × (bit 5 value ≡ true) × (value % 16 ≡ 0b0110 → ⊥) × (value % 16 ≡ 0b1110 → ⊥) × (HasTenBits value → ⊥)

-- CON1 and MSK as a look shows them.
abbrev pub shown_con1 : Host → ℕ
shown_con1 h = (door_look h.state).con1

abbrev pub shown_msk : Host → ℕ
shown_msk h = (door_look h.state).msk

-- CON1 (2) with SSPEN 1 where SSPEN is 1, and another SSPM than the one that stands.
abbrev pub ChangesMode : Host → ℕ → ℕ → Type 0
ChangesMode h number value =
    (number ≡ 2) × (bit 5 (shown_con1 h) ≡ true) × (bit 5 value ≡ true) × (value % 16 ≡ shown_con1 h % 16 → ⊥)

-- CON1 (2) with SSPEN 1 and ten bits where MSK is not FF, or MSK (6) with another value than FF while ten bits run.
abbrev pub MasksTenBits : Host → ℕ → ℕ → Type 0
MasksTenBits h number value =
    ((number ≡ 2) × (bit 5 value ≡ true) × HasTenBits value × (shown_msk h ≡ 0xFF → ⊥))
    ⊎ ((number ≡ 6) × (bit 5 (shown_con1 h) ≡ true) × HasTenBits (shown_con1 h) × (value ≡ 0xFF → ⊥))

-- A window that is not inside its buffer, or whose length is not the setup's.
abbrev pub SetUpFor : ℕ → List ℕ → Type 0
SetUpFor n bytes = (s : State) × ImageOf s bytes × (s.handler.n ≡ n)

abbrev pub FitsNot : Host → ℕ → ℕ → Type 0
FitsNot h start n = (length h.buffer < start + n) ⊎ (SetUpFor n h.state → ⊥)

-- A byte above the largest that there is.
abbrev pub SomeAbove : ℕ → List ℕ → Type 0
SomeAbove most items = (k : ℕ) × (k < length items) × (most < get_or items k 0)

-- The table: why each call is refused, in the order in which that is looked at.
abbrev pub causes : Host → DoorCall → List Cause
causes h (set_up add n) = (NoState when (length h.state ≡ image_length → ⊥)) ∷ (NoWindow when ((n ≡ 0) ⊎ (longest_window < n))) ∷ []
causes h (read_register number) = (NoState when ImageOfNone h.state) ∷ (NoRegister when 7 < number) ∷ []
causes h (write_register number value) =
    (NoState when ImageOfNone h.state) ∷ (NoRegister when 7 < number) ∷ (ReservedBit when SetsReserved number value)
    ∷ (NoMode when SetsNoMode number value) ∷ (ModeChange when ChangesMode h number value)
    ∷ (MaskedTenBits when MasksTenBits h number value) ∷ []
causes h (feed_sample level) = (NoState when ImageOfNone h.state) ∷ (NoItem when 3 < level) ∷ []
causes h (call_handler start n) = (NoState when ImageOfNone h.state) ∷ (NoWindow when FitsNot h start n) ∷ []
causes h (run_trace start n items) =
    (NoState when ImageOfNone h.state) ∷ (NoWindow when FitsNot h start n) ∷ (NoItem when SomeAbove 4 items) ∷ []
causes h (draw_lanes start n levels lanes) =
    (NoState when ImageOfNone h.state) ∷ (NoWindow when FitsNot h start n) ∷ (NoItem when SomeAbove 3 (drawn_levels levels lanes)) ∷ []

-- Why a look, and a question which address hits, is refused.
abbrev pub look_causes : List ℕ → List Cause
look_causes bytes = (NoState when ImageOfNone bytes) ∷ []

abbrev pub find_causes : List ℕ → ℕ → List Cause
find_causes levels item = (NoItem when SomeAbove 3 levels) ∷ (PastRecord when length levels ≤ item) ∷ []

-- The number of the first cause that holds, 0 where none does.
abbrev pub Numbered : List Cause → ℕ → Type 0
Numbered [] number = number ≡ 0
Numbered (next ∷ rest) number =
    ((number ≡ number_of next.why) × next.holds) ⊎ ((next.holds → ⊥) × Numbered rest number)

-- A number is answered exactly then.
abbrev pub Exactly : ℕ → List Cause → Type 0
Exactly refusal list = (number : ℕ) → (refusal ≡ number) ↔ Numbered list number

-- The first bad item's number stands beside refusal 4 of a run and of the finder, and nowhere else.
abbrev pub OnlyBeside : ℕ → Type 0 → ℕ → Type 0
OnlyBeside refusal named item = (refusal ≡ number_of NoItem → named) × ((refusal ≡ number_of NoItem → ⊥) → item ≡ 0)

abbrev pub Beside : DoorCall → ℕ → Type 0
Beside (set_up add n) item = item ≡ 0
Beside (read_register number) item = item ≡ 0
Beside (write_register number value) item = item ≡ 0
Beside (feed_sample level) item = item ≡ 0
Beside (call_handler start n) item = item ≡ 0
Beside (run_trace start n items) item = FirstAbove 4 items item
Beside (draw_lanes start n levels lanes) item = FirstAbove 3 (drawn_levels levels lanes) item

-- ---- a module that runs on
-- SSPEN is 1 before every call of a list and after the last, and none of them sets up anew.
abbrev pub StaysEnabled : Host → List DoorCall → Type 0
StaysEnabled h [] = bit 5 (shown_con1 h) ≡ true
StaysEnabled h (c ∷ calls) =
    (bit 5 (shown_con1 h) ≡ true) × ((add n : ℕ) → c ≡ set_up add n → ⊥) × StaysEnabled (at_door h c).left calls

-- ---- which address hit (01, "From levels to bytes", Address; 02, 1)
-- The byte agrees with ADD in bit i if its MSK bit is 1; it fits if it does so in each of bits 7 to 1.
abbrev pub AgreesIn : ℕ → ℕ → ℕ → ℕ → Type 0
AgreesIn i add msk byte = bit i msk ≡ true → byte / 2 ^ i % 2 ≡ add / 2 ^ i % 2

abbrev pub Fits : ℕ → ℕ → ℕ → Type 0
Fits add msk byte =
    AgreesIn 1 add msk byte × AgreesIn 2 add msk byte × AgreesIn 3 add msk byte × AgreesIn 4 add msk byte
    × AgreesIn 5 add msk byte × AgreesIn 6 add msk byte × AgreesIn 7 add msk byte

-- An address of eight bits has met a fall: the phase after it, by number, and which address the comparison says it hits. It is
-- quiet (0) and none; or the byte was taken in, with a hold before its acknowledge (3) or its slot (4), and own or general call.
abbrev pub TakenAsSaid : ℕ → ℕ → Type 0
TakenAsSaid after says =
    ((after ≡ 0) × (says ≡ hit_number None))
    ⊎ (((after ≡ 3) ⊎ (after ≡ 4)) × ((says ≡ hit_number Own) ⊎ (says ≡ hit_number GeneralCall)))

-- ---- ten bits (02, 9)
-- The calls that can end the hold for ADD: a write to ADD (5), disabling by CON1 (2) with SSPEN 0, and setting up anew.
abbrev pub CanEndTheHold : DoorCall → Type 0
CanEndTheHold (set_up add n) = Unit {0}
CanEndTheHold (read_register number) = ⊥
CanEndTheHold (write_register number value) = (number ≡ 5) ⊎ ((number ≡ 2) × (bit 5 value ≡ false))
CanEndTheHold (feed_sample level) = ⊥
CanEndTheHold (call_handler start n) = ⊥
CanEndTheHold (run_trace start n items) = ⊥
CanEndTheHold (draw_lanes start n levels lanes) = ⊥

-- What follows the hold: quiet (0), a low byte (1, which 2) or data (2), each without bits and with a free clock.
abbrev pub FollowsAsShown : ℕ → View → Type 0
FollowsAsShown next after =
    (((next ≡ 0) × (after.phase ≡ 0)) ⊎ ((next ≡ 1) × (after.phase ≡ 1) × (after.which ≡ 2)) ⊎ ((next ≡ 2) × (after.phase ≡ 2)))
    × (after.bits ≡ 0) × (after.scl_pulled ≡ 0)

-- An address of eight bits that the module has to acknowledge: a first byte whose bits 7 to 1 are ADD's, with R/W 1 after the full
-- match alone; a low byte that is ADD.
abbrev pub Matches : View → Type 0
Matches shown =
    ((shown.which ≡ 0) × Fits shown.add 0xFF shown.byte × (bit 0 shown.byte ≡ true → shown.full ≡ 1))
    ⊎ ((shown.which ≡ 2) × (shown.byte ≡ shown.add))

-- What the ninth fall leaves of a slot, by the byte it belongs to (0 is left to the rule of seven bits) and whether it pulled: an
-- acknowledged high byte (1) and every low byte (2) is held for ADD (8), and what follows then; a high byte that asks to send (3)
-- is held for sending (5) or ends the full match.
abbrev pub EndsAs : ℕ → ℕ → View → Type 0
EndsAs which pulled after =
    (which ≡ 0)
    ⊎ ((which ≡ 1) × (pulled ≡ 1) × (after.phase ≡ 8) × (after.next ≡ 1))
    ⊎ ((which ≡ 1) × (pulled ≡ 0) × (after.phase ≡ 0))
    ⊎ ((which ≡ 2) × (pulled ≡ 1) × (after.phase ≡ 8) × (after.next ≡ 2) × (after.full ≡ 1))
    ⊎ ((which ≡ 2) × (pulled ≡ 0) × (after.phase ≡ 8) × (after.next ≡ 0))
    ⊎ ((which ≡ 3) × (pulled ≡ 1) × (after.phase ≡ 5))
    ⊎ ((which ≡ 3) × (pulled ≡ 0) × (after.phase ≡ 0) × (after.full ≡ 0))

-- ---- a trace through the door
-- Every byte is an item.
abbrev pub AllItems : List ℕ → Type 0
AllItems items = NoneAbove 4 items

-- The items that a call over one window asks for.
pub data Asks (start n : ℕ) : DoorCall → List ℕ → Type 0 where
  a_run : {items : List ℕ} → Asks start n (run_trace start n items) items
  a_sample : {level : ℕ} → level ≤ 3 → Asks start n (feed_sample level) (level ∷ [])
  a_call : Asks start n (call_handler start n) (4 ∷ [])

-- Items fed in one run, in several, in samples and handler calls, or in any mixture of these.
pub data Feeds (start n : ℕ) : List DoorCall → List ℕ → Type 0 where
  nothing : Feeds start n [] []
  one_more :
      {c : DoorCall} {calls : List DoorCall} {items rest : List ℕ} → Asks start n c items → Feeds start n calls rest
      → Feeds start n (c ∷ calls) (items ++ rest)

-- Look shows no refused hold or slot, and SSPOV, bit 6 of CON1, is 0.
abbrev pub ShowsNoneRefused : Host → Type 0
ShowsNoneRefused h = ((door_look h.state).refused ≡ 0) × (bit 6 (shown_con1 h) ≡ false)

-- ---- an item of a record, by looks: before it, after the handler's call if there is one, and after the item
-- The handler is called: the clock is held, and the record shows SCL high.
abbrev pub called_seen : View → ℕ → Bool
called_seen before level = eqb before.scl_pulled 1 && scl_of level

-- What the item meets.
abbrev pub met_by : Host → ℕ → ℕ → ℕ → Host
met_by h start n level = cond (called_seen (door_look h.state) level) (at_door h (call_handler start n)).left h

-- A call stores: SSPIF is 1 and CKP 0, R/W is 0 and D/A 1, and no pointer is due.
abbrev pub stores_seen : View → Bool
stores_seen before =
    eqb before.flag 1 && not (bit 4 before.con1) && not (bit 2 before.stat) && bit 5 before.stat && not (eqb before.due 1)

-- The edge, with SSPEN 1, from the wire as it was last seen to what record and pulls make of it.
abbrev pub edge_seen : View → ℕ → Edge
edge_seen met level =
    cond (bit 5 met.con1)
    (edge_of (line_from met.wire met.mark) (on_wire (eqb met.scl_pulled 1) (scl_of level)) (on_wire (eqb met.sda_pulled 1) (sda_of level)))
    Still

-- The record shows both lines high while SDA is pulled.
abbrev pub conflict_seen : View → ℕ → Bool
conflict_seen met level = eqb met.sda_pulled 1 && eqb level 3

-- What stands: SCL pulled, phase, STAT, ACKTIM, ACKSTAT, WCOL, SSPOV, CKP and SSPIF, pointer, BUF.
abbrev pub standing_seen : View → ℕ
standing_seen after =
    standing_by after.scl_pulled after.phase after.stat
    (byte_of false false (bit 7 after.con3) (bit 6 after.con2) (bit 7 after.con1) (bit 6 after.con1) (bit 4 after.con1) (eqb after.flag 1))
    after.pointer after.buf

-- The wire as it was last seen, and SDA pulled.
abbrev pub lines_seen : View → ℕ
lines_seen after = lines_from (wire_from after.wire) (eqb after.sda_pulled 1)

abbrev pub word_seen : View → View → View → ℕ → ℕ
word_seen before met after level =
    let called : Bool = called_seen before level in
    word_by (standing_seen after) (lines_seen after)
    (events_of called (called && stores_seen before) (edge_seen met level) (conflict_seen met level))

-- ---- a firmware: register accesses and nothing else
-- What a register shows; what a read and a write of it leave.
abbrev pub value_shown : Verdict → ℕ
value_shown (Ok value) = value
value_shown (Err why) = 0

abbrev pub shows : ℕ → Module → ℕ
shows number m = value_shown (read_of m number).verdict

abbrev pub after_reading : ℕ → Module → Module
after_reading number m = (read_of m number).mssp

abbrev pub after_writing : ℕ → ℕ → Module → Module
after_writing number value m = (write_of m number value).mssp

-- CON1 (2) is written with what it holds and CKP (bit 4) 1.
abbrev pub setting_ckp : Module → Module
setting_ckp m = let held : ℕ = shows 2 m in after_writing 2 (cond (bit 4 held) held (held + 16)) m

-- What is done by SSPIF, CKP, R/W and D/A: the flag (7) is written 0; BUF (0) is read, or written with the byte at the pointer,
-- after a read address both; last, CKP 1.
abbrev pub firmware_if : Bool → Bool → Bool → Bool → ℕ → Module → Module
firmware_if false ckp rw da byte m = m
firmware_if true true rw da byte m = after_writing 7 0 m
firmware_if true false false da byte m = setting_ckp (after_reading 0 (after_writing 7 0 m))
firmware_if true false true false byte m = setting_ckp (after_writing 0 byte (after_reading 0 (after_writing 7 0 m)))
firmware_if true false true true byte m = setting_ckp (after_writing 0 byte (after_writing 7 0 m))

-- The four bits as the registers show them: flag (7), CON1 (2) and STAT (1).
abbrev pub firmware : ℕ → Module → Module
firmware byte m = firmware_if (bit 0 (shows 7 m)) (bit 4 (shows 2 m)) (bit 2 (shows 1 m)) (bit 5 (shows 1 m)) byte m
