-- How long a report gets: 480,046 bytes hold every one.
use Rattle.std.specs.Prelude.{ℕ, ◌+◌, ◌*◌, ◌<◌, ◌≤◌, ◌≡◌, refl, Bool, true, false, cond, List, [], ◌∷◌, ◌++◌, ltb, length, drop, Option, Some, None}
use Rattle.std.proofs.Common.{ap₂, ◌∙◌, arith, zero-add, length-append, length-drop, ltb-false}
use mir.Val.{bool_byte}
use Rattle.std.proofs.lemmas.List.Edits.{sets-eq}
use Rattle.wire.specs.declared.Bits.{Bits}
use Rattle.wire.specs.declared.Level.{Level}
use Rattle.wire.specs.Byte.{whole as wholeBits}
use Rattle.wire.specs.Wire.{on_wire, wire}
use Rattle.mssp.specs.Drivers.{scl_pulled, sda_pulled}
use Rattle.address.specs.declared.Hit.{Hit}
use Rattle.memory.specs.Memory.{Memory, modulo, put}
use Rattle.memory.proofs.Laws.{modulo-below}
use Rattle.firmware.specs.declared.Handler.{Handler}
use Rattle.firmware.specs.declared.State.{State}
use Rattle.firmware.specs.Handler.{handler_of, memory_in, acknowledged, serve, called_if}
use Rattle.reader.specs.declared.Place.{Place}
use Rattle.reader.specs.declared.Place.TheVariants.{Idle, Within, Ending}
use Rattle.reader.specs.declared.Heard.{Heard}
use Rattle.reader.specs.declared.Heard.TheVariants.{Silence, Started, Stopped, Byte}
use Rattle.reader.specs.declared.Reader.{Reader}
use Rattle.reader.specs.Reader.{line, reader_of, within_fall, fall_place, rise_place, fall_heard, reader_after, heard_of}
use Rattle.reader.specs.Laws.{Marks, no_mark, new_mark, marks_kept}
use Rattle.steps.specs.declared.Item.{Item}
use Rattle.steps.specs.declared.Item.TheVariants.{Sample, Call, Read, Write}
use Rattle.steps.specs.declared.Item.TheVariants.{NotAnItem}
use Rattle.input.specs.Laws.{found, found_short}
use Rattle.input.specs.Input.{asks_general, item_bytes, Parsed, all, foreign, parse}
use Rattle.watch.specs.declared.World.{World}
use Rattle.watch.specs.Watch.{Scene, scene_after, world_afresh, memory_afresh}
use Rattle.text.specs.Text.{said, decimal, event_line, numbered}
use Rattle.text.specs.Page.{page, penned}
use Rattle.text.proofs.Laws.{penned_at, line-length, numbered_room, digits_2, digits_5}
use Rattle.lines.specs.Report.{lines_from, header, parsed_report, report_of}

-- ---- the pointer stays below 32
record Small (h : Handler) : Type 0 where
  long : h.n ≡ 32
  inside : h.pointer < 32

small_wrapped : (n x : ℕ) (due : Bool) → n ≡ 32 → Small (handler_of n (modulo n x) due)
small_wrapped n x due e = let h = modulo-below n x (omega arith) in record { long = e; inside = omega arith }

small_put : (n byte : ℕ) (due : Bool) (m : Memory) → n ≡ 32 → Small (handler_of n (put n due byte m).pointer false)
small_put n byte true m e = small_wrapped n byte false e
small_put n byte false m e = small_wrapped n (m.pointer + 1) false e

small_served : (rw da : Bool) (s : State) (bytes : List ℕ) → Small s.handler → Small (serve rw da s bytes).state.handler
small_served true da s bytes k = small_wrapped s.handler.n (s.handler.pointer + 1) s.handler.due k.long
small_served false true s bytes k =
    small_put s.handler.n s.mssp.live.buf s.handler.due (memory_in s bytes) k.long
small_served false false s bytes k = record { long = k.long; inside = k.inside }

small_called : (sspif ckp : Bool) (s : State) (bytes : List ℕ) → Small s.handler → Small (called_if sspif ckp s bytes).state.handler
small_called false ckp s bytes k = k
small_called true true s bytes k = k
small_called true false s bytes k = small_served s.mssp.live.rw s.mssp.live.da (acknowledged s) bytes k

small_after : (w : World) (memory : List ℕ) (x : Item) → Small w.state.handler
    → Small (scene_after w memory x).watched.world.state.handler
small_after w memory (Sample scl sda) k = k
small_after w memory Call k = small_called w.state.mssp.live.sspif w.state.mssp.live.ckp w.state memory k
small_after w memory (Read number) k = k
small_after w memory (Write number value) k = k
small_after w memory NotAnItem k = k

-- ---- two items for each event
-- What the wire is good for at once, in items: two for each event that can come without further clocks. A Start can follow
-- a Stop at once, a byte its ninth rise; after a Start SCL has to fall and to rise first.
abbrev weight : Heard → ℕ
weight Silence = 0
weight Started = 2
weight Stopped = 2
weight (Byte first byte level) = 2

abbrev level_credit : Bool → Bool → Bool → ℕ
level_credit mark false sda = 1
level_credit true true sda = 0
level_credit false true true = 1
level_credit false true false = 2

abbrev line_credit : Bool → Option Level → ℕ
line_credit mark None = 1
line_credit mark (Some level) = level_credit mark level.scl level.sda

abbrev place_credit : Place → ℕ
place_credit Idle = 0
place_credit (Within first bits) = 0
place_credit (Ending first byte ninth) = 1

abbrev credit : Reader → ℕ
credit r = line_credit r.line.mark r.line.remembered + place_credit r.place

rise_credit : (place : Place) (sda : Bool) → place_credit (rise_place place sda) ≡ place_credit place
rise_credit Idle sda = refl
rise_credit (Within first bits) sda = refl
rise_credit (Ending first byte ninth) sda = refl

within_credit : (t first : Bool) (bits : Bits) → place_credit (within_fall t first bits) ≤ 1
within_credit true first bits = omega arith
within_credit false first bits = omega arith

fall_credit : (place : Place) → weight (fall_heard place) + place_credit (fall_place place) ≤ 1 + place_credit place
fall_credit Idle = omega arith
fall_credit (Within first bits) = omega (arith, within_credit (wholeBits bits) first bits)
fall_credit (Ending first byte None) = omega arith
fall_credit (Ending first byte (Some level)) = omega arith

paid_between :
    (scl_before before scl sda : Bool) (place : Place)
    → (let r : Reader = reader_of (line (Some (wire scl_before before)) false) place in
    weight (heard_of r scl sda) + credit (reader_after r scl sda) ≤ 1 + credit r)
paid_between false before false sda place = omega arith
paid_between false before true true place = omega (arith, rise_credit place true)
paid_between false before true false place = omega (arith, rise_credit place false)
paid_between true true false sda place = omega (arith, fall_credit place)
paid_between true false false sda place = omega (arith, fall_credit place)
paid_between true true true true place = omega arith
paid_between true true true false place = omega arith
paid_between true false true true place = omega arith
paid_between true false true false place = omega arith

paid :
    {r : Reader} → Marks r → (scl sda : Bool)
    → weight (heard_of r scl sda) + credit (reader_after r scl sda) ≤ 1 + credit r
paid (no_mark {seen = None}) true true = omega arith
paid (no_mark {seen = None}) true false = omega arith
paid (no_mark {seen = None}) false sda = omega arith
paid (no_mark {seen = Some before} {place = place}) scl sda = paid_between before.scl before.sda scl sda place
paid new_mark true sda = omega arith
paid new_mark false sda = omega arith

-- ---- sixteen bytes for each event
line_room : (item pointer : ℕ) → item < 100000 → pointer < 32 → (heard : Heard) (hit : Hit) → length (event_line item heard hit pointer) ≤ 8 * weight heard
line_room item pointer h g Silence hit = omega arith
line_room item pointer h g Started hit = omega (arith, line-length item pointer Started hit, digits_5 item h, digits_2 pointer (omega arith))
line_room item pointer h g Stopped hit = omega (arith, line-length item pointer Stopped hit, digits_5 item h, digits_2 pointer (omega arith))
line_room item pointer h g (Byte first byte level) hit =
    omega (arith, line-length item pointer (Byte first byte level) hit, digits_5 item h, digits_2 pointer (omega arith))

-- What an item leaves: the marks, and for its line eight bytes for each unit that the wire has lost.
paid_item :
    (w : World) (memory : List ℕ) (x : Item) → Marks w.reader
    → Marks (scene_after w memory x).watched.world.reader
    × (weight (scene_after w memory x).watched.heard + credit (scene_after w memory x).watched.world.reader ≤ 1 + credit w.reader)
paid_item w memory (Sample scl sda) m =
    let l : Bool = on_wire (scl_pulled w.state.mssp.phase) scl in
    let d : Bool = on_wire (sda_pulled w.state.mssp.phase) sda in
    (marks_kept l d m, paid m l d)
paid_item w memory Call m = (m, omega arith)
paid_item w memory (Read number) m = (m, omega arith)
paid_item w memory (Write number value) m = (m, omega arith)
paid_item w memory NotAnItem m = (m, omega arith)

lines_room :
    (w : World) (memory : List ℕ) (item : ℕ) (items : List Item) → Small w.state.handler → Marks w.reader
    → item + length items ≤ 100000
    → length (lines_from w memory item items) ≤ 8 * (length items + credit w.reader)
unfolding lines_from
lines_room w memory item [] k m h = omega arith
lines_room w memory item (x ∷ xs) k m h =
    let s : Scene = scene_after w memory x in
    let j : Small s.watched.world.state.handler = small_after w memory x k in
    let pointer : ℕ = s.watched.world.state.handler.pointer in
    let p = paid_item w memory x m in
    let rest = lines_room s.watched.world s.memory (item + 1) xs j p.0 (omega arith) in
    let a = length-append (event_line item s.watched.heard s.watched.hit pointer) (lines_from s.watched.world s.memory (item + 1) xs) in
    omega (arith, p.1, line_room item pointer (omega arith) j.inside s.watched.heard s.watched.hit)

-- The general call has no part in where the handler begins.
small_afresh : (general : Bool) → Small (world_afresh general).state.handler
small_afresh true = record { long = refl; inside = omega arith }
small_afresh false = record { long = refl; inside = omega arith }

parsed_room : (general : Bool) (p : Parsed) → found p ≤ 60000 → length (parsed_report general p) ≤ 480046
unfolding decimal
parsed_room general (all items) h =
    let lines : List ℕ = lines_from (world_afresh general) memory_afresh 0 items in
    let a = length-append header (lines ++ numbered (said "end ") (length items)) in
    let b = length-append lines (numbered (said "end ") (length items)) in
    let k = lines_room (world_afresh general) memory_afresh 0 items (small_afresh general) no_mark (omega arith) in
    omega (arith, numbered_room (said "end ") (length items) (omega arith))
parsed_room general (foreign n) h = omega (arith, numbered_room (said "refused 4 at ") n (omega arith))

report_if : (input : List ℕ) (t : Bool) → ltb 60000 (length input) ≡ t
    → length (cond t (said "too long\n") (parsed_report (asks_general input) (parse (item_bytes input)))) ≤ 480046
report_if input true e = omega arith
report_if input false e =
    let shorter = length-drop (bool_byte (asks_general input)) input in
    parsed_room (asks_general input) (parse (item_bytes input)) (omega (arith, found_short (item_bytes input), ltb-false 60000 (length input) e))

-- A buffer that always suffices: 38 bytes for the header and the last line, and 16 for every second item.
pub room : (input : List ℕ) → length (report_of input) ≤ 480046
unfolding report_of
room input = report_if input (ltb 60000 (length input)) refl

-- In a buffer that suffices the report stands whole-report, from its start on, and the rest of the buffer is as it was.
pub whole_report :
    (input output : List ℕ) → length (report_of input) ≤ length output
    → penned (report_of input) (page 0 output)
    ≡ page (length (report_of input)) (report_of input ++ drop (length (report_of input)) output)
unfolding penned
whole_report input output h = ap₂ page (zero-add _) (sets-eq (report_of input) output 0 (rw zero-add h) ∙ rw zero-add)

-- What `write_report` answers is at most that.
pub fits : (input output : List ℕ) {long : ℕ} {left : List ℕ} → page long left ≡ penned (report_of input) (page 0 output) → long ≤ 480046
fits input output e = omega (arith, penned_at (report_of input) (page 0 output) e, room input)
