-- Laws that the report's proofs cite: of its lines item by item, and of the whole.
use Rattle.std.specs.Prelude.{ℕ, ◌+◌, ◌<◌, ◌≤◌, ◌≡◌, refl, Bool, true, false, List, ◌++◌, Some, None, Result, Ok, Err, length, drop, get_or}
use Rattle.std.specs.Result.{result_unwrap_or}
use Rattle.std.proofs.Common.{sym, ap, ◌∙◌, true≢false, arith, length-append}
use mir.Val.{bool_byte}
use borrow.Author.Tests.{lt-ltb, le-ltb}
use Rattle.firmware.specs.declared.State.{State}
use Rattle.refusals.specs.declared.Refusal.{Refusal}
use Rattle.firmware.specs.Handler.{setup_of}
use Rattle.reader.specs.Reader.{reader_afresh}
use Rattle.steps.specs.declared.Item.{Item}
use Rattle.watch.specs.declared.World.{World}
use Rattle.input.specs.Input.{Meaning, cut_after, asks_general, Parsed, all, foreign, meaning_of, before, parse, checked, checked_of, clean, items_in}
use Rattle.input.specs.Laws.{parse_byte, parse_end, found-whole, found_cut}
use Rattle.watch.specs.Watch.{Watched, Scene, scene, world_of, scene_after, with_general_call, world_afresh, memory_afresh}
use Rattle.text.specs.Text.{said, decimal, event_line, numbered}
use Rattle.text.specs.Page.{Page, page, penned}
use Rattle.text.proofs.Laws.{penned_joined, penned_none, penned_at, texts_3}
use Rattle.lines.specs.Report.{Run, line_of, lines_from, header, parsed_report, report_of, run_at, Progress, progress, item_passed, byte_passed}

-- ---- the items, one by one
module _ (run : Run) (memory output : List ℕ) where
  pub item_passed_lem :
      (x : Item) {w : Watched} {left : List ℕ} {q : Page} → scene w left ≡ scene_after run.world memory x
      → q ≡ penned (event_line run.item w.heard w.hit w.world.state.handler.pointer) (page run.at output)
      → progress (run_at w.world (run.item + 1) q.at) left q.bytes ≡ item_passed run memory output x
  item_passed_lem x {w} {left} e f =
      ap (λ (t : Page). progress (run_at w.world (run.item + 1) t.at) left t.bytes) f
      ∙ ap (λ (s : Scene).
      let p : Page = penned (event_line run.item s.watched.heard s.watched.hit s.watched.world.state.handler.pointer) (page run.at output) in
      progress (run_at s.watched.world (run.item + 1) p.at) s.memory p.bytes) e

  pub next_item : (x : Item) {g : Progress} → g ≡ item_passed run memory output x → g.run.item ≡ run.item + 1
  next_item x e = ap (λ (g : Progress). g.run.item) e

  pub byte_passed_lem :
      (byte : ℕ) {here told : Meaning} → here ≡ told → here ≡ meaning_of byte
      → {g : Progress} → g ≡ byte_passed run memory output told → g ≡ byte_passed run memory output (meaning_of byte)
  byte_passed_lem byte e f k = k ∙ ap (byte_passed run memory output) (sym e ∙ f)

-- The page once the items left have their lines too.
abbrev pub finished : Progress → List Item → Page
finished g items = penned (lines_from g.run.world g.memory g.run.item items) (page g.run.at g.output)

-- What is left has the room that the whole had.
pub room_left :
    (g : Progress) (items : List Item) (whole : List ℕ) (p : Page) → finished g items ≡ penned whole p
    → g.run.at + length (lines_from g.run.world g.memory g.run.item items) ≡ p.at + length whole
room_left g items whole p e = sym (penned_at (lines_from g.run.world g.memory g.run.item items) (page g.run.at g.output) refl) ∙ penned_at whole p e

finished-byte :
    (run : Run) (memory output : List ℕ) (m : Meaning) (p : Parsed) → clean (before m p) ≡ true
    → (clean p ≡ true)
    × (finished (byte_passed run memory output m) (items_in p) ≡ finished (progress run memory output) (items_in (before m p)))
unfolding lines_from
finished-byte run memory output (Ok None) p h = (h, refl)
finished-byte run memory output (Ok (Some x)) (all xs) h = (refl, penned_joined _ _ (page run.at output))
finished-byte run memory output (Ok (Some x)) (foreign n) h = absurd (true≢false (sym h))
finished-byte run memory output (Err e) p h = absurd (true≢false (sym h))

-- What a byte of a clean input tells: an item, or that nothing is passed.
pub item_said : (m : Meaning) {x : Item} → result_unwrap_or m None ≡ Some x → m ≡ Ok (Some x)
item_said (Ok None) e = cc
item_said (Ok (Some y)) e = cc
item_said (Err f) e = cc

pub none_said : (run : Run) (memory output : List ℕ) (m : Meaning) → result_unwrap_or m None ≡ None → progress run memory output ≡ byte_passed run memory output m
none_said run memory output (Ok None) e = refl
none_said run memory output (Ok (Some y)) e = cc
none_said run memory output (Err f) e = refl

line_first : (w : World) (memory : List ℕ) (item : ℕ) (x : Item) (p : Parsed) → clean (before (Ok (Some x)) p) ≡ true
    → length (line_of w memory item x) ≤ length (lines_from w memory item (items_in (before (Ok (Some x)) p)))
unfolding lines_from
line_first w memory item x (all xs) h =
    let s : Scene = scene_after w memory x in
    let a = length-append (line_of w memory item x) (lines_from s.watched.world s.memory (item + 1) xs) in
    omega arith
line_first w memory item x (foreign n) h = absurd (true≢false (sym h))

module _ (input : List ℕ) (i : ℕ) (run : Run) (memory output : List ℕ) where
  -- The line of an item that stands here is the first of those that are left.
  pub line_left :
      i < length input → clean (parse (drop i input)) ≡ true → {x : Item} → Ok (Some x) ≡ meaning_of (get_or input i 0)
      → length (line_of run.world memory run.item x) ≤ length (lines_from run.world memory run.item (items_in (parse (drop i input))))
  line_left h c {x} e =
      let b = parse_byte input i h in
      rw (b, ← e) (line_first run.world memory run.item x (parse (drop (i + 1) input)) (rw (b, ← e) at c))

  pub play_more :
      i < length input → clean (parse (drop i input)) ≡ true
      → {g : Progress} → g ≡ byte_passed run memory output (meaning_of (get_or input i 0))
      → (clean (parse (drop (i + 1) input)) ≡ true)
      × (finished g (items_in (parse (drop (i + 1) input))) ≡ finished (progress run memory output) (items_in (parse (drop i input))))
  play_more h c e =
      let b = parse_byte input i h in
      let k = finished-byte run memory output (meaning_of (get_or input i 0)) (parse (drop (i + 1) input)) (rw b at c) in
      (k.0, rw (e, b) k.1)

  pub play_end : length input ≤ i → page run.at output ≡ finished (progress run memory output) (items_in (parse (drop i input)))
  unfolding lines_from
  play_end h = rw (parse_end input i h) (penned_none run.at output)

-- ---- the whole report
-- The setup is taken, and gives the state that the report begins with.
pub begun :
    (general : Bool) {made : Result State Refusal} {s first : State} → made ≡ setup_of 0x30 32 → made ≡ Ok s → first ≡ with_general_call general s
    → (items : List Item) (p : Page)
    → penned (lines_from (world_of first reader_afresh) memory_afresh 0 items) p ≡ penned (lines_from (world_afresh general) memory_afresh 0 items) p
begun general {s = s} e f g items p = let k : s ≡ (world_afresh false).state = cc in rw (g, k)

module _ (general : Bool) where
  report_whole : {n : ℕ} (p : Parsed) → checked p ≡ Ok n
      → header ++ (lines_from (world_afresh general) memory_afresh 0 (items_in p) ++ numbered (said "end ") n) ≡ parsed_report general p
  report_whole (all items) e = let k = found-whole (all items) e in rw k
  report_whole (foreign k) e = cc

  report_cut : {n : ℕ} (p : Parsed) → checked p ≡ cut_after n → numbered (said "refused 4 at ") n ≡ parsed_report general p
  unfolding decimal
  report_cut (all items) e = cc
  report_cut (foreign k) e = let f = found_cut (foreign k) e in rw f

  pub whole_report :
      (items : List ℕ) {n : ℕ} → checked_of items ≡ Ok n → (p : Page) {q r s : Page} → q ≡ penned header p
      → r ≡ penned (lines_from (world_afresh general) memory_afresh 0 (items_in (parse items))) q → s ≡ penned (numbered (said "end ") n) r
      → s ≡ penned (parsed_report general (parse items)) p
  whole_report items e p f g h = texts_3 _ _ _ p f g h ∙ rw (report_whole (parse items) e)

  pub cut_report :
      (items : List ℕ) {n : ℕ} → checked_of items ≡ cut_after n → (p : Page) {q : Page} → q ≡ penned (numbered (said "refused 4 at ") n) p
      → q ≡ penned (parsed_report general (parse items)) p
  cut_report items e p f = f ∙ rw (report_cut (parse items) e)

  -- How long the parts of a report are.
  pub parts_fit :
      (items : List ℕ) {n : ℕ} → checked_of items ≡ Ok n
      → length (parsed_report general (parse items))
      ≡ length header + length (lines_from (world_afresh general) memory_afresh 0 (items_in (parse items))) + length (numbered (said "end ") n)
  parts_fit items {n} e =
      let lines : List ℕ = lines_from (world_afresh general) memory_afresh 0 (items_in (parse items)) in
      let a = length-append header (lines ++ numbered (said "end ") n) in
      let b = length-append lines (numbered (said "end ") n) in
      omega (arith, ap length (report_whole (parse items) e))

  pub cut_fits :
      (items : List ℕ) {n : ℕ} → checked_of items ≡ cut_after n
      → length (parsed_report general (parse items)) ≡ length (numbered (said "refused 4 at ") n)
  cut_fits items e = sym (ap length (report_cut (parse items) e))

module _ (input : List ℕ) where
  pub short_report : {general : Bool} → length input ≤ 60000 → general ≡ asks_general input
      → report_of input ≡ parsed_report general (parse (drop (bool_byte general) input))
  unfolding report_of
  short_report small g = rw (g, le-ltb 60000 (length input) small)

  pub long_report : 60000 < length input → report_of input ≡ said "too long\n"
  unfolding report_of
  long_report h = rw (lt-ltb 60000 (length input) h)
