-- The report (01, "Report program"; 02, 1): from the bytes of the input to the bytes of the output.
use Rattle.std.specs.Prelude.{ℕ, ◌+◌, Bool, cond, List, [], ◌∷◌, ◌++◌, Some, None, Ok, Err, ltb, length}
use Rattle.refusals.specs.declared.Refusal.TheVariants.{NoItem}
use Rattle.refusals.specs.Numbers.{number_of}
use Rattle.steps.specs.declared.Item.{Item}
use Rattle.input.specs.Input.{Meaning, asks_general, item_bytes, Parsed, all, foreign, parse}
use Rattle.watch.specs.declared.World.{World}
use Rattle.watch.specs.Watch.{Scene, scene_after, world_afresh, memory_afresh}
use Rattle.text.specs.Text.{said, decimal, event_line, numbered}
use Rattle.text.specs.Page.{Page, page, penned}

-- The line of an item with this number, over this memory.
abbrev pub line_of : World → List ℕ → ℕ → Item → List ℕ
line_of w memory item x =
    let s : Scene = scene_after w memory x in
    event_line item s.watched.heard s.watched.hit s.watched.world.state.handler.pointer

-- The lines of the items, numbered from `item` on; the pointer is that after the item.
unfoldable pub lines_from : World → List ℕ → ℕ → List Item → List ℕ
lines_from w memory item [] = []
lines_from w memory item (x ∷ xs) =
    let s : Scene = scene_after w memory x in
    event_line item s.watched.heard s.watched.hit s.watched.world.state.handler.pointer
    ++ lines_from s.watched.world s.memory (item + 1) xs

abbrev pub header : List ℕ
header = said "item event byte ack pointer\n"

-- The header, a line for each event, and the number of items taken; or the refusal of the first foreign byte. The world begins
-- with GCEN 1 where the general call is asked for.
abbrev pub parsed_report : Bool → Parsed → List ℕ
parsed_report general (all items) =
    header ++ (lines_from (world_afresh general) memory_afresh 0 items ++ numbered (said "end ") (length items))
parsed_report general (foreign n) = numbered (said "refused " ++ (decimal (number_of NoItem) ++ said " at ")) n

-- An input of more than 60,000 bytes, `g` among them, is too long, before all else.
unfoldable pub report_of : List ℕ → List ℕ
report_of input =
    cond (ltb 60000 (length input)) (said "too long\n") (parsed_report (asks_general input) (parse (item_bytes input)))

-- ---- the report as code goes through it, byte by byte
-- The world, the next item's number, the place of the next byte.
pub record Run : Type 0 where
  pub world : World
  pub item : ℕ
  pub at : ℕ

abbrev pub run_at : World → ℕ → ℕ → Run
run_at world item at = record { world = world; item = item; at = at }

pub record Progress : Type 0 where
  pub run : Run
  pub memory : List ℕ
  pub output : List ℕ

abbrev pub progress : Run → List ℕ → List ℕ → Progress
progress run memory output = record { run = run; memory = memory; output = output }

abbrev pub item_passed : Run → List ℕ → List ℕ → Item → Progress
item_passed run memory output x =
    let s : Scene = scene_after run.world memory x in
    let p : Page = penned (event_line run.item s.watched.heard s.watched.hit s.watched.world.state.handler.pointer) (page run.at output) in
    progress (run_at s.watched.world (run.item + 1) p.at) s.memory p.bytes

abbrev pub byte_passed : Run → List ℕ → List ℕ → Meaning → Progress
byte_passed run memory output (Ok None) = progress run memory output
byte_passed run memory output (Ok (Some x)) = item_passed run memory output x
byte_passed run memory output (Err e) = progress run memory output
