-- The wire is watched while the items are played (01, "Report program"; 02, 1): module and handler over their memory, and the
-- plain reader fed with the wire.
use Rattle.std.specs.Prelude.{ℕ, Bool, true, false, List, replicate}
use Rattle.wire.specs.Wire.{on_wire}
use Rattle.mssp.specs.declared.Config.{Config}
use Rattle.mssp.specs.Module.{setup}
use Rattle.mssp.specs.Drivers.{scl_pulled, sda_pulled}
use Rattle.address.specs.declared.Hit.{Hit}
use Rattle.address.specs.declared.Hit.TheVariants.{None}
use Rattle.address.specs.Comparison.{hit_of}
use Rattle.writes.specs.Writes.{write_of}
use Rattle.firmware.specs.declared.State.{State}
use Rattle.firmware.specs.Handler.{Served, served, state_of, handler_of}
use Rattle.reader.specs.declared.Reader.{Reader}
use Rattle.reader.specs.declared.Heard.{Heard}
use Rattle.reader.specs.declared.Heard.TheVariants.{Silence, Started, Stopped, Byte}
use Rattle.reader.specs.Reader.{reader_after, heard_of, reader_afresh}
use Rattle.steps.specs.declared.Item.{Item}
use Rattle.steps.specs.declared.Item.TheVariants.{Sample, Call, Read, Write, NotAnItem}
use Rattle.steps.specs.Step.{after}
use Rattle.watch.specs.declared.World.{World}

abbrev pub world_of : State → Reader → World
world_of s reader = record { state = s; reader = reader }

-- The world after an item, what the reader heard at it, and which address a byte that was heard hits.
pub record Watched : Type 0 where
  pub world : World
  pub heard : Heard
  pub hit : Hit

abbrev pub watched_of : World → Heard → Hit → Watched
watched_of world heard hit = record { world = world; heard = heard; hit = hit }

-- What an item leaves: the world with what was heard, and the memory.
pub record Scene : Type 0 where
  pub watched : Watched
  pub memory : List ℕ

abbrev pub scene : Watched → List ℕ → Scene
scene w memory = record { watched = w; memory = memory }

-- The reader after an item, and what it heard at it.
pub record Listened : Type 0 where
  pub reader : Reader
  pub heard : Heard

abbrev pub listened_of : Reader → Heard → Listened
listened_of reader heard = record { reader = reader; heard = heard }

-- The wire is the sample lowered by what the module pulls; an event belongs to the level that made its edge.
abbrev pub level_seen : World → Bool → Bool → Listened
level_seen w scl sda =
    listened_of
    (reader_after w.reader (on_wire (scl_pulled w.state.mssp.phase) scl) (on_wire (sda_pulled w.state.mssp.phase) sda))
    (heard_of w.reader (on_wire (scl_pulled w.state.mssp.phase) scl) (on_wire (sda_pulled w.state.mssp.phase) sda))

-- What the reader makes of an item: only a sample is on the wire, of any other it sees nothing.
abbrev pub item_seen : World → Item → Listened
item_seen w (Sample scl sda) = level_seen w scl sda
item_seen w Call = listened_of w.reader Silence
item_seen w (Read number) = listened_of w.reader Silence
item_seen w (Write number value) = listened_of w.reader Silence
item_seen w NotAnItem = listened_of w.reader Silence

-- Which address a byte that was heard hits, by the module's registers, acknowledged or not; none where no byte was heard.
abbrev pub hit_heard : Config → Heard → Hit
hit_heard c Silence = None
hit_heard c Started = None
hit_heard c Stopped = None
hit_heard c (Byte first byte level) = hit_of c byte

-- State and memory are those after the item's step; beside them the reader, what it heard, and what that hits.
abbrev pub scene_of : Config → Served → Listened → Scene
scene_of c left seen = scene (watched_of (world_of left.state seen.reader) seen.heard (hit_heard c seen.heard)) left.bytes

abbrev pub scene_after : World → List ℕ → Item → Scene
scene_after w memory item = scene_of w.state.mssp.config (after (served w.state memory) item) (item_seen w item)

-- Where the general call is asked for, CON2 (3) is written 81 (hex) after the setup: GCEN 1, and SEN stays 1.
abbrev pub with_general_call : Bool → State → State
with_general_call false s = s
with_general_call true s = state_of (write_of s.mssp 3 0x81).mssp s.handler

-- ADD is 30 (hex), the memory 32 zero bytes; no level has been seen.
abbrev pub memory_afresh : List ℕ
memory_afresh = replicate 32 0

abbrev pub world_afresh : Bool → World
world_afresh general = world_of (with_general_call general (state_of (setup 0x30) (handler_of 32 0 false))) reader_afresh
