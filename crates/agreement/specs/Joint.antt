-- The joint run of module and handler with plain reader and plain device, what demand 3 says of it, and what it says of the
-- time before the first Start.
use Rattle.std.specs.Prelude.{ℕ, ◌≡◌, Bool, true, false, cond, List, [], ◌∷◌, ◌++◌, length}
use Rattle.wire.specs.Wire.{on_wire, scl_high}
use Rattle.mssp.specs.Module.{setup}
use Rattle.mssp.specs.Phases.{is_refused}
use Rattle.mssp.specs.Drivers.{scl_pulled, sda_pulled}
use Rattle.memory.specs.Memory.{Memory, memory_of}
use Rattle.firmware.specs.declared.State.{State}
use Rattle.firmware.specs.Handler.{Served, served, state_of, handler_of}
use Rattle.steps.specs.declared.Item.{Item}
use Rattle.steps.specs.declared.Item.TheVariants.{Sample, Call, Read, Write, NotAnItem}
use Rattle.steps.specs.Step.{after}
use Rattle.reader.specs.declared.Reader.{Reader}
use Rattle.reader.specs.declared.Heard.{Heard}
use Rattle.reader.specs.declared.Heard.TheVariants.{Silence, Started, Stopped, Byte}
use Rattle.plain.specs.declared.Turn.TheVariants.{Off}
use Rattle.reader.specs.Reader.{reader_afresh}
use Rattle.reader.specs.Record.{Level, level, heard_one, read_all}
use Rattle.plain.specs.Device.{Plain, plain_of, hears, owes}

-- Module and handler with the bytes of their window; the plain reader; the plain device; its memory before the last byte,
-- and the level of that byte's ninth clock.
pub record Joint : Type 0 where
  pub state : State
  pub bytes : List ℕ
  pub reader : Reader
  pub device : Plain
  pub before : Memory
  pub ninth : Bool

abbrev pub joint : State → List ℕ → Reader → Plain → Memory → Bool → Joint
joint state bytes reader device before ninth =
    record { state = state; bytes = bytes; reader = reader; device = device; before = before; ninth = ninth }

-- The clock is held; SDA is pulled.
abbrev pub held : Joint → Bool
held j = scl_pulled j.state.mssp.phase

abbrev pub pulled : Joint → Bool
pulled j = sda_pulled j.state.mssp.phase

-- The handler's memory and pointer.
abbrev pub memory : Joint → Memory
memory j = memory_of j.bytes j.state.handler.pointer

-- The memory before the last byte: a byte that is heard leaves the one that it found.
abbrev pub before_after : Heard → Memory → Memory → Memory
before_after Silence now before = before
before_after Started now before = before
before_after Stopped now before = before
before_after (Byte first byte ninth) now before = now

abbrev pub ninth_after : Heard → Bool → Bool
ninth_after Silence before = before
ninth_after Started before = before
ninth_after Stopped before = before
ninth_after (Byte first byte ninth) before = ninth

-- Module, handler and window, as the items of a run leave them.
abbrev pub left : Joint → Served
left j = served j.state j.bytes

-- What the wire shows of an item: a level for a sample, which is low where the module pulls; nothing for any other.
abbrev pub shown : Joint → Item → List Level
shown j (Sample scl sda) = level (on_wire (held j) scl) (on_wire (pulled j) sda) ∷ []
shown j Call = []
shown j (Read number) = []
shown j (Write number value) = []
shown j NotAnItem = []

-- What the reader hears of that, one level at most.
abbrev pub heard_from : Reader → List Level → Heard
heard_from r [] = Silence
heard_from r (w ∷ levels) = heard_one r w

abbrev pub heard_in : Joint → Item → Heard
heard_in j item = heard_from j.reader (shown j item)

-- An item is one step of module, handler and window; the reader reads what the wire shows of it, and the device hears that.
abbrev pub step : ℕ → ℕ → Joint → Item → Joint
step n add j item =
    let done : Served = after (left j) item in
    let heard : Heard = heard_in j item in
    record {
      state = done.state;
      bytes = done.bytes;
      reader = read_all j.reader (shown j item);
      device = hears n add heard j.device;
      before = before_after heard j.device.memory j.before;
      ninth = ninth_after heard j.ninth;
    }

abbrev pub run : ℕ → ℕ → Joint → List Item → Joint
run n add j [] = j
run n add j (item ∷ items) = run n add (step n add j item) items

-- What the wire shows during a joint run.
abbrev pub wires : ℕ → ℕ → Joint → List Item → List Level
wires n add j [] = []
wires n add j (item ∷ items) = shown j item ++ wires n add (step n add j item) items

-- Set up afresh over some bytes.
abbrev pub afresh : ℕ → List ℕ → Joint
afresh add bytes =
    record {
      state = state_of (setup add) (handler_of (length bytes) 0 false);
      bytes = bytes;
      reader = reader_afresh;
      device = plain_of (memory_of bytes 0) Off;
      before = memory_of bytes 0;
      ninth = true;
    }

-- ---- what demand 3 says after an item of a run
-- It speaks of samples and handler calls; a register access from outside is none of the handler's.
pub data SamplesAndCalls : List Item → Type 0 where
  ended : SamplesAndCalls []
  sample : {scl sda : Bool} {items : List Item} → SamplesAndCalls items → SamplesAndCalls (Sample scl sda ∷ items)
  call : {items : List Item} → SamplesAndCalls items → SamplesAndCalls (Call ∷ items)

-- Memory and pointer are the plain device's while the clock is not held, those before the last byte while it is.
abbrev pub SameMemory : Joint → Type 0
SameMemory j = memory j ≡ cond (held j) j.before j.device.memory

-- One handler call ends a hold.
abbrev pub EndedByOneCall : Joint → Type 0
EndedByOneCall j = scl_pulled (after (left j) Call).state.mssp.phase ≡ false

-- SDA is pulled exactly where the plain device owes a low.
abbrev pub PulledWhereOwed : ℕ → Joint → Type 0
PulledWhereOwed add j = pulled j ≡ owes add (held j) (scl_high j.reader.line.remembered) j.reader.place j.device.turn

-- The clock is held only after an acknowledged byte: the last ninth clock was low.
abbrev pub HeldAfterAcknowledge : Joint → Type 0
HeldAfterAcknowledge j = held j ≡ true → j.ninth ≡ false

pub record Agrees (add : ℕ) (j : Joint) : Type 0 where
  pub memories : SameMemory j
  pub once : EndedByOneCall j
  pub owed : PulledWhereOwed add j
  pub acknowledged : HeldAfterAcknowledge j

-- The last intake was not refused: neither its hold nor its slot is, and SSPOV is 0.
abbrev pub NotRefused : Joint → Type 0
NotRefused j = (is_refused j.state.mssp.phase ≡ false) × (j.state.mssp.live.sspov ≡ false)

-- ---- before the first Start
-- No Start is heard during a run.
abbrev pub NoStart : ℕ → ℕ → Joint → List Item → Type 0
NoStart n add j [] = Unit {0}
NoStart n add j (item ∷ items) = (heard_in j item ≡ Started → ⊥) × NoStart n add (step n add j item) items

-- No pull, no hold, no interrupt, no change of memory or pointer.
pub record Untouched (bytes : List ℕ) (j : Joint) : Type 0 where
  pub no_pull : pulled j ≡ false
  pub no_hold : held j ≡ false
  pub no_interrupt : j.state.mssp.live.sspif ≡ false
  pub no_change : memory j ≡ memory_of bytes 0
