-- The plain device (01, "Handler and plain device"): memory, pointer and turn, what it does with what it hears, and where
-- it owes a low SDA.
use Rattle.std.specs.Prelude.{ℕ, ◌/◌, ◌%◌, ◌^◌, pred, Bool, true, false, ◌&&◌, not, List, ◌==◌}
use Rattle.wire.specs.declared.Bits.{Bits}
use Rattle.wire.specs.Byte.{bit, zero_at}
use Rattle.memory.specs.Memory.{Memory, memory_of, peeked, laid_out, put}
use Rattle.reader.specs.declared.Place.{Place}
use Rattle.reader.specs.declared.Place.TheVariants.{Idle, Within, Ending}
use Rattle.reader.specs.declared.Heard.{Heard}
use Rattle.reader.specs.declared.Heard.TheVariants.{Silence, Started, Stopped, Byte}
use Rattle.plain.specs.declared.Turn.{Turn}
use Rattle.plain.specs.declared.Turn.TheVariants.{Off, Writing, Reading}
use Rattle.plain.specs.declared.Device.{Device}

-- Bits 7 to 1 of a byte equal ADD's.
abbrev pub same_bit : ℕ → ℕ → ℕ → Bool
same_bit i add byte = byte / 2 ^ i % 2 == add / 2 ^ i % 2

abbrev pub own : ℕ → ℕ → Bool
own add byte =
    same_bit 1 add byte && same_bit 2 add byte && same_bit 3 add byte && same_bit 4 add byte && same_bit 5 add byte
    && same_bit 6 add byte && same_bit 7 add byte

-- A device over n bytes: its memory and its turn.
pub record Plain : Type 0 where
  pub memory : Memory
  pub turn : Turn

abbrev pub plain_of : Memory → Turn → Plain
plain_of memory turn = record { memory = memory; turn = turn }

-- The first byte after a Start: not the device's; or a write turn, its pointer due; or a read turn, a byte laid out.
abbrev pub first_byte : ℕ → Bool → Bool → Memory → Plain
first_byte n false read m = plain_of m Off
first_byte n true false m = plain_of m (Writing true)
first_byte n true true m = plain_of (laid_out n m) (Reading (peeked m))

-- A later byte: taken in a write turn; in a read turn the master's 0 lays out the next, its 1 ends the turn.
abbrev pub later_byte : ℕ → ℕ → Turn → Bool → Memory → Plain
later_byte n byte Off level m = plain_of m Off
later_byte n byte (Writing due) level m = plain_of (put n due byte m) (Writing false)
later_byte n byte (Reading out) true m = plain_of m Off
later_byte n byte (Reading out) false m = plain_of (laid_out n m) (Reading (peeked m))

-- Start and Stop end the turn.
abbrev pub hears : ℕ → ℕ → Heard → Plain → Plain
hears n add Silence d = d
hears n add Started d = plain_of d.memory Off
hears n add Stopped d = plain_of d.memory Off
hears n add (Byte true byte level) d = first_byte n (own add byte) (bit 0 byte) d.memory
hears n add (Byte false byte level) d = later_byte n byte d.turn level d.memory

-- The place of the laid-out bit that is on the wire: SCL low, the bits so far; SCL high, the one just taken.
abbrev pub place_of : Bool → Bits → ℕ
place_of true bits = pred bits.count
place_of false bits = bits.count

-- The 0 bits of a laid-out byte, its first bit from the end of the hold on.
abbrev pub owes_bit : Bool → Bool → Bits → Turn → Bool
owes_bit held scl bits Off = false
owes_bit held scl bits (Writing due) = false
owes_bit held scl bits (Reading out) = not held && zero_at out (place_of scl bits)

-- The ninth slot of a later byte: owed in a write turn.
abbrev pub owes_later : Turn → Bool
owes_later Off = false
owes_later (Writing due) = true
owes_later (Reading out) = false

-- A low SDA is owed, by whether the clock is held, the wire's SCL, the reader's place and the turn.
abbrev pub owes : ℕ → Bool → Bool → Place → Turn → Bool
owes add held scl Idle turn = false
owes add held scl (Within true bits) turn = false
owes add held scl (Within false bits) turn = owes_bit held scl bits turn
owes add held scl (Ending true byte ninth) turn = own add byte
owes add held scl (Ending false byte ninth) turn = owes_later turn

-- The device as code keeps it: length, pointer and turn by value, the memory's bytes lent.
abbrev pub device_of : ℕ → ℕ → Turn → Device
device_of n pointer turn = record { n = n; pointer = pointer; turn = turn }

abbrev pub device_memory : Device → List ℕ → Memory
device_memory d bytes = memory_of bytes d.pointer

abbrev pub device_is : Device → List ℕ → Plain
device_is d bytes = plain_of (device_memory d bytes) d.turn

pub record LeftDevice : Type 0 where
  pub device : Device
  pub bytes : List ℕ

abbrev pub left_device : Device → List ℕ → LeftDevice
left_device d bytes = record { device = d; bytes = bytes }

-- What code leaves of a device and of its memory's bytes.
abbrev pub left_of : ℕ → Plain → LeftDevice
left_of n p = left_device (device_of n p.memory.pointer p.turn) p.memory.bytes

abbrev pub laying_out : Device → List ℕ → Device
laying_out d bytes = device_of d.n (laid_out d.n (device_memory d bytes)).pointer (Reading (peeked (device_memory d bytes)))
