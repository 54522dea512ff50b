-- A byte and its bits: one bit of a number, and the bits so far of a byte on the wire, most significant first.
use Rattle.std.specs.Prelude.{ℕ, ◌+◌, ◌*◌, ◌-◌, ◌/◌, ◌%◌, ◌^◌, Bool, eqb}
use mir.Val.{bool_byte}
use Rattle.wire.specs.declared.Bits.{Bits}

-- Bit i of a number, bit 0 the least significant.
abbrev pub bit : ℕ → ℕ → Bool
bit i v = eqb (v / 2 ^ i % 2) 1

-- The bit at a place counted from the most significant, 0 to 7, is 0.
abbrev pub zero_at : ℕ → ℕ → Bool
zero_at byte place = eqb (byte / 2 ^ (7 - place % 8) % 2) 0

abbrev pub none : Bits
none = record { count = 0; value = 0 }

-- Bits are taken at rises (01, "From levels to bytes"). Of fewer than eight bits the remainders change nothing.
abbrev pub pushed : Bits → Bool → Bits
pushed b sda = record { count = b.count % 8 + 1; value = b.value % 128 * 2 + bool_byte sda }

-- The fall after the eighth rise ends a byte.
abbrev pub whole : Bits → Bool
whole b = eqb b.count 8
