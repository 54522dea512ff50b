-- Whether a byte fits another one under a mask.
use Rattle.std.specs.Prelude.{ℕ, ◌/◌, ◌%◌, ◌^◌, Bool, ◌&&◌, ◌||◌, ◌==◌}

-- The mask does not ask for bit i, or both bytes have the same bit there.
abbrev pub agree : ℕ → ℕ → ℕ → ℕ → Bool
agree i byte add msk = msk / 2 ^ i % 2 == 0 || byte / 2 ^ i % 2 == add / 2 ^ i % 2

-- Bits 7 to 1 agree. Bit 0, which is R/W in an address, is not compared.
abbrev pub fits : ℕ → ℕ → ℕ → Bool
fits byte add msk =
    agree 1 byte add msk && agree 2 byte add msk && agree 3 byte add msk && agree 4 byte add msk
    && agree 5 byte add msk && agree 6 byte add msk && agree 7 byte add msk
