-- The address comparison (01, "From levels to bytes", Address; 02, 1 and 9): which address a first byte after a Start hits.
use Rattle.std.specs.Prelude.{ℕ, ◌/◌, ◌%◌, ◌^◌, Bool, true, false, if◌then◌else◌, ◌==◌, ◌&&◌, ◌||◌, not}
use Rattle.mssp.specs.declared.Config.{Config}
use Rattle.mssp.specs.Module.{is_ten_bit}
use Rattle.address.specs.declared.Hit.{Hit}
use Rattle.address.specs.declared.Hit.TheVariants.{None, Own, GeneralCall}

-- The numbers of the three answers.
abbrev pub hit_number : Hit → ℕ
hit_number None = 0
hit_number Own = 1
hit_number GeneralCall = 2

-- MSK does not ask for bit i, or the byte has ADD's.
abbrev pub agrees : ℕ → ℕ → ℕ → ℕ → Bool
agrees i add msk byte = msk / 2 ^ i % 2 == 0 || byte / 2 ^ i % 2 == add / 2 ^ i % 2

-- The byte fits ADD under MSK: bits 7 to 1 agree; bit 0 is R/W and is not compared.
abbrev pub fitting : ℕ → ℕ → ℕ → Bool
fitting add msk byte =
    agrees 1 add msk byte && agrees 2 add msk byte && agrees 3 add msk byte && agrees 4 add msk byte
    && agrees 5 add msk byte && agrees 6 add msk byte && agrees 7 add msk byte

-- A byte that fits is own, 00 too; else 00 is the general call where GCEN is 1.
abbrev pub hit_if : Bool → Bool → Hit
hit_if true general = Own
hit_if false true = GeneralCall
hit_if false false = None

-- In ten bits the high byte is compared with ADD's bits 7 to 1 alone: MSK has no part in it, and neither has GCEN (02, 9).
abbrev pub mask_of : Config → ℕ
mask_of c = if is_ten_bit c then 255 else c.msk

abbrev pub hit_of : Config → ℕ → Hit
hit_of c byte = hit_if (fitting c.add (mask_of c) byte) (not (is_ten_bit c) && c.gcen && byte == 0)

-- The module takes an own address and the general call alike.
abbrev pub is_taken : Hit → Bool
is_taken None = false
is_taken Own = true
is_taken GeneralCall = true
