-- The module pulls SCL in the four holds and SDA in a pulling slot and for 0 bits, and nowhere else (01, "From levels to
-- bytes": Hold, slot, Sending).
use Rattle.std.specs.Prelude.{ℕ, ◌≡◌, refl, Bool, true, false}
use Rattle.truth.specs.Tests.{never}
use Rattle.wire.specs.declared.Bits.{Bits}
use Rattle.wire.specs.Byte.{zero_at}
use Rattle.mssp.specs.declared.SlotCase.TheVariants.{Pulls, Refuses, Declines}
use Rattle.mssp.specs.declared.Which.{Which}
use Rattle.mssp.specs.declared.Next.{Next}
use Rattle.mssp.specs.declared.Phase.{Phase}
use Rattle.mssp.specs.declared.Phase.TheVariants.{Quiet, Address, Data, HeldBefore, Slot, HeldForSending, Sending, MasterAcknowledge, HeldForAdd}
use Rattle.mssp.specs.Drivers.{scl_pulled, sda_pulled}

-- The four holds.
pub data Holds : Phase → Type 0 where
  before_data : {bits : Bits} → Holds (Data bits true)
  before_acknowledge : {refused : Bool} {which : Which} → Holds (HeldBefore refused which)
  before_sending : Holds HeldForSending
  before_add : {next : Next} → Holds (HeldForAdd next)

-- A low SDA: a pulling slot, or a 0 bit of the byte being sent.
pub data Lowers : Phase → Type 0 where
  acknowledges : {which : Which} → Lowers (Slot Pulls which)
  sends_zero : {byte place : ℕ} → zero_at byte place ≡ true → Lowers (Sending byte place)

-- SCL is pulled exactly in the four holds.
pub scl_holds : (ph : Phase) → scl_pulled ph ≡ true → Holds ph
scl_holds Quiet h = never h
scl_holds (Address bits low) h = never h
scl_holds (Data bits true) h = before_data
scl_holds (Data bits false) h = never h
scl_holds (HeldBefore refused which) h = before_acknowledge
scl_holds (Slot slot which) h = never h
scl_holds HeldForSending h = before_sending
scl_holds (Sending byte place) h = never h
scl_holds MasterAcknowledge h = never h
scl_holds (HeldForAdd next) h = before_add

pub holds_scl : {ph : Phase} → Holds ph → scl_pulled ph ≡ true
holds_scl before_data = refl
holds_scl before_acknowledge = refl
holds_scl before_sending = refl
holds_scl before_add = refl

-- SDA is pulled exactly in a pulling slot and at the 0 bits of the byte being sent.
pub sda_lowers : (ph : Phase) → sda_pulled ph ≡ true → Lowers ph
sda_lowers Quiet h = never h
sda_lowers (Address bits low) h = never h
sda_lowers (Data bits held) h = never h
sda_lowers (HeldBefore refused which) h = never h
sda_lowers (Slot Pulls which) h = acknowledges
sda_lowers (Slot Refuses which) h = never h
sda_lowers (Slot Declines which) h = never h
sda_lowers HeldForSending h = never h
sda_lowers (Sending byte place) h = sends_zero h
sda_lowers MasterAcknowledge h = never h
sda_lowers (HeldForAdd next) h = never h

pub lowers_sda : {ph : Phase} → Lowers ph → sda_pulled ph ≡ true
lowers_sda acknowledges = refl
lowers_sda (sends_zero h) = h
