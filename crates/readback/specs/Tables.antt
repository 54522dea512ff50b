-- What a register holds, which of its bits a write takes or clears, and which registers a write leaves alone (01, "Register numbers").
use Rattle.std.specs.Prelude.{ℕ, ◌≡◌, Bool, cond, ◌&&◌, List, [], ◌∷◌}
use Rattle.wire.specs.Byte.{bit}
use Rattle.mssp.specs.declared.Module.{Module}
use Rattle.registers.specs.declared.Register.{Register}
use Rattle.registers.specs.declared.Register.TheVariants.{Buf, Stat, Con1, Con2, Con3, Add, Msk, Flag}
use Rattle.registers.specs.Values.{value_of}
use Rattle.writes.specs.Writes.{written}
use Rattle.readback.specs.Bits.{each_bit}

-- What a register of a module holds.
abbrev pub holds : Register → Module → ℕ
holds r m = value_of m r

-- The bits that a write takes, as a mask.
abbrev pub takes : Register → ℕ
takes Buf = 0
takes Stat = 0xC0
takes Con1 = 0x3F
takes Con2 = 0xA1
takes Con3 = 0x6F
takes Add = 0xFF
takes Msk = 0xFF
takes Flag = 0

-- The bits that a write can only clear: WCOL, SSPOV and SSPIF.
abbrev pub clears : Register → ℕ
clears Buf = 0
clears Stat = 0
clears Con1 = 0xC0
clears Con2 = 0
clears Con3 = 0
clears Add = 0
clears Msk = 0
clears Flag = 0x01

-- A bit after a write: the new one where it is taken, both where it can only be cleared, else the old one.
abbrev pub bit_after : Bool → Bool → Bool → Bool → Bool
bit_after taken cleared old new = cond taken new (cond cleared (old && new) old)

abbrev pub byte_after : ℕ → ℕ → ℕ → ℕ → ℕ
byte_after taken cleared old new = each_bit (λ i. bit_after (bit i taken) (bit i cleared) (bit i old) (bit i new))

-- A register byte after a write: what the masks say of its old value and of what was written.
abbrev pub ReadsBack : Register → ℕ → Module → Type 0
ReadsBack r v m = holds r (written r v m) ≡ byte_after (takes r) (clears r) (holds r m) v

-- The registers that a write to one leaves alone. BUF's write may set BF in STAT or WCOL in CON1; CON1's may clear, where
-- it disables, bits of STAT and ACKTIM in CON3; ADD's ends UA in STAT.
abbrev pub apart : Register → List Register
apart Buf = Con2 ∷ Con3 ∷ Add ∷ Msk ∷ Flag ∷ []
apart Stat = Buf ∷ Con1 ∷ Con2 ∷ Con3 ∷ Add ∷ Msk ∷ Flag ∷ []
apart Con1 = Buf ∷ Con2 ∷ Add ∷ Msk ∷ Flag ∷ []
apart Con2 = Buf ∷ Stat ∷ Con1 ∷ Con3 ∷ Add ∷ Msk ∷ Flag ∷ []
apart Con3 = Buf ∷ Stat ∷ Con1 ∷ Con2 ∷ Add ∷ Msk ∷ Flag ∷ []
apart Add = Buf ∷ Con1 ∷ Con2 ∷ Con3 ∷ Msk ∷ Flag ∷ []
apart Msk = Buf ∷ Stat ∷ Con1 ∷ Con2 ∷ Con3 ∷ Add ∷ Flag ∷ []
apart Flag = Buf ∷ Stat ∷ Con1 ∷ Con2 ∷ Con3 ∷ Add ∷ Msk ∷ []

abbrev pub values : List Register → Module → List ℕ
values [] m = []
values (r ∷ rs) m = holds r m ∷ values rs m
