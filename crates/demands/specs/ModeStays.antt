-- What the theorems of proofs/ModeStays.antt say.
use Rattle.std.specs.Prelude.{◌≡◌, true}
use Rattle.mssp.specs.declared.Config.{Config}
use Rattle.register_bytes.specs.Bytes.{sspm_of}

-- Where SSPEN was 1 and is 1, SSPM is what it was.
abbrev pub KeepsMode : Config → Config → Type 0
KeepsMode before after = before.sspen ≡ true → after.sspen ≡ true → sspm_of after ≡ sspm_of before
