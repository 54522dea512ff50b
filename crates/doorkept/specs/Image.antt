-- What the laws of proofs/Image.antt ask of a state set up and of an access: that what they leave is valid.
use Rattle.std.specs.Prelude.{◌≡◌, Ok, Result}
use Rattle.refusals.specs.declared.Refusal.{Refusal}
use Rattle.mssp.specs.declared.Module.{Module}
use Rattle.mssp.specs.Valid.{Valid as ValidModule}
use Rattle.registers.specs.Values.{Access}
use Rattle.firmware.specs.declared.State.{State}
use Rattle.runkept.specs.States.{ValidState}

abbrev pub MakesValid : Result State Refusal → Type 0
MakesValid made = (s : State) → made ≡ Ok s → ValidState s

abbrev pub KeepsValid : (Module → Access) → Type 0
KeepsValid work = (m : Module) → ValidModule m → ValidModule (work m).mssp
