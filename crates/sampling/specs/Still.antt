-- The short way (02, 3): the wire level is the one that is remembered.
use Rattle.std.specs.Prelude.{ℕ, Bool, ◌&&◌}
use Rattle.std.specs.Bool.{beq}
use Rattle.wire.specs.Wire.{scl_of, sda_of, on_wire}
use Rattle.mssp.specs.declared.Phase.{Phase}
use Rattle.mssp.specs.Drivers.{scl_pulled, sda_pulled}

-- What a level is on the wire, with what the phase pulls, is what SCL and SDA were.
abbrev pub is_still : Phase → Bool → Bool → ℕ → Bool
is_still ph scl sda level =
    beq (on_wire (scl_pulled ph) (scl_of level)) scl && beq (on_wire (sda_pulled ph) (sda_of level)) sda
