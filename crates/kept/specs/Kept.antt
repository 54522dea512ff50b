-- What the theorems of proofs/Kept.antt say.
use Rattle.std.specs.Prelude.{ℕ}
use Rattle.mssp.specs.declared.Module.{Module}
use Rattle.mssp.specs.Valid.{Valid}
use Rattle.registers.specs.Values.{read_of}
use Rattle.writes.specs.Writes.{write_of}

-- By number: an accepted write keeps the state a state, and a refused one leaves it.
abbrev pub AccessReadKept : Type 0
AccessReadKept =
    (m : Module) (number : ℕ) → Valid m → Valid (read_of m number).mssp

abbrev pub AccessWriteKept : Type 0
AccessWriteKept =
    (m : Module) (number v : ℕ) → Valid m → Valid (write_of m number v).mssp
