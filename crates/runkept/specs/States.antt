-- Which states there are, module and handler, with a name for each clause (01, "A state is any setting of ..").
use Rattle.std.specs.Prelude.{◌<◌, ◌≤◌}
use Rattle.mssp.specs.Valid.{Valid}
use Rattle.firmware.specs.declared.Handler.{Handler}
use Rattle.firmware.specs.declared.State.{State}
use Rattle.firmware.specs.Handler.{longest_window}

-- The handler's clauses of a state (01, "A state is any setting of .."): n of 1 to the largest, the pointer below it.
pub record ValidHandler (h : Handler) : Type 0 where
  pub some : 0 < h.n
  pub most : h.n ≤ longest_window
  pub inside : h.pointer < h.n

pub record ValidState (s : State) : Type 0 where
  pub mssp : Valid s.mssp
  pub handler : ValidHandler s.handler
