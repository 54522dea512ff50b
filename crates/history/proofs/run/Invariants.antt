-- The state and the window so far are what the items so far leave.
use Rattle.std.proofs.Common.{◌≡◌, take, length}
use Rattle.firmware.specs.Handler.{served}
use Rattle.history.specs.History.{history_of}
use Rattle.history.proofs.run.Given as goal

abbrev pub invariant-loop-code : goal.invariant-loop-code
invariant-loop-code l =
    (served l.state l.window ≡ history_of (served l.initial.state l.initial.window) (take l.code-index l.items)) × (length l.window ≡ length l.initial.window)
