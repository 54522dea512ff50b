-- One item, one step: what an item does to module, handler and window, and what it answers; and the items of a list one after
-- the other.
use Rattle.std.specs.Prelude.{ℕ, Ok, Err, List, [], ◌∷◌}
use Rattle.refusals.specs.Numbers.{Verdict}
use Rattle.refusals.specs.declared.Refusal.TheVariants.{NoItem}
use Rattle.sampling.specs.Rules.{sampled}
use Rattle.registers.specs.Values.{Access, read_of}
use Rattle.writes.specs.Writes.{write_of}
use Rattle.firmware.specs.declared.State.{State}
use Rattle.firmware.specs.Handler.{Served, served, state_of, called}
use Rattle.steps.specs.declared.Item.{Item}
use Rattle.steps.specs.declared.Item.TheVariants.{Sample, Call, Read, Write, NotAnItem}

-- What a step decides: the verdict, and what it leaves.
pub record Stepped : Type 0 where
  pub verdict : Verdict
  pub left : Served

abbrev pub stepped : Verdict → State → List ℕ → Stepped
stepped verdict s bytes = record { verdict = verdict; left = served s bytes }

-- A register access reaches the module alone.
abbrev pub accessed : Access → State → List ℕ → Stepped
accessed access s bytes = stepped access.verdict (state_of access.mssp s.handler) bytes

-- A sample moves the module; a handler call works on all three; an access answers. What is refused, an access or what is no
-- item, changes nothing.
abbrev pub step_of : State → List ℕ → Item → Stepped
step_of s bytes (Sample scl sda) = stepped (Ok 0) (state_of (sampled s.mssp scl sda) s.handler) bytes
step_of s bytes Call = record { verdict = Ok 0; left = called s bytes }
step_of s bytes (Read number) = accessed (read_of s.mssp number) s bytes
step_of s bytes (Write number value) = accessed (write_of s.mssp number value) s bytes
step_of s bytes NotAnItem = stepped (Err NoItem) s bytes

-- What an item leaves.
abbrev pub after : Served → Item → Served
after w item = (step_of w.state w.bytes item).left

-- All the items one after the other, each on what the one before it left.
unfoldable pub after_all : Served → List Item → Served
after_all w [] = w
after_all w (item ∷ items) = after_all (after w item) items
