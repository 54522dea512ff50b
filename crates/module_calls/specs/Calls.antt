-- What a read, a write, a sample, a look and a question which address hits answer and leave, for every input (01, "Calls,
-- refusals and their order"; 02, 1).
use Rattle.std.specs.Prelude.{ℕ, cond, Ok, Err, List, ltb}
use Rattle.refusals.specs.declared.Refusal.TheVariants.{NoState, NoItem}
use Rattle.refusals.specs.Numbers.{Verdict}
use Rattle.mssp.specs.declared.Module.{Module}
use Rattle.address.specs.Comparison.{hit_number, hit_of}
use Rattle.registers.specs.Values.{read_of}
use Rattle.writes.specs.Writes.{write_of}
use Rattle.firmware.specs.declared.State.{State}
use Rattle.firmware.specs.Handler.{state_of}
use Rattle.trace.specs.Run.{sampled_by}
use Rattle.view.specs.declared.View.{View}
use Rattle.view.specs.View.{view_of, no_view}
use Rattle.image.specs.Image.{encode_of, decode_of}
use Rattle.settling.specs.declared.Answer.{Answer}
use Rattle.settling.specs.Outcome.{Outcome, done, refused, settled, no_state, by_state, by_access}

-- ---- register access: only the module is reached
abbrev pub module_in : State → Module
module_in s = s.mssp

-- The image of a state with another module.
abbrev pub image_with : State → Module → List ℕ
image_with s m = encode_of (state_of m s.handler)

abbrev pub door_read : List ℕ → ℕ → Outcome
door_read bytes number = by_access module_in image_with (decode_of bytes) (λ m. read_of m number) bytes

abbrev pub door_write : List ℕ → ℕ → ℕ → Outcome
door_write bytes number value = by_access module_in image_with (decode_of bytes) (λ m. write_of m number value) bytes

-- ---- a sample: a level is 0 to 3
abbrev pub level_verdict : ℕ → Verdict
level_verdict level = cond (ltb 3 level) (Err NoItem) (Ok 0)

abbrev pub door_sample : List ℕ → ℕ → Outcome
door_sample bytes level =
    by_state (decode_of bytes) (no_state bytes) (λ s. settled (level_verdict level) 0 (encode_of (sampled_by s level)) bytes)

-- ---- what the scope draws: nothing changes
abbrev pub door_look : List ℕ → View
door_look bytes = by_state (decode_of bytes) no_view view_of

-- ---- which address a first byte hits, by the registers of an enabled module or of one that is not: nothing changes
abbrev pub door_hit : List ℕ → ℕ → Answer
door_hit bytes byte = by_state (decode_of bytes) (refused NoState 0) (λ s. done (hit_number (hit_of s.mssp.config byte)))
