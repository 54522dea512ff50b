-- What these calls promise beside their contracts (01, "Calls, refusals and their order"): a refused one leaves the state's bytes.
use Rattle.std.specs.Prelude.{ℕ, List}
use Rattle.registers.specs.Values.{read_of}
use Rattle.writes.specs.Writes.{write_of}
use Rattle.trace.specs.Run.{sampled_by}
use Rattle.image.specs.Image.{encode_of, decode_of}
use Rattle.settling.specs.Outcome.{settled, Keeps}
use Rattle.settling.proofs.Theorems.{settled_keeps, state_keeps, access_keeps}
use Rattle.module_calls.specs.Calls.{module_in, image_with, door_read, door_write, level_verdict, door_sample}

module _ (bytes : List ℕ) where
  pub read_keeps : (number : ℕ) → Keeps bytes (door_read bytes number)
  read_keeps number = access_keeps bytes (decode_of bytes) module_in image_with (λ m. read_of m number)

  pub write_keeps : (number value : ℕ) → Keeps bytes (door_write bytes number value)
  write_keeps number value = access_keeps bytes (decode_of bytes) module_in image_with (λ m. write_of m number value)

  pub sample_keeps : (level : ℕ) → Keeps bytes (door_sample bytes level)
  sample_keeps level =
      state_keeps bytes (decode_of bytes) (λ s. settled (level_verdict level) 0 (encode_of (sampled_by s level)) bytes)
      (λ s. settled_keeps bytes (level_verdict level) 0 (encode_of (sampled_by s level)))
