-- Samples one after the other, over the module alone (01, "Calls, refusals and their order"): the items of a trace up to the
-- first that is no sample.
use Rattle.std.specs.Prelude.{ℕ, Bool, cond, ◌&&◌, List, leb, ltb, length, get_or}
use Rattle.wire.specs.Wire.{scl_of, sda_of}
use Rattle.mssp.specs.declared.Module.{Module}
use Rattle.mssp.specs.Module.{module_of}
use Rattle.sampling.specs.Rules.{sampled}
use Rattle.stretch.specs.declared.Stretch.{Stretch}
use Rattle.stretch.specs.Seen.{line_of}
use Rattle.stretch.specs.Walk.{walked, steps}

-- An item above 3 is no sample.
abbrev pub no_sample : Module → ℕ → Bool
no_sample m item = ltb 3 item

abbrev pub sample_at : List ℕ → ℕ → Bool
sample_at items i = ltb i (length items) && leb (get_or items i 0) 3

abbrev pub sampled_at : Module → ℕ → Module
sampled_at m item = sampled m (scl_of item) (sda_of item)

-- After a stretch the module is in another phase and has seen another wire; nothing else has changed.
abbrev pub moved_on : Module → Stretch → Module
moved_on m ahead = module_of m.config m.live ahead.phase (line_of ahead.wire)

-- The module after the last sample, and how many samples there are.
pub record Fed : Type 0 where
  pub mssp : Module
  pub length : ℕ

abbrev pub fed_by : Module → ℕ → Fed
fed_by m n = record { mssp = m; length = n }

-- Past a stretch, where there is one.
abbrev pub passed_over : Module → Stretch → Module
passed_over m ahead = cond (ltb 0 ahead.length) (moved_on m ahead) m

abbrev pub fed_of : Module → List ℕ → Fed
fed_of m items = fed_by (walked no_sample sampled_at m items) (steps no_sample sampled_at m items)
