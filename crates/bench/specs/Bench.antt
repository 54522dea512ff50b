-- The bench examples hold, computed over the whole table.
use Rattle.std.specs.Prelude.{T}
use Rattle.steps.specs.Step.{after_all}
use Rattle.bench.specs.Table.{table, passes}

-- THE BENCH: every row holds.
pub bench : T (passes table)
unfolding after_all
bench = tt
