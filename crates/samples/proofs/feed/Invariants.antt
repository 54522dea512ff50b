-- `samples::feed` meets its contract: the loop is a walk, each stretch a part of it.
use Prim.Native.Nat.{◌-◌}
use lib.ListN.{length}
use Rattle.stretch.specs.Walking.{Walking}
use Rattle.samples.specs.Samples.{no_sample, sampled_at}
use Rattle.samples.proofs.feed.Given as goal

abbrev pub invariant-loop-ahead : goal.invariant-loop-ahead
invariant-loop-ahead l = Walking no_sample sampled_at l.items l.initial.m l.i l.m

abbrev pub decreases-loop-ahead : goal.decreases-loop-ahead
decreases-loop-ahead l = length l.items - l.i
