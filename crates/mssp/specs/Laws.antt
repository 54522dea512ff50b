-- A state's test and its clauses by name say the same.
use Rattle.std.specs.Prelude.{T}
use Rattle.truth.specs.Tests.{and_both, and_left, and_right}
use Rattle.mssp.specs.declared.Module.{Module}
use Rattle.mssp.specs.Valid.{valid, Valid}

pub clauses : (m : Module) → T (valid m) → Valid m
clauses m v =
    record {
      parts = search (and_left, and_right) depth 9;
      condition = search (and_left, and_right) depth 9;
      mode = search (and_left, and_right) depth 9;
      off = search (and_left, and_right) depth 9;
      mark = search (and_left, and_right) depth 9;
      eight = search (and_left, and_right) depth 9;
      hold = search (and_left, and_right) depth 9;
      ten = search (and_left, and_right) depth 9;
    }

pub test : (m : Module) → Valid m → T (valid m)
test m v =
    search (and_both, v.parts, v.condition, v.mode, v.off, v.mark, v.eight, v.hold, v.ten) depth 9
