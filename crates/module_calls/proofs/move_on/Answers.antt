use Rattle.module_calls.specs.Laws.{long_enough, stretch_way, long_way}
use Rattle.module_calls.proofs.move_on.Goals as goal

pub stand_in-s-requires : goal.stand_in-s-requires
stand_in-s-requires c = long_enough _ c.requires.state_value

pub save_stand-requires : goal.save_stand-requires
save_stand-requires c = long_enough _ c.requires.state_value

pub returns-then-ahead-gt0 : goal.returns-then-ahead-gt0
returns-then-ahead-gt0 c =
    stretch_way c.args.state.now c.requires.state_value c.args.level c.requires.level_bound c.stand_in-s.ensures c.over-ahead.ensures c.if-ahead-gt0.true c.line_of-line.ensures c.save_stand.ensures c.done.ensures

pub module_from-m-requires : goal.module_from-m-requires
module_from-m-requires c = long_enough _ c.requires.state_value

pub save-requires : goal.save-requires
save-requires c = long_enough _ c.requires.state_value

pub returns : goal.returns
returns c =
    long_way c.args.state.now c.requires.state_value c.args.level c.module_from-m.ensures (rw c.from.ensures at c.sample.ensures) c.save.ensures c.done-2.ensures
