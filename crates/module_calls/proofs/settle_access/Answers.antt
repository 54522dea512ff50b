use Rattle.registers.specs.Values.{access_of}
use Rattle.module_calls.specs.Laws.{long_enough, access_saved}
use Rattle.module_calls.proofs.settle_access.Goals as goal

pub save-requires : goal.save-requires
save-requires c = long_enough _ c.requires

pub returns-in-Ok : goal.returns-in-Ok
returns-in-Ok c =
    access_saved c.args.state.now c.requires (access_of c.args.access c.args.left) c.in-Ok.is c.done.ensures c.save.ensures
