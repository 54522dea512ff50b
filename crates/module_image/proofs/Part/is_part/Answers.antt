use Rattle.std.proofs.Common.{arith}
use Rattle.module_image.specs.ModulePart.{bytes_of}
use Rattle.module_image.proofs.Laws.{part_byte_by_byte}
use Rattle.module_image.proofs.Part.is_part.Goals as goal

pub returns : goal.returns
returns c =
    simp (c.from-lower.ensures, c.from-matched.ensures, c.bit.ensures, c.bit-2.ensures)
    (part_byte_by_byte (bytes_of c.args.self) (omega arith) c.are_held.ensures c.is_stand.ensures)
