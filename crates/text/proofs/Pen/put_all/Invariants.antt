use Rattle.std.specs.Prelude.{◌≡◌, take}
use Rattle.text.specs.Page.{penned}
use Rattle.text.specs.Pen.{page_of}
use Rattle.text.proofs.Pen.put_all.Given as goal

abbrev pub invariant-loop-byte : goal.invariant-loop-byte
invariant-loop-byte l = record {
  buffer : l.self.output.ghost_name ≡ l.initial.self.output.ghost_name;
  text : page_of l.self ≡ penned (take l.byte-index l.text) (page_of l.initial.self);
}
