-- What the finder carries from item to item: the record's line, and the edge of the item just read and where it lies.
use Rattle.std.specs.Prelude.{ℕ, zero, suc, List, None}
use Rattle.wire.specs.declared.Edge.{Edge}
use Rattle.wire.specs.declared.Edge.TheVariants.{Still}
use Rattle.wire.specs.Wire.{scl_of, sda_of, edge_of, line_after, unseen, is_start, is_stop}
use Rattle.finder.specs.declared.Carried.{Carried}
use Rattle.finder.specs.Messages.{line_before, edge_at, lies_at, lies_by}

-- Before item 0.
abbrev pub unread : Carried
unread = record { line = unseen; edge = Still; lies = None }

-- One item more, at its number and with its level.
abbrev pub read_on : Carried → ℕ → ℕ → Carried
read_on carried item level =
    let e : Edge = edge_of carried.line (scl_of level) (sda_of level) in
    record {
      line = line_after carried.line.mark e (scl_of level) (sda_of level);
      edge = e;
      lies = lies_by (is_start e) (is_stop carried.edge) carried.lies item;
    }

-- What is carried to an item of a record.
unfoldable pub carried_before : List ℕ → ℕ → Carried
carried_before levels zero = unread
carried_before levels (suc item) = record { line = line_before levels (suc item); edge = edge_at levels item; lies = lies_at levels item }
