-- A page: a lent buffer and the place where the next byte goes.
use Rattle.std.specs.Prelude.{ℕ, ◌+◌, List, length}
use Rattle.std.proofs.lemmas.List.Edits.{sets}

pub record Page : Type 0 where
  pub at : ℕ
  pub bytes : List ℕ

abbrev pub page : ℕ → List ℕ → Page
page at bytes = record { at = at; bytes = bytes }

-- Bytes are written from the place on. The place goes on for all of them; those past the end of the buffer are not kept.
unfoldable pub penned : List ℕ → Page → Page
penned text p = page (p.at + length text) (sets p.bytes p.at text)
