-- A memory with a pointer (01, "Handler and plain device"). The handler and the plain device both move it by these alone.
use Rattle.std.specs.Prelude.{ℕ, ◌+◌, ◌%◌, Bool, true, false, if◌then◌else◌, ◌==◌, List, slice_index_or, slice_set}

-- x modulo n. There is no memory of 0 bytes; the number is then 0, so that every call has an answer.
abbrev pub modulo : ℕ → ℕ → ℕ
modulo n x = if n == 0 then 0 else x % n

-- The pointer, one on, modulo n.
abbrev pub pointer_on : ℕ → ℕ → ℕ
pointer_on n pointer = modulo n (pointer + 1)

pub record Memory : Type 0 where
  pub bytes : List ℕ
  pub pointer : ℕ

abbrev pub memory_of : List ℕ → ℕ → Memory
memory_of bytes pointer = record { bytes = bytes; pointer = pointer }

-- The byte at the pointer.
abbrev pub peeked : Memory → ℕ
peeked m = slice_index_or m.bytes m.pointer 0

-- After a byte has been laid out for the master.
abbrev pub laid_out : ℕ → Memory → Memory
laid_out n m = memory_of m.bytes (pointer_on n m.pointer)

-- A byte of a write: the pointer if one is due, else stored, and the pointer one on.
abbrev pub put : ℕ → Bool → ℕ → Memory → Memory
put n true byte m = memory_of m.bytes (modulo n byte)
put n false byte m = memory_of (slice_set m.bytes m.pointer byte) (pointer_on n m.pointer)
