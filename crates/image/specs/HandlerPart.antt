-- The handler's part of an image: n and the pointer, each low byte first, and whether a pointer is due; and the way back.
use Rattle.std.specs.Prelude.{ℕ, ◌+◌, ◌*◌, ◌/◌, ◌%◌, Bool, ◌&&◌, List, [], ◌∷◌, eqb, ltb, get_or, take}
use mir.Val.{bool_byte}
use Rattle.codec.specs.Codec.{same_bytes}
use Rattle.firmware.specs.declared.Handler.{Handler}
use Rattle.firmware.specs.Handler.{is_window_length, handler_of}

-- A number of two bytes.
abbrev pub low : ℕ → ℕ
low n = n % 256

abbrev pub high : ℕ → ℕ
high n = n / 256

abbrev pub word : ℕ → ℕ → ℕ
word lower upper = lower + 256 * upper

abbrev pub handler_part : Handler → List ℕ
handler_part h =
    low h.n ∷ high h.n ∷ low h.pointer ∷ high h.pointer ∷ bool_byte h.due ∷ []

-- The handler that the first 5 bytes name, whether they are its part or not.
abbrev pub handler_from : List ℕ → Handler
handler_from b = handler_of (word (get_or b 0 0) (get_or b 1 0)) (word (get_or b 2 0) (get_or b 3 0)) (eqb (get_or b 4 0) 1)

abbrev pub handler_length : ℕ
handler_length = 5

-- An n that a window can have, and a pointer below n (01, "Calls, refusals and their order").
abbrev pub handler_valid : Handler → Bool
handler_valid h = is_window_length h.n && ltb h.pointer h.n

-- Bytes begin with the part of the handler that they name, and it is valid.
abbrev pub is_handler : List ℕ → Bool
is_handler b = same_bytes (handler_part (handler_from b)) (take handler_length b) && handler_valid (handler_from b)
