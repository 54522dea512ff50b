-- The report's input (01, "Report program"; 02, 1): what each byte is, and the items that the bytes give.
use Rattle.std.specs.Prelude.{ℕ, suc, ◌-◌, Bool, true, false, cond, ◌||◌, List, [], ◌∷◌, Option, Some, None, Result, Ok, Err, eqb, ltb, length, drop, get_or}
use Prim.Native.Char.{code}
use mir.Val.{bool_byte}
use Rattle.wire.specs.Wire.{scl_of, sda_of}
use Rattle.steps.specs.declared.Item.{Item}
use Rattle.steps.specs.declared.Item.TheVariants.{Sample, Call}
use Rattle.input.specs.declared.Foreign.{Foreign}
use Rattle.input.specs.declared.Cut.{Cut}

-- An item; none where the byte is passed over; or neither.
abbrev pub Meaning : Type 0
Meaning = Result (Option Item) Foreign

abbrev pub foreign_byte : Meaning
foreign_byte = Err (record {})

-- Digits 0 to 3 are samples, `h` is a handler call, spaces and newlines are skipped; anything else is foreign.
abbrev pub meaning_of : ℕ → Meaning
meaning_of byte =
    cond (eqb byte (code " ") || eqb byte (code "\n")) (Ok None)
    (cond (eqb byte (code "h")) (Ok (Some Call))
    (cond (ltb byte (code "0") || ltb (code "3") byte) foreign_byte
    (Ok (Some (Sample (scl_of (byte - code "0")) (sda_of (byte - code "0")))))))

-- A `g` as the very first byte asks for the general call. It is no item: the items are those of the bytes behind it.
abbrev pub asks_general : List ℕ → Bool
asks_general input = eqb (get_or input 0 0) (code "g")

abbrev pub item_bytes : List ℕ → List ℕ
item_bytes input = drop (bool_byte (asks_general input)) input

-- All the items, or how many come before the first foreign byte.
pub data Parsed : Type 0 where
  all : List Item → Parsed
  foreign : ℕ → Parsed

-- One byte in front of a parsed text.
abbrev pub before : Meaning → Parsed → Parsed
before (Ok None) p = p
before (Ok (Some item)) (all items) = all (item ∷ items)
before (Ok (Some item)) (foreign n) = foreign (suc n)
before (Err e) p = foreign 0

unfoldable pub parse : List ℕ → Parsed
parse [] = all []
parse (byte ∷ bytes) = before (meaning_of byte) (parse bytes)

-- What is known of the input before anything is played: the number of its items, or of those before a foreign byte.
abbrev pub Checked : Type 0
Checked = Result ℕ Cut

abbrev pub cut_after : ℕ → Checked
cut_after n = Err (record { items = n })

abbrev pub checked : Parsed → Checked
checked (all items) = Ok (length items)
checked (foreign n) = cut_after n

abbrev pub checked_of : List ℕ → Checked
checked_of input = checked (parse input)

abbrev pub is_foreign : Meaning → Bool
is_foreign (Ok item) = false
is_foreign (Err e) = true

abbrev pub item_count : Meaning → ℕ
item_count (Ok None) = 0
item_count (Ok (Some item)) = 1
item_count (Err e) = 0

-- Without a foreign byte; and the items then.
abbrev pub clean : Parsed → Bool
clean (all items) = true
clean (foreign n) = false

abbrev pub items_in : Parsed → List Item
items_in (all items) = items
items_in (foreign n) = []
