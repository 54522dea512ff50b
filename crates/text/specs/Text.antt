-- The report's text, as bytes (01, "Report program"; 02, 1): its numbers, and the line of an event.
use Rattle.std.specs.Prelude.{ℕ, zero, suc, ◌+◌, ◌-◌, ◌/◌, ◌%◌, Bool, cond, List, [], ◌∷◌, ◌++◌, ltb}
use Prim.Native.Char.{code}
use Prim.Native.String.{String}
use Prim.Native.String.{[] as ended, ◌∷◌ as ◌then◌}
use mir.Val.{bool_byte}
use Rattle.address.specs.declared.Hit.{Hit}
use Rattle.address.specs.declared.Hit.TheVariants.{None, Own, GeneralCall}
use Rattle.reader.specs.declared.Heard.{Heard}
use Rattle.reader.specs.declared.Heard.TheVariants.{Silence, Started, Stopped, Byte}
use Rattle.text.specs.declared.Row.{Row}

-- A quoted text as bytes.
abbrev pub said : String → List ℕ
said ended = []
said (c then cs) = code c ∷ said cs

abbrev pub digit : ℕ → ℕ
digit n = code "0" + n

-- A number below ten is its digit, any other its tenth part and then its last digit. The first argument only bounds the
-- recursion.
abbrev pub decimal_in : ℕ → ℕ → List ℕ
decimal_in zero n = []
decimal_in (suc bound) n = cond (ltb n 10) (digit n ∷ []) (decimal_in bound (n / 10) ++ (digit (n % 10) ∷ []))

-- A number in decimal, without leading zeros.
unfoldable pub decimal : ℕ → List ℕ
decimal n = decimal_in (suc n) n

-- A hex digit, in capitals.
abbrev pub hex_digit : ℕ → ℕ
hex_digit n = cond (ltb n 10) (digit n) (code "A" + (n - 10))

abbrev pub row_of : ℕ → ℕ → ℕ → ℕ → Row
row_of event high low ack = record { event = event; high = high; low = low; ack = ack }

-- S and P have neither byte nor acknowledge.
abbrev pub condition_row : ℕ → Row
condition_row event = row_of event (code "-") (code "-") (code "-")

-- The letter of a first byte after a Start, by which address it hits: G for the general call, else A.
abbrev pub first_letter : Hit → ℕ
first_letter None = code "A"
first_letter Own = code "A"
first_letter GeneralCall = code "G"

-- A byte has that letter if it is the first after a Start, else D; then its two hex digits and the level of the ninth clock.
abbrev pub byte_row : Bool → Hit → ℕ → Bool → Row
byte_row first hit byte level =
    row_of (cond first (first_letter hit) (code "D")) (hex_digit (byte / 16)) (hex_digit (byte % 16)) (digit (bool_byte level))

-- What stands between a line's two numbers.
abbrev pub middle : Row → List ℕ
middle row = code " " ∷ row.event ∷ code " " ∷ row.high ∷ row.low ∷ code " " ∷ row.ack ∷ code " " ∷ []

-- A line: item, event, byte, acknowledge, pointer.
abbrev pub row_line : ℕ → Row → ℕ → List ℕ
row_line item row pointer = decimal item ++ (middle row ++ (decimal pointer ++ said "\n"))

-- A line for each event, none where nothing is heard.
abbrev pub event_line : ℕ → Heard → Hit → ℕ → List ℕ
event_line item Silence hit pointer = []
event_line item Started hit pointer = row_line item (condition_row (code "S")) pointer
event_line item Stopped hit pointer = row_line item (condition_row (code "P")) pointer
event_line item (Byte first byte level) hit pointer = row_line item (byte_row first hit byte level) pointer

-- A line that ends in a number.
abbrev pub numbered : List ℕ → ℕ → List ℕ
numbered words n = words ++ (decimal n ++ said "\n")
