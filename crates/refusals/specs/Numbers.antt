-- The numbers of the refusals (01, "Calls, refusals and their order", the table; 02, 6 and 9), which verdict accepts, and the
-- first of several causes.
use Rattle.std.specs.Prelude.{ℕ, Bool, true, false, cond, Result, Ok, Err, List, [], ◌∷◌}
use Rattle.refusals.specs.declared.Refusal.{Refusal}
use Rattle.refusals.specs.declared.Refusal.TheVariants.{NoState, NoRegister, ReservedBit, NoMode, ModeChange, MaskedTenBits, NoWindow, NoItem, PastRecord}
use Rattle.refusals.specs.declared.Refused.{Refused}

-- In the order in which the causes are looked at: the bytes are no state's image; no register has that number; a write
-- sets a master's bit or BOEN; a mode that is not modelled; another mode while the module runs; ten bits with a mask; the
-- window does not fit; a level or item out of range; an item past the record.
abbrev pub number_of : Refusal → ℕ
number_of NoState = 6
number_of NoRegister = 1
number_of ReservedBit = 2
number_of NoMode = 3
number_of ModeChange = 8
number_of MaskedTenBits = 9
number_of NoWindow = 5
number_of NoItem = 4
number_of PastRecord = 7

-- What a call answers: a value, 0 where it has none, or why it was refused.
abbrev pub Verdict : Type 0
Verdict = Result ℕ Refusal

abbrev pub accepted : Verdict → Bool
accepted (Ok value) = true
accepted (Err why) = false

-- A call that has no value answers 0.
abbrev pub answered : Result Unit Refusal → Verdict
answered (Ok done) = Ok 0
answered (Err why) = Err why

-- Why a call is refused, and 0 where no item is bad.
abbrev pub refused_alone : Refusal → Refused
refused_alone why = record { why = why; item = 0 }

-- The verdict of a call that tells the first bad item, and that item's number, 0 where it is done.
abbrev pub verdict_in : Result Unit Refused → Verdict
verdict_in (Ok done) = Ok 0
verdict_in (Err refused) = Err refused.why

abbrev pub item_in : Result Unit Refused → ℕ
item_in (Ok done) = 0
item_in (Err refused) = refused.item

-- The same of a call that may have a value.
abbrev pub told_verdict : Result ℕ Refused → Verdict
told_verdict (Ok value) = Ok value
told_verdict (Err refused) = Err refused.why

abbrev pub told_item : Result ℕ Refused → ℕ
told_item (Ok value) = 0
told_item (Err refused) = refused.item

-- Causes in the order in which they are looked at: the first that holds refuses, and where none does the value is answered.
abbrev pub first_cause : ℕ → List (Bool × Refusal) → Verdict
first_cause value [] = Ok value
first_cause value (cause ∷ rest) = cond cause.0 (Err cause.1) (first_cause value rest)
