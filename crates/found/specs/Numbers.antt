-- The numbers of a search's answer (01, "The wire record and the message under the cursor").
use Rattle.std.specs.Prelude.{ℕ, Result, Ok, Err}
use Rattle.refusals.specs.declared.Refusal.{Refusal}
use Rattle.refusals.specs.Numbers.{number_of}
use Rattle.found.specs.declared.Part.{Part}
use Rattle.refusals.specs.declared.Refused.{Refused}

-- The answer: a part by its start and length, or why there is none and the item beside the refusal.
abbrev pub Found : Type 0
Found = Result Part Refused

abbrev pub part : ℕ → ℕ → Found
part start count = Ok (record { start = start; length = count })

abbrev pub not_found : Refusal → ℕ → Found
not_found why item = Err (record { why = why; item = item })

-- The refusal (0 for none), the item beside it, and the part's start and length. A refused call has the empty part at 0.
abbrev pub refusal_of : Found → ℕ
refusal_of (Ok found) = 0
refusal_of (Err refused) = number_of refused.why

abbrev pub bad_item_of : Found → ℕ
bad_item_of (Ok found) = 0
bad_item_of (Err refused) = refused.item

abbrev pub start_of : Found → ℕ
start_of (Ok found) = found.start
start_of (Err refused) = 0

abbrev pub length_of : Found → ℕ
length_of (Ok found) = found.length
length_of (Err refused) = 0
