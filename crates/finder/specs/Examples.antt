-- Records whose messages can be read off by eye, computed: what each finds, item by item.
use Rattle.std.specs.Prelude.{ℕ, T, eqb, Bool, true, ◌&&◌, List, [], ◌∷◌}
use Rattle.finder.specs.Messages.{line_before, edge_at, lies_at, end_from}
use Rattle.items.specs.First.{leading}
use Rattle.found.specs.Numbers.{refusal_of, bad_item_of, start_of, length_of}
use Rattle.finder.specs.Find.{span_of}

-- A record, an item, and the answer's four numbers: refusal, bad item, start, length.
abbrev Case : Type 0
Case = List ℕ × ℕ × ℕ × ℕ × ℕ × ℕ

abbrev holds : Case → Bool
holds k =
    let found = span_of k.0 k.1 in
    eqb (refusal_of found) k.2 && (eqb (bad_item_of found) k.3 && (eqb (start_of found) k.4 && eqb (length_of found) k.5))

abbrev all_hold : List Case → Bool
all_hold [] = true
all_hold (k ∷ ks) = holds k && all_hold ks

-- Two Starts, then a Stop: the second Start ends the first message, and the level after the Stop lies in none.
abbrev two : List ℕ
two = 3 ∷ 2 ∷ 0 ∷ 1 ∷ 3 ∷ 2 ∷ 0 ∷ 2 ∷ 3 ∷ 3 ∷ []

-- SDA rises and falls again before SCL has been low: neither counts, and the message goes on to the record's end.
abbrev marked : List ℕ
marked = 3 ∷ 2 ∷ 3 ∷ 2 ∷ 0 ∷ []

abbrev table : List Case
table =
    (two, 0, 0, 0, 0, 0)
    ∷ (two, 1, 0, 0, 1, 4)
    ∷ (two, 4, 0, 0, 1, 4)
    ∷ (two, 5, 0, 0, 5, 4)
    ∷ (two, 8, 0, 0, 5, 4)
    ∷ (two, 9, 0, 0, 9, 0)
    ∷ (two, 10, 7, 0, 0, 0)
    ∷ (marked, 0, 0, 0, 0, 0)
    ∷ (marked, 3, 0, 0, 1, 4)
    ∷ (3 ∷ 2 ∷ 4 ∷ 5 ∷ [], 1, 4, 2, 0, 0)
    ∷ (3 ∷ 2 ∷ 4 ∷ 5 ∷ [], 9, 4, 2, 0, 0)
    ∷ (2 ∷ 2 ∷ [], 0, 0, 0, 0, 0)
    ∷ ([], 0, 7, 0, 0, 0)
    ∷ []

pub examples : T (all_hold table)
unfolding line_before edge_at lies_at end_from leading span_of
examples = tt
