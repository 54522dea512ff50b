-- The joint run is the run of the items, and its reader reads the wire record alone: nothing of module or handler comes in.
use Rattle.std.specs.Prelude.{ℕ, ◌≡◌, refl, List, [], ◌∷◌}
use Rattle.std.proofs.Common.{sym, ◌∙◌}
use Rattle.steps.specs.declared.Item.{Item}
use Rattle.steps.specs.Step.{after_all}
use Rattle.reader.specs.Record.{read_all}
use Rattle.reader.specs.Laws.{read_joined}
use Rattle.agreement.specs.Joint.{Joint, left, shown, step, run, wires}

-- Module, handler and window of a joint run are those that the items leave one after the other.
pub joint_run_is_the_run : (n add : ℕ) (j : Joint) (items : List Item) → left (run n add j items) ≡ after_all (left j) items
unfolding after_all
joint_run_is_the_run n add j [] = refl
joint_run_is_the_run n add j (item ∷ items) = joint_run_is_the_run n add (step n add j item) items

-- Its reader reads what the wire showed.
pub by_wire :
    (n add : ℕ) (j : Joint) (items : List Item) → (run n add j items).reader ≡ read_all j.reader (wires n add j items)
by_wire n add j [] = refl
by_wire n add j (item ∷ items) =
    by_wire n add (step n add j item) items
    ∙ sym (read_joined j.reader (shown j item) (wires n add (step n add j item) items))
