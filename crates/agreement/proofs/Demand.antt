-- DEMAND 3: for every ADD, every memory and every list of samples and handler calls, module and handler agree with the
-- plain device fed by the plain reader.
use Rattle.std.specs.Prelude.{ℕ, ◌≤◌, ◌≡◌, refl, true, false, List, length, Ok}
use Rattle.firmware.specs.Handler.{longest_window, setup_of}
use Rattle.firmware.proofs.Laws.{within_length}
use Rattle.steps.specs.declared.Item.{Item}
use Rattle.agreement.specs.Joint.{Joint, run, afresh, SamplesAndCalls, SameMemory, EndedByOneCall, PulledWhereOwed, HeldAfterAcknowledge, Agrees, NotRefused}
use Rattle.course.specs.Course.{held_address, held-byte, held_load, runs, waits}
use Rattle.course.proofs.Following.{clear, pulls_what_is_owed}
use Rattle.agreement.proofs.Serving.{in_step, owing_address, owing_byte, owing_load, Rel, related, joint_run_kept, begins}

-- ---- both parts of the relation show what demand 3 says
same_memory : {n add : ℕ} {j : Joint} → Rel n add j → SameMemory j
same_memory (related a (runs f) in_step) = rw (clear f).0
same_memory (related a (waits held_address) owing_address) = refl
same_memory (related a (waits held-byte) owing_byte) = refl
same_memory (related a (waits held_load) owing_load) = refl

ended_by_one_call : {n add : ℕ} {j : Joint} → Rel n add j → EndedByOneCall j
ended_by_one_call (related a (runs {i = true} f) s) = (clear f).0
ended_by_one_call (related a (runs {i = false} f) s) = (clear f).0
ended_by_one_call (related a (waits held_address) s) = refl
ended_by_one_call (related a (waits held-byte) s) = refl
ended_by_one_call (related a (waits (held_load {da = true})) s) = refl
ended_by_one_call (related a (waits (held_load {da = false})) s) = refl

pulled_where_owed : {n add : ℕ} {j : Joint} → Rel n add j → PulledWhereOwed add j
pulled_where_owed (related a (waits held_address) owing_address) = refl
pulled_where_owed (related a (waits held-byte) owing_byte) = refl
pulled_where_owed (related a (waits held_load) owing_load) = refl
pulled_where_owed (related a (runs f) (in_step {due = due})) = cc ((clear f).0, pulls_what_is_owed due f)

held_after_acknowledge : {n add : ℕ} {j : Joint} → Rel n add j → HeldAfterAcknowledge j
held_after_acknowledge (related a (runs f) s) h = cc (clear f).0
held_after_acknowledge (related a (waits f) owing_address) h = refl
held_after_acknowledge (related a (waits f) owing_byte) h = refl
held_after_acknowledge (related a (waits f) owing_load) h = refl

-- After each item: any list is a list up to some item.
pub demand_three :
    (add : ℕ) (bytes : List ℕ) (items : List Item) → SamplesAndCalls items
    → Agrees add (run (length bytes) add (afresh add bytes) items)
demand_three add bytes items p =
    let k = joint_run_kept (length bytes) add (afresh add bytes) items p (begins add bytes) in
    record {
      memories = same_memory k;
      once = ended_by_one_call k;
      owed = pulled_where_owed k;
      acknowledged = held_after_acknowledge k;
    }

-- ---- why demand 3 knows no refused byte: with the handler alone, no intake is ever refused
not_refused : {n add : ℕ} {j : Joint} → Rel n add j → NotRefused j
not_refused (related a (runs f) s) = ((clear f).1, refl)
not_refused (related a (waits held_address) s) = (refl, refl)
not_refused (related a (waits held-byte) s) = (refl, refl)
not_refused (related a (waits held_load) s) = (refl, refl)

pub no_intake_refused :
    (add : ℕ) (bytes : List ℕ) (items : List Item) → SamplesAndCalls items
    → NotRefused (run (length bytes) add (afresh add bytes) items)
no_intake_refused add bytes items p = not_refused (joint_run_kept (length bytes) add (afresh add bytes) items p (begins add bytes))

-- The joint run begins with what setup makes, for each of the lengths that it takes.
pub begins_with_setup :
    (add : ℕ) (bytes : List ℕ) → 1 ≤ length bytes → length bytes ≤ longest_window
    → setup_of add (length bytes) ≡ Ok (afresh add bytes).state
begins_with_setup add bytes low high = rw (within_length (length bytes) low high)
