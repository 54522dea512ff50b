-- Before the first Start on record nothing happens: no pull, no hold, no interrupt, no change of memory or pointer. So the
-- clocks that a record begins with are never taken for an address.
use Rattle.agreement.specs.Before.{Unstarted, unstarted, EdgeWaits}
use Rattle.std.specs.Prelude.{ℕ, refl, List, [], ◌∷◌, length}
use Rattle.wire.specs.declared.Edge.TheVariants.{Still, Start, Stop, Rise, Fall}
use Rattle.wire.specs.Wire.{edge_of}
use Rattle.steps.specs.declared.Item.{Item}
use Rattle.steps.specs.declared.Item.TheVariants.{Sample, Call}
use Rattle.agreement.specs.Joint.{Joint, step, run, afresh, SamplesAndCalls, ended, sample, call, NoStart, Untouched}
use Rattle.course.proofs.Following.{module_at_edge, reader_at_edge}

edge_waits : {n add : ℕ} {bytes : List ℕ} → EdgeWaits n add bytes
unfolding module_at_edge reader_at_edge
edge_waits y p scl sda Still h = unstarted
edge_waits y p scl sda Start h = absurd (h refl)
edge_waits y p scl sda Stop h = unstarted
edge_waits y p scl sda (Rise level) h = unstarted
edge_waits y p scl sda Fall h = unstarted

run_waits :
    (n add : ℕ) (bytes : List ℕ) (j : Joint) (items : List Item) → SamplesAndCalls items → NoStart n add j items
    → Unstarted n add bytes j → Unstarted n add bytes (run n add j items)
unfolding module_at_edge reader_at_edge
run_waits n add bytes j [] ended h w = w
run_waits n add bytes j (Sample scl sda ∷ items) (sample p) h (unstarted {y = y} {p = stop}) =
    run_waits n add bytes (step n add j (Sample scl sda)) items p h.1 (edge_waits y stop scl sda (edge_of y scl sda) h.0)
run_waits n add bytes j (Call ∷ items) (call p) h unstarted = run_waits n add bytes (step n add j Call) items p h.1 unstarted
run_waits n add bytes j (Rattle.steps.specs.declared.Item.TheVariants.Read _ ∷ items) x6 h w = elim x6 [ ]
run_waits n add bytes j (Rattle.steps.specs.declared.Item.TheVariants.Write _ _ ∷ items) x8 h w = elim x8 [ ]
run_waits n add bytes j (Rattle.steps.specs.declared.Item.TheVariants.NotAnItem ∷ items) x7 h w = elim x7 [ ]

untouched : {n add : ℕ} {bytes : List ℕ} {j : Joint} → Unstarted n add bytes j → Untouched bytes j
untouched unstarted = record { no_pull = refl; no_hold = refl; no_interrupt = refl; no_change = refl }

pub before_the_first_start :
    (add : ℕ) (bytes : List ℕ) (items : List Item) → SamplesAndCalls items
    → NoStart (length bytes) add (afresh add bytes) items → Untouched bytes (run (length bytes) add (afresh add bytes) items)
before_the_first_start add bytes items p h =
    untouched (run_waits (length bytes) add bytes (afresh add bytes) items p h unstarted)
