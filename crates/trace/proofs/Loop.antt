-- The run's loop: a run is its steps, and a sample's step reaches the module alone.
use Rattle.std.specs.Prelude.{ℕ, ◌+◌, ◌<◌, ◌≤◌, ◌≡◌, refl, Bool, List, [], ◌∷◌, eqb, length, get_or}
use Rattle.std.proofs.Common.{ap, ◌∙◌, arith, lt-ltb}
use Rattle.mssp.specs.declared.Module.{Module}
use Rattle.firmware.specs.declared.Handler.{Handler}
use Rattle.firmware.specs.declared.State.{State}
use Rattle.firmware.specs.Handler.{Served, served, state_of}
use Rattle.steps.specs.Step.{after_all}
use Rattle.samples.specs.Samples.{Fed, sampled_at, fed_of}
use Rattle.samples.proofs.Loop.{lent_from, fed_ended, Running, run_next, run_fed, run_end}
use Rattle.trace.specs.Run.{byte_step_if, byte_step, run_from}
use Rattle.trace.proofs.Theorems.{run_length}

abbrev step_at : Served → ℕ → Served
step_at w item = byte_step w.state w.bytes item

stays : (w : Served) → run_from w [] ≡ w
unfolding after_all
stays w = refl

goes : (w : Served) (item : ℕ) (items : List ℕ) → run_from w (item ∷ items) ≡ run_from (step_at w item) items
unfolding after_all
goes w item items = refl

sample_steps :
    (h : Handler) (bytes : List ℕ) (m : Module) (item : ℕ) → item ≤ 3
    → step_at (served (state_of m h) bytes) item ≡ served (state_of (sampled_at m item) h) bytes
sample_steps h bytes m item l =
    ap (λ (t : Bool). byte_step_if t (eqb item 4) (state_of m h) bytes item) (lt-ltb item 4 (omega arith))

module _ {items : List ℕ} {w₀ : Served} {i : ℕ} {t : State} {window : List ℕ} (before : Running run_from items w₀ i (served t window)) where
  -- The samples, fed to the module.
  pub samples_ran :
      {r : Fed} {u : State} → r ≡ fed_of t.mssp (lent_from i items) → u ≡ state_of r.mssp t.handler
      → Running run_from items w₀ (i + r.length) (served u window)
  samples_ran is e =
      run_fed step_at run_from stays goes (λ (m : Module). served (state_of m t.handler) window) (sample_steps t.handler window) before is
      (ap (λ (x : State). served x window) e)

  pub next_no_sample :
      {r : Fed} → r ≡ fed_of t.mssp (lent_from i items) → i + r.length < length items → 3 < get_or items (i + r.length) 0
  next_no_sample is = fed_ended t.mssp items i is

  -- What is no sample.
  pub item_ran :
      {v : Served} → i < length items → v ≡ byte_step t window (get_or items i 0) → Running run_from items w₀ (i + 1) v
  item_ran h e = run_next step_at run_from stays goes before h e

  pub all_items_ran : length items ≤ i → served t window ≡ run_from w₀ items
  all_items_ran h = run_end step_at run_from stays goes before h

  -- At the end the window is as long as it was.
  pub window_stays : length items ≤ i → length window ≡ length w₀.bytes
  window_stays h = ap (λ (v : Served). length v.bytes) (all_items_ran h) ∙ run_length w₀.state w₀.bytes items
