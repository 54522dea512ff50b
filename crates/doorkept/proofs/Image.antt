-- An accepted call through the door leaves a state's image, and a refused one the image that was there: a host that keeps to
-- the door never loses its state.
use Rattle.std.specs.Prelude.{ℕ, ◌≡◌, refl, Bool, true, false, List, T, eqb, ltb, length, Err, Ok, Result, Some}
use Rattle.std.proofs.Common.{sym, subst, ltb→lt, lt→ltb}
use Rattle.std.proofs.Math.Facts.{and_yes}
use Rattle.truth.specs.Tests.{and_both}
use Rattle.refusals.specs.declared.Refusal.{Refusal}
use Rattle.refusals.specs.declared.Refusal.TheVariants.{NoState}
use Rattle.wire.specs.Wire.{scl_of, sda_of}
use Rattle.mssp.specs.declared.Module.{Module}
use Rattle.mssp.specs.Valid.{valid}
use Rattle.mssp.specs.Laws.{clauses, test}
use Rattle.registers.specs.Values.{Access}
use Rattle.registers.specs.Values.{read_of}
use Rattle.writes.specs.Writes.{write_of}
use Rattle.kept.proofs.Kept.{sample_kept, access_read_kept, access_write_kept}
use Rattle.firmware.specs.declared.Handler.{Handler}
use Rattle.firmware.specs.declared.State.{State}
use Rattle.firmware.specs.Handler.{is_window_length, state_of, setup_of}
use Rattle.firmware.specs.Window.{window_fits, window_of, WindowOutcome, call_of, call_choice}
use Rattle.firmware.proofs.Laws.{length_within, within_length}
use Rattle.trace.specs.Run.{sampled_by}
use Rattle.trace.specs.Window.{run_in_of}
use Rattle.runkept.specs.States.{ValidHandler, ValidState}
use Rattle.runkept.proofs.Kept.{setup_kept, called_kept, run_in_kept, draw_in_kept}
use Rattle.doorkept.specs.Image.{MakesValid, KeepsValid}
use Rattle.image.specs.HandlerPart.{handler_valid}
use Rattle.image.specs.Image.{image_length, valid_state, encode_of, decode_of}
use Rattle.image.specs.Theorems.{decode_encode, decode_valid}
use Rattle.lanes.specs.Lanes.{draw_in_of}
use Rattle.settling.specs.Outcome.{settled, by_access}
use Rattle.settling.specs.Left.{ImageOfSome, Leaves}
use Rattle.settling.proofs.Theorems.{refused_never_accepted, settled_leaves, state_leaves, access_leaves, state_leaves_lent, stays}
use Rattle.firmware_calls.specs.Calls.{setup_if, door_setup, settled_work, by_work, door_call, door_run, door_lanes}
use Rattle.firmware_calls.proofs.Theorems.{call_keeps, run_keeps, draw_keeps}
use Rattle.module_calls.specs.Calls.{module_in, image_with, door_read, door_write, level_verdict, door_sample}
use Rattle.module_calls.specs.Theorems.{read_keeps, write_keeps, sample_keeps}

-- ---- a state by its clauses, and by the test that decoding makes
handler_clauses : (h : Handler) → T (handler_valid h) → ValidHandler h
handler_clauses h t =
    let both = and_yes (is_window_length h.n) (ltb h.pointer h.n) t in
    let range = length_within h.n both.0 in
    record { some = range.0; most = range.1; inside = ltb→lt h.pointer h.n both.1 }

state_clauses : (s : State) → T (valid_state s) → ValidState s
state_clauses s t =
    let both = and_yes (valid s.mssp) (handler_valid s.handler) t in
    record { mssp = clauses s.mssp both.0; handler = handler_clauses s.handler both.1 }

state_test : (s : State) → ValidState s → T (valid_state s)
state_test s v =
    let h = s.handler in
    and_both (valid s.mssp) (handler_valid h) (test s.mssp v.mssp)
    (and_both (is_window_length h.n) (ltb h.pointer h.n)
    (subst T (sym (within_length h.n v.handler.some v.handler.most)) tt)
    (lt→ltb h.pointer h.n v.handler.inside))

image_of : (s : State) → ValidState s → ImageOfSome decode_of (encode_of s)
image_of s v = record { of = s; decodes = decode_encode s (state_test s v) }

-- ---- an accepted call leaves an image
setup_if_lem :
    (fits : Bool) (made : Result State Refusal) (bytes : List ℕ) → MakesValid made
    → Leaves decode_of (setup_if fits made bytes)
setup_if_lem false made bytes good = refused_never_accepted decode_of NoState 0 bytes
setup_if_lem true (Err why) bytes good = refused_never_accepted decode_of why 0 bytes
setup_if_lem true (Ok s) bytes good = λ e. image_of s (good s refl)

call_if :
    (s : State) (buffer : List ℕ) (start n : ℕ) (fits : Bool) → ValidState s
    → ValidState (call_choice s buffer start n fits).state
call_if s buffer start n true v = called_kept s (window_of start n buffer) v
call_if s buffer start n false v = v

pub setup_leaves : (bytes : List ℕ) (add n : ℕ) → Leaves decode_of (door_setup bytes add n)
setup_leaves bytes add n = setup_if_lem (eqb (length bytes) image_length) (setup_of add n) bytes (λ s e. setup_kept add n e)

module _ (bytes : List ℕ) where
  -- The bytes decode to the state that is worked on, so it is valid.
  given : (s : State) → decode_of bytes ≡ Some s → ValidState s
  given s e = state_clauses s (decode_valid bytes s e)

  access_kept :
      (work : Module → Access) → KeepsValid work
      → Leaves decode_of (by_access module_in image_with (decode_of bytes) work bytes)
  access_kept work keeps =
      access_leaves decode_of bytes module_in image_with work
      (λ s e.
      let v = given s e in
      image_of (state_of (work s.mssp).mssp s.handler)
      (record { mssp = keeps s.mssp v.mssp; handler = v.handler }))

  pub read_leaves : (number : ℕ) → Leaves decode_of (door_read bytes number)
  read_leaves number = access_kept (λ m. read_of m number) (λ m v. access_read_kept m number v)

  pub write_leaves : (number value : ℕ) → Leaves decode_of (door_write bytes number value)
  write_leaves number value = access_kept (λ m. write_of m number value) (λ m v. access_write_kept m number value v)

  pub sample_leaves : (level : ℕ) → Leaves decode_of (door_sample bytes level)
  sample_leaves level =
      state_leaves decode_of bytes (λ s. settled (level_verdict level) 0 (encode_of (sampled_by s level)) bytes)
      (λ s e.
      let v = given s e in
      settled_leaves decode_of (level_verdict level) 0 bytes
      (image_of (sampled_by s level)
      (record { mssp = sample_kept s.mssp (scl_of level) (sda_of level) v.mssp; handler = v.handler })))

  module _ (buffer : List ℕ) where
    work_leaves :
        (work : State → WindowOutcome) → ((s : State) → ValidState s → ValidState (work s).state)
        → Leaves decode_of (by_work work bytes buffer).outcome
    work_leaves work keeps =
        state_leaves_lent decode_of bytes buffer (λ s. settled_work bytes (work s))
        (λ s e. settled_leaves decode_of (work s).verdict (work s).item bytes (image_of (work s).state (keeps s (given s e))))

    module _ (start n : ℕ) where
      pub call_leaves : Leaves decode_of (door_call bytes buffer start n).outcome
      call_leaves =
          work_leaves (λ s. call_of s buffer start n)
          (λ s v. call_if s buffer start n (window_fits (length buffer) start n s.handler.n) v)

      pub run_leaves : (items : List ℕ) → Leaves decode_of (door_run bytes buffer start n items).outcome
      run_leaves items = work_leaves (λ s. run_in_of s buffer start n items) (λ s v. run_in_kept s buffer start n items v)

      pub draw_leaves : (items lanes : List ℕ) → Leaves decode_of (door_lanes bytes buffer start n items lanes).work.outcome
      draw_leaves items lanes = work_leaves (λ s. (draw_in_of s buffer start n items lanes).outcome) (λ s v. draw_in_kept s buffer start n items lanes v)

-- ---- an image stays an image, whatever is settled
module _ (bytes : List ℕ) (image : ImageOfSome decode_of bytes) where
  pub read_stays : (number : ℕ) → ImageOfSome decode_of (door_read bytes number).state
  read_stays number = stays decode_of (door_read bytes number) (read_keeps bytes number) (read_leaves bytes number) image

  pub write_stays : (number value : ℕ) → ImageOfSome decode_of (door_write bytes number value).state
  write_stays number value =
      stays decode_of (door_write bytes number value) (write_keeps bytes number value) (write_leaves bytes number value) image

  pub sample_stays : (level : ℕ) → ImageOfSome decode_of (door_sample bytes level).state
  sample_stays level = stays decode_of (door_sample bytes level) (sample_keeps bytes level) (sample_leaves bytes level) image

  module _ (buffer : List ℕ) (start n : ℕ) where
    pub call_stays : ImageOfSome decode_of (door_call bytes buffer start n).outcome.state
    call_stays =
        stays decode_of (door_call bytes buffer start n).outcome (λ h. (call_keeps bytes buffer start n h).0)
        (call_leaves bytes buffer start n) image

    pub run_stays : (items : List ℕ) → ImageOfSome decode_of (door_run bytes buffer start n items).outcome.state
    run_stays items =
        stays decode_of (door_run bytes buffer start n items).outcome (λ h. (run_keeps bytes buffer start n items h).0)
        (run_leaves bytes buffer start n items) image

    pub draw_stays : (items lanes : List ℕ) → ImageOfSome decode_of (door_lanes bytes buffer start n items lanes).work.outcome.state
    draw_stays items lanes =
        stays decode_of (door_lanes bytes buffer start n items lanes).work.outcome (λ h. (draw_keeps bytes buffer start n items lanes h).0)
        (draw_leaves bytes buffer start n items lanes) image
