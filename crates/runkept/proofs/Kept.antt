-- A state stays a state, the module and the handler: after set-up, and after every handler call, item and run.
use Rattle.std.specs.Prelude.{ℕ, ◌+◌, ◌<◌, ◌≡◌, refl, Bool, true, false, cond, List, [], ◌∷◌, map, T, ltb, length, take, Err, Ok}
use Rattle.std.proofs.Common.{sym, subst, arith}
use Rattle.truth.specs.Tests.{by_choice}
use Rattle.refusals.specs.declared.Refusal.TheVariants.{NoWindow}
use Rattle.mssp.specs.declared.Module.{Module}
use Rattle.mssp.specs.Module.{setup}
use Rattle.effects.specs.Effects.{emptied, loaded}
use Rattle.mssp.specs.Valid.{Valid}
use Rattle.registers.specs.declared.Register.TheVariants.{Buf}
use Rattle.kept.proofs.Kept.{setup-valid, sample_kept, read_kept, write_kept, released_kept, access_read_kept, access_write_kept}
use Rattle.memory.specs.Memory.{Memory, peeked, put}
use Rattle.memory.proofs.Laws.{modulo-below}
use Rattle.firmware.specs.declared.State.{State}
use Rattle.firmware.specs.Handler.{Served, served, handler_of, state_of, is_window_length, setup_of, memory_in, acknowledged, serve, called_if, called}
use Rattle.firmware.specs.Window.{window_fits, window_of}
use Rattle.firmware.proofs.Laws.{length_within}
use Rattle.steps.specs.declared.Item.{Item}
use Rattle.steps.specs.declared.Item.TheVariants.{Sample, Call, Read, Write, NotAnItem}
use Rattle.steps.specs.Step.{after, after_all}
use Rattle.items.specs.First.{first_above}
use Rattle.wire.specs.Wire.{scl_of, sda_of}
use Rattle.trace.specs.Run.{item_at, run_of}
use Rattle.trace.specs.Window.{ran_in, checked, judged_of, run_in_of}
use Rattle.words.specs.Words.{is_called, met_if, met, item_taken}
use Rattle.lanes.specs.Lanes.{all_taken, laned_in, shorter_of, draw_in_of}
use Rattle.runkept.specs.States.{ValidHandler, ValidState}

-- ---- the module
emptied_kept : (m : Module) → Valid m → Valid (emptied m)
emptied_kept m v = read_kept Buf m v

loaded_kept : (byte : ℕ) (m : Module) → Valid m → Valid (loaded byte m)
loaded_kept byte m v = write_kept Buf byte m refl v

acknowledged_kept : (s : State) → Valid s.mssp → Valid (acknowledged s).mssp
acknowledged_kept s v =
    record { parts = v.parts; condition = v.condition; mode = v.mode; off = v.off; mark = v.mark; eight = v.eight; hold = v.hold; ten = v.ten }

module _ (bytes : List ℕ) where
  serve_module : (sends da : Bool) (s : State) → Valid s.mssp → Valid (serve sends da s bytes).state.mssp
  serve_module true da s v =
      let m = s.mssp in
      let read : Module = cond m.live.da m (emptied m) in
      let byte : ℕ = peeked (memory_in s bytes) in
      released_kept (loaded byte read) (loaded_kept byte read (by_choice Valid m.live.da (λ e. v) (λ e. emptied_kept m v)))
  serve_module false true s v = released_kept (emptied s.mssp) (emptied_kept s.mssp v)
  serve_module false false s v = released_kept (emptied s.mssp) (emptied_kept s.mssp v)

  called_module : (flag ckp : Bool) (s : State) → Valid s.mssp → Valid (called_if flag ckp s bytes).state.mssp
  called_module false ckp s v = v
  called_module true true s v = acknowledged_kept s v
  called_module true false s v = serve_module s.mssp.live.rw s.mssp.live.da (acknowledged s) (acknowledged_kept s v)

-- ---- the handler
put_inside : (n : ℕ) (due : Bool) (byte : ℕ) (m : Memory) → 0 < n → (put n due byte m).pointer < n
put_inside n true byte m h = modulo-below n byte h
put_inside n false byte m h = modulo-below n (m.pointer + 1) h

module _ (bytes : List ℕ) where
  serve_handler :
      (sends da : Bool) (s : State) → ValidHandler s.handler → ValidHandler (serve sends da s bytes).state.handler
  serve_handler true da s v =
      record { some = v.some; most = v.most; inside = omega (arith, modulo-below s.handler.n (s.handler.pointer + 1) v.some) }
  serve_handler false true s v =
      let h = s.handler in
      record { some = v.some; most = v.most; inside = omega (arith, put_inside h.n h.due s.mssp.live.buf (memory_in s bytes) v.some) }
  serve_handler false false s v = record { some = v.some; most = v.most; inside = v.inside }

  called_handler :
      (flag ckp : Bool) (s : State) → ValidHandler s.handler → ValidHandler (called_if flag ckp s bytes).state.handler
  called_handler false ckp s v = v
  called_handler true true s v = v
  called_handler true false s v = serve_handler s.mssp.live.rw s.mssp.live.da (acknowledged s) v

-- ---- set-up, a call, an item, a run
made_if :
    (good : Bool) (add n : ℕ) {s : State} → is_window_length n ≡ good
    → cond good (Ok (state_of (setup add) (handler_of n 0 false))) (Err NoWindow) ≡ Ok s → ValidState s
made_if false add n e g = let z : ◌≡◌ {A = ℕ} 0 1 = cc in absurd (omega arith)
made_if true add n {s} e g =
    let is : state_of (setup add) (handler_of n 0 false) ≡ s = cc in
    let range = length_within n (subst T (sym e) tt) in
    rw (← is) (record { mssp = setup-valid add; handler = record { some = range.0; most = range.1; inside = range.0 } })

-- What set-up makes, whenever it makes one.
pub setup_kept : (add n : ℕ) {s : State} → setup_of add n ≡ Ok s → ValidState s
setup_kept add n g = made_if (is_window_length n) add n refl g

pub called_kept : (s : State) (bytes : List ℕ) → ValidState s → ValidState (called s bytes).state
called_kept s bytes v =
    record {
      mssp = called_module bytes s.mssp.live.sspif s.mssp.live.ckp s v.mssp;
      handler = called_handler bytes s.mssp.live.sspif s.mssp.live.ckp s v.handler;
    }

-- An item of any kind, and items one after the other.
pub item_kept : (w : Served) (item : Item) → ValidState w.state → ValidState (after w item).state
item_kept w (Sample scl sda) v = record { mssp = sample_kept w.state.mssp scl sda v.mssp; handler = v.handler }
item_kept w Call v = called_kept w.state w.bytes v
item_kept w (Read number) v = record { mssp = access_read_kept w.state.mssp number v.mssp; handler = v.handler }
item_kept w (Write number value) v =
    record { mssp = access_write_kept w.state.mssp number value v.mssp; handler = v.handler }
item_kept w NotAnItem v = v

pub items_kept : (w : Served) (items : List Item) → ValidState w.state → ValidState (after_all w items).state
unfolding after_all
items_kept w [] v = v
items_kept w (item ∷ items) v = items_kept (after w item) items (item_kept w item v)

pub run_kept : (s : State) (bytes items : List ℕ) → ValidState s → ValidState (run_of s bytes items).state
run_kept s bytes items v = items_kept (served s bytes) (map item_at items) v

checked_kept :
    (fits bad : Bool) (item : ℕ) (s : State) (buffer : List ℕ) (done : Served) → ValidState s → ValidState done.state
    → ValidState (checked fits bad item s buffer done).state
checked_kept false bad item s buffer done v d = v
checked_kept true true item s buffer done v d = v
checked_kept true false item s buffer done v d = d

-- Work over a window, refused or not.
pub judged_kept :
    (most : ℕ) (s : State) (buffer : List ℕ) (start n : ℕ) (items : List ℕ) (done : Served) → ValidState s → ValidState done.state
    → ValidState (judged_of most s buffer start n items done).state
judged_kept most s buffer start n items done v d =
    checked_kept (window_fits (length buffer) start n s.handler.n) (ltb (first_above most items) (length items)) (first_above most items) s buffer done v d

pub run_in_kept :
    (s : State) (buffer : List ℕ) (start n : ℕ) (items : List ℕ) → ValidState s
    → ValidState (run_in_of s buffer start n items).state
run_in_kept s buffer start n items v =
    judged_kept 4 s buffer start n items (ran_in s buffer start n items) v (run_kept s (window_of start n buffer) items v)

-- A drawing.
met_kept : (called : Bool) (w : Served) → ValidState w.state → ValidState (met_if called w).state
met_kept true w v = item_kept w Call v
met_kept false w v = v

pub taken_kept : (w : Served) (items : List ℕ) → ValidState w.state → ValidState (all_taken w items).state
unfolding all_taken
taken_kept w [] v = v
taken_kept w (item ∷ items) v =
    taken_kept (item_taken w item) items
    (item_kept (met w item) (Sample (scl_of item) (sda_of item)) (met_kept (is_called w.state.mssp.phase item) w v))

pub draw_in_kept :
    (s : State) (buffer : List ℕ) (start n : ℕ) (items lanes : List ℕ) → ValidState s
    → ValidState (draw_in_of s buffer start n items lanes).outcome.state
draw_in_kept s buffer start n items lanes v =
    let part : List ℕ = take (shorter_of (length items) (length lanes)) items in
    judged_kept 3 s buffer start n part (laned_in s buffer start n part).left v (taken_kept (served s (window_of start n buffer)) part v)
