-- The second part of demand 3's relation: the handler against the plain device, on the course that the module is on; and both
-- parts together, which every item of a run keeps. Another handler has its own such part beside the same first one.
use Rattle.std.specs.Prelude.{ℕ, Bool, true, false, List, [], ◌∷◌, length}
use Rattle.std.proofs.Common.{lit<}
use Rattle.wire.specs.Byte.{none}
use Rattle.mssp.specs.declared.Config.{Config}
use Rattle.mssp.specs.declared.Module.{Module}
use Rattle.memory.specs.Memory.{Memory, memory_of, peeked, laid_out, put}
use Rattle.firmware.specs.declared.Handler.{Handler}
use Rattle.firmware.specs.Handler.{state_of, handler_of}
use Rattle.steps.specs.declared.Item.{Item}
use Rattle.steps.specs.declared.Item.TheVariants.{Sample, Call}
use Rattle.reader.specs.declared.Heard.{Heard}
use Rattle.reader.specs.declared.Reader.{Reader}
use Rattle.plain.specs.declared.Turn.TheVariants.{Writing, Reading}
use Rattle.plain.specs.Device.{Plain, plain_of, hears}
use Rattle.agreement.specs.Joint.{Joint, joint, before_after, ninth_after, step, run, afresh, SamplesAndCalls, ended, sample, call}
use Rattle.course.specs.Course.{AnswersAlone, Kind, turn_of, take_address, take-byte, load_byte, Course, free, hold, Leads, unheard, start, stop, others_address, others_byte, write_address, read_address, written, read_on_lem, read_out, idle, apart, taking, sent-low, held_address, held-byte, held_load, Follows, runs, waits, Led, to}
use Rattle.course.proofs.Following.{setup-answers, sample_follows}

-- The clock free: the device's memory is the handler's, and what is due of its turn is due. The clock held after a low ninth
-- clock: the memory before the last byte is the handler's, and the device has done what the handler has yet to do.
pub data Serves (n : ℕ) : Course → Handler → List ℕ → Plain → Memory → Bool → Type 0 where
  in_step :
      {kind : Kind} {pt : ℕ} {due ninth : Bool} {m : List ℕ} {before : Memory}
      → Serves n (free kind) (handler_of n pt due) m (plain_of (memory_of m pt) (turn_of due kind)) before ninth
  owing_address :
      {pt : ℕ} {due : Bool} {m : List ℕ}
      → Serves n (hold take_address) (handler_of n pt due) m (plain_of (memory_of m pt) (Writing true)) (memory_of m pt) false
  owing_byte :
      {v pt : ℕ} {due : Bool} {m : List ℕ}
      → Serves n (hold (take-byte v)) (handler_of n pt due) m (plain_of (put n due v (memory_of m pt)) (Writing false)) (memory_of m pt) false
  owing_load :
      {pt : ℕ} {due : Bool} {m : List ℕ}
      → Serves n (hold load_byte) (handler_of n pt due) m (plain_of (laid_out n (memory_of m pt)) (Reading (peeked (memory_of m pt)))) (memory_of m pt) false

-- What the device hears keeps to the course that it leads to.
hearing_serves :
    {n add : ℕ} {w u : Course} {heard : Heard} {h : Handler} {m : List ℕ} {device : Plain} {before : Memory} {ninth : Bool}
    → Leads add w heard u → Serves n w h m device before ninth
    → Serves n u h m (hears n add heard device) (before_after heard device.memory before) (ninth_after heard ninth)
hearing_serves unheard s = s
hearing_serves start in_step = in_step
hearing_serves stop in_step = in_step
hearing_serves (others_address e) in_step = rw e in_step
hearing_serves others_byte in_step = in_step
hearing_serves (write_address e g) in_step = rw (e, g) owing_address
hearing_serves (read_address e g) in_step = rw (e, g) owing_load
hearing_serves written in_step = owing_byte
hearing_serves read_on_lem in_step = owing_load
hearing_serves read_out in_step = in_step

-- ---- both parts
pub data Rel (n add : ℕ) : Joint → Type 0 where
  related :
      {c : Config} {w : Course} {mssp : Module} {h : Handler} {m : List ℕ} {r : Reader} {device : Plain} {before : Memory} {ninth : Bool}
      → AnswersAlone add c → Follows add c w mssp r → Serves n w h m device before ninth
      → Rel n add (joint (state_of mssp h) m r device before ninth)

led :
    {n add : ℕ} {c : Config} {w : Course} {heard : Heard} {mssp : Module} {h : Handler} {m : List ℕ} {r : Reader} {device : Plain}
    {before : Memory} {ninth : Bool}
    → AnswersAlone add c → Led add c w heard mssp r → Serves n w h m device before ninth
    → Rel n add (joint (state_of mssp h) m r (hears n add heard device) (before_after heard device.memory before) (ninth_after heard ninth))
led a (to x f) s = related a f (hearing_serves x s)

samples : {n add : ℕ} {j : Joint} (l d : Bool) → Rel n add j → Rel n add (step n add j (Sample l d))
samples l d (related a f s) = led a (sample_follows l d a f) s

-- A handler call: nothing but SSPIF where the clock is not held; in a hold what the device has done already.
calls : {n add : ℕ} {j : Joint} → Rel n add j → Rel n add (step n add j Call)
calls (related a (runs {i = true} f) in_step) = related a (runs f) in_step
calls (related a (runs {i = false} f) in_step) = related a (runs f) in_step
calls (related a (waits held_address) owing_address) = related a (runs taking) in_step
calls (related a (waits held-byte) (owing_byte {due = true})) = related a (runs taking) in_step
calls (related a (waits held-byte) (owing_byte {due = false})) = related a (runs taking) in_step
calls (related a (waits (held_load {da = true})) owing_load) = related a (runs (sent-low {b = none} (lit< tt))) in_step
calls (related a (waits (held_load {da = false})) owing_load) = related a (runs (sent-low {b = none} (lit< tt))) in_step

pub joint_run_kept :
    (n add : ℕ) (j : Joint) (items : List Item) → SamplesAndCalls items → Rel n add j → Rel n add (run n add j items)
joint_run_kept n add j [] ended h = h
joint_run_kept n add j (Sample l d ∷ items) (sample p) h = joint_run_kept n add (step n add j (Sample l d)) items p (samples l d h)
joint_run_kept n add j (Call ∷ items) (call p) h = joint_run_kept n add (step n add j Call) items p (calls h)
joint_run_kept n add j (Rattle.steps.specs.declared.Item.TheVariants.Read _ ∷ items) x5 h = elim x5 [ ]
joint_run_kept n add j (Rattle.steps.specs.declared.Item.TheVariants.Write _ _ ∷ items) x7 h = elim x7 [ ]
joint_run_kept n add j (Rattle.steps.specs.declared.Item.TheVariants.NotAnItem ∷ items) x6 h = elim x6 [ ]

pub begins : (add : ℕ) (bytes : List ℕ) → Rel (length bytes) add (afresh add bytes)
begins add bytes = related (setup-answers add) (runs (apart idle)) in_step
