-- What the theorems of proofs/Before.antt say.
use Rattle.std.specs.Prelude.{ℕ, ◌≡◌, Bool, true, false, List}
use Rattle.wire.specs.declared.Edge.{Edge}
use Rattle.wire.specs.declared.Line.{Line}
use Rattle.mssp.specs.declared.Live.{Live}
use Rattle.mssp.specs.declared.Phase.TheVariants.{Quiet}
use Rattle.mssp.specs.Module.{module_of, chosen, live_of}
use Rattle.memory.specs.Memory.{memory_of}
use Rattle.firmware.specs.Handler.{state_of, handler_of}
use Rattle.reader.specs.declared.Heard.{Heard}
use Rattle.reader.specs.declared.Heard.TheVariants.{Started}
use Rattle.reader.specs.declared.Place.TheVariants.{Idle}
use Rattle.plain.specs.declared.Turn.TheVariants.{Off}
use Rattle.reader.specs.Reader.{reader_of, heard_at}
use Rattle.plain.specs.Device.{plain_of, hears}
use Rattle.agreement.specs.Joint.{Joint, joint, before_after, ninth_after}
use Rattle.course.proofs.Following.{module_at_edge, reader_at_edge}

abbrev pub as_set_up : Bool → Live
as_set_up p = live_of false p false false false false true false false false false 0

-- The states until then: as set up, but for the wire remembered and P, which a Stop sets.
abbrev pub before_start : ℕ → ℕ → List ℕ → Line → Bool → Joint
before_start n add bytes y p =
    joint (state_of (module_of (chosen add) (as_set_up p) Quiet y) (handler_of n 0 false)) bytes (reader_of y Idle)
    (plain_of (memory_of bytes 0) Off) (memory_of bytes 0) true

pub data Unstarted (n add : ℕ) (bytes : List ℕ) : Joint → Type 0 where
  unstarted : {y : Line} {p : Bool} → Unstarted n add bytes (before_start n add bytes y p)

-- The joint state after an edge.
abbrev pub edged : ℕ → ℕ → Edge → Bool → Bool → Joint → Joint
edged n add e scl sda j =
    let heard : Heard = heard_at j.reader.place e in
    joint (state_of (module_at_edge e scl sda j.state.mssp) j.state.handler) j.bytes (reader_at_edge e scl sda j.reader)
    (hears n add heard j.device) (before_after heard j.device.memory j.before) (ninth_after heard j.ninth)

abbrev pub EdgeWaits : (n add : ℕ) (bytes : List ℕ) → Type 0
EdgeWaits n add bytes =
    (y : Line) (p scl sda : Bool) (e : Edge) → (heard_at Idle e ≡ Started → ⊥)
    → Unstarted n add bytes (edged n add e scl sda (before_start n add bytes y p))
