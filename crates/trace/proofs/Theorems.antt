-- What a run leaves alone, said without its code: the window keeps its length, and the buffer its other bytes.
use Rattle.std.specs.Prelude.{ℕ, ◌+◌, ◌≤◌, ◌≡◌, refl, Bool, true, false, List, [], ◌∷◌, ◌++◌, eqb, ltb, length, take, drop}
use Rattle.std.proofs.Common.{sym, ◌∙◌, arith, length-set, length-drop, length-take-le, take_at, drop_at, drop-drop}
use Rattle.memory.specs.Memory.{Memory, put}
use Rattle.firmware.specs.declared.State.{State}
use Rattle.firmware.specs.Handler.{acknowledged, memory_in, serve, called_if, called}
use Rattle.firmware.specs.Window.{window_of, splice}
use Rattle.steps.specs.Step.{after_all}
use Rattle.trace.specs.Run.{byte_step_if, byte_step, run_of}
use Rattle.trace.specs.Window.{SameOutside}

-- ---- the window keeps its length
put-length : (n : ℕ) (due : Bool) (byte : ℕ) (m : Memory) → length (put n due byte m).bytes ≡ length m.bytes
put-length n true byte m = refl
put-length n false byte m = simp length-set

serve-length : (sends da : Bool) (s : State) (bytes : List ℕ) → length (serve sends da s bytes).bytes ≡ length bytes
serve-length true da s bytes = refl
serve-length false true s bytes =
    put-length s.handler.n s.handler.due s.mssp.live.buf (memory_in s bytes)
serve-length false false s bytes = refl

called_if_lem : (flag ckp : Bool) (s : State) (bytes : List ℕ) → length (called_if flag ckp s bytes).bytes ≡ length bytes
called_if_lem false ckp s bytes = refl
called_if_lem true true s bytes = refl
called_if_lem true false s bytes = serve-length s.mssp.live.rw s.mssp.live.da (acknowledged s) bytes

pub called-length : (s : State) (bytes : List ℕ) → length (called s bytes).bytes ≡ length bytes
called-length s bytes = called_if_lem s.mssp.live.sspif s.mssp.live.ckp s bytes

step_if : (level call : Bool) (s : State) (bytes : List ℕ) (item : ℕ) → length (byte_step_if level call s bytes item).bytes ≡ length bytes
step_if true call s bytes item = refl
step_if false true s bytes item = called-length s bytes
step_if false false s bytes item = refl

pub step-length : (s : State) (bytes : List ℕ) (item : ℕ) → length (byte_step s bytes item).bytes ≡ length bytes
step-length s bytes item = step_if (ltb item 4) (eqb item 4) s bytes item

pub run_length : (s : State) (bytes items : List ℕ) → length (run_of s bytes items).bytes ≡ length bytes
unfolding after_all
run_length s bytes [] = refl
run_length s bytes (x ∷ xs) = run_length (byte_step s bytes x).state (byte_step s bytes x).bytes xs ∙ step-length s bytes x

-- ---- the buffer
pub splice_outside :
    (start n : ℕ) (bytes buffer : List ℕ) → start + n ≤ length buffer → length bytes ≡ n
    → SameOutside start n buffer (splice start n bytes buffer)
splice_outside start n bytes buffer h e =
    let behind : List ℕ = drop n (drop start buffer) in
    let front : length (take start buffer) ≡ start = length-take-le start buffer (omega arith) in
    record {
      below = take_at (take start buffer) (bytes ++ behind) start front;
      above =
          sym (drop-drop n start (splice start n bytes buffer))
          ∙ rw (drop_at (take start buffer) (bytes ++ behind) start front, drop_at bytes behind n e) (drop-drop n start buffer);
    }

pub window_length : (start n : ℕ) (buffer : List ℕ) → start + n ≤ length buffer → length (window_of start n buffer) ≡ n
window_length start n buffer h = length-take-le n (drop start buffer) (simp length-drop (omega arith))
