-- The handler (01, "Handler and plain device"): its set-up and what a call does.
use Rattle.std.specs.Prelude.{ℕ, Bool, true, false, cond, ◌&&◌, Result, Ok, Err, List, leb}
use Rattle.refusals.specs.declared.Refusal.{Refusal}
use Rattle.refusals.specs.declared.Refusal.TheVariants.{NoWindow}
use Rattle.mssp.specs.declared.Module.{Module}
use Rattle.mssp.specs.Module.{module_of, setup, set_sspif}
use Rattle.effects.specs.Effects.{emptied, loaded, released}
use Rattle.memory.specs.Memory.{Memory, memory_of, peeked, laid_out, put}
use Rattle.firmware.specs.declared.Handler.{Handler}
use Rattle.firmware.specs.declared.State.{State}

abbrev pub handler_of : ℕ → ℕ → Bool → Handler
handler_of n pointer due = record { n = n; pointer = pointer; due = due }

abbrev pub state_of : Module → Handler → State
state_of m h = record { mssp = m; handler = h }

-- The largest n.
abbrev pub longest_window : ℕ
longest_window = 256

-- A window has from 1 byte up to the largest n.
abbrev pub is_window_length : ℕ → Bool
is_window_length n = leb 1 n && leb n longest_window

-- Set up with a length that a window can have: the module chosen, the pointer 0, none due. Any other length is refused.
abbrev pub setup_of : ℕ → ℕ → Result State Refusal
setup_of add n = cond (is_window_length n) (Ok (state_of (setup add) (handler_of n 0 false))) (Err NoWindow)

-- What a call leaves: the state, and the bytes of the window.
pub record Served : Type 0 where
  pub state : State
  pub bytes : List ℕ

abbrev pub served : State → List ℕ → Served
served s bytes = record { state = s; bytes = bytes }

-- A module after the handler's work on it, with the memory that this left.
abbrev pub served_with : Module → Bool → ℕ → Memory → Served
served_with m due n memory = served (state_of m (handler_of n memory.pointer due)) memory.bytes

-- SSPIF is cleared.
abbrev pub acknowledged : State → State
acknowledged s =
    state_of (module_of s.mssp.config (set_sspif false s.mssp.live) s.mssp.phase s.mssp.line) s.handler

-- Write address: read BUF, a pointer is due; last, CKP = 1.
abbrev pub addressed : State → State
addressed s = state_of (released (emptied s.mssp)) (handler_of s.handler.n s.handler.pointer true)

-- The window with the handler's pointer in it.
abbrev pub memory_in : State → List ℕ → Memory
memory_in s bytes = memory_of bytes s.handler.pointer

-- Sending: after a read address read BUF first; load the byte at the pointer, the pointer one on; last, CKP = 1.
abbrev pub sent : State → List ℕ → State
sent s bytes =
    state_of (released (loaded (peeked (memory_in s bytes)) (cond s.mssp.live.da s.mssp (emptied s.mssp))))
    (handler_of s.handler.n (laid_out s.handler.n (memory_in s bytes)).pointer s.handler.due)

-- Data: read BUF; the first byte is the pointer, any other is stored; last, CKP = 1.
abbrev pub taken : State → List ℕ → Served
taken s bytes =
    served_with (released (emptied s.mssp)) false s.handler.n
    (put s.handler.n s.handler.due s.mssp.live.buf (memory_in s bytes))

-- The case is read off STAT: R/W 1 is sending, then D/A 0 an address.
abbrev pub serve : Bool → Bool → State → List ℕ → Served
serve true da s bytes = served (sent s bytes) bytes
serve false true s bytes = taken s bytes
serve false false s bytes = served (addressed s) bytes

-- Nothing where SSPIF is 0; else it is cleared, and no more is done where CKP is 1.
abbrev pub called_if : Bool → Bool → State → List ℕ → Served
called_if false ckp s bytes = served s bytes
called_if true true s bytes = served (acknowledged s) bytes
called_if true false s bytes = serve s.mssp.live.rw s.mssp.live.da (acknowledged s) bytes

abbrev pub called : State → List ℕ → Served
called s bytes = called_if s.mssp.live.sspif s.mssp.live.ckp s bytes
