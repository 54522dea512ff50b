-- The bench examples P1 to P12 (01, "Bench examples"; 02, 1 and 4), and of our own T1 and T2 for ten bits, one table and one statement
-- over the definitions that the code is proved against: items played by `after_all`.
use Rattle.std.specs.Prelude.{ℕ, zero, suc, ◌+◌, ◌/◌, ◌%◌, ◌^◌, Bool, true, false, ◌&&◌, not, List, [], ◌∷◌, ◌++◌, map, eqb, length, get_or}
use Rattle.mssp.specs.declared.Live.{Live}
use Rattle.mssp.specs.Module.{setup}
use Rattle.mssp.specs.Phases.{bits_of, is_quiet, is_sending, is_held_for_add}
use Rattle.mssp.specs.Drivers.{sda_pulled}
use Rattle.address.specs.declared.Hit.{Hit}
use Rattle.address.specs.declared.Hit.TheVariants.{None, Own, GeneralCall}
use Rattle.address.specs.Comparison.{hit_number, hit_of}
use Rattle.firmware.specs.Handler.{Served, served, state_of, handler_of}
use Rattle.steps.specs.declared.Item.{Item}
use Rattle.steps.specs.declared.Item.TheVariants.{Call, Read, Write}
use Rattle.steps.specs.Step.{after_all}
use Rattle.trace.specs.Run.{item_at}

-- A trace as the paper writes it: 0 to 3 samples, 4 a handler call.
abbrev pub trace : List ℕ → List Item
trace bytes = map item_at bytes

-- Start; the eight clocks of a byte, whose last fall is the next low; the acknowledge clock up to its fall.
abbrev pub begin : List Item
begin = trace (3 ∷ 2 ∷ [])

abbrev pub clocks : ℕ → ℕ → List ℕ
clocks zero v = []
clocks (suc k) v = (v / 2 ^ k % 2) ∷ (2 + v / 2 ^ k % 2) ∷ clocks k v

abbrev pub byte : ℕ → List Item
byte v = trace (clocks 8 v ++ (1 ∷ []))

abbrev pub ninth : ℕ → List Item
ninth sda = trace ((2 + sda) ∷ 1 ∷ [])

-- A byte that the module acknowledges, and the handler's call; a byte that it sends, with the master's answer, and a call.
abbrev pub given : ℕ → List Item
given v = byte v ++ (ninth 1 ++ (Call ∷ []))

abbrev pub fetched : ℕ → List Item
fetched answer = byte 0xFF ++ (ninth answer ++ (Call ∷ []))

abbrev pub restart : List Item
restart = trace (1 ∷ 3 ∷ 2 ∷ [])

-- The first byte of a message, up to its eighth fall.
abbrev pub opening : ℕ → List Item
opening v = begin ++ byte v

-- P5: the report's worked example.
abbrev pub worked_items : List Item
worked_items =
    trace
    (3 ∷ 2 ∷ 0 ∷ 2 ∷ 0 ∷ 2 ∷ 1 ∷ 3 ∷ 1 ∷ 3 ∷ 0 ∷ 2 ∷ 0 ∷ 2 ∷ 0 ∷ 2 ∷ 0 ∷ 2 ∷ 1 ∷ 3 ∷ 1 ∷ 4 ∷ 0 ∷ 2 ∷ 3 ∷ [])

-- P8: the address byte is not read away, SSPIF is cleared, the clock let go by a write to CON1, and a data byte comes, up to
-- its eighth fall.
abbrev pub overflow : List Item
overflow = opening 0x30 ++ (ninth 1 ++ (Write 7 0 ∷ Write 2 0x36 ∷ byte 0xAA))

-- P9: BUF is read, SSPOV is still 1, and the next byte comes, likewise.
abbrev pub still_overflown : List Item
still_overflown = overflow ++ (Read 0 ∷ (restart ++ byte 0x31))

-- P12: the pointer set to 30, then a read; the byte is on from the end of the hold.
abbrev pub reading : List Item
reading = begin ++ (given 0x30 ++ (given 30 ++ (restart ++ given 0x31)))

-- Ours, T1 and T2 (02, 9): ten bits with ADD F4 and A7, by a firmware of register accesses. Disabled, ADD's high byte and SSPM
-- 0111; at each hold for ADD BUF is read, SSPIF cleared and ADD written.
abbrev pub ten_bits : List Item
ten_bits = Write 2 0x16 ∷ Write 5 0xF4 ∷ Write 2 0x37 ∷ []

abbrev pub answered : ℕ → List Item
answered add = Read 0 ∷ Write 7 0 ∷ Write 5 add ∷ []

-- The high byte up to the hold after it, and the low byte likewise.
abbrev pub high_byte : List Item
high_byte = ten_bits ++ (opening 0xF4 ++ ninth 1)

abbrev pub low_byte : ℕ → List Item
low_byte v = high_byte ++ (answered 0xA7 ++ (byte v ++ ninth 1))

-- T1: a data byte after both. T2: a Restart and the high byte with R/W 1, the byte loaded and the clock let go by CKP.
abbrev pub ten_bit_write : List Item
ten_bit_write = low_byte 0xA7 ++ (answered 0xF4 ++ byte 0x5A)

abbrev pub ten_bit_read : List Item
ten_bit_read = low_byte 0xA7 ++ (answered 0xF4 ++ (restart ++ (byte 0xF5 ++ (ninth 1 ++ (Read 0 ∷ Write 0 0x3C ∷ Write 2 0x37 ∷ [])))))

-- 32 bytes that differ: place k holds 100 + k.
abbrev pub rising : ℕ → ℕ → List ℕ
rising zero from = []
rising (suc k) from = from ∷ rising k (from + 1)

abbrev pub memory32 : List ℕ
memory32 = rising 32 100

-- ---- what is looked at
abbrev pub flag : (Live → Bool) → Served → Bool
flag f w = f w.state.mssp.live

abbrev pub buf : ℕ → Served → Bool
buf v w = eqb w.state.mssp.live.buf v

abbrev pub pulls : Served → Bool
pulls w = sda_pulled w.state.mssp.phase

abbrev pub quiet : Served → Bool
quiet w = is_quiet w.state.mssp.phase

-- Held until ADD is written, which is UA 1.
abbrev pub awaits : Served → Bool
awaits w = is_held_for_add w.state.mssp.phase

-- Which address a first byte hits, by the registers as they are.
abbrev pub hits : Hit → ℕ → Served → Bool
hits which v w = eqb (hit_number (hit_of w.state.mssp.config v)) (hit_number which)

abbrev pub pointer : ℕ → Served → Bool
pointer p w = eqb w.state.handler.pointer p

abbrev pub stored : ℕ → ℕ → Served → Bool
stored place v w = eqb (get_or w.bytes place 0) v

abbrev pub sends : ℕ → Served → Bool
sends v w = is_sending w.state.mssp.phase && eqb (bits_of w.state.mssp.phase).value v

-- A test that holds of every byte, 0 to 255.
abbrev pub below : ℕ → (ℕ → Bool) → Bool
below zero test = true
below (suc k) test = test k && below k test

abbrev pub every_byte : (ℕ → Bool) → Bool
every_byte test = below 256 test

-- ---- the table: memory, the items after a setup with ADD 30, what must then hold
pub record Case : Type 0 where
  pub bytes : List ℕ
  pub items : List Item
  pub test : Served → Bool

abbrev pub case : List ℕ → List Item → (Served → Bool) → Case
case bytes items test = record { bytes = bytes; items = items; test = test }

abbrev pub table : List Case
table =
    -- P1 to P4
    case memory32 (trace (2 ∷ [])) (λ w. not (flag (λ l. l.s) w))
    ∷ case memory32 (trace (3 ∷ 2 ∷ [])) (λ w. flag (λ l. l.s) w)
    ∷ case memory32 (trace (3 ∷ 2 ∷ 3 ∷ [])) (λ w. flag (λ l. l.s) w && not (flag (λ l. l.p) w))
    ∷ case memory32 (trace (3 ∷ 0 ∷ [])) (λ w. not (flag (λ l. l.s) w))
    -- P5
    ∷ case memory32 worked_items (λ w. pointer 0 w && flag (λ l. l.p) w && not (flag (λ l. l.bf) w))
    -- P6: MSK F0; own, none
    ∷ case memory32 (Write 6 0xF0 ∷ opening 0x3E) (λ w. hits Own 0x3E w && pulls w)
    ∷ case memory32 (Write 6 0xF0 ∷ opening 0x40) (λ w. hits None 0x40 w && quiet w)
    -- P7: GCEN 1; general call, none
    ∷ case memory32 (Write 3 0x81 ∷ opening 0x00) (λ w. hits GeneralCall 0x00 w && pulls w)
    ∷ case memory32 (Write 3 0x81 ∷ opening 0x01) (λ w. hits None 0x01 w && quiet w)
    -- P8: BF 1 at a data byte; P9: BF read away, SSPOV still 1. SSPIF is 0 after the eighth fall, 1 after the ninth
    ∷ case memory32 overflow (λ w. flag (λ l. l.sspov) w && buf 0x30 w && not (pulls w) && not (flag (λ l. l.sspif) w))
    ∷ case memory32 (overflow ++ ninth 1) (λ w. flag (λ l. l.sspif) w && quiet w)
    ∷ case memory32 still_overflown (λ w. flag (λ l. l.sspov) w && buf 0x31 w && flag (λ l. l.bf) w && not (pulls w) && not (flag (λ l. l.sspif) w))
    ∷ case memory32 (still_overflown ++ ninth 1) (λ w. flag (λ l. l.sspif) w && quiet w)
    -- P10
    ∷ case memory32 (begin ++ (given 0x30 ++ (given 0x1F ++ (given 0xAA ++ given 0xBB)))) (λ w. stored 31 0xAA w && stored 0 0xBB w && pointer 1 w)
    -- P11: modulo n; with n 1 always 0, whichever byte comes
    ∷ case memory32 (begin ++ (given 0x30 ++ given 0xFF)) (λ w. pointer 31 w)
    ∷ case memory32 (begin ++ (given 0x30 ++ given 0x20)) (λ w. pointer 0 w)
    ∷ case (7 ∷ []) (begin ++ given 0x30) (λ w. every_byte (λ v. let x : Served = after_all w (given v) in buf v x && pointer 0 x))
    -- P12: places 30, 31, 0; ACK, ACK, NACK
    ∷ case memory32 reading (λ w. sends 130 w)
    ∷ case memory32 (reading ++ fetched 0) (λ w. sends 131 w)
    ∷ case memory32 (reading ++ (fetched 0 ++ fetched 0)) (λ w. sends 100 w)
    ∷ case memory32 (reading ++ (fetched 0 ++ (fetched 0 ++ fetched 1))) (λ w. pointer 1 w && quiet w)
    -- T1: UA, SSPIF and the hold after the high byte and after the low one, whether it matches or not; then data
    ∷ case memory32 high_byte (λ w. awaits w && flag (λ l. l.sspif) w && buf 0xF4 w)
    ∷ case memory32 (low_byte 0xA7) (λ w. awaits w && flag (λ l. l.full) w && flag (λ l. l.sspif) w && buf 0xA7 w)
    ∷ case memory32 (low_byte 0xA6) (λ w. awaits w && not (flag (λ l. l.full) w) && flag (λ l. l.sspif) w && not (flag (λ l. l.bf) w))
    ∷ case memory32 ten_bit_write (λ w. pulls w && buf 0x5A w && flag (λ l. l.da) w && not (flag (λ l. l.rw) w))
    -- T2: after the full match alone the high byte with R/W 1 begins sending
    ∷ case memory32 ten_bit_read (λ w. sends 0x3C w && flag (λ l. l.full) w && flag (λ l. l.rw) w)
    ∷ case memory32 (ten_bits ++ opening 0xF5) (λ w. quiet w && not (flag (λ l. l.bf) w))
    ∷ []

abbrev pub run_case : Case → Bool
run_case c = c.test (after_all (served (state_of (setup 0x30) (handler_of (length c.bytes) 0 false)) c.bytes) c.items)

abbrev pub passes : List Case → Bool
passes [] = true
passes (c ∷ cs) = run_case c && passes cs
