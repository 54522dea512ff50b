-- The first part of demand 3's relation: the module against the plain reader, for every configuration that answers to its own
-- address alone. Handler and device stay outside; they meet it in the course that the module is on.
use Rattle.std.specs.Prelude.{ℕ, ◌<◌, ◌≡◌, Bool, true, false, Option, Some, None}
use Rattle.wire.specs.declared.Bits.{Bits}
use Rattle.wire.specs.declared.Level.{Level}
use Rattle.wire.specs.Byte.{bit, none, pushed}
use Rattle.wire.specs.Wire.{wire}
use Rattle.address.specs.Comparison.{hit_of, is_taken}
use Rattle.mssp.specs.declared.Config.{Config}
use Rattle.mssp.specs.declared.Live.{Live}
use Rattle.mssp.specs.declared.SlotCase.TheVariants.{Pulls}
use Rattle.mssp.specs.declared.Which.TheVariants.{Other}
use Rattle.mssp.specs.declared.Phase.{Phase}
use Rattle.mssp.specs.declared.Phase.TheVariants.{Quiet, Address, Data, Slot, HeldForSending, Sending, MasterAcknowledge}
use Rattle.mssp.specs.declared.Module.{Module}
use Rattle.mssp.specs.Module.{module_of, is_ten_bit, live_of}
use Rattle.reader.specs.declared.Place.{Place}
use Rattle.reader.specs.declared.Place.TheVariants.{Idle, Within, Ending}
use Rattle.reader.specs.declared.Heard.{Heard}
use Rattle.reader.specs.declared.Heard.TheVariants.{Silence, Started, Stopped, Byte}
use Rattle.reader.specs.declared.Reader.{Reader}
use Rattle.reader.specs.Reader.{line, reader_of}
use Rattle.plain.specs.declared.Turn.{Turn}
use Rattle.plain.specs.declared.Turn.TheVariants.{Off, Writing, Reading}
use Rattle.plain.specs.Device.{own}

-- Enabled in a seven-bit mode, with a hold after each acknowledged byte and none before; what is taken is the own address.
pub record AnswersAlone (add : ℕ) (c : Config) : Type 0 where
  pub enabled : c.sspen ≡ true
  pub seven_bits : is_ten_bit c ≡ false
  pub held_after : c.sen ≡ true
  pub address_not_held : c.ahen ≡ false
  pub data_not_held : c.dhen ≡ false
  pub own_alone : (byte : ℕ) → is_taken (hit_of c byte) ≡ own add byte

-- ---- the courses: the clock is free in some kind of turn, or held until the handler has done its task
pub data Kind : Type 0 where
  off : Kind
  writing : Kind
  reading : ℕ → Kind

-- The plain device's turn of a kind: in a write a pointer is due or not, which the wire does not show.
abbrev pub turn_of : Bool → Kind → Turn
turn_of due off = Off
turn_of due writing = Writing due
turn_of due (reading x) = Reading x

pub data Task : Type 0 where
  take_address : Task
  take-byte : ℕ → Task
  load_byte : Task

pub data Course : Type 0 where
  free : Kind → Course
  hold : Task → Course

-- Where what is heard leads from a course: a byte that the module acknowledged, or that the master did, to a hold.
pub data Leads (add : ℕ) : Course → Heard → Course → Type 0 where
  unheard : {w : Course} → Leads add w Silence w
  start : {kind : Kind} → Leads add (free kind) Started (free off)
  stop : {kind : Kind} → Leads add (free kind) Stopped (free off)
  others_address : {x : ℕ} {level : Bool} → own add x ≡ false → Leads add (free off) (Byte true x level) (free off)
  others_byte : {x : ℕ} {level : Bool} → Leads add (free off) (Byte false x level) (free off)
  write_address : {x : ℕ} → own add x ≡ true → bit 0 x ≡ false → Leads add (free off) (Byte true x false) (hold take_address)
  read_address : {x : ℕ} → own add x ≡ true → bit 0 x ≡ true → Leads add (free off) (Byte true x false) (hold load_byte)
  written : {x : ℕ} → Leads add (free writing) (Byte false x false) (hold (take-byte x))
  read_on_lem : {x y : ℕ} → Leads add (free (reading x)) (Byte false y false) (hold load_byte)
  read_out : {x y : ℕ} → Leads add (free (reading x)) (Byte false y true) (free off)

-- ---- phases and places
-- The places of a reader of what is not for the module.
pub data Apart (add : ℕ) : Place → Type 0 where
  idle : Apart add Idle
  within : {b : Bits} → Apart add (Within false b)
  not_ours : {x : ℕ} {y : Option Bool} → own add x ≡ false → Apart add (Ending true x y)
  passing : {x : ℕ} {y : Option Bool} → Apart add (Ending false x y)

-- What a slot acknowledges, with D/A and R/W: the own address, or a byte of a write.
pub data Acknowledges (add : ℕ) : Kind → Bool → ℕ → Bool → Bool → Type 0 where
  own_address : {x : ℕ} {r : Bool} → own add x ≡ true → bit 0 x ≡ r → Acknowledges add off true x false r
  write_byte : {x : ℕ} → Acknowledges add writing false x true false

-- While the clock is free: kind of turn; BUF, BF, D/A, R/W, ACKSTAT; phase; wire; place of the reader.
pub data Runs (add : ℕ) : Kind → ℕ → Bool → Bool → Bool → Bool → Phase → Option Level → Place → Type 0 where
  apart :
      {v : ℕ} {da rw ks : Bool} {z : Option Level} {place : Place} → Apart add place
      → Runs add off v false da rw ks Quiet z place
  addressing :
      {v : ℕ} {da rw ks l d : Bool} {b : Bits} → Runs add off v false da rw ks (Address b false) (Some (wire l d)) (Within true b)
  slot_low :
      {kind : Kind} {first : Bool} {v : ℕ} {da rw ks d : Bool} → Acknowledges add kind first v da rw
      → Runs add kind v true da rw ks (Slot Pulls Other) (Some (wire false d)) (Ending first v None)
  slot_high :
      {kind : Kind} {first : Bool} {v : ℕ} {da rw ks : Bool} → Acknowledges add kind first v da rw
      → Runs add kind v true da rw ks (Slot Pulls Other) (Some (wire true false)) (Ending first v (Some false))
  taking :
      {v : ℕ} {da ks l d : Bool} {b : Bits} → Runs add writing v false da false ks (Data b false) (Some (wire l d)) (Within false b)
  sent-low :
      {x v : ℕ} {da ks d : Bool} {b : Bits} → b.count < 8
      → Runs add (reading x) v true da true ks (Sending x b.count) (Some (wire false d)) (Within false b)
  sent-high :
      {x v : ℕ} {da ks d : Bool} (b : Bits) (y : Bool) → b.count < 8
      → Runs add (reading x) v true da true ks (Sending x b.count) (Some (wire true d)) (Within false (pushed b y))
  asked_low :
      {x v u : ℕ} {ks d : Bool} → Runs add (reading x) v false true true ks MasterAcknowledge (Some (wire false d)) (Ending false u None)
  asked_high :
      {x v u : ℕ} {ks d : Bool} → Runs add (reading x) v false true true ks MasterAcknowledge (Some (wire true d)) (Ending false u (Some ks))

-- While it is held: the task; BUF, BF, D/A, R/W; phase. A call finds its case by these.
pub data Waits : Task → ℕ → Bool → Bool → Bool → Phase → Type 0 where
  held_address : {v : ℕ} → Waits take_address v true false false (Data none true)
  held-byte : {v : ℕ} → Waits (take-byte v) v true true false (Data none true)
  held_load : {v : ℕ} {bf da : Bool} → Waits load_byte v bf da true HeldForSending

-- ---- module and reader: they remember one line; neither SSPOV nor the full match is ever set; CKP tells a hold, which SSPIF has told of
abbrev pub flags : ℕ → Bool → Bool → Bool → Bool → Bool → Bool → Bool → Bool → Bool → Live
flags buf bf da rw ckp sspif ackstat acktim s p = live_of s p da rw bf false ckp ackstat acktim sspif false buf

pub data Follows (add : ℕ) (c : Config) : Course → Module → Reader → Type 0 where
  runs :
      {kind : Kind} {v : ℕ} {bf da rw i ks kt s p mark : Bool} {ph : Phase} {z : Option Level} {place : Place}
      → Runs add kind v bf da rw ks ph z place
      → Follows add c (free kind) (module_of c (flags v bf da rw true i ks kt s p) ph (line z mark)) (reader_of (line z mark) place)
  waits :
      {task : Task} {v : ℕ} {bf da rw ks kt s p d mark : Bool} {ph : Phase} → Waits task v bf da rw ph
      → Follows add c (hold task) (module_of c (flags v bf da rw false true ks kt s p) ph (line (Some (wire false d)) mark))
      (reader_of (line (Some (wire false d)) mark) (Within false none))

-- Both follow what they have seen, on the course that it led to.
pub data Led (add : ℕ) (c : Config) (w : Course) (heard : Heard) : Module → Reader → Type 0 where
  to : {u : Course} {m : Module} {r : Reader} → Leads add w heard u → Follows add c u m r → Led add c w heard m r
