-- What the theorems of proofs/Edges.antt say.
use Rattle.std.specs.Prelude.{◌≡◌, Bool, true, false, ◌||◌, ◌&&◌, T, Option, Some}
use Rattle.wire.specs.declared.Level.{Level}
use Rattle.wire.specs.declared.Edge.{Edge}
use Rattle.wire.specs.declared.Edge.TheVariants.{Still, Start, Stop, Rise, Fall}
use Rattle.wire.specs.Wire.{edge_from, is_start, wire}
use Rattle.mssp.specs.declared.Config.{Config}
use Rattle.mssp.specs.declared.Live.{Live}
use Rattle.mssp.specs.declared.Phase.{Phase}
use Rattle.mssp.specs.Module.{is_ten_bit}
use Rattle.mssp.specs.Phases.{of_ten_bits}
use Rattle.mssp.specs.Valid.{parts_fit, mark_fits, eight_fit, hold_fits, ten_fit}
use Rattle.sampling.specs.Rules.{Moved, edge_step}

abbrev pub Seven : Moved → Type 0
Seven n = (n.live.full ≡ false) × (of_ten_bits n.phase ≡ false)

-- A seven-bit mode, no full match, and a phase that is not of ten bits.
abbrev pub Alone : Config → Live → Phase → Type 0
Alone c l ph = (is_ten_bit c ≡ false) × (l.full ≡ false) × (of_ten_bits ph ≡ false)

abbrev pub is_rise : Edge → Bool
is_rise Still = false
is_rise Start = false
is_rise Stop = false
is_rise (Rise sda) = true
is_rise Fall = false

abbrev pub EightKept : Type 0
EightKept =
    (c : Config) (l : Live) (ph : Phase) (mark : Bool) (seen : Option Level) (scl sda : Bool)
    → T (parts_fit ph) → T (hold_fits ph l.ckp) → T (eight_fit ph seen)
    → T (eight_fit (edge_step c l ph (edge_from mark seen scl sda)).phase (Some (wire scl sda)))

abbrev pub TenKept : Type 0
TenKept =
    (c : Config) (l : Live) (ph : Phase) (e : Edge) → T (ten_fit (is_ten_bit c) l.full ph) → (Alone c l ph → Seven (edge_step c l ph e))
    → T (ten_fit (is_ten_bit c) (edge_step c l ph e).live.full (edge_step c l ph e).phase)

abbrev pub MarkKept : Type 0
MarkKept =
    (c : Config) (l : Live) (ph : Phase) (mark : Bool) (seen : Option Level) (scl sda : Bool)
    → T (mark_fits mark l.s seen ph)
    → T (mark_fits (scl && (mark || is_start (edge_from mark seen scl sda))) (edge_step c l ph (edge_from mark seen scl sda)).live.s (Some (wire scl sda)) (edge_step c l ph (edge_from mark seen scl sda)).phase)
