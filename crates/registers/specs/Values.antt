-- The registers by number, and what a read gives and changes (01, "Register numbers").
use Rattle.std.specs.Prelude.{ℕ, Bool, cond, Result, Ok, Err, eqb}
use mir.Val.{bool_byte}
use Rattle.refusals.specs.declared.Refusal.{Refusal}
use Rattle.refusals.specs.declared.Refusal.TheVariants.{NoRegister}
use Rattle.refusals.specs.Numbers.{Verdict}
use Rattle.mssp.specs.declared.Config.{Config}
use Rattle.mssp.specs.declared.Live.{Live}
use Rattle.mssp.specs.Phases.{is_held_for_add}
use Rattle.mssp.specs.declared.Module.{Module}
use Rattle.effects.specs.Effects.{emptied}
use Rattle.register_bytes.specs.Bytes.{stat_of, con1_of, con2_of, con3_of}
use Rattle.registers.specs.declared.Register.{Register}
use Rattle.registers.specs.declared.Register.TheVariants.{Buf, Stat, Con1, Con2, Con3, Add, Msk, Flag}

-- Numbers 0 to 7; no other number is a register's.
abbrev pub register_of : ℕ → Result Register Refusal
register_of number =
    cond (eqb number 0) (Ok Buf)
    (cond (eqb number 1) (Ok Stat)
    (cond (eqb number 2) (Ok Con1)
    (cond (eqb number 3) (Ok Con2)
    (cond (eqb number 4) (Ok Con3)
    (cond (eqb number 5) (Ok Add)
    (cond (eqb number 6) (Ok Msk)
    (cond (eqb number 7) (Ok Flag) (Err NoRegister))))))))

-- The number of a register. Which register it is, is asked by it.
abbrev pub register_number : Register → ℕ
register_number Buf = 0
register_number Stat = 1
register_number Con1 = 2
register_number Con2 = 3
register_number Con3 = 4
register_number Add = 5
register_number Msk = 6
register_number Flag = 7

abbrev pub is_buf : Register → Bool
is_buf r = eqb (register_number r) 0

abbrev pub is_add : Register → Bool
is_add r = eqb (register_number r) 5

abbrev pub is_msk : Register → Bool
is_msk r = eqb (register_number r) 6

abbrev pub is_con1 : Register → Bool
is_con1 r = eqb (register_number r) 2

abbrev pub is_con2 : Register → Bool
is_con2 r = eqb (register_number r) 3

abbrev pub is_con3 : Register → Bool
is_con3 r = eqb (register_number r) 4

-- What a register holds, by whether UA stands. Of the flag register only SSPIF is not 0.
abbrev pub held_by : Config → Live → Bool → Register → ℕ
held_by c l ua Buf = l.buf
held_by c l ua Stat = stat_of c l ua
held_by c l ua Con1 = con1_of c l
held_by c l ua Con2 = con2_of c l
held_by c l ua Con3 = con3_of c l
held_by c l ua Add = c.add
held_by c l ua Msk = c.msk
held_by c l ua Flag = bool_byte l.sspif

-- What a module's register holds: UA is 1 exactly in the hold for ADD.
abbrev pub value_of : Module → Register → ℕ
value_of m r = held_by m.config m.live (is_held_for_add m.phase) r

-- What an access answers, and the module after it: after a refusal the one that was given.
pub record Access : Type 0 where
  pub verdict : Verdict
  pub mssp : Module

abbrev pub access_of : Verdict → Module → Access
access_of verdict m = record { verdict = verdict; mssp = m }

-- A read of BUF clears BF, other reads change nothing.
abbrev pub after_read : Register → Module → Module
after_read r m = cond (is_buf r) (emptied m) m

-- A register answers what it holds; a number above 7 is refused.
abbrev pub read_at : Result Register Refusal → Module → Access
read_at (Ok r) m = access_of (Ok (value_of m r)) (after_read r m)
read_at (Err why) m = access_of (Err why) m

abbrev pub read_of : Module → ℕ → Access
read_of m number = read_at (register_of number) m
