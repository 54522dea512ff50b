-- What a handler call does to the module is what register accesses do.
use Rattle.std.specs.Prelude.{ℕ, ◌+◌, ◌%◌, ◌≡◌, refl, Bool, true, false, cond, ◌&&◌, ◌||◌, not, List, [], ◌∷◌, T, get_or}
use Rattle.std.proofs.Common.{sym, ap, ap₂, subst, ◌∙◌, arith, eq-eqb}
use Rattle.std.proofs.Math.Bool.{and-false}
use mir.Val.{bool_byte}
use Rattle.truth.specs.Tests.{and_left}
use Rattle.wire.specs.Byte.{bit}
use Rattle.mssp.specs.declared.Module.{Module}
use Rattle.mssp.specs.Module.{modelled, is_ten_bit}
use Rattle.mssp.specs.Phases.{is_held_for_add}
use Rattle.mssp.specs.Valid.{masks_none, mode_fits, valid}
use Rattle.mssp.specs.Laws.{clauses}
use Rattle.effects.specs.Effects.{emptied, loaded, released}
use Rattle.register_bytes.specs.Bytes.{byte_of, sspm_of}
use Rattle.register_bytes.proofs.Bits.{EightBits, bits_back, half_back}
use Rattle.writes.specs.Writes.{mode_change}
use Rattle.memory.specs.Memory.{peeked}
use Rattle.firmware.specs.declared.State.{State}
use Rattle.firmware.specs.Handler.{Served, served, state_of, memory_in, acknowledged, serve, called_if, called}
use Rattle.firmware.specs.Window.{window_of}
use Rattle.steps.specs.declared.Item.TheVariants.{Call}
use Rattle.steps.specs.Step.{after_all}
use Rattle.image.specs.HandlerPart.{handler_valid}
use Rattle.settling.specs.declared.Answer.{Answer}
use Rattle.settling.specs.Outcome.{done}
use Rattle.demands.specs.Calls.{call_handler, at_door, has_window, in_window, ImageOf, shows, after_writing, setting_ckp, firmware_if, firmware}
use Rattle.demands.specs.Demands.{HandlerIsFirmware}
use Rattle.demands.proofs.DemandTwo.{demand_two}
use Rattle.demands.proofs.DemandThree.{was_run}

-- ---- CON1 written with what it holds and CKP 1
ckp_added :
    (wcol sspov sspen ckp m3 m2 m1 m0 : Bool)
    → let held : ℕ = byte_of wcol sspov sspen ckp m3 m2 m1 m0 in
    cond (bit 4 held) held (held + 16) ≡ byte_of wcol sspov sspen true m3 m2 m1 m0
ckp_added wcol sspov sspen true m3 m2 m1 m0 = rw (bits_back wcol sspov sspen true m3 m2 m1 m0).is4
ckp_added wcol sspov sspen false m3 m2 m1 m0 = rw (bits_back wcol sspov sspen false m3 m2 m1 m0).is4 (omega arith)

both_same : (b : Bool) → b && b ≡ b
both_same true = refl
both_same false = refl

not_both_lem : (b : Bool) → b && not b ≡ false
not_both_lem true = refl
not_both_lem false = refl

mode_ours : (on ours ten none : Bool) → T (not on || ours && (not ten || none)) → (on && not ours ≡ false) × (on && ten && not none ≡ false)
mode_ours false ours ten none t = (refl, refl)
mode_ours true false ten none t = absurd t
mode_ours true true false none t = (refl, refl)
mode_ours true true true true t = (refl, refl)
mode_ours true true true false t = absurd t

unchanged : (on : Bool) (mode v : ℕ) → v % 16 ≡ mode → mode_change on mode v ≡ false
unchanged on mode v e = rw (mode_change, eq-eqb (v % 16) mode e, and-false (on && bit 5 v))

con1_written_lem :
    (m : Module) (v : ℕ) → T (mode_fits m.config)
    → EightBits v m.config.wcol m.live.sspov m.config.sspen true m.config.sspm3 m.config.sspm2 m.config.sspm1 m.config.sspm0
    → after_writing 2 v m ≡ released m
con1_written_lem m v mode k =
    let c = m.config in
    let same : v % 16 ≡ sspm_of c = sym (half_back v) ∙ rw (k.is3, k.is2, k.is1, k.is0) in
    let ours = mode_ours c.sspen (modelled c.sspm2 c.sspm1) (is_ten_bit c) (masks_none c.msk) mode in
    rw (unchanged c.sspen (sspm_of c) v same, k.is7, k.is6, k.is5, k.is4, k.is3, k.is2, k.is1, k.is0, ours.0, ours.1, not_both_lem c.sspen, both_same c.wcol, both_same m.live.sspov)

ckp_set : (m : Module) → T (mode_fits m.config) → setting_ckp m ≡ released m
ckp_set m mode =
    let c = m.config in let l = m.live in
    ap (λ (v : ℕ). after_writing 2 v m) (ckp_added c.wcol l.sspov c.sspen l.ckp c.sspm3 c.sspm2 c.sspm1 c.sspm0)
    ∙ con1_written_lem m (byte_of c.wcol l.sspov c.sspen true c.sspm3 c.sspm2 c.sspm1 c.sspm0) mode
    (bits_back c.wcol l.sspov c.sspen true c.sspm3 c.sspm2 c.sspm1 c.sspm0)

-- ---- a call
flag-bit : (b : Bool) → bit 0 (bool_byte b) ≡ b
flag-bit true = refl
flag-bit false = refl

module _ (s : State) (window : List ℕ) (mode : T (mode_fits s.mssp.config)) where
  abbrev byte : ℕ
  byte = peeked (memory_in s window)

  abbrev cleared : Module
  cleared = (acknowledged s).mssp

  flag_cleared : after_writing 7 0 s.mssp ≡ cleared
  flag_cleared = rw and-false

  -- After the flag: what else is done, and then CKP.
  then_ckp : (work : Module → Module) → T (mode_fits (work cleared).config) → setting_ckp (work (after_writing 7 0 s.mssp)) ≡ released (work cleared)
  then_ckp work fits = ap (λ (m : Module). setting_ckp (work m)) flag_cleared ∙ ckp_set (work cleared) fits

  serve_is :
      (w d : Bool) → s.mssp.live.da ≡ d
      → firmware_if true false w d byte s.mssp ≡ (serve w d (acknowledged s) window).state.mssp
  serve_is false true e = then_ckp emptied mode
  serve_is false false e = then_ckp emptied mode
  serve_is true true e =
      then_ckp (loaded byte) mode ∙ ap (λ (t : Bool). released (loaded byte (cond t cleared (emptied cleared)))) (sym e)
  serve_is true false e =
      then_ckp (λ m. loaded byte (emptied m)) mode ∙ ap (λ (t : Bool). released (loaded byte (cond t cleared (emptied cleared)))) (sym e)

  called_is :
      (flag ckp : Bool)
      → firmware_if flag ckp s.mssp.live.rw s.mssp.live.da byte s.mssp ≡ (called_if flag ckp s window).state.mssp
  called_is false ckp = refl
  called_is true true = flag_cleared
  called_is true false = serve_is s.mssp.live.rw s.mssp.live.da refl

  firmware_is : firmware byte s.mssp ≡ (called s window).state.mssp
  firmware_is =
      let c = s.mssp.config in let l = s.mssp.live in
      let con1 = bits_back c.wcol l.sspov c.sspen l.ckp c.sspm3 c.sspm2 c.sspm1 c.sspm0 in
      let stat = bits_back c.smp c.cke l.da l.p l.s l.rw (is_held_for_add s.mssp.phase) l.bf in
      ap (λ (b : Bool). firmware_if b (bit 4 (shows 2 s.mssp)) (bit 2 (shows 1 s.mssp)) (bit 5 (shows 1 s.mssp)) byte s.mssp) (flag-bit l.sspif)
      ∙ ap (λ (b : Bool). firmware_if l.sspif b (bit 2 (shows 1 s.mssp)) (bit 5 (shows 1 s.mssp)) byte s.mssp) con1.is4
      ∙ ap₂ (λ (a b : Bool). firmware_if l.sspif l.ckp a b byte s.mssp) stat.is2 stat.is5
      ∙ called_is l.sspif l.ckp

pub handler_is_firmware : HandlerIsFirmware
unfolding after_all
handler_is_firmware s h start n image e =
    let w : Served = served s h.buffer in
    let window : List ℕ = window_of start n h.buffer in
    let mode : T (mode_fits s.mssp.config) = (clauses s.mssp (and_left (valid s.mssp) (handler_valid s.handler) image.1)).mode in
    let both = demand_two s h (call_handler start n ∷ []) image in
    let f = (was_run start n w (Call ∷ []) (has_window w start n) false 0 (sym (ap (λ (xs : List Answer). (get_or xs 0 (done 0)).refusal) both.0) ∙ e)).0 in
    subst (λ (m : Module). ImageOf (state_of m (called s window).state.handler) (at_door h (call_handler start n)).left.state) (sym (firmware_is s window mode))
    (subst (λ (t : Bool). ImageOf (in_window t false 0 w start n (Call ∷ [])).left.state (at_door h (call_handler start n)).left.state) f both.1)
