-- While SSPEN stays 1, no list of calls changes SSPM (02, 6).
use Rattle.demands.specs.ModeStays.{KeepsMode}
use Rattle.std.specs.Prelude.{ℕ, ◌%◌, ◌≡◌, refl, Bool, true, false, ◌&&◌, not, Result, Ok, Err, List, [], ◌∷◌, map, eqb, ltb, length}
use Rattle.std.proofs.Common.{⊎_elim, sym, ap, ◌∙◌, eqb-true}
use Rattle.std.proofs.lemmas.Bool.{not-false}
use Rattle.truth.specs.Tests.{never, by_choice}
use Rattle.refusals.specs.declared.Refusal.{Refusal}
use Rattle.refusals.specs.Numbers.{accepted}
use Rattle.refusals.specs.Laws.{none-holds}
use Rattle.wire.specs.Byte.{bit}
use Rattle.mssp.specs.declared.Module.{Module}
use Rattle.effects.specs.Effects.{emptied}
use Rattle.register_bytes.specs.Bytes.{sspm_of}
use Rattle.register_bytes.proofs.Bits.{half_back}
use Rattle.registers.specs.declared.Register.{Register}
use Rattle.registers.specs.declared.Register.TheVariants.{Buf, Stat, Con1, Con2, Con3, Add, Msk, Flag}
use Rattle.registers.specs.Values.{register_of, is_buf, read_at}
use Rattle.writes.specs.Writes.{con1_stored, con1_then, written, write_causes, verdict_of, write_at}
use Rattle.firmware.specs.declared.State.{State}
use Rattle.firmware.specs.Handler.{Served, served}
use Rattle.firmware.specs.Window.{window_of}
use Rattle.trace.specs.Run.{first_bad, item_at}
use Rattle.settling.specs.Outcome.{by_state}
use Rattle.lanes.specs.Lanes.{driven}
use Rattle.items.specs.First.{first_above}
use Rattle.demands.specs.Calls.{DoorCall, set_up, read_register, write_register, feed_sample, call_handler, run_trace, Host, left_after, at_door, has_window, in_window, by_definition, ImageOf, shown_con1, StaysEnabled, draw_lanes, drawn_levels}
use Rattle.demands.specs.Demands.{ModeStays}
use Rattle.demands.proofs.DemandTwo.{shown_is, image_or_none, demand_two}
use Rattle.demands.proofs.DemandThree.{unmoved, step_stands, run_stands}

-- ---- a write
con1_config_lem : (off ckp : Bool) (m : Module) → (con1_then off ckp m).config ≡ m.config
con1_config_lem true ckp m = refl
con1_config_lem false true m = refl
con1_config_lem false false m = refl

module _ (v : ℕ) (m : Module) where
  abbrev TakenKeepsMode : Register → Type 0
  TakenKeepsMode r = accepted (verdict_of r v m) ≡ true → KeepsMode m.config (written r v m).config

  con1_mode : TakenKeepsMode Con1
  con1_mode a on stays =
      let c = m.config in
      let is = con1_config_lem (c.sspen && not (bit 5 v)) (bit 4 v) (con1_stored v m) in
      let same = rw (on, rw is at stays) at (none-holds 0 (write_causes Con1 v m) a).1.1.0 in
      rw is (half_back v ∙ eqb-true (v % 16) (sspm_of c) (not-false (eqb (v % 16) (sspm_of c)) same))

  written_mode : (r : Register) → TakenKeepsMode r
  written_mode Buf a on stays = refl
  written_mode Stat a on stays = refl
  written_mode Con1 a on stays = con1_mode a on stays
  written_mode Con2 a on stays = refl
  written_mode Con3 a on stays = refl
  written_mode Add a on stays = refl
  written_mode Msk a on stays = refl
  written_mode Flag a on stays = refl

  write_mode : (known : Result Register Refusal) → KeepsMode m.config (write_at known v m).mssp.config
  write_mode (Ok r) on stays =
      by_choice (λ (n : Module). KeepsMode m.config n.config) (accepted (verdict_of r v m)) (written_mode r) (λ e on stays. refl) on stays
  write_mode (Err why) on stays = refl

read_mode : (m : Module) (known : Result Register Refusal) → sspm_of (read_at known m).mssp.config ≡ sspm_of m.config
read_mode m (Ok r) =
    by_choice (λ (n : Module). sspm_of n.config ≡ sspm_of m.config) (is_buf r) {a = emptied m} {b = m} (λ e. refl) (λ e. refl)
read_mode m (Err why) = refl

-- ---- every call but a setup
window_stands :
    (w : Served) (start n : ℕ) (trace : List ℕ) (f bad : Bool) (item : ℕ)
    → unmoved (in_window f bad item w start n (map item_at trace)).left.state ≡ unmoved w.state
window_stands w start n trace false bad item = refl
window_stands w start n trace true true item = refl
window_stands w start n trace true false item = run_stands w.state (window_of start n w.bytes) trace

call_mode :
    (w : Served) (c : DoorCall) → ((add n : ℕ) → c ≡ set_up add n → ⊥)
    → KeepsMode w.state.mssp.config (by_definition w c).left.state.mssp.config
call_mode w (set_up add n) other on stays = absurd (other add n refl)
call_mode w (read_register number) other on stays = read_mode w.state.mssp (register_of number)
call_mode w (write_register number value) other on stays = write_mode value w.state.mssp (register_of number) on stays
call_mode w (feed_sample level) other on stays =
    ap (λ (x : ℕ × ℕ). x.1) (step_stands (ltb level 4) false w.state w.bytes level)
call_mode w (call_handler start n) other on stays =
    ap (λ (x : ℕ × ℕ). x.1) (window_stands w start n (4 ∷ []) (has_window w start n) false 0)
call_mode w (run_trace start n items) other on stays =
    ap (λ (x : ℕ × ℕ). x.1) (window_stands w start n items (has_window w start n) (ltb (first_bad items) (length items)) (first_bad items))
call_mode w (draw_lanes start n levels lanes) other on stays =
    let part : List ℕ = drawn_levels levels lanes in
    ap (λ (x : ℕ × ℕ). x.1) (window_stands w start n (driven (served w.state (window_of start n w.bytes)) part) (has_window w start n) (ltb (first_above 3 part) (length part)) (first_above 3 part))

-- ---- a list of calls
starts_enabled : (h : Host) (calls : List DoorCall) → StaysEnabled h calls → bit 5 (shown_con1 h) ≡ true
starts_enabled h [] on = on
starts_enabled h (c ∷ calls) on = on.0

stays_from :
    (s : State) (h : Host) (calls : List DoorCall) → ImageOf s h.state → StaysEnabled h calls
    → shown_con1 (left_after at_door h calls) % 16 ≡ shown_con1 h % 16
stays_from s h [] image on = refl
stays_from s h (c ∷ calls) image on =
    let w : Served = served s h.buffer in
    let after : Host = (at_door h c).left in
    let next = (demand_two s h (c ∷ []) image).1 in
    let was = shown_is s h image in
    let is = shown_is (by_definition w c).left.state after next in
    stays_from (by_definition w c).left.state after calls next on.2
    ∙ is.1 ∙ call_mode w c on.1 (sym was.0 ∙ on.0) (sym is.0 ∙ starts_enabled after calls on.2) ∙ sym was.1

pub mode_stays : ModeStays
unfolding by_state
mode_stays h calls on =
    ⊎_elim (λ k. never (rw (shown_con1, k.0) at (starts_enabled h calls on))) (λ k. stays_from k.0 h calls k.2 on) (image_or_none h.state)
