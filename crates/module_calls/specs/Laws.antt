-- What the code of these calls knows on each way, and what follows: of bytes that were found to be an image.
use Rattle.std.specs.Prelude.{ℕ, ◌<◌, ◌≤◌, ◌≡◌, Bool, true, false, ◌&&◌, Ok, Err, List, [], ◌∷◌, T, length, Option, Some}
use Rattle.std.proofs.Math.Path.{sym, ap, ap₂}
use Rattle.std.proofs.Common.{◌∙◌, arith, lt-ltb, le-ltb}
use Rattle.std.proofs.Math.Bool.{and-false}
use Rattle.truth.specs.Tests.{and_left, and_right}
use Rattle.refusals.specs.declared.Refusal.{Refusal}
use Rattle.refusals.specs.declared.Refusal.TheVariants.{NoItem}
use Rattle.codec.proofs.Laws.{so}
use Rattle.wire.specs.declared.Line.{Line}
use Rattle.wire.specs.declared.Level.{Level}
use Rattle.wire.specs.Wire.{scl_high, wire}
use Rattle.mssp.specs.declared.Phase.{Phase}
use Rattle.mssp.specs.declared.Module.{Module}
use Rattle.mssp.specs.declared.Stand.{Stand}
use Rattle.mssp.specs.Module.{module_of, stand_of}
use Rattle.mssp.specs.Valid.{address_begins, mark_fits, valid}
use Rattle.mssp.specs.Laws.{clauses}
use Rattle.sampling.specs.Still.{is_still}
use Rattle.sampling.proofs.Laws.{sampled_still}
use Rattle.registers.specs.Values.{Access}
use Rattle.module_image.specs.ModulePart.{module_length, module_from, with_module, with_stand}
use Rattle.stretch.specs.declared.Stretch.{Stretch}
use Rattle.stretch.specs.Seen.{line_of}
use Rattle.stretch.specs.Stretch.{stand_stretch}
use Rattle.samples.specs.Samples.{sampled_at, moved_on}
use Rattle.samples.proofs.Laws.{level_passed}
use Rattle.firmware.specs.declared.State.{State}
use Rattle.firmware.specs.Handler.{state_of}
use Rattle.trace.specs.Run.{sampled_by}
use Rattle.image.specs.HandlerPart.{handler_valid}
use Rattle.image.specs.Image.{encode_of, parse_of, is_state}
use Rattle.image.specs.Theorems.{state_image, state_valid, state_length, module_over, stand_over}
use Rattle.settling.specs.declared.Answer.{Answer}
use Rattle.settling.specs.Outcome.{Outcome, outcome, done, refused, settled, settled_access}
use Rattle.settling.specs.Laws.{settle_done, settle_refused}
use Rattle.module_calls.specs.Calls.{image_with, level_verdict}

-- ---- the mark of a valid module stands with SCL high alone
stands_if :
    (mark s : Bool) (seen : Option Level) (ph : Phase) {scl sda : Bool} → T (mark_fits mark s seen ph) → seen ≡ Some (wire scl sda)
    → scl && mark ≡ mark
stands_if false s seen ph {scl} h e = and-false scl
stands_if true s seen ph h e =
    let high : T (scl_high seen) = and_right s (scl_high seen) (and_left (s && scl_high seen) (address_begins ph) h) in
    ap (λ (scl : Bool). scl && true) (sym (ap scl_high e) ∙ so (scl_high seen) high)

-- ---- a level
module _ (bytes : List ℕ) (level : ℕ) (next : State) where
  pub level_refused :
      {r : Answer} → 3 < level → r ≡ refused NoItem 0 → outcome r bytes ≡ settled (level_verdict level) 0 (encode_of next) bytes
  level_refused h e = rw (lt-ltb 3 level h, e)

  pub level_settled :
      {o : Outcome} → level ≤ 3 → o ≡ outcome (done 0) (encode_of next) → o ≡ settled (level_verdict level) 0 (encode_of next) bytes
  level_settled h e = rw (le-ltb 3 level h) e

module _ (b : List ℕ) (t : is_state b ≡ true) where
  pub long_enough : module_length ≤ length b
  long_enough = let l = state_length b t in omega arith

  -- ---- an access
  module _ (access : Access) {r : Answer} where
    pub access_saved :
        {value : ℕ} {left : List ℕ} → access.verdict ≡ Ok value → r ≡ done value → left ≡ with_module access.mssp b
        → outcome r left ≡ settled_access (image_with (parse_of b)) access b
    access_saved e f g = settle_done 0 (image_with (parse_of b) access.mssp) b e f (g ∙ module_over b t access.mssp)

    pub access_refused :
        {why : Refusal} → access.verdict ≡ Err why → r ≡ refused why 0
        → outcome r b ≡ settled_access (image_with (parse_of b)) access b
    access_refused e f = settle_refused 0 (image_with (parse_of b) access.mssp) b e f

  -- ---- a sample, by each of its ways
  module _ (level : ℕ) where
    abbrev left : List ℕ
    left = encode_of (sampled_by (parse_of b) level)

    abbrev Leaves : Answer → List ℕ → Type 0
    Leaves r bytes = outcome r bytes ≡ outcome (done 0) left

    with_next : (n : Module) → n ≡ (sampled_by (parse_of b) level).mssp → encode_of (state_of n (parse_of b).handler) ≡ left
    with_next n e = ap (λ (x : Module). encode_of (state_of x (parse_of b).handler)) e

    -- The short way: every byte stays.
    pub short_way :
        {ph : Phase} {line : Line} {scl sda still : Bool} {r : Answer} → ph ≡ (module_from b).phase → line ≡ (module_from b).line
        → line.remembered ≡ Some (wire scl sda) → still ≡ is_still ph scl sda level → still ≡ true → r ≡ done 0 → Leaves r b
    unfolding parse_of
    short_way {scl = scl} {sda = sda} e k seen is same f =
        let m : Module = module_from b in
        let remembered : m.line.remembered ≡ Some (wire scl sda) = sym (ap (λ (x : Line). x.remembered) k) ∙ seen in
        let v = clauses m (and_left (valid m) (handler_valid (parse_of b).handler) (state_valid b t)) in
        let stands = stands_if m.line.mark m.live.s m.line.remembered m.phase v.mark remembered in
        let stays = sampled_still m level remembered stands (sym (is ∙ ap (λ (x : Phase). is_still x scl sda level) e) ∙ same) in
        ap₂ outcome f (sym (state_image b t) ∙ with_next m (sym stays))

    -- A stretch of its own: phase and line are written.
    pub stretch_way :
        {s : Stand} {ahead : Stretch} {line : Line} {r : Answer} {bytes : List ℕ} → level ≤ 3 → s ≡ stand_of (module_from b)
        → ahead ≡ stand_stretch s (level ∷ []) → 0 < ahead.length → line ≡ line_of ahead.wire
        → bytes ≡ with_stand ahead.phase line b → r ≡ done 0 → Leaves r bytes
    unfolding parse_of
    stretch_way {ahead = r} h e is l line g f =
        let m : Module = module_from b in
        let moved = level_passed m level h (is ∙ ap (λ (x : Stand). stand_stretch x (level ∷ [])) e) l in
        ap₂ outcome f (g ∙ stand_over b t r.phase _ ∙ ap (λ (x : Line). encode_of (state_of (module_of m.config m.live r.phase x) (parse_of b).handler)) line ∙ with_next (moved_on m r) moved)

    -- The long way: the module is built, sampled and written.
    pub long_way :
        {m n : Module} {r : Answer} {bytes : List ℕ} → m ≡ module_from b → n ≡ sampled_at m level → bytes ≡ with_module n b → r ≡ done 0
        → Leaves r bytes
    unfolding parse_of
    long_way {n = n} e is g f =
        ap₂ outcome f (g ∙ module_over b t n ∙ with_next n (is ∙ ap (λ (x : Module). sampled_at x level) e))
