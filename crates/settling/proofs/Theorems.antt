-- What every call promises, of whatever kind its state is (01, "Calls, refusals and their order" and "What the contracts have to
-- decide"): only one outcome fits a contract, a refused call leaves the state's bytes and the buffer's, an accepted one leaves a
-- state's image.
use Rattle.std.specs.Prelude.{ℕ, zero, suc, ◌≡◌, refl, false, Ok, Err, List, Option, Some, None}
use Rattle.std.proofs.Common.{sym, ap, ◌∙◌, arith}
use Rattle.refusals.specs.declared.Refusal.{Refusal}
use Rattle.refusals.specs.declared.Refusal.TheVariants.{NoState, NoRegister, ReservedBit, NoMode, ModeChange, MaskedTenBits, NoWindow, NoItem, PastRecord}
use Rattle.refusals.specs.Numbers.{Verdict, accepted}
use Rattle.mssp.specs.declared.Module.{Module}
use Rattle.registers.specs.Values.{Access}
use Rattle.settling.specs.declared.Answer.{Answer}
use Rattle.settling.specs.Outcome.{Outcome, outcome, Lent, lent, answer_of, refused, settled, settled_access, no_state, by_state, by_access, Keeps, KeepsLent}
use Rattle.settling.specs.Left.{ImageOfSome, Leaves}

-- ---- only one outcome fits: answers and bytes that meet one contract are the same
pub one_outcome :
    {o : Outcome} {r t : Answer} {bytes left : List ℕ} → outcome r bytes ≡ o → outcome t left ≡ o → (r ≡ t) × (bytes ≡ left)
one_outcome e f = (ap (λ (o : Outcome). o.answer) (e ∙ sym f), ap (λ (o : Outcome). o.state) (e ∙ sym f))

pub one_lent :
    {o : Lent} {r t : Answer} {bytes left buffer lends : List ℕ} → lent (outcome r bytes) buffer ≡ o
    → lent (outcome t left) lends ≡ o → (r ≡ t) × (bytes ≡ left) × (buffer ≡ lends)
one_lent e f =
    let one = one_outcome (ap (λ (o : Lent). o.outcome) (e ∙ sym f)) refl in
    (one.0, one.1, ap (λ (o : Lent). o.buffer) (e ∙ sym f))

-- What holds where there is no state, and on every state that the bytes can be an image of.
pub by_state_lem :
    {S A : Type 0} (P : A → Type 0) (known : Option S) (nothing : A) (work : S → A) → P nothing
    → ((s : S) → known ≡ Some s → P (work s)) → P (by_state known nothing work)
unfolding by_state
by_state_lem P None nothing work p q = p
by_state_lem P (Some s) nothing work p q = q s refl

-- ---- refused, nothing changes
module _ (bytes : List ℕ) where
  pub settled_keeps : (v : Verdict) (item : ℕ) (image : List ℕ) → Keeps bytes (settled v item image bytes)
  settled_keeps (Ok value) item image h = absurd (omega arith)
  settled_keeps (Err why) item image h = refl

  -- Refused, the work on the buffer must have left it.
  pub settled_keeps_lent :
      (buffer : List ℕ) (v : Verdict) (item : ℕ) (image : List ℕ) {left : List ℕ} → (accepted v ≡ false → left ≡ buffer)
      → KeepsLent bytes buffer (lent (settled v item image bytes) left)
  settled_keeps_lent buffer (Ok value) item image same h = absurd (omega arith)
  settled_keeps_lent buffer (Err why) item image same h = (refl, same refl)

  module _ {S : Type 0} (known : Option S) where
    pub state_keeps : (work : S → Outcome) → ((s : S) → Keeps bytes (work s)) → Keeps bytes (by_state known (no_state bytes) work)
    state_keeps work keeps = by_state_lem (Keeps bytes) known (no_state bytes) work (λ h. refl) (λ s e. keeps s)

    pub access_keeps :
        (module_in : S → Module) (image_with : S → Module → List ℕ) (work : Module → Access)
        → Keeps bytes (by_access module_in image_with known work bytes)
    access_keeps module_in image_with work =
        state_keeps (λ s. settled_access (image_with s) (work (module_in s)) bytes)
        (λ s. let a = work (module_in s) in settled_keeps a.verdict 0 (image_with s a.mssp))

    pub state_keeps_lent :
        (buffer : List ℕ) (work : S → Lent) → ((s : S) → KeepsLent bytes buffer (work s))
        → KeepsLent bytes buffer (by_state known (lent (no_state bytes) buffer) work)
    state_keeps_lent buffer work keeps =
        by_state_lem (KeepsLent bytes buffer) known (lent (no_state bytes) buffer) work (λ h. (refl, refl)) (λ s e. keeps s)

-- ---- accepted, an image is left
module _ {S : Type 0} (decode : List ℕ → Option S) where
  -- No cause has the number 0.
  pub refused_never_accepted : (why : Refusal) (item : ℕ) (bytes : List ℕ) → Leaves decode (outcome (refused why item) bytes)
  refused_never_accepted NoState item bytes e = absurd (omega arith)
  refused_never_accepted NoRegister item bytes e = absurd (omega arith)
  refused_never_accepted ReservedBit item bytes e = absurd (omega arith)
  refused_never_accepted NoMode item bytes e = absurd (omega arith)
  refused_never_accepted ModeChange item bytes e = absurd (omega arith)
  refused_never_accepted MaskedTenBits item bytes e = absurd (omega arith)
  refused_never_accepted NoWindow item bytes e = absurd (omega arith)
  refused_never_accepted NoItem item bytes e = absurd (omega arith)
  refused_never_accepted PastRecord item bytes e = absurd (omega arith)

  -- What is settled leaves one where the next state's image is one.
  pub settled_leaves :
      (v : Verdict) (item : ℕ) {image : List ℕ} (bytes : List ℕ) → ImageOfSome decode image
      → Leaves decode (settled v item image bytes)
  settled_leaves (Ok value) item bytes image = λ e. image
  settled_leaves (Err why) item bytes image = refused_never_accepted why item bytes

  module _ (bytes : List ℕ) where
    pub state_leaves :
        (work : S → Outcome) → ((s : S) → decode bytes ≡ Some s → Leaves decode (work s))
        → Leaves decode (by_state (decode bytes) (no_state bytes) work)
    state_leaves work leaves =
        by_state_lem (Leaves decode) (decode bytes) (no_state bytes) work (refused_never_accepted NoState 0 bytes) leaves

    -- An access, where the state with the module that it leaves has an image.
    pub access_leaves :
        (module_in : S → Module) (image_with : S → Module → List ℕ) (work : Module → Access)
        → ((s : S) → decode bytes ≡ Some s → ImageOfSome decode (image_with s (work (module_in s)).mssp))
        → Leaves decode (by_access module_in image_with (decode bytes) work bytes)
    access_leaves module_in image_with work image =
        state_leaves (λ s. settled_access (image_with s) (work (module_in s)) bytes)
        (λ s e. settled_leaves (work (module_in s)).verdict 0 bytes (image s e))

    pub state_leaves_lent :
        (buffer : List ℕ) (work : S → Lent) → ((s : S) → decode bytes ≡ Some s → Leaves decode (work s).outcome)
        → Leaves decode (by_state (decode bytes) (lent (no_state bytes) buffer) work).outcome
    state_leaves_lent buffer work leaves =
        by_state_lem (λ o. Leaves decode o.outcome) (decode bytes) (lent (no_state bytes) buffer) work
        (refused_never_accepted NoState 0 bytes) leaves

  -- An image stays an image, whatever is settled.
  stays_if :
      (refusal value item : ℕ) {bytes left : List ℕ} → Keeps bytes (outcome (answer_of refusal value item) left)
      → Leaves decode (outcome (answer_of refusal value item) left) → ImageOfSome decode bytes → ImageOfSome decode left
  stays_if zero value item keeps leaves image = leaves (omega arith)
  stays_if (suc refusal) value item keeps leaves image = rw (keeps (omega arith)) image

  pub stays :
      {bytes : List ℕ} (o : Outcome) → Keeps bytes o → Leaves decode o → ImageOfSome decode bytes
      → ImageOfSome decode o.state
  stays o keeps leaves image = stays_if o.answer.refusal o.answer.value o.answer.item keeps leaves image
