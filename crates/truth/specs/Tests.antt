-- Laws of tests: what two tests together say, and the two ways that one can come out.
use Rattle.std.specs.Prelude.{◌≡◌, refl, Bool, true, false, cond, ◌&&◌, ◌||◌, not, T}
use Rattle.std.proofs.Common.{sym, true≢false}

pub and_both : (a b : Bool) → T a → T b → T (a && b)
and_both true b s t = t
and_both false b s t = s

pub and_left : (a b : Bool) → T (a && b) → T a
and_left true b t = tt
and_left false b t = t

pub and_right : (a b : Bool) → T (a && b) → T b
and_right true b t = t
and_right false b t = absurd t

pub or_left : (a b : Bool) → T a → T (a || b)
or_left true b t = tt
or_left false b t = absurd t

pub or_right : (a b : Bool) → T b → T (a || b)
or_right true b t = tt
or_right false b t = t

pub or_false : (a : Bool) → a || false ≡ a
or_false true = refl
or_false false = refl

pub neither : (a b : Bool) → T (not (a || b)) → (a ≡ false) × (b ≡ false)
neither true b h = absurd h
neither false true h = absurd h
neither false false h = (refl, refl)

-- Either a test holds or it fails.
pub by_test {ℓ} : {P : Type ℓ} (t : Bool) → (t ≡ true → P) → (t ≡ false → P) → P
by_test true f g = f refl
by_test false f g = g refl

-- What holds of the one that a test chooses, by what holds of both, each where it is chosen.
pub by_choice : {A : Type 0} (P : A → Type 0) (t : Bool) {a b : A} → (t ≡ true → P a) → (t ≡ false → P b) → P (cond t a b)
by_choice P true f g = f refl
by_choice P false f g = g refl

-- A test that failed did not hold.
pub never {ℓ} : {P : Type ℓ} → false ≡ true → P
never h = absurd (true≢false (sym h))

-- Two tests that hold together hold each.
pub and_first : (a b : Bool) → a && b ≡ true → a ≡ true
and_first true b h = refl
and_first false b h = h

pub and_second : (a b : Bool) → a && b ≡ true → b ≡ true
and_second true b h = h
and_second false b h = absurd (true≢false (sym h))
