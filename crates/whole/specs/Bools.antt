-- Tests joined by 'and' and 'or', taken apart and put together; a case that cannot be. Assumes nothing.
use Rattle.std.specs.Prelude.{ℕ, ◌≡◌, refl, Bool, true, false, ◌&&◌, ◌||◌}
use Rattle.std.proofs.Common.{sym, arith}
use Rattle.std.proofs.lemmas.Bool.{false≢true}

-- neither of two tests holds
pub or-false : (a b : Bool) → (a || b) ≡ false → (a ≡ false) × (b ≡ false)
or-false true b e = absurd (false≢true (cc))
or-false false b e = (refl, e)

-- either of two tests holds
pub or-first : (a b : Bool) → a ≡ true → (a || b) ≡ true
or-first true b e = refl
or-first false b e = absurd (false≢true e)

pub or-second : (a b : Bool) → b ≡ true → (a || b) ≡ true
or-second true b e = refl
or-second false b e = e

-- both of two tests hold
pub and-true : (a b : Bool) → (a && b) ≡ true → (a ≡ true) × (b ≡ true)
and-true true b e = (refl, e)
and-true false b e = absurd (false≢true e)

pub and_both : (a b : Bool) → a ≡ true → b ≡ true → (a && b) ≡ true
and_both true b x y = y
and_both false b x y = x

-- not both of two tests hold, but the first does
pub and_left : (a b : Bool) → (a && b) ≡ false → a ≡ true → b ≡ false
and_left true b e h = e
and_left false b e h = absurd (false≢true h)

-- two tests that imply each other are one
pub same_test : (s t : Bool) → (s ≡ true → t ≡ true) → (t ≡ true → s ≡ true) → s ≡ t
same_test true t f g = sym (f refl)
same_test false true f g = g refl
same_test false false f g = refl

-- a test that does not hold
pub is_false : (t : Bool) → (t ≡ true → ⊥) → t ≡ false
is_false true h = absurd (h refl)
is_false false h = refl

-- two makers of one type are never equal: `never (cc)` where a case says that they are
pub never : {X : Type 0} → ◌≡◌ {A = ℕ} 0 1 → X
never e = let o : ⊥ = omega arith in absurd o
