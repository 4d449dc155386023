-- Tests of whole numbers that compute, with the facts that a test of the code's leaves. Assumes nothing.
use Rattle.std.specs.Prelude.{◌≡◌, refl, Bool, true, false, zero, suc, ◌+◌, ℤ, pos, negsuc, ◌-ℤ◌, T, eqb}
use Rattle.std.proofs.Common.{ap, subst, sym, ◌∙◌, zero-le, arith, eq-eqb, eqb-true, lt-ltb, le-ltb, SFits, to_z, of_z, to_z-of_z}
use Rattle.std.specs.Int.Signed.{lt_z}
use Rattle.whole.specs.Bools.{same_test, is_false}
use Rattle.std.specs.Int.{w64}
use Rattle.std.proofs.Math.Facts.{sfits_lit}

-- equality of whole numbers
abbrev pub eq_z : ℤ → ℤ → Bool
eq_z (pos a) (pos b) = eqb a b
eq_z (pos a) (negsuc b) = false
eq_z (negsuc a) (pos b) = false
eq_z (negsuc a) (negsuc b) = eqb a b

-- a number passes with itself
pub eq_z-refl : (a : ℤ) → eq_z a a ≡ true
eq_z-refl (pos a) = eq-eqb a a refl
eq_z-refl (negsuc a) = eq-eqb a a refl

-- numbers that pass are equal
pub eq_z-true : (a b : ℤ) → eq_z a b ≡ true → a ≡ b
eq_z-true (pos a) (pos b) e = ap pos (eqb-true a b e)
eq_z-true (pos a) (negsuc b) e = absurd (subst T (sym e) tt)
eq_z-true (negsuc a) (pos b) e = absurd (subst T (sym e) tt)
eq_z-true (negsuc a) (negsuc b) e = ap negsuc (eqb-true a b e)

-- equal numbers pass
pub eq-eq_z : (a b : ℤ) → a ≡ b → eq_z a b ≡ true
eq-eq_z a b e = subst (λ (c : ℤ). eq_z a c ≡ true) e (eq_z-refl a)

-- different numbers do not
pub ne-eq_z : (a b : ℤ) → (a ≡ b → ⊥) → eq_z a b ≡ false
ne-eq_z a b h = is_false (eq_z a b) (λ e. h (eq_z-true a b e))

-- a number is below 0 where its negative is above
pub below-zero : (z : ℤ) → lt_z (pos 0) (pos 0 -ℤ z) ≡ lt_z z (pos 0)
below-zero (pos zero) = refl
below-zero (pos (suc n)) = simp (lt-ltb 0 (suc n) (omega arith), le-ltb (suc n) 0 zero-le)
below-zero (negsuc n) = lt-ltb 0 (0 + suc n) (omega arith)

-- the code's `==` on an i64 compares the bits
pub bits-true : {a b : ℤ} → SFits w64 a → SFits w64 b → of_z w64 a ≡ of_z w64 b → eq_z a b ≡ true
bits-true {a} {b} f g e = eq-eq_z a b (sym (to_z-of_z f) ∙ ap (to_z w64) e ∙ to_z-of_z g)

-- different bits are different numbers
pub bits-false : {a b : ℤ} → SFits w64 a → SFits w64 b → (of_z w64 a ≡ of_z w64 b → ⊥) → eq_z a b ≡ false
bits-false {a} {b} f g h = ne-eq_z a b (λ e. h (ap (of_z w64) e))

-- the code's test is the test of the numbers
pub bits-eq : {a b : ℤ} → SFits w64 a → SFits w64 b → eqb (of_z w64 a) (of_z w64 b) ≡ eq_z a b
bits-eq {a} {b} f g =
    same_test (eqb (of_z w64 a) (of_z w64 b)) (eq_z a b) (λ e. bits-true f g (eqb-true (of_z w64 a) (of_z w64 b) e))
    (λ e. eq-eqb (of_z w64 a) (of_z w64 b) (ap (of_z w64) (eq_z-true a b e)))

-- 0 fits
pub zero-fits : SFits w64 (pos 0)
zero-fits = sfits_lit tt
