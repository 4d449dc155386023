-- Bounds on whole numbers: `Within n z` is |z| ≤ n, and a bound of a sum, a difference or a product is the sum or the product of the bounds.
-- At numerals the bound of a whole expression is a numeral, so that it fits 64 bits is `fits BOUND tt`. Assumes nothing.
use Rattle.std.specs.Prelude.{◌≡◌, refl, Bool, true, false, cond, ◌||◌, ℕ, zero, suc, ◌+◌, ◌*◌, ◌-◌, ◌^◌, ◌≤◌, T, ltb, leb, ℤ, pos, negsuc, neg_ℤ, nat_abs, ◌+ℤ◌, ◌-ℤ◌, ◌*ℤ◌}
use Rattle.std.proofs.Common.{sym, subst, suc-le-suc, le_refl, le_trans, le_of_eq, mul-le-mul, add-le-add, lt_of_le_of_lt, arith, ltb→lt, leb→le, ltb-false, SFits, to_z, of_z, to_z-of_z}
use Rattle.std.proofs.lemmas.Bool.{false≢true}
use Rattle.std.proofs.Math.IntN.{sub_ℕ}
use Rattle.std.specs.Int.Signed.{mag, lt_z}
use Rattle.whole.specs.Bools.{or-false}
use Rattle.std.specs.Int.{w64}

pub record Within (n : ℕ) (z : ℤ) : Type 0 where
  pub abs : nat_abs z ≤ n

-- a negation is as large
nat_abs-neg : (z : ℤ) → nat_abs (neg_ℤ z) ≡ nat_abs z
nat_abs-neg (pos zero) = refl
nat_abs-neg (pos (suc n)) = refl
nat_abs-neg (negsuc n) = refl

-- a bound of either choice bounds the choice
nat_abs-cond : (c : Bool) (x y n : ℕ) → suc x ≤ n → y ≤ n → nat_abs (cond c (negsuc x) (pos y)) ≤ n
nat_abs-cond true x y n h k = h
nat_abs-cond false x y n h k = k

-- a difference is at most the sum
nat_abs-sub_ℕ : (a b : ℕ) → nat_abs (sub_ℕ a (suc b)) ≤ a + suc b
nat_abs-sub_ℕ a b = nat_abs-cond (ltb a (suc b)) (suc b - suc a) (a - suc b) (a + suc b) (omega arith) (omega arith)

-- a sum is at most as large as the sum of the sizes
nat_abs-add : (a b : ℤ) → nat_abs (a +ℤ b) ≤ nat_abs a + nat_abs b
nat_abs-add (pos a) (pos b) = le_refl (a + b)
nat_abs-add (pos a) (negsuc b) = nat_abs-sub_ℕ a b
nat_abs-add (negsuc a) (pos b) = le_trans (nat_abs-sub_ℕ b a) (omega arith)
nat_abs-add (negsuc a) (negsuc b) = omega arith

-- a product is as large as the product of the sizes
nat_abs_mul : (a b : ℤ) → nat_abs (a *ℤ b) ≡ nat_abs a * nat_abs b
nat_abs_mul (pos a) (pos b) = refl
nat_abs_mul (pos a) (negsuc b) = nat_abs-neg (pos (a * suc b))
nat_abs_mul (negsuc a) (pos b) = nat_abs-neg (pos (suc a * b))
nat_abs_mul (negsuc a) (negsuc b) = refl

-- what decides whether a number fits is at most its size
mag-le : (z : ℤ) → mag z ≤ nat_abs z
mag-le (pos n) = le_refl n
mag-le (negsuc n) = omega arith

-- the bound of a negation
pub neg-in : {n : ℕ} {z : ℤ} → Within n z → Within n (neg_ℤ z)
neg-in {n} {z} h = record { abs = subst (λ (k : ℕ). k ≤ n) (sym (nat_abs-neg z)) h.abs }

-- the bound of a sum
pub add-in : {m n : ℕ} {a b : ℤ} → Within m a → Within n b → Within (m + n) (a +ℤ b)
add-in {a = a} {b = b} h k = record { abs = le_trans (nat_abs-add a b) (add-le-add h.abs k.abs) }

-- the bound of a difference
pub sub_in : {m n : ℕ} {a b : ℤ} → Within m a → Within n b → Within (m + n) (a -ℤ b)
sub_in h k = add-in h (neg-in k)

-- the bound of a product
pub mul_in : {m n : ℕ} {a b : ℤ} → Within m a → Within n b → Within (m * n) (a *ℤ b)
mul_in {a = a} {b = b} h k = record { abs = le_trans (le_of_eq (nat_abs_mul a b)) (mul-le-mul h.abs k.abs) }

-- a number whose bound is a numeral below 2^63 fits an i64: `fits h tt`
pub fits : {n : ℕ} {z : ℤ} → Within n z → T (ltb n (2 ^ 63)) → SFits w64 z
fits {n} {z} h t = record { sfits = lt_of_le_of_lt (le_trans (mag-le z) h.abs) (ltb→lt n (2 ^ 63) t) }

-- a wider bound: `widen h tt` at numerals
pub widen : {m n : ℕ} {z : ℤ} → Within m z → T (leb m n) → Within n z
widen {m} {n} h t = record { abs = le_trans h.abs (leb→le m n t) }

-- what the machine reads back from the bits of a number that fits is the number: `simp (back h tt, ..)` clears a goal of `to_z w64 (of_z w64 z)`
pub back : {n : ℕ} {z : ℤ} → Within n z → T (ltb n (2 ^ 63)) → to_z w64 (of_z w64 z) ≡ z
back h t = to_z-of_z (fits h t)

-- the number read back has the bound of the number
pub held : {n : ℕ} {z : ℤ} → Within n z → T (ltb n (2 ^ 63)) → Within n (to_z w64 (of_z w64 z))
held {n} h t = subst (λ (x : ℤ). Within n x) (sym (back h t)) h

-- the bound of an equal number
pub same_in : {n : ℕ} {y z : ℤ} → y ≡ z → Within n z → Within n y
same_in {n} e h = subst (λ (x : ℤ). Within n x) (sym e) h

-- z is below lo or above hi
abbrev pub outside : ℤ → ℤ → ℤ → Bool
outside lo hi z = lt_z z lo || lt_z hi z

-- what is not outside -(n+1) to n+1 is within n+1
pub outside-within : (n : ℕ) (z : ℤ) → outside (negsuc n) (pos (suc n)) z ≡ false → Within (suc n) z
outside-within n z e = let b = or-false (lt_z z (negsuc n)) (lt_z (pos (suc n)) z) e in within-test n z b.0 b.1
  where
    within-test : (n : ℕ) (z : ℤ) → lt_z z (negsuc n) ≡ false → lt_z (pos (suc n)) z ≡ false → Within (suc n) z
    within-test n (pos a) e f = record { abs = ltb-false (suc n) a f }
    within-test n (negsuc a) e f = record { abs = suc-le-suc (ltb-false n a e) }

-- what is not outside 0 to n is within n
pub up_to : (n : ℕ) (z : ℤ) → outside (pos 0) (pos n) z ≡ false → Within n z
up_to n (pos a) e = record { abs = ltb-false n a (or-false (ltb a 0) (ltb n a) e).1 }
up_to n (negsuc a) e = absurd (false≢true (sym e))
