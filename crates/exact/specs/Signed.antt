-- Whole numbers by sign and size, as a float has them: `signed true 0` is 0 too. Assumes nothing.
use Rattle.std.specs.Prelude.{◌≡◌, refl, Bool, true, false, not, ℕ, zero, suc, ◌+◌, ◌-◌, ◌*◌, ◌≤◌, ℤ, pos, neg_ℤ, nat_abs, ◌+ℤ◌, ◌*ℤ◌}
use Rattle.std.proofs.Common.{sym, ap, ◌∙◌, mul-zero, zero-mul, sub-add_cancel}
use Rattle.std.proofs.Math.IntN.{pos-+ℤ-pos, +ℤ-neg_ℤ_cancel, neg_ℤ-+ℤ, neg_ℤ-neg_ℤ, +ℤ_comm}
use Rattle.std.specs.Float.Ieee.{unlike}

abbrev pub signed : Bool → ℕ → ℤ
signed false n = pos n
signed true n = neg_ℤ (pos n)

-- the size is the size
pub abs-signed : (s : Bool) (n : ℕ) → nat_abs (signed s n) ≡ n
abs-signed false n = refl
abs-signed true zero = refl
abs-signed true (suc n) = refl

-- a negation has the other sign
pub neg-signed : (s : Bool) (n : ℕ) → neg_ℤ (signed s n) ≡ signed (not s) n
neg-signed false n = refl
neg-signed true n = neg_ℤ-neg_ℤ (pos n)

-- a product is negative where the signs differ
pub mul-signed : (s t : Bool) (a b : ℕ) → signed s a *ℤ signed t b ≡ signed (unlike s t) (a * b)
mul-signed false false a b = refl
mul-signed false true a zero = rw mul-zero
mul-signed false true a (suc b) = refl
mul-signed true false zero b = rw zero-mul
mul-signed true false (suc a) b = refl
mul-signed true true zero zero = refl
mul-signed true true zero (suc b) = rw zero-mul
mul-signed true true (suc a) zero = rw mul-zero
mul-signed true true (suc a) (suc b) = refl

-- a sum of two negatives
pub add-negs : (a b : ℕ) → neg_ℤ (pos a) +ℤ neg_ℤ (pos b) ≡ neg_ℤ (pos (a + b))
add-negs a b = sym (neg_ℤ-+ℤ (pos a) (pos b))

-- a - b, where b is no larger
pub minus-le : (a b : ℕ) → b ≤ a → pos a +ℤ neg_ℤ (pos b) ≡ pos (a - b)
minus-le a b h =
    ap (λ (z : ℤ). z +ℤ neg_ℤ (pos b)) (sym (pos-+ℤ-pos (a - b) b ∙ ap pos (sub-add_cancel h)))
    ∙ +ℤ-neg_ℤ_cancel (pos (a - b)) (pos b)

-- a - b, where a is no larger
pub minus-ge : (a b : ℕ) → a ≤ b → pos a +ℤ neg_ℤ (pos b) ≡ neg_ℤ (pos (b - a))
minus-ge a b h =
    +ℤ_comm (pos a) (neg_ℤ (pos b))
    ∙ ap (λ (z : ℤ). neg_ℤ (pos b) +ℤ z) (sym (neg_ℤ-neg_ℤ (pos a)))
    ∙ sym (neg_ℤ-+ℤ (pos b) (neg_ℤ (pos a)))
    ∙ ap neg_ℤ (minus-le b a h)
