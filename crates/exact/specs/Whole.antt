-- Whole numbers in f64. `Whole x z`: the float x is the whole number z, where a zero may have either sign. Up to 2^53 either way the sum, the difference
-- and the product of two such floats are the exact whole results, and comparisons are those of the whole numbers. Assumes nothing.
use Rattle.std.specs.Prelude.{◌≡◌, refl, Bool, true, false, not, cond, ℕ, zero, suc, ◌+◌, ◌-◌, ◌*◌, ◌≤◌, ◌<◌, ltb, eqb, ℤ, pos, negsuc, neg_ℤ, nat_abs, ◌+ℤ◌, ◌-ℤ◌, ◌*ℤ◌, Float}
use Rattle.std.proofs.Common.{sym, ap, ◌∙◌, subst, zero-add, arith, lt-ltb, le-ltb, ne_eqb}
use Rattle.std.proofs.lemmas.Bool.{false≢true}
use Rattle.std.proofs.Math.Decide.{dec_lt}
use Rattle.std.proofs.Math.Dec.{leb-suc-suc}
use Rattle.std.proofs.Math.IntN.{+ℤ_comm}
use Rattle.std.specs.Int.Signed.{lt_z}
use Rattle.std.specs.Float.{binary64}
use Rattle.std.specs.Float.Ieee.{unlike, round, sum, lt, ne, below, of_int, of_bits}
use Rattle.std.specs.Float.Ieee.Exact.{HasValue}
use Rattle.std.specs.Float.Ieee.Back.{round_whole}
use Rattle.whole.specs.Bound.{Within}
use Rattle.whole.specs.Test.{eq_z}
use Rattle.points.specs.Floats.{f0, ◌+f◌, ◌-f◌, ◌*f◌, real_of, exact_max}
use Rattle.exact.specs.Signed.{signed, abs-signed, neg-signed, mul-signed, add-negs, minus-le, minus-ge}
use Rattle.exact.specs.Values.{add-val, sub_val, mul_val, lt_val, zero_val}

-- the float of size n with sign s: both zeros are there
abbrev sized : Bool → ℕ → Float
sized s n = round binary64 s n 1

-- the float x is the whole number z, and a zero has either sign
pub record Whole (x : Float) (z : ℤ) : Type 0 where
  pub sign : Bool
  pub size : ℕ
  pub float : x ≡ round binary64 sign size 1
  pub int : z ≡ signed sign size

-- a whole number taken as f64
pub of-int : (z : ℤ) → Whole (real_of z) z
unfolding of_int
of-int (pos n) = record { sign = false; size = n; float = refl; int = refl }
of-int (negsuc n) = record { sign = true; size = suc n; float = refl; int = refl }

-- nothing was rounded
pub value : {x : Float} {z : ℤ} (w : Whole x z) → Within exact_max z → HasValue x w.sign w.size 1
value w h =
    let k : w.size ≤ exact_max = subst (λ (n : ℕ). n ≤ exact_max) (ap nat_abs w.int ∙ abs-signed w.sign w.size) h.abs in
    subst (λ (y : Float). HasValue y w.sign w.size 1) (sym w.float) (round_whole binary64 w.sign w.size k)

-- ---- operations
-- a product
pub mul-exact : {x y : Float} {a b : ℤ} → Whole x a → Whole y b → Within exact_max a → Within exact_max b → Whole (x *f y) (a *ℤ b)
mul-exact {x} {y} v w p q =
    record {
      sign = unlike v.sign w.sign;
      size = v.size * w.size;
      float = mul_val binary64 x y v.sign w.sign v.size w.size (value v p) (value w q);
      int = rw (v.int, w.int) (mul-signed v.sign w.sign v.size w.size);
    }

-- not -0
abbrev Plain : {x : Float} {z : ℤ} → Whole x z → Type 0
Plain w = w.sign ≡ true → 0 < w.size

-- such a float is the one that the whole number is taken as
pub plain-is : {x : Float} {z : ℤ} (w : Whole x z) → Plain w → x ≡ real_of z
unfolding of_int
plain-is w h = w.float ∙ go w.sign w.size h ∙ ap (λ (z : ℤ). real_of z) (sym w.int)
  where
    go : (s : Bool) (n : ℕ) → (s ≡ true → 0 < n) → sized s n ≡ real_of (signed s n)
    go false n h = refl
    go true zero h = let z : 0 < 0 = h refl in let o : ⊥ = omega arith in absurd o
    go true (suc n) h = refl

-- and a whole number is taken as no other
pub of-int-plain : (z : ℤ) → Plain (of-int z)
unfolding of-int
of-int-plain (pos n) e = absurd (false≢true e)
of-int-plain (negsuc n) e = omega arith

-- ±a + ±b: a zero is -0 only where both signs are minus, so the sum is not -0 where ±a is not
pub sum-whole : (s : Bool) (a : ℕ) (t : Bool) (b : ℕ) → (w : Whole (sum binary64 s a t b 1) (signed s a +ℤ signed t b)) × ((s ≡ true → 0 < a) → Plain w)
unfolding sum
sum-whole false a false b = (record { sign = false; size = a + b; float = refl; int = refl }, λ h e. absurd (false≢true e))
sum-whole true a true b =
    (record { sign = true; size = a + b; float = refl; int = add-negs a b }, λ h e. let k : 0 < a = h refl in omega arith)
sum-whole false a true b = go (dec_lt a b)
  where
    go : Dec (a < b) → (w : Whole (cond (ltb a b) (sized true (b - a)) (sized false (a - b))) (pos a +ℤ neg_ℤ (pos b))) × ((false ≡ true → 0 < a) → Plain w)
    go (yes h) =
        (record { sign = true; size = b - a; float = rw (lt-ltb a b h); int = minus-ge a b (omega arith) }, λ u e. omega arith)
    go (no h) =
        let k : b ≤ a = omega arith in
        (record { sign = false; size = a - b; float = rw (le-ltb a b k); int = minus-le a b k }, λ u e. absurd (false≢true e))
sum-whole true a false b = go (dec_lt a b) (dec_lt b a)
  where
    turn : neg_ℤ (pos a) +ℤ pos b ≡ pos b +ℤ neg_ℤ (pos a)
    turn = +ℤ_comm (neg_ℤ (pos a)) (pos b)

    go : Dec (a < b) → Dec (b < a) → (w : Whole (cond (ltb a b) (sized false (b - a)) (sized (ltb b a) (a - b))) (neg_ℤ (pos a) +ℤ pos b)) × ((true ≡ true → 0 < a) → Plain w)
    go (yes h) d =
        (record { sign = false; size = b - a; float = rw (lt-ltb a b h); int = turn ∙ minus-le b a (omega arith) }, λ u e. absurd (false≢true e))
    go (no h) (yes k) =
        let l : b ≤ a = omega arith in
        (record { sign = true; size = a - b; float = rw (le-ltb a b l, lt-ltb b a k); int = turn ∙ minus-ge b a l }, λ u e. omega arith)
    go (no h) (no k) =
        let l : b ≤ a = omega arith in
        let m : a ≤ b = omega arith in
        let z : b - a ≡ a - b = omega arith in
        (record { sign = false; size = a - b; float = rw (le-ltb a b l, le-ltb b a m); int = turn ∙ minus-le b a m ∙ ap pos z }, λ u e. absurd (false≢true e))

-- ---- comparisons
-- `x < y`
pub lt-exact : {x y : Float} {a b : ℤ} → Whole x a → Whole y b → Within exact_max a → Within exact_max b → lt x y ≡ lt_z a b
lt-exact {x} {y} v w p q =
    lt_val x y v.sign w.sign v.size w.size (value v p) (value w q)
    ∙ rw (v.int, w.int) (go v.sign v.size w.sign w.size)
  where
    go : (s : Bool) (a : ℕ) (t : Bool) (b : ℕ) → below s a t b ≡ lt_z (signed s a) (signed t b)
    go false a false b = refl
    go false a true zero = sym (le-ltb a 0 (omega arith))
    go false a true (suc b) = refl
    go true zero false b = rw zero-add
    go true (suc a) false b = lt-ltb 0 (suc a + b) (omega arith)
    go true zero true zero = refl
    go true zero true (suc b) = le-ltb (suc b) 0 (omega arith)
    go true (suc a) true zero = lt-ltb 0 (suc a) (omega arith)
    go true (suc a) true (suc b) = leb-suc-suc (suc b) a

-- `x != 0.0`
pub ne-exact : {x : Float} {z : ℤ} → Whole x z → Within exact_max z → ne x f0 ≡ not (eq_z z (pos 0))
unfolding ne of_bits
ne-exact {x} {z} w p =
    let e : eqb w.size 0 ≡ eq_z z (pos 0) = go w.sign w.size ∙ ap (λ (k : ℤ). eq_z k (pos 0)) (sym w.int) in
    ap not (zero_val x w.sign w.size (value w p) ∙ e)
  where
    go : (s : Bool) (n : ℕ) → eqb n 0 ≡ eq_z (signed s n) (pos 0)
    go false n = refl
    go true zero = refl
    go true (suc n) = ne_eqb (suc n) 0 (λ h. omega arith)

-- 0.0 is the whole number 0
pub zero_is : f0 ≡ real_of (pos 0)
unfolding of_bits of_int
zero_is = refl
