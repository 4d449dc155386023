-- One operation on floats whose values are ±a and ±b: it is the one rounding of the whole result. Assumes nothing.
use Rattle.std.specs.Prelude.{◌≡◌, Bool, false, ◌&&◌, ◌||◌, ℕ, zero, suc, ◌*◌, eqb, pos, Float}
use Rattle.std.proofs.Math.Path.{sym}
use Rattle.std.proofs.Common.{ap, ap₂, ◌∙◌, mul-one, zero-mul, suc-mul, mul_assoc, mul_left_comm, mul-pos, arith, lit<, ne_eqb}
use Rattle.std.proofs.Math.Bool.{not, or-true}
use Rattle.std.specs.Bool.{beq}
use Rattle.std.specs.Float.Ieee.{nan, up, down, unlike, round, sum, add, sub, mul, neg, lt, eq, below}
use Rattle.std.specs.Float.{inf, fin, Format}
use Rattle.std.specs.Float.Ieee.Exact.{HasValue}
use Rattle.std.specs.Float.Ieee.Fits.{down_pos}
use Rattle.std.specs.Float.Ieee.Scale.{round_same}
use Rattle.whole.specs.Fractions.{add-frac, lt-frac}

-- ---- the operations
module _ (f : Format) where
  -- ±a + ±b
  pub add-val : (x y : Float) (s t : Bool) (a b : ℕ) → HasValue x s a 1 → HasValue y t b 1 → add f x y ≡ sum f s a t b 1
  add-val x y s t a b = add-frac f x y s t a b 1 (lit< tt)

  -- -(±a)
  neg-val : (x : Float) (s : Bool) (a : ℕ) → HasValue x s a 1 → HasValue (neg x) (not s) a 1
  unfolding neg
  neg-val nan s a p = p
  neg-val (inf u) s a p = p
  neg-val (fin u m e) s a p = (ap not p.0, p.1)

  -- ±a - ±b
  pub sub_val : (x y : Float) (s t : Bool) (a b : ℕ) → HasValue x s a 1 → HasValue y t b 1 → sub f x y ≡ sum f s a (not t) b 1
  unfolding sub
  sub_val x y s t a b p q = add-val x (neg y) s (not t) a b p (neg-val y t b q)

  -- ±a * ±b
  pub mul_val : (x y : Float) (s t : Bool) (a b : ℕ) → HasValue x s a 1 → HasValue y t b 1 → mul f x y ≡ round f (unlike s t) (a * b) 1
  unfolding mul
  mul_val nan y s t a b p q = absurd p
  mul_val (inf u) y s t a b p q = absurd p
  mul_val (fin u m e) nan s t a b p q = absurd q
  mul_val (fin u m e) (inf v) s t a b p q = absurd q
  mul_val (fin u m e) (fin v n d) s t a b p q =
      let x1 : m * up e ≡ a * down e = sym (mul-one (m * up e)) ∙ p.1 in
      let y1 : n * up d ≡ b * down d = sym (mul-one (n * up d)) ∙ q.1 in
      rw (p.0, q.0, x1, y1)
      (round_same f (unlike s t) (a * down e * (b * down d)) (down e * down d) (a * b) 1 (mul-pos (down_pos e) (down_pos d)) (lit< tt)
      (mul-one (a * down e * (b * down d)) ∙ simp (mul_assoc, mul_left_comm)))

-- ±a < ±b
pub lt_val : (x y : Float) (s t : Bool) (a b : ℕ) → HasValue x s a 1 → HasValue y t b 1 → lt x y ≡ below s a t b
lt_val x y s t a b p q =
    lt-frac x y s t a b 1 1 (lit< tt) (lit< tt) p q ∙ ap₂ (λ (k n : ℕ). below s k t n) (mul-one a) (mul-one b)

-- ±n is 0
pub zero_val : (x : Float) (s : Bool) (n : ℕ) → HasValue x s n 1 → eq x (fin false 0 (pos 0)) ≡ eqb n 0
unfolding eq
zero_val nan s n p = absurd p
zero_val (inf u) s n p = absurd p
zero_val (fin u m e) s n p = rw p.1 (go n (beq u false))
  where
    go : (n : ℕ) (b : Bool) → (eqb (n * down e) (0 * down e) && (b || eqb (n * down e) 0)) ≡ eqb n 0
    go zero b = rw zero-mul (or-true b)
    go (suc n) b =
        let k : (suc n * down e ≡ 0 * down e → ⊥) = λ h. omega (arith, down_pos e, suc-mul n (down e), h) in
        rw (ne_eqb (suc n * down e) (0 * down e) k) (sym (ne_eqb (suc n) 0 (λ h. omega arith)))
