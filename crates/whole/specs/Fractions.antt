-- Floats by the fractions that they equal: comparison, and a sum over a common denominator. Assumes nothing.
use Rattle.std.specs.Prelude.{◌≡◌, refl, ℕ, ◌+◌, ◌-◌, ◌*◌, ◌≤◌, ◌<◌, Bool, true, false, ◌&&◌, ltb, Float, ℤ}
use Rattle.std.proofs.Common.{sym, ap, ◌∙◌, zero-mul, mul_comm, mul_assoc, mul_left_comm, mul_right_comm, add-mul, mul-pos, mul-lt-mul_of_pos_right, mul-le-mul_right, arith, lt-ltb, le-ltb}
use Rattle.std.proofs.Math.Nat.{mul-sub}
use Rattle.std.specs.Float.{nan, inf, fin, Format}
use Rattle.std.specs.Float.Ieee.{up, down, round, sum, add, lt, below}
use Rattle.std.specs.Float.Ieee.Exact.{HasValue}
use Rattle.std.specs.Float.Ieee.Fits.{down_pos}
use Rattle.std.specs.Float.Ieee.Scale.{round_same}
use Rattle.std.proofs.Math.Decide.{dec_lt}

-- a test of order, both sides times c
ltb-scale : (a b c : ℕ) → 0 < c → ltb (a * c) (b * c) ≡ ltb a b
ltb-scale a b c C = go (dec_lt a b)
  where
    go : Dec (a < b) → ltb (a * c) (b * c) ≡ ltb a b
    go (yes h) = lt-ltb (a * c) (b * c) (mul-lt-mul_of_pos_right h C) ∙ sym (lt-ltb a b h)
    go (no h) =
        let k : b ≤ a = omega arith in
        le-ltb (a * c) (b * c) (mul-le-mul_right c k) ∙ sym (le-ltb a b k)

-- every finite float is its own fraction
pub own : (s : Bool) (m : ℕ) (e : ℤ) → HasValue (fin s m e) s (m * up e) (down e)
own s m e = (refl, refl)

sub-scale : (a b c d : ℕ) → (b * c - a * c) * d ≡ (b - a) * (d * c)
sub-scale a b c d =
    ap (λ (z : ℕ). z * d) (sym (mul_comm (b - a) c ∙ mul-sub c b a ∙ rw (mul_comm c b, mul_comm c a)))
    ∙ mul_right_comm (b - a) c d
    ∙ mul_assoc (b - a) d c

sum-scale : (f : Format) (s : Bool) (a : ℕ) (t : Bool) (b d c : ℕ) → 0 < c → 0 < d → sum f s (a * c) t (b * c) (d * c) ≡ sum f s a t b d
unfolding sum
sum-scale f s a t b d c C D =
    let E : 0 < d * c = mul-pos D C in
    let r1 : round f s (a * c + b * c) (d * c) ≡ round f s (a + b) d =
    round_same f s (a * c + b * c) (d * c) (a + b) d E D (ap (λ (z : ℕ). z * d) (sym (add-mul a b c)) ∙ mul_assoc (a + b) c d ∙ ap (λ (z : ℕ). (a + b) * z) (mul_comm c d))
    in
    let r2 : round f t (b * c - a * c) (d * c) ≡ round f t (b - a) d = round_same f t (b * c - a * c) (d * c) (b - a) d E D (sub-scale a b c d) in
    let r3 : round f (s && ltb b a) (a * c - b * c) (d * c) ≡ round f (s && ltb b a) (a - b) d =
    round_same f (s && ltb b a) (a * c - b * c) (d * c) (a - b) d E D (sub-scale b a c d)
    in
    rw (ltb-scale a b c C, ltb-scale b a c C, r1, r2, r3)

-- x is a / c and y is b / c: their sum is that of the fractions, rounded once
pub add-frac : (f : Format) (x y : Float) (s t : Bool) (a b c : ℕ) → 0 < c → HasValue x s a c → HasValue y t b c → add f x y ≡ sum f s a t b c
unfolding add
add-frac f nan y s t a b c C p q = absurd p
add-frac f (inf u) y s t a b c C p q = absurd p
add-frac f (fin u m e) nan s t a b c C p q = absurd q
add-frac f (fin u m e) (inf v) s t a b c C p q = absurd q
add-frac f (fin u m e) (fin v n d) s t a b c C p q =
    let z = down e * down d in
    let Z : 0 < z = mul-pos (down_pos e) (down_pos d) in
    let x1 : m * up e * down d * c ≡ a * z = mul_right_comm (m * up e) (down d) c ∙ ap (λ (k : ℕ). k * down d) p.1 ∙ mul_assoc a (down e) (down d) in
    let y1 : n * up d * down e * c ≡ b * z =
    mul_right_comm (n * up d) (down e) c ∙ ap (λ (k : ℕ). k * down e) q.1 ∙ mul_right_comm b (down d) (down e) ∙ mul_assoc b (down e) (down d)
    in
    rw (p.0, q.0)
    (sym (sum-scale f s (m * up e * down d) t (n * up d * down e) z c C Z) ∙ rw (x1, y1, mul_comm z c) (sum-scale f s a t b c z Z C))

-- ±a / c < ±b / d, by the cross products
pub lt-frac : (x y : Float) (s t : Bool) (a b c d : ℕ) → 0 < c → 0 < d → HasValue x s a c → HasValue y t b d → lt x y ≡ below s (a * d) t (b * c)
unfolding lt
lt-frac nan y s t a b c d C D p q = absurd p
lt-frac (inf u) y s t a b c d C D p q = absurd p
lt-frac (fin u m e) nan s t a b c d C D p q = absurd q
lt-frac (fin u m e) (inf v) s t a b c d C D p q = absurd q
lt-frac (fin u m e) (fin v n g) s t a b c d C D p q =
    let z = down e * down g in
    let Z : 0 < z = mul-pos (down_pos e) (down_pos g) in
    let k = c * d in
    let K : 0 < k = mul-pos C D in
    let x1 : m * up e * down g * k ≡ a * d * z =
    simp (mul_assoc, mul_comm, mul_left_comm) (simp (mul_assoc, mul_comm, mul_left_comm) at (ap (λ (w : ℕ). w * (down g * d)) p.1))
    in
    let y1 : n * up g * down e * k ≡ b * c * z =
    simp (mul_assoc, mul_comm, mul_left_comm) (simp (mul_assoc, mul_comm, mul_left_comm) at (ap (λ (w : ℕ). w * (down e * c)) q.1))
    in
    rw (p.0, q.0) (sym (scaled (m * up e * down g) (n * up g * down e) s t k K) ∙ rw (x1, y1) (scaled (a * d) (b * c) s t z Z))
  where
    scaled : (a b : ℕ) (s t : Bool) (c : ℕ) → 0 < c → below s (a * c) t (b * c) ≡ below s a t b
    scaled a b false false c C = ltb-scale a b c C
    scaled a b false true c C = refl
    scaled a b true false c C = ap (λ (z : ℕ). ltb 0 z) (sym (add-mul a b c)) ∙ (rw zero-mul at (ltb-scale 0 (a + b) c C))
    scaled a b true true c C = ltb-scale b a c C
