-- The code's tests and sums give the charge, for every f64. Assumes nothing.
use Rattle.std.proofs.Common.{◌≡◌, ℕ, ◌+◌, ◌-◌, ◌*◌, ◌/◌, ◌^◌, ◌<◌, ◌≤◌, min, Bool, true, false, ◌&&◌, ◌||◌, T, eqb, ltb, ◌⊎◌, ℤ, pos, sym, refl, ap, ◌∙◌, subst, inl, inr, true≢false, lt_of_le_of_lt, mul-le-mul_right, mul_assoc, div-lt_iff_lt-mul, add-mul, eq-or-lt_of_le, one-mul, mul-one, mul_right_comm, div-mul-le_self, arith, lit<, le→leb, lt→ltb, ltb-false, ltb-true, le-ltb, lt-ltb, eq-eqb, ne_eqb, le-leb}
use mathlib.Core.Bool.{false≢true}
use native.Mathlib.Nat.{lt-div-mul-add, div-eq_of_lt-le}
use native.Mathlib.Decide.{dec_le, dec_lt}
use lib.Ieee.{Float, nan, inf, fin, binary64, up, down, round, sum, add, neg, lt, le, eq, below, of_int, of_bits, to_unsigned, in_float}
use lib.Ieee.Exact.{HasValue, round_exact}
use lib.Ieee.Fits.{down_pos}
use lib.Ieee.Back.{round_whole}
use borrow.Author.Tests.{lt-leb}
use Rattle.whole.specs.Fractions.{own, add-frac, lt-frac}
use Rattle.charge.specs.Charging.{charge_max, off_scale, rounded, charge_of}
use Rattle.charge.specs.Charging.Cost.{whole, turned_down}

-- ---- the constants of the code: -0.5, 1,000,000.5 and 0.5
abbrev pub low_end : Float
low_end = neg (of_bits binary64 0x3fe0_0000_0000_0000)

abbrev pub high_end : Float
high_end = of_bits binary64 0x412e_8481_0000_0000

abbrev pub half : Float
half = of_bits binary64 0x3fe0_0000_0000_0000

-- ---- what the first two tests say
abbrev pub OnScale : Float → Type 0
OnScale nan = ⊥
OnScale (inf s) = ⊥
OnScale (fin false m e) = m * up e * 2 < (charge_max * 2 + 1) * down e
OnScale (fin true m e) = m * up e * 2 ≤ down e

-- `>=` is `>` or `==`
or-le : (a b : ℕ) → (ltb b (1 * a) || (eqb (1 * a) b && true)) ≡ true → b ≤ a
or-le a b h = go (dec_le b a)
  where
    go : Dec (b ≤ a) → b ≤ a
    go (yes p) = p
    go (no n) =
        let p : 1 * a < b = rw one-mul (omega arith) in
        let q : (1 * a ≡ b → ⊥) = λ e. omega arith in
        absurd (false≢true (rw (le-ltb b (1 * a) (omega arith), ne_eqb (1 * a) b q) at h))

or-gt : (a b : ℕ) → (ltb b (1 * a) || (eqb (1 * a) b && true)) ≡ false → a < b
or-gt a b h = go (dec_lt a b)
  where
    at : (b ≡ a) ⊎ (b < a) → true ≡ false
    at (inl e) = rw (le-ltb b (1 * a) (rw one-mul (omega arith)), eq-eqb (1 * a) b (rw one-mul (sym e))) at h
    at (inr l) = rw (lt-ltb b (1 * a) (rw one-mul l)) at h

    go : Dec (a < b) → a < b
    go (yes p) = p
    go (no n) = let k : b ≤ a = omega arith in absurd (true≢false (at (eq-or-lt_of_le k)))

-- both held
pub in-range : (v : Float) → le low_end v ≡ true → lt v high_end ≡ true → OnScale v
unfolding le lt eq of_bits neg
in-range nan p q = absurd (false≢true p)
in-range (inf true) p q = absurd (false≢true p)
in-range (inf false) p q = absurd (false≢true q)
in-range (fin false m e) p q = ltb-true (m * up e * 2) (2000001 * down e) q
in-range (fin true m e) p q = or-le (down e) (m * up e * 2) p

-- then 16 does not meet the value
on-scale : (v : Float) → OnScale v → off_scale v ≡ false
on-scale nan h = absurd h
on-scale (inf s) h = absurd h
on-scale (fin false m e) h = lt-leb ((charge_max * 2 + 1) * down e) (m * up e * 2) h
on-scale (fin true m e) h = le-ltb (down e) (m * up e * 2) h

-- the first failed: the value is not a number or below -0.5
pub too-low : (v : Float) → le low_end v ≡ false → off_scale v ≡ true
unfolding le lt eq of_bits neg
too-low nan p = refl
too-low (inf s) p = refl
too-low (fin false m e) p =
    let d : 0 < down e = down_pos e in
    absurd (true≢false (rw (lt-ltb 0 (1 * down e + m * up e * 2) (omega arith)) at p))
too-low (fin true m e) p = lt-ltb (down e) (m * up e * 2) (or-gt (down e) (m * up e * 2) p)

-- the second failed: it is not a number or at least 1,000,000.5
pub too-high : (v : Float) → lt v high_end ≡ false → off_scale v ≡ true
unfolding lt of_bits
too-high nan p = refl
too-high (inf s) p = refl
too-high (fin false m e) p = le-leb (2000001 * down e) (m * up e * 2) (ltb-false (m * up e * 2) (2000001 * down e) p)
too-high (fin true m e) p =
    let d : 0 < down e = down_pos e in
    absurd (true≢false (rw (lt-ltb 0 (m * up e * 2 + 2000001 * down e) (omega arith)) at p))

-- ---- the whole part
-- what `truncating_f64_to_u64` asks: -1 < v < 2^64
pub cut-asks : (v : Float) → OnScale v → T (lt (fin true 1 (pos 0)) v) × T (lt v (fin false 1 (pos 64)))
unfolding lt
cut-asks nan h = absurd h
cut-asks (inf s) h = absurd h
cut-asks (fin false m e) h =
    let d : 0 < down e = down_pos e in
    (lt→ltb 0 (1 * down e + m * up e * 1) (omega arith), lt→ltb (m * up e * 1) (18446744073709551616 * down e) (omega arith))
cut-asks (fin true m e) h =
    let d : 0 < down e = down_pos e in
    (lt→ltb (m * up e * 1) (1 * down e) (omega arith), lt→ltb 0 (m * up e * 1 + 18446744073709551616 * down e) (omega arith))

cut_small : (N D : ℕ) → 0 < D → N * 2 < (charge_max * 2 + 1) * D → N / D ≤ charge_max
cut_small N D p h = let k : N / D < charge_max + 1 = (div-lt_iff_lt-mul p).1 (omega arith) in omega arith

no-cap : (x : ℕ) → x ≤ charge_max → min x (2 ^ 64 - 1) ≡ x
no-cap x h = omega arith

cut-is : (m : ℕ) (e : ℤ) → OnScale (fin false m e) → to_unsigned 64 (fin false m e) ≡ m * up e / down e
unfolding to_unsigned
cut-is m e h = no-cap (m * up e / down e) (cut_small (m * up e) (down e) (down_pos e) h)

cut-neg : (m : ℕ) (e : ℤ) → to_unsigned 64 (fin true m e) ≡ 0
unfolding to_unsigned
cut-neg m e = refl

pub cut-le : (v : Float) → OnScale v → to_unsigned 64 v ≤ charge_max
cut-le nan h = absurd h
cut-le (inf s) h = absurd h
cut-le (fin false m e) h = rw (cut-is m e h) (cut_small (m * up e) (down e) (down_pos e) h)
cut-le (fin true m e) h = rw cut-neg (omega arith)

-- what `as f64` asks of it
pub castable : (t : ℕ) → t ≤ charge_max → T (in_float binary64 (pos t))
unfolding in_float
castable t h = le→leb t (2 ^ 53) (omega arith)

-- ---- its sum with 0.5 is exact
doubled : (x : Float) (t : ℕ) → HasValue x false t 1 → HasValue x false (t * 2) 2
doubled nan t h = h
doubled (inf s) t h = h
doubled (fin s m e) t h = (h.0, ap (λ (z : ℕ). z * 2) (sym (mul-one (m * up e)) ∙ h.1) ∙ mul_right_comm t (down e) 2)

half-sum : (t : ℕ) → t ≤ charge_max → HasValue (add binary64 (of_int binary64 (pos t)) half) false (t * 2 + 1) 2
unfolding of_int of_bits sum
half-sum t h =
    let q = t * 2 + 1 in
    let e : add binary64 (round binary64 false t 1) half ≡ round binary64 false q 2 =
    add-frac binary64 (round binary64 false t 1) half false false (t * 2) 1 2 (lit< tt)
    (doubled (round binary64 false t 1) t (round_whole binary64 false t (omega arith))) (refl, refl)
    in
    let small : q ≤ 2000001 = omega arith in
    subst (λ (x : Float). HasValue x false q 2) (sym e)
    (round_exact binary64 false q 2 q 1073 (lit< tt) (omega arith) (lt_of_le_of_lt (mul-le-mul_right (2 ^ 1073) small) (lit< tt))
    (sym (mul_assoc q (2 ^ 1073) 2)))

-- ---- the whole part is nearest, or the next one is
nearest-lo : (N D t : ℕ) → 0 < D → t * D ≤ N → N * 2 < (t * 2 + 1) * D → (N * 2 + D) / (D * 2) ≡ t
nearest-lo N D t p h k =
    let x1 : t * (D * 2) ≡ t * D * 2 = sym (mul_assoc t D 2) in
    let x2 : (t + 1) * (D * 2) ≡ t * (D * 2) + 1 * (D * 2) = add-mul t 1 (D * 2) in
    let x3 : (t * 2 + 1) * D ≡ t * D * 2 + 1 * D = add-mul (t * 2) 1 D ∙ ap (λ (z : ℕ). z + 1 * D) (mul_right_comm t 2 D) in
    div-eq_of_lt-le (D * 2) (omega arith) (omega arith)

nearest-hi : (N D t : ℕ) → 0 < D → N < t * D + D → (t * 2 + 1) * D ≤ N * 2 → (N * 2 + D) / (D * 2) ≡ t + 1
nearest-hi N D t p h k =
    let x1 : t * (D * 2) ≡ t * D * 2 = sym (mul_assoc t D 2) in
    let x2 : (t + 1) * (D * 2) ≡ t * (D * 2) + 1 * (D * 2) = add-mul t 1 (D * 2) in
    let x4 : (t + 1 + 1) * (D * 2) ≡ (t + 1) * (D * 2) + 1 * (D * 2) = add-mul (t + 1) 1 (D * 2) in
    let x3 : (t * 2 + 1) * D ≡ t * D * 2 + 1 * D = add-mul (t * 2) 1 D ∙ ap (λ (z : ℕ). z + 1 * D) (mul_right_comm t 2 D) in
    div-eq_of_lt-le (D * 2) (omega arith) (omega arith)

-- what the last test compares with
abbrev pub middle : Float → Float
middle v = add binary64 (of_int binary64 (pos (to_unsigned 64 v))) half

last-test : (s : Bool) (m : ℕ) (e : ℤ) → OnScale (fin s m e)
    → lt (fin s m e) (middle (fin s m e)) ≡ below s (m * up e * 2) false ((to_unsigned 64 (fin s m e) * 2 + 1) * down e)
last-test s m e h =
    lt-frac (fin s m e) (middle (fin s m e)) s false (m * up e) (to_unsigned 64 (fin s m e) * 2 + 1) (down e) 2 (down_pos e) (lit< tt) (own s m e)
    (half-sum (to_unsigned 64 (fin s m e)) (cut-le (fin s m e) h))

rounded-lo : (v : Float) → OnScale v → lt v (middle v) ≡ true → rounded v ≡ to_unsigned 64 v
rounded-lo nan h p = absurd h
rounded-lo (inf s) h p = absurd h
rounded-lo (fin false m e) h p =
    let N = m * up e in
    let D = down e in
    let q : N * 2 < (N / D * 2 + 1) * D = rw (cut-is m e h) at (ltb-true (N * 2) ((to_unsigned 64 (fin false m e) * 2 + 1) * D) (sym (last-test false m e h) ∙ p)) in
    nearest-lo N D (N / D) (down_pos e) (div-mul-le_self N D) q ∙ sym (cut-is m e h)
rounded-lo (fin true m e) h p = sym (cut-neg m e)

rounded-hi : (v : Float) → OnScale v → lt v (middle v) ≡ false → rounded v ≡ to_unsigned 64 v + 1
rounded-hi nan h p = absurd h
rounded-hi (inf s) h p = absurd h
rounded-hi (fin false m e) h p =
    let N = m * up e in
    let D = down e in
    let q : (N / D * 2 + 1) * D ≤ N * 2 = rw (cut-is m e h) at (ltb-false (N * 2) ((to_unsigned 64 (fin false m e) * 2 + 1) * D) (sym (last-test false m e h) ∙ p)) in
    nearest-hi N D (N / D) (down_pos e) (lt-div-mul-add (down_pos e)) q ∙ ap (λ (t : ℕ). t + 1) (sym (cut-is m e h))
rounded-hi (fin true m e) h p =
    let d : 0 < down e = down_pos e in
    let r = sym (last-test true m e h) ∙ p in
    absurd (true≢false (rw (cut-neg, lt-ltb 0 (m * up e * 2 + 1 * down e) (omega arith)) at r))

-- ---- the ways out
pub refused : (v : Float) → off_scale v ≡ true → turned_down 16 ≡ charge_of v
refused v e = rw e

pub cost-lo : (v : Float) → OnScale v → lt v (middle v) ≡ true → whole (to_unsigned 64 v) ≡ charge_of v
cost-lo v h p = rw (on-scale v h) (ap whole (sym (rounded-lo v h p)))

pub cost-hi : (v : Float) → OnScale v → lt v (middle v) ≡ false → whole (to_unsigned 64 v + 1) ≡ charge_of v
cost-hi v h p = rw (on-scale v h) (ap whole (sym (rounded-hi v h p)))

-- ---- the same by the code's tests alone
module _ (v : Float) (low : le low_end v ≡ true) (high : lt v high_end ≡ true) where
  pub cut_low : T (lt (fin true 1 (pos 0)) v)
  cut_low = (cut-asks v (in-range v low high)).0

  pub cut_high : T (lt v (fin false 1 (pos 64)))
  cut_high = (cut-asks v (in-range v low high)).1

  pub cut_most : to_unsigned 64 v ≤ charge_max
  cut_most = cut-le v (in-range v low high)

  pub cut_casts : T (in_float binary64 (pos (to_unsigned 64 v)))
  cut_casts = castable (to_unsigned 64 v) cut_most

  pub costs_less : lt v (middle v) ≡ true → whole (to_unsigned 64 v) ≡ charge_of v
  costs_less h = cost-lo v (in-range v low high) h

  pub costs_more : lt v (middle v) ≡ false → whole (to_unsigned 64 v + 1) ≡ charge_of v
  costs_more h = cost-hi v (in-range v low high) h

pub refused_low : (v : Float) → le low_end v ≡ false → turned_down 16 ≡ charge_of v
refused_low v e = refused v (too-low v e)

pub refused_high : (v : Float) → lt v high_end ≡ false → turned_down 16 ≡ charge_of v
refused_high v e = refused v (too-high v e)

pub ruleset ways = (cut_low, cut_high, cut_most, cut_casts, costs_less, costs_more, refused_low, refused_high)
