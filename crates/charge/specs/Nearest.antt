-- The charge of a value is 01's: `charge-is` and `is-charge` (n from 0 to 1,000,000 is the charge exactly when n - 0.5 <= v < n + 0.5), `one-charge` (no two
-- whole numbers are), `some-charge` and `charge-some` (one from 0 to 1,000,000 exists exactly when 16 does not meet v), `finite-charge` (every finite v has one). Assumes nothing.
use Rattle.std.specs.Prelude.{◌≡◌, ℕ, zero, suc, ◌+◌, ◌-◌, ◌*◌, ◌/◌, ◌<◌, ◌≤◌, Bool, true, false, [], ◌∷◌, ℤ, pos, negsuc, ◌+ℤ◌, ◌-ℤ◌, ◌*ℤ◌, ◌≢◌, refl, Float}
use Rattle.std.proofs.Common.{sym, ap, ◌∙◌, subst, true≢false, not-suc-le-zero, le_of_suc-le-suc, mul_assoc, add-mul, suc-mul, mul-le-mul_right, div-mul-le_self, div-lt_iff_lt-mul, arith, lt→ltb, ltb→lt, le→leb, leb→le, leb-false, ltb-false, le-ltb}
use Rattle.std.proofs.Math.Nat.{lt-div-mul-add, div-eq_of_lt-le}
use Rattle.std.proofs.Math.IntN.{+ℤ_idl, -ℤ-+ℤ_cancel}
use Rattle.std.specs.Float.{nan, inf, fin}
use Rattle.std.specs.Float.Ieee.{up, down}
use Rattle.std.specs.Float.Ieee.Fits.{down_pos}
use Rattle.std.proofs.lemmas.Bool.{lt-leb}
use Rattle.whole.specs.Poly.{Expr, var, con, ◌⊕◌, ◌⊖◌, ◌⊗◌, env, agree, solve! }
use Rattle.signs.specs.Signs.{Pos, High}
use Rattle.signs.specs.Order.{nat-pos, pos-nat, add-pos, cancel-pos}
use Rattle.charge.specs.Order.{le-atleast, atleast-le, lt_above, above-lt, above-sub}
use Rattle.charge.specs.Charging.{charge_max, Nearest, signed, IsCharge, off_scale, rounded, charge_of}
use Rattle.charge.specs.Charging.Cost.{whole, turned_down}

-- ---- the two differences whose signs say that n is nearest to x / d
abbrev past : ℤ → ℕ → ℤ → ℤ
past x d n = pos 2 *ℤ x -ℤ (pos 2 *ℤ n -ℤ pos 1) *ℤ pos d

abbrev short : ℤ → ℕ → ℤ → ℤ
short x d n = (pos 2 *ℤ n +ℤ pos 1) *ℤ pos d -ℤ pos 2 *ℤ x

abbrev past_e : Expr → Expr → Expr → Expr
past_e x d n = con (pos 2) ⊗ x ⊖ (con (pos 2) ⊗ n ⊖ con (pos 1)) ⊗ d

abbrev short_e : Expr → Expr → Expr → Expr
short_e x d n = (con (pos 2) ⊗ n ⊕ con (pos 1)) ⊗ d ⊖ con (pos 2) ⊗ x

abbrev X : Expr
X = var 0

abbrev D : Expr
D = var 1

abbrev N : Expr
N = var 2

abbrev K : Expr
K = var 3

-- ---- no two whole numbers are nearest
-- one is at most the other
one-above : (x : ℤ) (d : ℕ) (n k : ℤ) → 0 < d → Nearest x d n → Nearest x d k → Pos (k -ℤ n +ℤ pos 1)
unfolding agree
one-above x d n k p a b =
    let s : Pos (short x d k +ℤ past x d n) = add-pos (lt_above _ _ b.below) (le-atleast _ _ a.from) in
    let e : short x d k +ℤ past x d n ≡ pos 2 *ℤ pos d *ℤ (k -ℤ n +ℤ pos 1) =
    solve! (env (x ∷ pos d ∷ n ∷ k ∷ [])) (short_e X D K ⊕ past_e X D N) (con (pos 2) ⊗ D ⊗ (K ⊖ N ⊕ con (pos 1))) tt
    in
    cancel-pos (pos 2 *ℤ pos d) (k -ℤ n +ℤ pos 1) (nat-pos (2 * d) (omega arith)) (subst Pos e s)

-- what is neither 1 above nor 1 below 0
near-zero : (z : ℤ) → Pos (z +ℤ pos 1) → Pos (pos 1 -ℤ z) → z ≡ pos 0
near-zero (pos zero) h k = refl
near-zero (pos (suc zero)) h k = absurd (not-suc-le-zero (pos-nat 0 k))
near-zero (pos (suc (suc n))) h k = absurd (not-suc-le-zero (le_of_suc-le-suc (above-sub 1 (suc n) k)))
near-zero (negsuc zero) h k = absurd (not-suc-le-zero (pos-nat 0 h))
near-zero (negsuc (suc n)) h k = absurd (not-suc-le-zero (le_of_suc-le-suc (above-sub 1 (suc n) h)))

one-nearest : (x : ℤ) (d : ℕ) (n k : ℤ) → 0 < d → Nearest x d n → Nearest x d k → n ≡ k
unfolding agree
one-nearest x d n k p a b =
    let e : n -ℤ k +ℤ pos 1 ≡ pos 1 -ℤ (k -ℤ n) =
    solve! (env (x ∷ pos d ∷ n ∷ k ∷ [])) (N ⊖ K ⊕ con (pos 1)) (con (pos 1) ⊖ (K ⊖ N)) tt
    in
    let z : k -ℤ n ≡ pos 0 = near-zero (k -ℤ n) (one-above x d n k p a b) (subst Pos e (one-above x d k n p b a)) in
    sym (+ℤ_idl n) ∙ ap (λ (y : ℤ). y +ℤ n) (sym z) ∙ -ℤ-+ℤ_cancel k n

-- the charge of a value is one number
pub one-charge : (v : Float) (n k : ℤ) → IsCharge v n → IsCharge v k → n ≡ k
one-charge nan n k a b = absurd a
one-charge (inf s) n k a b = absurd a
one-charge (fin s m e) n k a b = one-nearest (signed s (m * up e)) (down e) n k (down_pos e) a b

-- ---- nearest, in natural numbers: of x = a, and of x = -a
module _ (a d k : ℕ) where
  abbrev ρ : ℕ → ℤ
  ρ = env (pos a ∷ pos d ∷ pos k ∷ [])

  up-past : past (pos a) d (pos k) ≡ pos (2 * a + d) -ℤ pos (2 * k * d)
  unfolding agree
  up-past = solve! ρ (past_e X D N) (con (pos 2) ⊗ X ⊕ D ⊖ con (pos 2) ⊗ N ⊗ D) tt

  down-past : past (pos 0 -ℤ pos a) d (pos k) ≡ pos d -ℤ pos (2 * k * d + 2 * a)
  unfolding agree
  down-past = solve! ρ (past_e (con (pos 0) ⊖ X) D N) (D ⊖ (con (pos 2) ⊗ N ⊗ D ⊕ con (pos 2) ⊗ X)) tt

  down-short : short (pos 0 -ℤ pos a) d (pos k) ≡ pos ((2 * k + 1) * d + 2 * a) -ℤ pos 0
  unfolding agree
  down-short = solve! ρ (short_e (con (pos 0) ⊖ X) D N) ((con (pos 2) ⊗ N ⊕ con (pos 1)) ⊗ D ⊕ con (pos 2) ⊗ X ⊖ con (pos 0)) tt

  nearest-up : 2 * k * d ≤ 2 * a + d → 2 * a < (2 * k + 1) * d → Nearest (pos a) d (pos k)
  nearest-up h l = record {
    from = atleast-le _ _ (subst High (sym up-past) (le-atleast (pos (2 * k * d)) (pos (2 * a + d)) (record { le = le→leb _ _ h })));
    below = record { lt = lt→ltb (2 * a) ((2 * k + 1) * d) l };
  }

  up-nearest : Nearest (pos a) d (pos k) → (2 * k * d ≤ 2 * a + d) × (2 * a < (2 * k + 1) * d)
  up-nearest h = (
    leb→le (2 * k * d) (2 * a + d) (atleast-le (pos (2 * k * d)) (pos (2 * a + d)) (subst High up-past (le-atleast _ _ h.from))).le,
    ltb→lt (2 * a) ((2 * k + 1) * d) h.below.lt,
  )

  nearest-down : 0 < d → 2 * k * d + 2 * a ≤ d → Nearest (pos 0 -ℤ pos a) d (pos k)
  nearest-down p h =
      let x : (2 * k + 1) * d ≡ 2 * k * d + 1 * d = add-mul (2 * k) 1 d in
      record {
        from = atleast-le _ _ (subst High (sym down-past) (le-atleast (pos (2 * k * d + 2 * a)) (pos d) (record { le = le→leb _ _ h })));
        below = above-lt _ _ (subst Pos (sym down-short) (lt_above (pos 0) (pos ((2 * k + 1) * d + 2 * a)) (record { lt = lt→ltb 0 ((2 * k + 1) * d + 2 * a) (omega arith) })));
      }

  down-nearest : Nearest (pos 0 -ℤ pos a) d (pos k) → 2 * k * d + 2 * a ≤ d
  down-nearest h = leb→le (2 * k * d + 2 * a) d (atleast-le (pos (2 * k * d + 2 * a)) (pos d) (subst High down-past (le-atleast _ _ h.from))).le

-- of x = -a and n = -k
module _ (a d k : ℕ) where
  under-past : past (pos 0 -ℤ pos a) d (pos 0 -ℤ pos k) ≡ pos ((2 * k + 1) * d) -ℤ pos (2 * a)
  unfolding agree
  under-past =
      solve! (env (pos a ∷ pos d ∷ pos k ∷ [])) (past_e (con (pos 0) ⊖ X) D (con (pos 0) ⊖ N))
      ((con (pos 2) ⊗ N ⊕ con (pos 1)) ⊗ D ⊖ con (pos 2) ⊗ X) tt

  under-short : short (pos 0 -ℤ pos a) d (pos 0 -ℤ pos k) ≡ pos (2 * a + d) -ℤ pos (2 * k * d)
  unfolding agree
  under-short =
      solve! (env (pos a ∷ pos d ∷ pos k ∷ [])) (short_e (con (pos 0) ⊖ X) D (con (pos 0) ⊖ N))
      (con (pos 2) ⊗ X ⊕ D ⊖ con (pos 2) ⊗ N ⊗ D) tt

  nearest-under : 2 * a ≤ (2 * k + 1) * d → 2 * k * d < 2 * a + d → Nearest (pos 0 -ℤ pos a) d (pos 0 -ℤ pos k)
  nearest-under h l = record {
    from = atleast-le _ _ (subst High (sym under-past) (le-atleast (pos (2 * a)) (pos ((2 * k + 1) * d)) (record { le = le→leb (2 * a) ((2 * k + 1) * d) h })));
    below = above-lt _ _ (subst Pos (sym under-short) (lt_above (pos (2 * k * d)) (pos (2 * a + d)) (record { lt = lt→ltb (2 * k * d) (2 * a + d) l })));
  }

-- ---- the whole part of a / d + 1/2 is nearest
module _ (a d : ℕ) (p : 0 < d) where
  part-is : (k : ℕ) → (a * 2 + d) / (d * 2) ≡ k → (2 * k * d ≤ 2 * a + d) × (2 * a < (2 * k + 1) * d)
  part-is k e =
      let l : k * (d * 2) ≤ a * 2 + d = subst (λ (t : ℕ). t * (d * 2) ≤ a * 2 + d) e (div-mul-le_self (a * 2 + d) (d * 2)) in
      let h : a * 2 + d < k * (d * 2) + d * 2 =
      subst (λ (t : ℕ). a * 2 + d < t * (d * 2) + d * 2) e (lt-div-mul-add (omega arith))
      in
      let x1 : k * (d * 2) ≡ k * d * 2 = sym (mul_assoc k d 2) in
      let x2 : 2 * k * d ≡ 2 * (k * d) = mul_assoc 2 k d in
      let x3 : (2 * k + 1) * d ≡ 2 * k * d + 1 * d = add-mul (2 * k) 1 d in
      (omega arith, omega arith)

  is-part : (k : ℕ) → 2 * k * d ≤ 2 * a + d → 2 * a < (2 * k + 1) * d → (a * 2 + d) / (d * 2) ≡ k
  is-part k l h =
      let x1 : k * (d * 2) ≡ k * d * 2 = sym (mul_assoc k d 2) in
      let x2 : 2 * k * d ≡ 2 * (k * d) = mul_assoc 2 k d in
      let x3 : (2 * k + 1) * d ≡ 2 * k * d + 1 * d = add-mul (2 * k) 1 d in
      let x4 : (k + 1) * (d * 2) ≡ k * (d * 2) + 1 * (d * 2) = add-mul k 1 (d * 2) in
      div-eq_of_lt-le (d * 2) (omega arith) (omega arith)

  -- below 0 a half goes up too
  part-under : (2 * a ≤ (2 * ((a * 2 + d - 1) / (d * 2)) + 1) * d) × (2 * ((a * 2 + d - 1) / (d * 2)) * d < 2 * a + d)
  part-under =
      let k = (a * 2 + d - 1) / (d * 2) in
      let l : k * (d * 2) ≤ a * 2 + d - 1 = div-mul-le_self (a * 2 + d - 1) (d * 2) in
      let h : a * 2 + d - 1 < k * (d * 2) + d * 2 = lt-div-mul-add (omega arith) in
      let x1 : k * (d * 2) ≡ k * d * 2 = sym (mul_assoc k d 2) in
      let x2 : 2 * k * d ≡ 2 * (k * d) = mul_assoc 2 k d in
      let x3 : (2 * k + 1) * d ≡ 2 * k * d + 1 * d = add-mul (2 * k) 1 d in
      (omega arith, omega arith)

  -- a charge of at most 1,000,000 is of a value below 1,000,000.5, and the reverse
  part_small : a * 2 < (charge_max * 2 + 1) * d → (a * 2 + d) / (d * 2) ≤ charge_max
  part_small h = let k : (a * 2 + d) / (d * 2) < charge_max + 1 = (div-lt_iff_lt-mul {k = d * 2} {x = a * 2 + d} {y = charge_max + 1} (omega arith)).1 (omega arith) in omega arith

  small-part : (k : ℕ) → k ≤ charge_max → 2 * a < (2 * k + 1) * d → a * 2 < (charge_max * 2 + 1) * d
  small-part k l h = let m : (2 * k + 1) * d ≤ (charge_max * 2 + 1) * d = mul-le-mul_right d (omega arith) in omega arith

  none-negative : (k : ℕ) → 2 * k * d + 2 * a ≤ d → 0 ≡ k
  none-negative zero h = refl
  none-negative (suc k) h =
      let x : 2 * suc k * d ≡ 2 * (suc k * d) = mul_assoc 2 (suc k) d in
      let y : suc k * d ≡ k * d + d = suc-mul k d in
      let c : ⊥ = omega arith in absurd c

-- ---- 16 and the charge
-- where 16 does not meet the value, its charge is nearest and at most 1,000,000
pub on-scale : (v : Float) → off_scale v ≡ false → IsCharge v (pos (rounded v)) × (rounded v ≤ charge_max)
on-scale nan h = absurd (true≢false h)
on-scale (inf s) h = absurd (true≢false h)
on-scale (fin false m e) h =
    let l : m * up e * 2 < (charge_max * 2 + 1) * down e = leb-false _ _ h in
    let q = part-is (m * up e) (down e) (down_pos e) (rounded (fin false m e)) refl in
    (nearest-up (m * up e) (down e) (rounded (fin false m e)) q.0 q.1, part_small (m * up e) (down e) (down_pos e) l)
on-scale (fin true m e) h =
    let l : m * up e * 2 ≤ down e = ltb-false _ _ h in
    (nearest-down (m * up e) (down e) 0 (down_pos e) (omega arith), omega arith)

-- where some n from 0 to 1,000,000 is nearest, 16 does not meet the value, and n is its charge
pub scale-on : (v : Float) (n : ℕ) → n ≤ charge_max → IsCharge v (pos n) → (off_scale v ≡ false) × (rounded v ≡ n)
scale-on nan n h a = absurd a
scale-on (inf s) n h a = absurd a
scale-on (fin false m e) n h a =
    let q = up-nearest (m * up e) (down e) n a in
    (lt-leb _ _ (small-part (m * up e) (down e) (down_pos e) n h q.1), is-part (m * up e) (down e) (down_pos e) n q.0 q.1)
scale-on (fin true m e) n h a =
    let q = down-nearest (m * up e) (down e) n a in
    (le-ltb (down e) (m * up e * 2) (omega arith), none-negative (m * up e) (down e) (down_pos e) n q)

apart : (k n : ℕ) → turned_down k ≢ whole n
apart k n p = let z : ◌≡◌ {A = ℕ} 0 1 = cc in omega arith

same_whole : (n k : ℕ) → whole n ≡ whole k → n ≡ k
same_whole n k p = cc

-- n is the charge exactly when it is one of 0 to 1,000,000 with n - 0.5 <= v < n + 0.5
pub charge-is : (v : Float) (n : ℕ) → charge_of v ≡ whole n → IsCharge v (pos n) × (n ≤ charge_max)
charge-is v n h = go (off_scale v) refl
  where
    go : (b : Bool) → off_scale v ≡ b → IsCharge v (pos n) × (n ≤ charge_max)
    go true e = absurd (apart 16 n (rw e at h))
    go false e = subst (λ (k : ℕ). IsCharge v (pos k) × (k ≤ charge_max)) (same_whole (rounded v) n (rw e at h)) (on-scale v e)

pub is-charge : (v : Float) (n : ℕ) → n ≤ charge_max → IsCharge v (pos n) → charge_of v ≡ whole n
is-charge v n h a = let q = scale-on v n h a in rw q.0 (ap whole q.1)

-- one from 0 to 1,000,000 exists exactly when 16 does not meet the value
pub record Some (v : Float) : Type 0 where
  pub charge : ℕ
  pub small : charge ≤ charge_max
  pub nearest : IsCharge v (pos charge)

pub some-charge : (v : Float) → off_scale v ≡ false → Some v
some-charge v h = let q = on-scale v h in record { charge = rounded v; small = q.1; nearest = q.0 }

pub charge-some : (v : Float) → Some v → off_scale v ≡ false
charge-some v s = (scale-on v s.charge s.small s.nearest).0

-- every finite value has a nearest whole number, whatever 16 says
pub record Finite (v : Float) : Type 0 where
  pub whole : ℤ
  pub nearest : IsCharge v whole

pub finite-charge : (s : Bool) (m : ℕ) (e : ℤ) → Finite (fin s m e)
finite-charge false m e =
    let q = part-is (m * up e) (down e) (down_pos e) (rounded (fin false m e)) refl in
    record { whole = pos (rounded (fin false m e)); nearest = nearest-up (m * up e) (down e) (rounded (fin false m e)) q.0 q.1 }
finite-charge true m e =
    let k = (m * up e * 2 + down e - 1) / (down e * 2) in
    let q = part-under (m * up e) (down e) (down_pos e) in
    record { whole = pos 0 -ℤ pos k; nearest = nearest-under (m * up e) (down e) k q.0 q.1 }
