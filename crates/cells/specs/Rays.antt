-- A ray from q against one triangle and against two steps of the rim; a bound of finitely many numbers, and a ray that tells places apart. Assumes nothing.
use Rattle.std.specs.Prelude.{◌≡◌, refl, ◌⊎◌, [], ◌∷◌, cond, ℕ, zero, suc, ◌+◌, ◌*◌, ◌<◌, ◌≤◌}
use Rattle.std.proofs.Common.{sym, subst, ap, ◌∙◌, inl, inr, arith}
use lib.IntN.{ℤ, pos, negsuc, neg_ℤ, nat_abs, ◌+ℤ◌, ◌-ℤ◌, ◌*ℤ◌, +ℤ-neg_ℤ_cancel, +ℤ_idl}
use Rattle.whole.specs.Poly.{var, con, ◌⊖◌, ◌⊗◌, env, agree, solve! }
use Rattle.whole.specs.Bound.{Within}
use Rattle.geometry.specs.declared.Place.{Place}
use Rattle.geometry.specs.Plane.{side}
use Rattle.signs.specs.Signs.{S, below, nil, sg, flip, ◌⊙◌, Fm, up, dn, ze, lo, hi, ne, ◌⇒◌, ◌&◌, ◌or◌, ev, Is, Pos, Neg, Zero, Low, Off, fire, both, test3, test6, every3, every6, zero-eq, eq-zero, bal, bal-mul3, add3}
use Rattle.signs.specs.Order.{pos-sg, neg-sg, zero-sg, neg-nil, neg-lo, off-or-zero}
use Rattle.cells.specs.Points.{dots, ray, along, parts, ray-parts, descent, descent-on, back}
use Rattle.cells.specs.Corner.{Apart, sq_pos, same_of}

-- ---- crossings: a step from one side of the ray's line to the other, ahead of q. 1 up, -1 down
unfoldable pub kap : S → S → S → ℤ
unfolding ev
kap a b s = cond (ev (dn a & up b & up s)) (pos 1) (cond (ev (up a & dn b & dn s)) (negsuc 0) (pos 0))

-- the crossings of a triangle's three sides, by the signs of its corners to the ray and of q to its sides
abbrev pub om : S → S → S → S → S → S → ℤ
om a b c x y z = kap a b z +ℤ kap b c x +ℤ kap c a y

kap-test : (a b s : S) → Is (ze (sg (kap b a (flip s) +ℤ kap a b s)))
unfolding test3 kap sg flip
kap-test = every3 (λ a b s. ze (sg (kap b a (flip s) +ℤ kap a b s))) tt

undo : (x y : ℤ) → x +ℤ y ≡ pos 0 → x ≡ neg_ℤ y
undo x y e = sym (+ℤ-neg_ℤ_cancel x y) ∙ ap (λ (u : ℤ). u -ℤ y) e ∙ +ℤ_idl (neg_ℤ y)

pub kap-back : (a b s : S) → kap b a (flip s) ≡ neg_ℤ (kap a b s)
kap-back a b s = undo (kap b a (flip s)) (kap a b s) (zero-eq (record { is = kap-test a b s }))

-- what a triangle adds
abbrev pub Wound : S → S → S → S → S → S → Fm
Wound a b c x y z =
    hi (sg (om a b c x y z))
    & (up (sg (om a b c x y z)) ⇒ ze (sg (om a b c x y z -ℤ pos 1)))
    & (up (sg (om a b c x y z)) ⇒ up x & up y & up z or ze z & up x & up y or ze x & up y & up z or ze y & up z & up x)
    & (up x & up y & up z ⇒ up (sg (om a b c x y z)))
    & (ze z & up x & up y ⇒ up a ⇒ up (sg (om a b c x y z)))

wound-test : (a b c x y z : S) → Is (ne a & ne b & ne c ⇒ bal (a ⊙ x) (b ⊙ y) (c ⊙ z) nil ⇒ bal below z x y ⇒ Wound a b c x y z)
unfolding test6 kap sg flip ◌⊙◌
wound-test = every6 (λ a b c x y z. ne a & ne b & ne c ⇒ bal (a ⊙ x) (b ⊙ y) (c ⊙ z) nil ⇒ bal below z x y ⇒ Wound a b c x y z) tt

pub wound : (ρ q a b c : Place) → Pos (side a b c) → Off (ray ρ q a) → Off (ray ρ q b) → Off (ray ρ q c) → Is (Wound (sg (ray ρ q a)) (sg (ray ρ q b)) (sg (ray ρ q c)) (sg (side b c q)) (sg (side c a q)) (sg (side a b q)))
unfolding flip
wound ρ q a b c d x y z =
    let s : Is (bal below (sg (side a b q)) (sg (side b c q)) (sg (side c a q))) =
    rw (pos-sg d) at (add3 (side a b c) (side a b q) (side b c q) (side c a q) (parts a b c q)) in
    fire (fire (fire (wound-test (sg (ray ρ q a)) (sg (ray ρ q b)) (sg (ray ρ q c)) (sg (side b c q)) (sg (side c a q)) (sg (side a b q)))
    (both x.is (both y.is z.is)))
    (bal-mul3 (ray ρ q a) (side b c q) (ray ρ q b) (side c a q) (ray ρ q c) (side a b q) (ray-parts ρ q a b c))) s

-- ---- at a lowest corner of the rim the two steps lie on one line
pub straight : (ρ q a v b : Place) → Pos (ray ρ q v) → Neg (ray ρ q v -ℤ ray ρ q a) → Pos (ray ρ q b -ℤ ray ρ q v) → Low (side v b q) → Low (side a v q) → Low (side a v b) → Zero (side a v b)
unfolding test3 ◌⊙◌ flip
straight ρ q a v b h k l x y z =
    let s : Is (bal (flip (sg (side v b q))) (sg (side v a q)) (sg (side v a b)) nil) =
    rw (neg-sg k, pos-sg l, pos-sg h) at (bal-mul3 (ray ρ q v -ℤ ray ρ q a) (side v b q) (ray ρ q b -ℤ ray ρ q v) (side v a q) (ray ρ q v) (side v a b) (descent ρ q a v b)) in
    let u : Zero (side v a b) =
    record {
      is = fire (fire (fire (fire (every3 (λ i j k. bal (flip i) j k nil ⇒ lo i ⇒ hi j ⇒ hi k ⇒ ze k) tt
          (sg (side v b q)) (sg (side v a q)) (sg (side v a b))) s) x.is) (neg-lo (back a v q) y).is) (neg-lo (back a v b) z).is;
    } in
    neg-nil (back v a b) u

-- and then it is no lowest
pub no-lowest : (ρ q a v b : Place) → Apart a v → Neg (ray ρ q v -ℤ ray ρ q a) → Pos (ray ρ q b -ℤ ray ρ q v) → Zero (side a v b) → Neg (dots a b v) → ⊥
unfolding ev ◌⊙◌ flip
no-lowest ρ q a v b n k l o d =
    (rw (pos-sg (sq_pos a v n), neg-sg k, pos-sg l, neg-sg d, zero-sg (neg-nil (back a v b) o)) at (bal-mul3 (dots a a v) (ray ρ q b -ℤ ray ρ q v) (ray ρ q v -ℤ ray ρ q a) (dots a b v) (side v a b) (along ρ a v) (descent-on ρ q a v b))).is

-- ---- a number within n that is n + 1 times another is 0
nat-far : (n k : ℕ) → suc n * suc k ≤ n → ⊥
nat-far n k h = omega arith

nat_abs-neg : (m : ℕ) → nat_abs (neg_ℤ (pos m)) ≡ m
nat_abs-neg zero = refl
nat_abs-neg (suc m) = refl

pub far : (n : ℕ) (u w : ℤ) → Within n w → w ≡ pos (suc n) *ℤ u → Zero u
unfolding sg ev
far n (pos zero) w h e = record { is = record { is = tt } }
far n (pos (suc k)) w h e = absurd (nat-far n k (subst (λ (z : ℤ). nat_abs z ≤ n) e h.abs))
far n (negsuc k) w h e =
    absurd (nat-far n k (subst (λ (m : ℕ). m ≤ n) (nat_abs-neg (suc n * suc k)) (subst (λ (z : ℤ). nat_abs z ≤ n) e h.abs)))

-- a bound of a finite list of numbers
pub reach : (ℕ → ℤ) → ℕ → ℕ
reach f zero = zero
reach f (suc n) = reach f n + nat_abs (f n)

pub reach-in : (f : ℕ → ℤ) (n i : ℕ) → i < n → Within (reach f n) (f i)
unfolding reach
reach-in f zero i h = absurd (omega arith)
reach-in f (suc n) i h = record { abs = step (native.Mathlib.Decide.ℕ_discrete i n) (reach-in f n i) }
  where
    step : Dec (i ≡ n) → (i < n → Within (reach f n) (f i)) → nat_abs (f i) ≤ reach f n + nat_abs (f n)
    step (yes e) ih = subst (λ (k : ℕ). nat_abs (f k) ≤ reach f n + nat_abs (f n)) (sym e) (omega arith)
    step (no e) ih = let r : nat_abs (f i) ≤ reach f n = (ih (omega arith)).abs in omega arith

-- ---- a steep ray tells every place from q whose height is within n of q's
abbrev pub steep : ℕ → Place
steep n = record { x = pos 1; y = pos (suc n) }

one-times : (w : ℤ) → pos 1 *ℤ w ≡ w
unfolding agree
one-times w = solve! (env (w ∷ [])) (con (pos 1) ⊗ var 0) (var 0) tt

pub steep-off : (n : ℕ) (q v : Place) → Within n (v.y -ℤ q.y) → Apart v q → Off (ray (steep n) q v)
unfolding ray
steep-off n q v h m = pick (off-or-zero (ray (steep n) q v))
  where
    pick : Off (ray (steep n) q v) ⊎ Zero (ray (steep n) q v) → Off (ray (steep n) q v)
    pick (inl o) = o
    pick (inr o) =
        let e : v.y -ℤ q.y ≡ pos (suc n) *ℤ (v.x -ℤ q.x) =
        sym (one-times (v.y -ℤ q.y)) ∙ same_of (pos 1 *ℤ (v.y -ℤ q.y)) (pos (suc n) *ℤ (v.x -ℤ q.x)) o in
        let x : Zero (v.x -ℤ q.x) = far n (v.x -ℤ q.x) (v.y -ℤ q.y) h e in
        let y : Zero (v.y -ℤ q.y) = eq-zero (e ∙ ap (λ (z : ℤ). pos (suc n) *ℤ z) (zero-eq x) ∙ lib.IntN.*ℤ-zero (pos (suc n))) in
        absurd (m (same_of v.x q.x x) (same_of v.y q.y y))

-- the ray of the other direction
abbrev pub counter : Place → Place
counter ρ = record { x = negsuc 0 *ℤ ρ.x; y = negsuc 0 *ℤ ρ.y }

pub ray-counter : (ρ q v : Place) → ray (counter ρ) q v ≡ neg_ℤ (ray ρ q v)
unfolding ray agree
ray-counter ρ q v =
    solve! (env (ρ.x ∷ ρ.y ∷ q.x ∷ q.y ∷ v.x ∷ v.y ∷ []))
    ((con (negsuc 0) ⊗ var 0) ⊗ (var 5 ⊖ var 3) ⊖ (con (negsuc 0) ⊗ var 1) ⊗ (var 4 ⊖ var 2))
    (con (pos 0) ⊖ (var 0 ⊗ (var 5 ⊖ var 3) ⊖ var 1 ⊗ (var 4 ⊖ var 2))) tt
    ∙ +ℤ_idl (neg_ℤ (ray ρ q v))
