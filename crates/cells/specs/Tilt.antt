-- A ray from the corner q of the triangle q x y into it that no two of finitely many places are alike to. Assumes nothing.
use Rattle.std.specs.Prelude.{◌≡◌, ◌⊎◌, [], ◌∷◌, ℕ, suc, ◌*◌}
use Rattle.std.proofs.Common.{sym, subst, ap, ◌∙◌, inl, inr, arith}
use lib.IntN.{ℤ, pos, neg_ℤ, ◌+ℤ◌, ◌-ℤ◌, ◌*ℤ◌, +ℤ_idl}
use Rattle.whole.specs.Poly.{Expr, var, con, ◌⊕◌, ◌⊖◌, ◌⊗◌, env, agree, solve! }
use Rattle.whole.specs.Bound.{Within}
use Rattle.geometry.specs.declared.Place.{Place}
use Rattle.geometry.specs.Plane.{vector_of, cross_of, dot_of, side}
use Rattle.signs.specs.Signs.{S, below, sg, flip, ◌⊙◌, Fm, up, dn, ze, hi, fail, ◌⇒◌, ◌&◌, ev, Is, Pos, Neg, Zero, High, Off, fire, left, right, both, test3, test6, every3, every6, zero-eq, eq-zero, bal, bal-mul3, add3, sg-mul, poss, sum-ok, failed}
use Rattle.signs.specs.Order.{pos-sg, zero-sg, neg-nil, neg-pos, off-or-zero, nat-pos, mul-pos}
use Rattle.cells.specs.Points.{dots, ray, along, X, Y, o_e, d_e, r_e, parts}
use Rattle.cells.specs.Corner.{Apart, sq_pos, not-flat}
use Rattle.cells.specs.Rays.{kap, om, far}

-- ---- what a triangle adds to the crossings of a ray from its corner a
abbrev pub Cornered : S → S → S → S → S → S → Fm
Cornered a b c x y z =
    hi (sg (om a b c x y z)) & (up (sg (om a b c x y z)) ⇒ ze (sg (om a b c x y z -ℤ pos 1))) & (dn b & up c ⇒ up (sg (om a b c x y z)))

cornered-test : (a b c x y z : S) → Is (ze a & ze y & ze z ⇒ bal below z x y ⇒ Cornered a b c x y z)
unfolding test6 kap sg flip ◌⊙◌
cornered-test = every6 (λ a b c x y z. ze a & ze y & ze z ⇒ bal below z x y ⇒ Cornered a b c x y z) tt

pub cornered : (ρ q a b c : Place) → Pos (side a b c) → Zero (ray ρ q a) → Zero (side c a q) → Zero (side a b q) → Is (Cornered (sg (ray ρ q a)) (sg (ray ρ q b)) (sg (ray ρ q c)) (sg (side b c q)) (sg (side c a q)) (sg (side a b q)))
unfolding flip
cornered ρ q a b c d o y z =
    let s : Is (bal below (sg (side a b q)) (sg (side b c q)) (sg (side c a q))) =
    rw (pos-sg d) at (add3 (side a b c) (side a b q) (side b c q) (side c a q) (parts a b c q)) in
    fire (fire (cornered-test (sg (ray ρ q a)) (sg (ray ρ q b)) (sg (ray ρ q c)) (sg (side b c q)) (sg (side c a q)) (sg (side a b q)))
    (both o.is (both y.is z.is))) s

pub ray-self : (ρ q : Place) → Zero (ray ρ q q)
unfolding ray agree
ray-self ρ q = eq-zero (solve! (env (ρ.x ∷ ρ.y ∷ q.x ∷ q.y ∷ [])) (r_e 0 1 1) (con (pos 0)) tt)

-- ---- the ray: k times the vector to x, and that to y
abbrev pub tilt : ℤ → Place → Place → Place → Place
tilt k q x y = record { x = k *ℤ (x.x -ℤ q.x) +ℤ (y.x -ℤ q.x); y = k *ℤ (x.y -ℤ q.y) +ℤ (y.y -ℤ q.y) }

-- the cross product of the tilted ray with the vector between the places i and j: k is variable 0, q x y the places from 1 on
abbrev P : ℕ → Expr
P i = var (suc (i * 2))

abbrev Q : ℕ → Expr
Q i = var (suc (suc (i * 2)))

abbrev tilt_e : ℕ → ℕ → Expr
tilt_e i j = (var 0 ⊗ (P 1 ⊖ P 0) ⊕ (P 2 ⊖ P 0)) ⊗ (Q j ⊖ Q i) ⊖ (var 0 ⊗ (Q 1 ⊖ Q 0) ⊕ (Q 2 ⊖ Q 0)) ⊗ (P j ⊖ P i)

abbrev s_e : ℕ → ℕ → ℕ → Expr
s_e a b q = (P b ⊖ P a) ⊗ (Q q ⊖ Q a) ⊖ (Q b ⊖ Q a) ⊗ (P q ⊖ P a)

tilt-first : (k : ℤ) (q x y : Place) → ray (tilt k q x y) q x ≡ neg_ℤ (side q x y)
unfolding ray side cross_of agree
tilt-first k q x y =
    solve! (env (k ∷ q.x ∷ q.y ∷ x.x ∷ x.y ∷ y.x ∷ y.y ∷ [])) (tilt_e 0 1) (con (pos 0) ⊖ s_e 0 1 2) tt ∙ +ℤ_idl (neg_ℤ (side q x y))

tilt-second : (k : ℤ) (q x y : Place) → ray (tilt k q x y) q y ≡ k *ℤ side q x y
unfolding ray side cross_of agree
tilt-second k q x y =
    solve! (env (k ∷ q.x ∷ q.y ∷ x.x ∷ x.y ∷ y.x ∷ y.y ∷ [])) (tilt_e 0 2) (var 0 ⊗ s_e 0 1 2) tt

tilt-gap : (k : ℤ) (q x y v w : Place) → ray (tilt k q x y) q v -ℤ ray (tilt k q x y) q w ≡ k *ℤ (side q x v -ℤ side q x w) +ℤ (side q y v -ℤ side q y w)
unfolding ray side cross_of agree
tilt-gap k q x y v w =
    solve! (env (k ∷ q.x ∷ q.y ∷ x.x ∷ x.y ∷ y.x ∷ y.y ∷ v.x ∷ v.y ∷ w.x ∷ w.y ∷ []))
    (tilt_e 0 3 ⊖ tilt_e 0 4) (var 0 ⊗ (s_e 0 1 3 ⊖ s_e 0 1 4) ⊕ (s_e 0 2 3 ⊖ s_e 0 2 4)) tt

tilt-edge : (k : ℤ) (q x y a b : Place) → ray (tilt k q x y) q a -ℤ ray (tilt k q x y) q b ≡ k *ℤ (side a b x -ℤ side a b q) +ℤ (side a b y -ℤ side a b q)
unfolding ray side cross_of agree
tilt-edge k q x y a b =
    solve! (env (k ∷ q.x ∷ q.y ∷ x.x ∷ x.y ∷ y.x ∷ y.y ∷ a.x ∷ a.y ∷ b.x ∷ b.y ∷ []))
    (tilt_e 0 3 ⊖ tilt_e 0 4) (var 0 ⊗ (s_e 3 4 1 ⊖ s_e 3 4 0) ⊕ (s_e 3 4 2 ⊖ s_e 3 4 0)) tt

-- of the vectors to x and y and the one from w to v
spread : (q x y v w : Place) → dots v v w *ℤ side q x y +ℤ (side q y v -ℤ side q y w) *ℤ along (vector_of q x) w v +ℤ (side q x v -ℤ side q x w) *ℤ along (vector_of q y) v w ≡ pos 0
unfolding along dot_of side cross_of agree
spread q x y v w =
    solve! (env (q.x ∷ q.y ∷ x.x ∷ x.y ∷ y.x ∷ y.y ∷ v.x ∷ v.y ∷ w.x ∷ w.y ∷ []))
    (d_e 3 3 4 ⊗ o_e 0 1 2 ⊕ (o_e 0 2 3 ⊖ o_e 0 2 4) ⊗ ((X 1 ⊖ X 0) ⊗ (X 3 ⊖ X 4) ⊕ (Y 1 ⊖ Y 0) ⊗ (Y 3 ⊖ Y 4)) ⊕ (o_e 0 1 3 ⊖ o_e 0 1 4) ⊗ ((X 2 ⊖ X 0) ⊗ (X 4 ⊖ X 3) ⊕ (Y 2 ⊖ Y 0) ⊗ (Y 4 ⊖ Y 3)))
    (con (pos 0)) tt

-- it goes between x and y
pub tilt-right : (n : ℕ) (q x y : Place) → Pos (side q x y) → Neg (ray (tilt (pos (suc n)) q x y) q x)
tilt-right n q x y d = neg-pos (tilt-first (pos (suc n)) q x y) d

suc-pos : (n : ℕ) → Pos (pos (suc n))
suc-pos n = nat-pos (suc n) (omega arith)

pub tilt-left : (n : ℕ) (q x y : Place) → Pos (side q x y) → Pos (ray (tilt (pos (suc n)) q x y) q y)
tilt-left n q x y d = subst Pos (sym (tilt-second (pos (suc n)) q x y)) (mul-pos (suc-pos n) d)

-- two places that are not alike
other : (k u w : ℤ) → k *ℤ u +ℤ w ≡ pos 0 → w ≡ k *ℤ neg_ℤ u
unfolding agree
other k u w e =
    solve! (env (k ∷ u ∷ w ∷ [])) (var 2) (var 0 ⊗ (con (pos 0) ⊖ var 1) ⊕ (var 0 ⊗ var 1 ⊕ var 2)) tt
    ∙ ap (λ (z : ℤ). k *ℤ (pos 0 -ℤ u) +ℤ z) e ∙ solve! (env (k ∷ u ∷ [])) (var 0 ⊗ (con (pos 0) ⊖ var 1) ⊕ con (pos 0)) (var 0 ⊗ (con (pos 0) ⊖ var 1)) tt
    ∙ ap (λ (z : ℤ). k *ℤ z) (+ℤ_idl (neg_ℤ u))

pub tilt-off : (n : ℕ) (q x y v w : Place) → Pos (side q x y) → Within n (side q y v -ℤ side q y w) → Apart v w → Off (ray (tilt (pos (suc n)) q x y) q v -ℤ ray (tilt (pos (suc n)) q x y) q w)
unfolding ◌⊙◌ ev
tilt-off n q x y v w d h m = pick (off-or-zero g)
  where
    g : ℤ
    g = ray (tilt (pos (suc n)) q x y) q v -ℤ ray (tilt (pos (suc n)) q x y) q w

    u : ℤ
    u = side q x v -ℤ side q x w

    t : ℤ
    t = side q y v -ℤ side q y w

    none : Zero u → Zero t → ⊥
    none a b =
        (rw (pos-sg (sq_pos v w m), pos-sg d, zero-sg a, zero-sg b) at (bal-mul3 (dots v v w) (side q x y) t (along (vector_of q x) w v) u (along (vector_of q y) v w) (spread q x y v w))).is

    pick : Off g ⊎ Zero g → Off g
    pick (inl o) = o
    pick (inr o) =
        let e : t ≡ pos (suc n) *ℤ neg_ℤ u = other (pos (suc n)) u t (sym (tilt-gap (pos (suc n)) q x y v w) ∙ zero-eq o) in
        let a : Zero (neg_ℤ u) = far n (neg_ℤ u) t h e in
        let b : Zero u = neg-nil (sym (lib.IntN.neg_ℤ-neg_ℤ u)) a in
        let f : t ≡ pos 0 = e ∙ ap (λ (z : ℤ). pos (suc n) *ℤ z) (zero-eq a) ∙ lib.IntN.*ℤ-zero (pos (suc n)) in
        absurd (none b (eq-zero f))

less0 : (k u w : ℤ) → k *ℤ (u -ℤ pos 0) +ℤ (w -ℤ pos 0) ≡ k *ℤ u +ℤ w
unfolding agree
less0 k u w = solve! (env (k ∷ u ∷ w ∷ [])) (var 0 ⊗ (var 1 ⊖ con (pos 0)) ⊕ (var 2 ⊖ con (pos 0))) (var 0 ⊗ var 1 ⊕ var 2) tt

-- where q is on the line a b and the triangle not right of it, the ray leaves it to the left
pub tilt-inward : (n : ℕ) (q x y a b : Place) → Pos (side q x y) → Apart b a → Zero (side a b q) → High (side a b x) → High (side a b y) → Pos (ray (tilt (pos (suc n)) q x y) q a -ℤ ray (tilt (pos (suc n)) q x y) q b)
unfolding test3 ◌⊙◌ flip
tilt-inward n q x y a b d m o h k =
    let g = ray (tilt (pos (suc n)) q x y) q a -ℤ ray (tilt (pos (suc n)) q x y) q b in
    let e : g ≡ pos (suc n) *ℤ side a b x +ℤ side a b y =
    tilt-edge (pos (suc n)) q x y a b ∙ ap (λ (z : ℤ). pos (suc n) *ℤ (side a b x -ℤ z) +ℤ (side a b y -ℤ z)) (zero-eq o) ∙ less0 (pos (suc n)) (side a b x) (side a b y) in
    let p : Is (poss (sg (side a b x)) (sg (side a b y)) (sg g)) =
    rw (e) (rw (sg-mul (pos (suc n)) (side a b x), pos-sg (suc-pos n)) at (sum-ok (pos (suc n) *ℤ side a b x) (side a b y))) in
    record {
      is = fire (fire (fire (fire (every3 (λ i j l. poss i j l ⇒ hi i ⇒ hi j ⇒ (ze i & ze j ⇒ fail) ⇒ up l) tt (sg (side a b x)) (sg (side a b y)) (sg g)) p) h.is) k.is)
          (failed (λ z. not-flat a b q x y (sq_pos b a m) d o (record { is = left z }) (record { is = right z })));
    }
