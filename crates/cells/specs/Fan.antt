-- The sides of a ring about q as a fan: z is faced by the side from a to b where the ray from q to z leaves through it, a's end counted and b's not.
-- Over places. Assumes nothing.
use Rattle.std.specs.Prelude.{◌≡◌, refl, ◌⊎◌, [], ◌∷◌, ℤ, pos, neg_ℤ, ◌+ℤ◌, ◌*ℤ◌}
use Rattle.std.proofs.Common.{sym, subst, ap, ◌∙◌, inl, inr}
use Rattle.std.proofs.Math.IntN.{+ℤ_idl}
use Rattle.whole.specs.Poly.{con, ◌⊕◌, ◌⊖◌, ◌⊗◌, env, agree, solve! }
use Rattle.geometry.specs.declared.Place.{Place}
use Rattle.geometry.specs.Plane.{cross_of, dot_of, side}
use Rattle.signs.specs.Signs.{below, nil, above, sg, flip, ◌⊙◌, Fm, up, dn, ze, hi, ◌⇒◌, ◌&◌, ◌or◌, Is, Pos, Neg, Zero, High, fire, left, right, both, either, or_l, or_r, test2, test3, every2, every3, bal, bal-mul3, eq-zero}
use Rattle.signs.specs.Order.{pos-sg, neg-sg, zero-sg, pos-high, neg-neg, neg-pos, zero_high, pos-zero, pos-neg, neg-high, neg-nil}
use Rattle.cells.specs.Points.{dots, o_e, d_e, back, dot-back}
use Rattle.cells.specs.Window.{plus}
use Rattle.cells.specs.Corner.{sq-high, sq_pos, Apart}

-- z is faced by the side from a to b
abbrev pub facing : Place → Place → Place → Place → Fm
facing q a b z = up (sg (side a z q)) & up (sg (side z b q)) or ze (sg (side a z q)) & up (sg (dots a z q))

-- Lagrange's identity, as a sum that is 0
lagrange : (q u v w : Place) → dots u u q *ℤ side v w q +ℤ dots u v q *ℤ side w u q +ℤ side u v q *ℤ dots u w q ≡ pos 0
unfolding side cross_of dot_of agree
lagrange q u v w =
    solve! (env (q.x ∷ q.y ∷ u.x ∷ u.y ∷ v.x ∷ v.y ∷ w.x ∷ w.y ∷ []))
    (d_e 1 1 0 ⊗ o_e 2 3 0 ⊕ d_e 1 2 0 ⊗ o_e 3 1 0 ⊕ o_e 1 2 0 ⊗ d_e 1 3 0) (con (pos 0)) tt

-- and of dot products
cosine : (q u v w : Place) → dots u u q *ℤ dots v w q +ℤ dots u v q *ℤ neg_ℤ (dots u w q) +ℤ side u v q *ℤ side w u q ≡ pos 0
unfolding side cross_of dot_of agree
cosine q u v w =
    ap (λ (t : ℤ). dots u u q *ℤ dots v w q +ℤ dots u v q *ℤ t +ℤ side u v q *ℤ side w u q) (sym (+ℤ_idl (neg_ℤ (dots u w q))))
    ∙ solve! (env (q.x ∷ q.y ∷ u.x ∷ u.y ∷ v.x ∷ v.y ∷ w.x ∷ w.y ∷ []))
    (d_e 1 1 0 ⊗ d_e 2 3 0 ⊕ d_e 1 2 0 ⊗ (con (pos 0) ⊖ d_e 1 3 0) ⊕ o_e 1 2 0 ⊗ o_e 3 1 0) (con (pos 0)) tt

-- the two cases
pub data Faced (q a b z : Place) : Type 0 where
  inside : Pos (side a z q) → Pos (side z b q) → Faced q a b z
  on-a : Zero (side a z q) → Pos (dots a z q) → Faced q a b z

pub faced : (q a b z : Place) → Is (facing q a b z) → Faced q a b z
faced q a b z f = pick (either f)
  where
    pick : Is (up (sg (side a z q)) & up (sg (side z b q))) ⊎ Is (ze (sg (side a z q)) & up (sg (dots a z q))) → Faced q a b z
    pick (inl h) = inside (record { is = left h }) (record { is = right h })
    pick (inr h) = on-a (record { is = left h }) (record { is = right h })

pub facing-of : (q a b z : Place) → Faced q a b z → Is (facing q a b z)
facing-of q a b z (inside h k) = or_l (both h.is k.is)
facing-of q a b z (on-a h k) = or_r (both h.is k.is)

-- what a side faces is not strictly right of its first end
facing-high : (q a b z : Place) → Faced q a b z → High (side a z q)
facing-high q a b z (inside h k) = pos-high h
facing-high q a b z (on-a h k) = zero_high h

-- ---- a place in the direction of a is strictly right of b, where b is left of a
past-a : (q a b z : Place) → Pos (side a b q) → Zero (side a z q) → Pos (dots a z q) → Neg (side b z q)
unfolding test3 ◌⊙◌ flip
past-a q a b z h o k =
    let s : Is (bal (sg (dots a a q) ⊙ sg (side b z q)) (sg (dots a b q) ⊙ nil) above nil) =
    rw (pos-sg h, zero-sg (neg-nil (back a z q) o), pos-sg k) at (bal-mul3 (dots a a q) (side b z q) (dots a b q) (side z a q) (side a b q) (dots a z q) (lagrange q a b z)) in
    record { is = fire (fire (every3 (λ n x t. bal (n ⊙ x) (t ⊙ nil) above nil ⇒ hi n ⇒ dn x) tt (sg (dots a a q)) (sg (side b z q)) (sg (dots a b q))) s) (sq-high a q).is }

-- two sides one after the other do not face one place
pub strict-pair : (q a b d z : Place) → Pos (side a b q) → Faced q a b z → Faced q b d z → ⊥
strict-pair q a b d z h (inside x y) g = neg-high (neg-pos (back z b q) y) (facing-high q b d z g)
strict-pair q a b d z h (on-a x y) g = neg-high (past-a q a b z h x y) (facing-high q b d z g)

-- nor where q is on the first one
flat-zero : (q a b z : Place) → Zero (side a b q) → Neg (dots a b q) → Zero (side a z q) → Zero (side b z q)
unfolding test3 ◌⊙◌ flip
flat-zero q a b z o k x =
    let s : Is (bal (sg (dots b b q) ⊙ nil) (sg (dots b a q) ⊙ sg (side z b q)) (nil) nil) =
    rw (zero-sg x, zero-sg (neg-nil (back a b q) o)) at (bal-mul3 (dots b b q) (side a z q) (dots b a q) (side z b q) (side b a q) (dots b z q) (lagrange q b a z)) in
    let n : Neg (dots b a q) = subst Neg (dot-back a b q) k in
    let t : Is (bal (sg (dots b b q) ⊙ nil) (flip (sg (side z b q))) nil nil) = rw (neg-sg n) at s in
    neg-nil (back z b q) (record { is = fire (every2 (λ m u. bal (m ⊙ nil) (flip u) nil nil ⇒ ze u) (unfold test2 in tt) (sg (dots b b q)) (sg (side z b q))) t })

flat-away : (q a b z : Place) → Zero (side a b q) → Neg (dots a b q) → Pos (dots a z q) → Neg (dots b z q)
unfolding test2 ◌⊙◌ flip
flat-away q a b z o k y =
    let p : Neg (neg_ℤ (dots a z q)) = neg-pos refl y in
    let s : Is (bal (sg (dots a a q) ⊙ sg (dots b z q)) above nil nil) =
    rw (neg-sg k, neg-sg p, zero-sg o) at (bal-mul3 (dots a a q) (dots b z q) (dots a b q) (neg_ℤ (dots a z q)) (side a b q) (side z a q) (cosine q a b z)) in
    record { is = fire (fire (every2 (λ n u. bal (n ⊙ u) above nil nil ⇒ hi n ⇒ dn u) tt (sg (dots a a q)) (sg (dots b z q))) s) (sq-high a q).is }

pub flat-pair : (q a b d z : Place) → Zero (side a b q) → Neg (dots a b q) → Faced q a b z → Faced q b d z → ⊥
flat-pair q a b d z o k (inside x y) g = neg-high (neg-pos (back z b q) y) (facing-high q b d z g)
flat-pair q a b d z o k (on-a x y) (inside u v) = pos-zero u (flat-zero q a b z o k x)
flat-pair q a b d z o k (on-a x y) (on-a u v) = pos-neg v (flat-away q a b z o k y)

-- ---- a side split at e: what either part faces the whole faced
pub split-first : (q a b e z : Place) → High (side a b q) → Pos (side a e q) → Pos (side e b q) → Faced q a e z → Faced q a b z
unfolding test2 ◌⊙◌ flip
split-first q a b e z h k l (on-a x y) = on-a x y
split-first q a b e z h k l (inside x y) =
    let s : Is (bal (sg (side a b q) ⊙ above) above (sg (side b z q)) nil) =
    rw (pos-sg k, pos-sg l, pos-sg x, pos-sg y) at (bal-mul3 (side a b q) (side z e q) (side a z q) (side e b q) (side a e q) (side b z q) (plus q a b z e)) in
    inside x (neg-neg (back b z q) (record { is = fire (fire (every2 (λ u v. bal (u ⊙ above) above v nil ⇒ hi u ⇒ dn v) tt (sg (side a b q)) (sg (side b z q))) s) h.is }))

-- a place in the direction of e is strictly left of a, where e is left of a
before-e : (q a e z : Place) → Pos (side a e q) → Zero (side e z q) → Pos (dots e z q) → Pos (side a z q)
unfolding test3 ◌⊙◌ flip
before-e q a e z h o k =
    let s : Is (bal (sg (dots e e q) ⊙ sg (side a z q)) (sg (dots e a q) ⊙ nil) below nil) =
    rw (neg-sg (neg-pos (back a e q) h), zero-sg (neg-nil (back e z q) o), pos-sg k) at (bal-mul3 (dots e e q) (side a z q) (dots e a q) (side z e q) (side e a q) (dots e z q) (lagrange q e a z)) in
    record { is = fire (fire (every3 (λ n x t. bal (n ⊙ x) (t ⊙ nil) below nil ⇒ hi n ⇒ up x) tt (sg (dots e e q)) (sg (side a z q)) (sg (dots e a q))) s) (sq-high e q).is }

pub split-second : (q a b e z : Place) → High (side a b q) → Pos (side a e q) → Pos (side e b q) → Faced q e b z → Faced q a b z
unfolding test2 ◌⊙◌ flip
split-second q a b e z h k l (on-a x y) = inside (before-e q a e z k x y) (neg-neg (back b z q) (past-a q e b z l x y))
split-second q a b e z h k l (inside x y) =
    let s : Is (bal (sg (side a b q) ⊙ below) (sg (side a z q) ⊙ above) below nil) =
    rw (pos-sg k, pos-sg l, neg-sg (neg-pos (back e z q) x), neg-sg (neg-pos (back z b q) y)) at (bal-mul3 (side a b q) (side z e q) (side a z q) (side e b q) (side a e q) (side b z q) (plus q a b z e)) in
    inside (record { is = fire (fire (every2 (λ u v. bal (u ⊙ below) (v ⊙ above) below nil ⇒ hi u ⇒ up v) tt (sg (side a b q)) (sg (side a z q))) s) h.is }) y

-- ---- a side faces its own first end
pub own-end : (q a b : Place) → Apart a q → Faced q a b a
unfolding side cross_of agree
own-end q a b n =
    on-a (eq-zero (solve! (env (q.x ∷ q.y ∷ a.x ∷ a.y ∷ [])) (o_e 1 1 0) (con (pos 0)) tt)) (sq_pos a q n)
