-- Circles through two places: what the circle of a face of the star holds on either side of an edge. Assumes nothing.
use Rattle.std.specs.Prelude.{◌≡◌, ◌⊎◌, [], ◌∷◌, ℤ, pos, neg_ℤ, ◌+ℤ◌, ◌*ℤ◌}
use Rattle.std.proofs.Common.{subst, ap, ◌∙◌, inl, inr}
use Rattle.std.proofs.Math.IntN.{+ℤ_invr}
use Rattle.whole.specs.Poly.{con, env, agree, solve! }
use Rattle.whole.specs.Ring.{neg-mul}
use Rattle.geometry.specs.declared.Place.{Place}
use Rattle.geometry.specs.Plane.{cross_of, norm2_of, side, lifted, circle}
use Rattle.geometry.specs.Laws.{side-turn, circle-turn}
use Rattle.signs.specs.Signs.{above, nil, sg, flip, ◌⊙◌, lo, hi, ◌⇒◌, Is, Pos, Neg, Low, High, fire, test3, every3, bal, bal-mul3}
use Rattle.signs.specs.Order.{pos-sg, neg-sg, neg-pos, neg-lo, pos-low, low-or-pos}
use Rattle.cells.specs.Points.{j_e, back}
use Rattle.cells.specs.Window.{circle-back, one-window, pencil}

-- ---- identities
-- a corner is on the circle
pub circle-corner : (a b c : Place) → circle a b c c ≡ pos 0
unfolding circle lifted cross_of norm2_of agree
circle-corner a b c = solve! (env (a.x ∷ a.y ∷ b.x ∷ b.y ∷ c.x ∷ c.y ∷ [])) (j_e 0 1 2 2) (con (pos 0)) tt

move : (x y a b : ℤ) → x *ℤ y ≡ a +ℤ b → a +ℤ b +ℤ neg_ℤ x *ℤ y ≡ pos 0
move x y a b e = ap (λ (u : ℤ). a +ℤ b +ℤ u) (neg-mul x y ∙ ap neg_ℤ e) ∙ +ℤ_invr (a +ℤ b)

-- the pencil of circles through a and b, as three products
pub pencil0 : (a b c q z : Place) → side a b c *ℤ circle a b q z +ℤ side a b z *ℤ circle a b c q +ℤ side b a q *ℤ circle a b c z ≡ pos 0
pencil0 a b c q z =
    ap (λ (u : ℤ). side a b c *ℤ circle a b q z +ℤ side a b z *ℤ circle a b c q +ℤ u *ℤ circle a b c z) (back a b q)
    ∙ move (side a b q) (circle a b c z) (side a b c *ℤ circle a b q z) (side a b z *ℤ circle a b c q) (pencil a b c q z)

-- so inside the circle and right of or on a b is left of b c
pub left-next : (a b c q : Place) → Pos (side a b c) → Pos (circle a b c q) → Low (side a b q) → Pos (side b c q)
left-next a b c q d j x = pick (low-or-pos (side b c q))
  where
    pick : Low (side b c q) ⊎ Pos (side b c q) → Pos (side b c q)
    pick (inl y) = absurd (pos-low j (one-window a b c q d x y))
    pick (inr y) = y

-- and left of c a
pub left-prev : (a b c q : Place) → Pos (side a b c) → Pos (circle a b c q) → Low (side a b q) → Pos (side c a q)
left-prev a b c q d j x = pick (low-or-pos (side c a q))
  where
    pick : Low (side c a q) ⊎ Pos (side c a q) → Pos (side c a q)
    pick (inl y) =
        absurd (pos-low j (subst Low (circle-turn c a b q) (one-window c a b q (subst Pos (side-turn a b c ∙ side-turn b c a) d) y x)))
    pick (inr y) = y

-- ---- the circle through a, b and q, on the left
pub on-left : (a b c q z : Place) → Pos (side a b c) → Pos (side a b q) → Pos (circle a b c q) → Low (circle a b c z) → High (side a b z) → Low (circle a b q z)
unfolding test3 ◌⊙◌ flip
on-left a b c q z x y j e s =
    let t : Is (bal (sg (circle a b q z)) (sg (side a b z) ⊙ above) (flip (sg (circle a b c z))) nil) =
    rw (pos-sg x, pos-sg j, neg-sg (neg-pos (back a b q) y)) at (bal-mul3 (side a b c) (circle a b q z) (side a b z) (circle a b c q) (side b a q) (circle a b c z) (pencil0 a b c q z)) in
    record { is = fire (fire (fire (every3 (λ i u v. bal i (u ⊙ above) (flip v) nil ⇒ hi u ⇒ lo v ⇒ lo i) tt (sg (circle a b q z)) (sg (side a b z)) (sg (circle a b c z))) t) s.is) e.is }

-- ---- and on the right
pub on-right : (a b d q z : Place) → Pos (side b a d) → Pos (side a b q) → Low (circle b a d q) → Low (circle b a d z) → Neg (side a b z) → Low (circle a b q z)
unfolding test3 ◌⊙◌ flip
on-right a b d q z x y j e s =
    let u : High (circle a b d q) = neg-lo (circle-back b a d q) j in
    let v : High (circle a b d z) = neg-lo (circle-back b a d z) e in
    let t : Is (bal (flip (sg (circle a b q z))) (flip (sg (circle a b d q))) (flip (sg (circle a b d z))) nil) =
    rw (neg-sg (neg-pos (back b a d) x), neg-sg s, neg-sg (neg-pos (back a b q) y)) at (bal-mul3 (side a b d) (circle a b q z) (side a b z) (circle a b d q) (side b a q) (circle a b d z) (pencil0 a b d q z)) in
    record { is = fire (fire (fire (every3 (λ i k l. bal (flip i) (flip k) (flip l) nil ⇒ hi k ⇒ hi l ⇒ lo i) tt (sg (circle a b q z)) (sg (circle a b d q)) (sg (circle a b d z))) t) u.is) v.is }
