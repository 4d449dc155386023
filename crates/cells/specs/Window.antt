-- One triangle and the circle through its corners, against a place q, and the triangle behind one of its sides. Assumes nothing.
use Rattle.std.specs.Prelude.{◌≡◌, refl, [], ◌∷◌, ℤ, pos, neg_ℤ, ◌+ℤ◌, ◌-ℤ◌, ◌*ℤ◌}
use Rattle.std.proofs.Common.{sym, subst, ap, ◌∙◌}
use Rattle.std.proofs.Math.IntN.{+ℤ_idl}
use Rattle.whole.specs.Poly.{var, con, ◌⊕◌, ◌⊖◌, ◌⊗◌, env, agree, solve! }
use Rattle.geometry.specs.declared.Place.{Place}
use Rattle.geometry.specs.Laws.{circle-power}
use Rattle.geometry.specs.Plane.{cross_of, dot_of, norm2_of, side, lifted, circle}
use Rattle.signs.specs.Signs.{below, nil, above, sg, flip, ◌⊙◌, up, ze, lo, hi, fail, ◌⇒◌, ◌&◌, ev, Is, Pos, Neg, Low, High, fire, test3, test5, test6, every3, every5, every6, bal, bal-mul3, lin}
use Rattle.signs.specs.Order.{pos-sg, neg-sg, neg-lo, neg-hi, neg-pos, neg-neg}
use Rattle.cells.specs.Points.{dots, o_e, d_e, j_e, back}
use Rattle.cells.specs.Corner.{Apart, sq-high, not-both-zero}

-- the circle by the sides at b
pub circle-at-b : (a b c q : Place) → circle a b c q ≡ side b c q *ℤ dots a a b +ℤ side a b q *ℤ dots c c b -ℤ side a b c *ℤ dots q q b
unfolding side dot_of circle lifted norm2_of cross_of agree
circle-at-b a b c q =
    solve! (env (a.x ∷ a.y ∷ b.x ∷ b.y ∷ c.x ∷ c.y ∷ q.x ∷ q.y ∷ []))
    (j_e 0 1 2 3)
    (o_e 1 2 3 ⊗ d_e 0 0 1 ⊕ o_e 0 1 3 ⊗ d_e 2 2 1 ⊖ o_e 0 1 2 ⊗ d_e 3 3 1) tt

-- the pencil of circles through a and b: from `circle-power`, in six numbers
pencil6 : (s1 s2 s3 g1 g2 g3 : ℤ) → s1 *ℤ (s2 *ℤ g3 -ℤ s3 *ℤ g2) ≡ s3 *ℤ (s2 *ℤ g1 -ℤ s1 *ℤ g2) +ℤ s2 *ℤ (s1 *ℤ g3 -ℤ s3 *ℤ g1)
unfolding agree
pencil6 s1 s2 s3 g1 g2 g3 =
    solve! (env (s1 ∷ s2 ∷ s3 ∷ g1 ∷ g2 ∷ g3 ∷ [])) (var 0 ⊗ (var 1 ⊗ var 5 ⊖ var 2 ⊗ var 4)) (var 2 ⊗ (var 1 ⊗ var 3 ⊖ var 0 ⊗ var 4) ⊕ var 1 ⊗ (var 0 ⊗ var 5 ⊖ var 2 ⊗ var 3)) tt

pub pencil : (a b c q z : Place) → side a b q *ℤ circle a b c z ≡ side a b c *ℤ circle a b q z +ℤ side a b z *ℤ circle a b c q
pencil a b c q z =
    ap (λ (x : ℤ). side a b q *ℤ x) (circle-power a b c z) ∙ pencil6 (side a b q) (side a b z) (side a b c) (dots a b q) (dots a b z) (dots a b c)
    ∙ ap (λ (x : ℤ). side a b c *ℤ x +ℤ side a b z *ℤ (side a b q *ℤ dots a b c -ℤ side a b c *ℤ dots a b q)) (sym (circle-power a b q z))
    ∙ ap (λ (x : ℤ). side a b c *ℤ circle a b q z +ℤ side a b z *ℤ x) (sym (circle-power a b c q))

-- ---- q strictly left of two sides, and left of or on the third, is strictly inside the circle
circle-parts : (a b c q : Place) → circle a b c q ≡ side b c q *ℤ dots a a q +ℤ side c a q *ℤ dots b b q +ℤ side a b q *ℤ dots c c q
unfolding side dot_of circle lifted norm2_of cross_of agree
circle-parts a b c q =
    solve! (env (a.x ∷ a.y ∷ b.x ∷ b.y ∷ c.x ∷ c.y ∷ q.x ∷ q.y ∷ []))
    (j_e 0 1 2 3)
    (o_e 1 2 3 ⊗ d_e 0 0 3 ⊕ o_e 2 0 3 ⊗ d_e 1 1 3 ⊕ o_e 0 1 3 ⊗ d_e 2 2 3) tt

pub inside-circle : (a b c q : Place) → Apart a b → High (side a b q) → Pos (side b c q) → Pos (side c a q) → Pos (circle a b c q)
unfolding test5 ◌⊙◌ flip
inside-circle a b c q n h k l =
    let s : Is (bal (flip (sg (circle a b c q))) (sg (dots a a q)) (sg (dots b b q)) (sg (side a b q) ⊙ sg (dots c c q))) =
    rw (pos-sg k, pos-sg l) at (lin (circle a b c q) (side b c q) (dots a a q) (side c a q) (dots b b q) (side a b q) (dots c c q) (circle-parts a b c q)) in
    record {
      is =
          fire (fire (fire (fire (fire (fire (every5 (λ x u v w t. bal (flip x) u v (w ⊙ t) ⇒ hi u ⇒ hi v ⇒ hi w ⇒ hi t ⇒ (ze u & ze v ⇒ fail) ⇒ up x) tt
          (sg (circle a b c q)) (sg (dots a a q)) (sg (dots b b q)) (sg (side a b q)) (sg (dots c c q))) s) (sq-high a q).is) (sq-high b q).is) h.is) (sq-high c q).is) (not-both-zero a b q n);
    }

-- ---- q on or right of two sides is not strictly inside the circle
minus : (a x b y c z j : ℤ) → j ≡ a *ℤ x +ℤ b *ℤ y -ℤ c *ℤ z → j ≡ a *ℤ x +ℤ b *ℤ y +ℤ c *ℤ neg_ℤ z
unfolding agree
minus a x b y c z j e =
    e ∙ solve! (env (a ∷ x ∷ b ∷ y ∷ c ∷ z ∷ [])) (var 0 ⊗ var 1 ⊕ var 2 ⊗ var 3 ⊖ var 4 ⊗ var 5) (var 0 ⊗ var 1 ⊕ var 2 ⊗ var 3 ⊕ var 4 ⊗ (con (pos 0) ⊖ var 5)) tt
    ∙ ap (λ (u : ℤ). a *ℤ x +ℤ b *ℤ y +ℤ c *ℤ u) (+ℤ_idl (neg_ℤ z))

pub one-window : (a b c q : Place) → Pos (side a b c) → Low (side a b q) → Low (side b c q) → Low (circle a b c q)
unfolding test6 ◌⊙◌ flip
one-window a b c q d h k =
    let e = minus (side b c q) (dots a a b) (side a b q) (dots c c b) (side a b c) (dots q q b) (circle a b c q) (circle-at-b a b c q) in
    let s : Is (bal (flip (sg (circle a b c q))) (sg (side b c q) ⊙ sg (dots a a b)) (sg (side a b q) ⊙ sg (dots c c b)) (sg (neg_ℤ (dots q q b)))) =
    rw (pos-sg d) at (lin (circle a b c q) (side b c q) (dots a a b) (side a b q) (dots c c b) (side a b c) (neg_ℤ (dots q q b)) e) in
    record {
      is =
          fire (fire (fire (fire (fire (fire (every6 (λ j u v w t z. bal (flip j) (u ⊙ v) (w ⊙ t) z ⇒ lo u ⇒ hi v ⇒ lo w ⇒ hi t ⇒ lo z ⇒ lo j) tt
          (sg (circle a b c q)) (sg (side b c q)) (sg (dots a a b)) (sg (side a b q)) (sg (dots c c b)) (sg (neg_ℤ (dots q q b)))) s) k.is) (sq-high a b).is) h.is) (sq-high c b).is) (neg-hi refl (sq-high q b)).is;
    }

-- ---- behind a side that q is on or right of, the next circle holds q too
pub circle-back : (a b c q : Place) → circle b a c q ≡ neg_ℤ (circle a b c q)
unfolding circle lifted norm2_of cross_of agree
circle-back a b c q =
    solve! (env (a.x ∷ a.y ∷ b.x ∷ b.y ∷ c.x ∷ c.y ∷ q.x ∷ q.y ∷ [])) (j_e 1 0 2 3) (con (pos 0) ⊖ j_e 0 1 2 3) tt ∙ +ℤ_idl (neg_ℤ (circle a b c q))

-- two triangles on one edge: each apex is inside the other's circle or neither is
pub circle-across : (a b c d : Place) → circle a b c d ≡ circle b a d c
unfolding circle lifted norm2_of cross_of agree
circle-across a b c d =
    solve! (env (a.x ∷ a.y ∷ b.x ∷ b.y ∷ c.x ∷ c.y ∷ d.x ∷ d.y ∷ [])) (j_e 0 1 2 3) (j_e 1 0 3 2) tt

balance : (a x b y c z : ℤ) → a *ℤ x ≡ b *ℤ y +ℤ c *ℤ z → a *ℤ x +ℤ b *ℤ neg_ℤ y +ℤ c *ℤ neg_ℤ z ≡ pos 0
unfolding agree
balance a x b y c z e =
    ap (λ (u : ℤ). a *ℤ x +ℤ b *ℤ u +ℤ c *ℤ neg_ℤ z) (sym (+ℤ_idl (neg_ℤ y))) ∙ ap (λ (u : ℤ). a *ℤ x +ℤ b *ℤ (pos 0 -ℤ y) +ℤ c *ℤ u) (sym (+ℤ_idl (neg_ℤ z)))
    ∙ solve! (env (a ∷ x ∷ b ∷ y ∷ c ∷ z ∷ [])) (var 0 ⊗ var 1 ⊕ var 2 ⊗ (con (pos 0) ⊖ var 3) ⊕ var 4 ⊗ (con (pos 0) ⊖ var 5)) (var 0 ⊗ var 1 ⊖ (var 2 ⊗ var 3 ⊕ var 4 ⊗ var 5)) tt
    ∙ ap (λ (u : ℤ). u -ℤ (b *ℤ y +ℤ c *ℤ z)) e
    ∙ solve! (env (b ∷ y ∷ c ∷ z ∷ [])) (var 0 ⊗ var 1 ⊕ var 2 ⊗ var 3 ⊖ (var 0 ⊗ var 1 ⊕ var 2 ⊗ var 3)) (con (pos 0)) tt

pub next-circle : (a b c d q : Place) → Pos (side a b c) → Pos (side b a d) → Low (side a b q) → Low (circle a b c d) → Pos (circle a b c q) → Pos (circle b a d q)
unfolding test3 ◌⊙◌ flip
next-circle a b c d q p r h k j =
    let n : Neg (side a b d) = neg-pos (back b a d) r in
    let s : Is (bal below (sg (neg_ℤ (circle a b d q))) (sg (side a b q) ⊙ sg (neg_ℤ (circle a b c d))) nil) =
    rw (pos-sg p, neg-sg n, pos-sg j) at (bal-mul3 (side a b d) (circle a b c q) (side a b c) (neg_ℤ (circle a b d q)) (side a b q) (neg_ℤ (circle a b c d))
    (balance (side a b d) (circle a b c q) (side a b c) (circle a b d q) (side a b q) (circle a b c d) (pencil a b c d q))) in
    subst Pos (sym (circle-back a b d q))
    (record {
      is =
          fire (fire (fire (every3 (λ g u v. bal below g (u ⊙ v) nil ⇒ lo u ⇒ hi v ⇒ up g) tt
          (sg (neg_ℤ (circle a b d q))) (sg (side a b q)) (sg (neg_ℤ (circle a b c d)))) s) h.is) (neg-lo refl k).is;
    })

-- ---- the cone of q over a side grows behind that side. The triangle b a e behind the side a b
-- Plücker's relation of four places seen from q
pub plus : (q a b z e : Place) → side a b q *ℤ side z e q +ℤ side a z q *ℤ side e b q +ℤ side a e q *ℤ side b z q ≡ pos 0
unfolding side cross_of agree
plus q a b z e =
    solve! (env (q.x ∷ q.y ∷ a.x ∷ a.y ∷ b.x ∷ b.y ∷ z.x ∷ z.y ∷ e.x ∷ e.y ∷ []))
    (o_e 1 2 0 ⊗ o_e 3 4 0 ⊕ o_e 1 3 0 ⊗ o_e 4 2 0 ⊕ o_e 1 4 0 ⊗ o_e 2 3 0) (con (pos 0)) tt

-- seen through the side a e
pub cone-first : (q a b e z : Place) → Neg (side a b q) → Neg (side a e q) → Pos (side e b q) → Low (side a z q) → Low (side z b q) → Low (side z e q)
unfolding test3 ◌⊙◌ flip
cone-first q a b e z h k l x y =
    let s : Is (bal (flip (sg (side z e q))) (sg (side a z q) ⊙ above) (flip (sg (side b z q))) nil) =
    rw (neg-sg h, neg-sg k, pos-sg l) at (bal-mul3 (side a b q) (side z e q) (side a z q) (side e b q) (side a e q) (side b z q) (plus q a b z e)) in
    record {
      is =
          fire (fire (fire (every3 (λ u v w. bal (flip u) (v ⊙ above) (flip w) nil ⇒ lo v ⇒ hi w ⇒ lo u) tt
          (sg (side z e q)) (sg (side a z q)) (sg (side b z q))) s) x.is) (neg-lo (back z b q) y).is;
    }

-- seen through the side e b
pub cone-second : (q a b e z : Place) → Neg (side a b q) → Neg (side e b q) → Pos (side a e q) → Low (side a z q) → Low (side z b q) → Low (side e z q)
unfolding test3 ◌⊙◌ flip
cone-second q a b e z h k l x y =
    let s : Is (bal (flip (sg (side e z q))) (sg (side z b q)) (sg (side a z q) ⊙ above) nil) =
    rw (neg-sg h, pos-sg l, pos-sg (neg-neg (back e b q) k)) at (bal-mul3 (side a b q) (side e z q) (side a e q) (side z b q) (side a z q) (side b e q) (plus q a b e z)) in
    record {
      is =
          fire (fire (fire (every3 (λ u v w. bal (flip u) v (w ⊙ above) nil ⇒ lo v ⇒ lo w ⇒ lo u) tt
          (sg (side e z q)) (sg (side z b q)) (sg (side a z q))) s) y.is) x.is;
    }

-- a place is on the line from itself
pub self-low : (e q : Place) → Low (side e e q)
unfolding side cross_of agree sg ev
self-low e q =
    subst Low (sym (solve! (env (e.x ∷ e.y ∷ q.x ∷ q.y ∷ [])) (o_e 0 0 1) (con (pos 0)) tt)) (record { is = record { is = tt } })
