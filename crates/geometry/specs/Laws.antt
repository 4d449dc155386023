-- Laws of the side and the circle, each an equation of polynomials that `solve!` computes. Assumes nothing.
use Rattle.std.specs.Prelude.{◌≡◌, true, [], ◌∷◌, ℕ, ℤ, ◌+ℤ◌, ◌-ℤ◌, ◌*ℤ◌}
use Rattle.std.proofs.Math.Path.{sym, subst, ap}
use Rattle.std.proofs.Common.{◌∙◌}
use Rattle.std.proofs.Math.IntN.{pos, +ℤ_idr, zero-*ℤ}
use Rattle.std.specs.Int.Signed.{lt_z}
use Rattle.whole.specs.Bools.{and-true}
use Rattle.whole.specs.Test.{eq_z, eq_z-true, eq-eq_z, below-zero}
use Rattle.whole.specs.Poly.{Expr, var, con, ◌⊕◌, ◌⊖◌, ◌⊗◌, env, agree, solve! }
use Rattle.signs.specs.Signs.{Pos, High}
use Rattle.signs.specs.Order.{pos-high, test-pos, pos-test, add-pos, add-high, mul-pos, cancel-pos, both-pos, square2-high}
use Rattle.geometry.specs.declared.Place.{Place}
use Rattle.geometry.specs.Plane.{vector_of, cross_of, dot_of, norm2_of, side, lifted, circle, on_open_segment}

-- places with the same coordinates are one
pub place-eq : (p q : Place) → p.x ≡ q.x → p.y ≡ q.y → p ≡ q
place-eq p q e f = λ i. record { x = e i; y = f i }

-- ---- the definitions over expressions: places whose coordinates are numbered variables
pub record PlaceE : Type 0 where
  pub x : Expr
  pub y : Expr

abbrev place_e : ℕ → ℕ → PlaceE
place_e i j = record { x = var i; y = var j }

abbrev pub vector_e : PlaceE → PlaceE → PlaceE
vector_e p q = record { x = q.x ⊖ p.x; y = q.y ⊖ p.y }

abbrev cross_e : PlaceE → PlaceE → Expr
cross_e u v = u.x ⊗ v.y ⊖ u.y ⊗ v.x

abbrev pub dot_e : PlaceE → PlaceE → Expr
dot_e u v = u.x ⊗ v.x ⊕ u.y ⊗ v.y

abbrev norm2_e : PlaceE → Expr
norm2_e u = u.x ⊗ u.x ⊕ u.y ⊗ u.y

abbrev pub side_e : PlaceE → PlaceE → PlaceE → Expr
side_e a b q = cross_e (vector_e a b) (vector_e a q)

abbrev lifted_e : PlaceE → PlaceE → PlaceE → Expr
lifted_e u v w = norm2_e u ⊗ cross_e v w ⊖ norm2_e v ⊗ cross_e u w ⊕ norm2_e w ⊗ cross_e u v

abbrev pub circle_e : PlaceE → PlaceE → PlaceE → PlaceE → Expr
circle_e a b c q = lifted_e (vector_e q a) (vector_e q b) (vector_e q c)

-- the places that the variables 0 to 7 stand for
abbrev four : Place → Place → Place → Place → ℕ → ℤ
four a b c q = env (a.x ∷ a.y ∷ b.x ∷ b.y ∷ c.x ∷ c.y ∷ q.x ∷ q.y ∷ [])

abbrev A : PlaceE
A = place_e 0 1

abbrev B : PlaceE
B = place_e 2 3

abbrev C : PlaceE
C = place_e 4 5

abbrev Q : PlaceE
Q = place_e 6 7

-- ---- side
-- the side of the reversed segment is the negative
pub side-back : (a b q : Place) → side b a q ≡ pos 0 -ℤ side a b q
unfolding side cross_of agree
side-back a b q = solve! (four a b q q) (side_e B A C) (con (pos 0) ⊖ side_e A B C) tt

-- turning the three places keeps it
pub side-turn : (a b c : Place) → side a b c ≡ side b c a
unfolding side cross_of agree
side-turn a b c = solve! (four a b c c) (side_e A B C) (side_e B C A) tt

-- of the vector v from a, the side of q is v × q less v × a
pub side-line : (a b q : Place) → side a b q ≡ cross_of (vector_of a b) q -ℤ cross_of (vector_of a b) a
unfolding side cross_of agree
side-line a b q = solve! (four a b q q) (side_e A B C) (cross_e (vector_e A B) C ⊖ cross_e (vector_e A B) A) tt

-- ---- circle
-- 01's form: the determinant with rows (ux, uy, ux² + uy²), along its first row
unfoldable pub determinant : Place → Place → Place → ℤ
determinant u v w =
    u.x *ℤ (v.y *ℤ norm2_of w -ℤ norm2_of v *ℤ w.y) -ℤ u.y *ℤ (v.x *ℤ norm2_of w -ℤ norm2_of v *ℤ w.x)
    +ℤ norm2_of u *ℤ (v.x *ℤ w.y -ℤ v.y *ℤ w.x)

-- the two expansions are equal
pub lifted-determinant : (u v w : Place) → lifted u v w ≡ determinant u v w
unfolding lifted determinant norm2_of cross_of agree
lifted-determinant u v w =
    solve! (four u v w w) (lifted_e A B C)
    (A.x ⊗ (B.y ⊗ norm2_e C ⊖ norm2_e B ⊗ C.y) ⊖ A.y ⊗ (B.x ⊗ norm2_e C ⊖ norm2_e B ⊗ C.x)
    ⊕ norm2_e A ⊗ (B.x ⊗ C.y ⊖ B.y ⊗ C.x)) tt

-- turning a, b, c keeps it
pub circle-turn : (a b c q : Place) → circle a b c q ≡ circle b c a q
unfolding circle lifted norm2_of cross_of agree
circle-turn a b c q = solve! (four a b c q) (circle_e A B C Q) (circle_e B C A Q) tt

-- by the sides of c and q at a to b, and by the ends as they see them
pub circle-power : (a b c q : Place) → circle a b c q ≡ side a b q *ℤ dot_of (vector_of c a) (vector_of c b) -ℤ side a b c *ℤ dot_of (vector_of q a) (vector_of q b)
unfolding circle lifted norm2_of side cross_of dot_of agree
circle-power a b c q =
    solve! (four a b c q) (circle_e A B C Q)
    (side_e A B Q ⊗ dot_e (vector_e C A) (vector_e C B) ⊖ side_e A B C ⊗ dot_e (vector_e Q A) (vector_e Q B)) tt

-- ---- the open segment
norm2-high : (u : Place) → High (norm2_of u)
unfolding norm2_of
norm2-high u = square2-high u.x u.y

-- q is on the line and strictly between the ends: its part along a to b is above 0 and below the whole
pub record Between (a b q : Place) : Type 0 where
  pub on_line : side a b q ≡ pos 0
  pub past-a : Pos (dot_of (vector_of a q) (vector_of a b))
  pub before-b : Pos (norm2_of (vector_of a b) -ℤ dot_of (vector_of a q) (vector_of a b))

module _ (a b q : Place) where
  -- the ends seen from q, q's part along a to b, and what is left of it
  abbrev ends : ℤ
  ends = dot_of (vector_of q a) (vector_of q b)

  abbrev part : ℤ
  part = dot_of (vector_of a q) (vector_of a b)

  abbrev rest : ℤ
  rest = norm2_of (vector_of a b) -ℤ dot_of (vector_of a q) (vector_of a b)

  -- Lagrange's identity
  product : part *ℤ rest ≡ norm2_of (vector_of a b) *ℤ (pos 0 -ℤ ends) +ℤ side a b q *ℤ side a b q
  unfolding side cross_of dot_of norm2_of agree
  product =
      solve! (four a b q q)
      (dot_e (vector_e A C) (vector_e A B) ⊗ (norm2_e (vector_e A B) ⊖ dot_e (vector_e A C) (vector_e A B)))
      (norm2_e (vector_e A B) ⊗ (con (pos 0) ⊖ dot_e (vector_e C A) (vector_e C B)) ⊕ side_e A B C ⊗ side_e A B C) tt

  whole : part +ℤ rest ≡ norm2_of (vector_of a b)
  unfolding dot_of norm2_of agree
  whole =
      solve! (four a b q q)
      (dot_e (vector_e A C) (vector_e A B) ⊕ (norm2_e (vector_e A B) ⊖ dot_e (vector_e A C) (vector_e A B)))
      (norm2_e (vector_e A B)) tt

  cosines : (pos 0 -ℤ ends) +ℤ ((pos 0 -ℤ ends) +ℤ (norm2_of (vector_of q a) +ℤ norm2_of (vector_of q b))) ≡ norm2_of (vector_of a b)
  unfolding dot_of norm2_of agree
  cosines =
      let e = con (pos 0) ⊖ dot_e (vector_e C A) (vector_e C B) in
      solve! (four a b q q) (e ⊕ (e ⊕ (norm2_e (vector_e C A) ⊕ norm2_e (vector_e C B)))) (norm2_e (vector_e A B)) tt

  -- on the line the squared side goes
  on-product : side a b q ≡ pos 0 → part *ℤ rest ≡ norm2_of (vector_of a b) *ℤ (pos 0 -ℤ ends)
  on-product e = product ∙ ap (λ (z : ℤ). norm2_of (vector_of a b) *ℤ (pos 0 -ℤ ends) +ℤ z *ℤ z) e ∙ +ℤ_idr (norm2_of (vector_of a b) *ℤ (pos 0 -ℤ ends))

  -- what the definition calls the open segment is the line strictly between the ends
  pub open-between : on_open_segment a b q ≡ true → Between a b q
  unfolding on_open_segment
  open-between e =
      let t = and-true (eq_z (side a b q) (pos 0)) (lt_z ends (pos 0)) e in
      let o : side a b q ≡ pos 0 = eq_z-true (side a b q) (pos 0) t.0 in
      let n : Pos (pos 0 -ℤ ends) = test-pos (below-zero ends ∙ t.1) in
      let w : Pos (norm2_of (vector_of a b)) = subst Pos cosines (add-pos n (pos-high (add-pos n (add-high (norm2-high (vector_of q a)) (norm2-high (vector_of q b)))))) in
      let r = both-pos part rest (subst Pos (sym (on-product o)) (mul-pos w n)) (subst Pos (sym whole) w) in
      record { on_line = o; past-a = r.0; before-b = r.1 }

  pub between-open : Between a b q → on_open_segment a b q ≡ true
  unfolding on_open_segment
  between-open h =
      let w : Pos (norm2_of (vector_of a b)) = subst Pos whole (add-pos h.past-a (pos-high h.before-b)) in
      let n : Pos (pos 0 -ℤ ends) = cancel-pos (norm2_of (vector_of a b)) (pos 0 -ℤ ends) w (subst Pos (on-product h.on_line) (mul-pos h.past-a h.before-b)) in
      simp (eq-eq_z (side a b q) (pos 0) h.on_line, sym (below-zero ends) ∙ pos-test n)

-- ---- a chord of the circle
module _ (a b c q : Place) where
  abbrev away : ℤ
  away = pos 0 -ℤ dot_of (vector_of q a) (vector_of q b)

  abbrev far : ℤ
  far = norm2_of (vector_of q c) -ℤ dot_of (vector_of q a) (vector_of q c) -ℤ dot_of (vector_of q b) (vector_of q c) -ℤ away

  -- the determinant by the ends as seen from q, and a term that goes on the line
  chord : circle a b c q ≡ away *ℤ side a b c +ℤ side a b q *ℤ far
  unfolding circle lifted side cross_of dot_of norm2_of agree
  chord =
      let e = con (pos 0) ⊖ dot_e (vector_e Q A) (vector_e Q B) in
      solve! (four a b c q) (circle_e A B C Q)
      (e ⊗ side_e A B C ⊕ side_e A B Q ⊗ (norm2_e (vector_e Q C) ⊖ dot_e (vector_e Q A) (vector_e Q C) ⊖ dot_e (vector_e Q B) (vector_e Q C) ⊖ e)) tt

  -- the open segment from a to b is strictly inside the circle of the left-turning a, b, c
  pub chord-inside : on_open_segment a b q ≡ true → Pos (side a b c) → Pos (circle a b c q)
  unfolding on_open_segment
  chord-inside e l =
      let t = and-true (eq_z (side a b q) (pos 0)) (lt_z (dot_of (vector_of q a) (vector_of q b)) (pos 0)) e in
      let n : Pos away = test-pos (below-zero (dot_of (vector_of q a) (vector_of q b)) ∙ t.1) in
      let o : side a b q *ℤ far ≡ pos 0 = ap (λ (z : ℤ). z *ℤ far) (eq_z-true (side a b q) (pos 0) t.0) ∙ zero-*ℤ far in
      subst Pos (sym (chord ∙ ap (λ (z : ℤ). away *ℤ side a b c +ℤ z) o ∙ +ℤ_idr (away *ℤ side a b c))) (mul-pos n l)

-- the open segment with its ends exchanged
pub segment-back : (a b q : Place) → on_open_segment a b q ≡ true → on_open_segment b a q ≡ true
unfolding on_open_segment dot_of agree
segment-back a b q e =
    let t = and-true (eq_z (side a b q) (pos 0)) (lt_z (dot_of (vector_of q a) (vector_of q b)) (pos 0)) e in
    let o : side b a q ≡ pos 0 = side-back a b q ∙ ap (λ (z : ℤ). pos 0 -ℤ z) (eq_z-true (side a b q) (pos 0) t.0) in
    let d : dot_of (vector_of q b) (vector_of q a) ≡ dot_of (vector_of q a) (vector_of q b) = solve! (four a b q q) (dot_e (vector_e Q B) (vector_e Q A)) (dot_e (vector_e Q A) (vector_e Q B)) tt in
    simp (eq-eq_z (side b a q) (pos 0) o, ap (λ (z : ℤ). lt_z z (pos 0)) d ∙ t.1)
