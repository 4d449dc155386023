-- Identities of places over the whole numbers, each computed by `solve!`. `dots a b q` is the dot product of the vectors from q to a and to b,
-- `ray ρ q v` the cross product of ρ and the vector from q to v. Assumes nothing.
use Rattle.std.specs.Prelude.{◌≡◌, [], ◌∷◌, ℕ, ◌+◌, ◌*◌, ℤ, pos, neg_ℤ, ◌+ℤ◌, ◌-ℤ◌, ◌*ℤ◌}
use Rattle.std.proofs.Common.{◌∙◌}
use Rattle.std.proofs.Math.IntN.{+ℤ_idl}
use Rattle.whole.specs.Poly.{Expr, var, con, ◌⊕◌, ◌⊖◌, ◌⊗◌, env, agree, solve! }
use Rattle.geometry.specs.declared.Place.{Place}
use Rattle.geometry.specs.Plane.{vector_of, cross_of, dot_of, side}
use Rattle.geometry.specs.Laws.{PlaceE, vector_e, dot_e, side_e, circle_e, side-back}

-- the dot product of the vectors from q to a and to b
abbrev pub dots : Place → Place → Place → ℤ
dots a b q = dot_of (vector_of q a) (vector_of q b)

unfoldable pub ray : Place → Place → Place → ℤ
ray ρ q v = ρ.x *ℤ (v.y -ℤ q.y) -ℤ ρ.y *ℤ (v.x -ℤ q.x)

unfoldable pub along : Place → Place → Place → ℤ
along ρ q v = ρ.x *ℤ (v.x -ℤ q.x) +ℤ ρ.y *ℤ (v.y -ℤ q.y)

-- ---- the same over expressions, where place i has the variables 2i and 2i+1
abbrev pub X : ℕ → Expr
X i = var (i * 2)

abbrev pub Y : ℕ → Expr
Y i = var (i * 2 + 1)

abbrev P : ℕ → PlaceE
P i = record { x = X i; y = Y i }

abbrev pub o_e : ℕ → ℕ → ℕ → Expr
o_e a b q = side_e (P a) (P b) (P q)

abbrev pub d_e : ℕ → ℕ → ℕ → Expr
d_e a b q = dot_e (vector_e (P q) (P a)) (vector_e (P q) (P b))

abbrev pub r_e : ℕ → ℕ → ℕ → Expr
r_e ρ q v = X ρ ⊗ (Y v ⊖ Y q) ⊖ Y ρ ⊗ (X v ⊖ X q)

abbrev pub a_e : ℕ → ℕ → ℕ → Expr
a_e ρ q v = X ρ ⊗ (X v ⊖ X q) ⊕ Y ρ ⊗ (Y v ⊖ Y q)

abbrev pub j_e : ℕ → ℕ → ℕ → ℕ → Expr
j_e a b c q = circle_e (P a) (P b) (P c) (P q)

-- ---- the identities
-- a triangle is the sum of its parts as q sees them
pub parts : (a b c q : Place) → side a b c ≡ side a b q +ℤ side b c q +ℤ side c a q
unfolding side cross_of dot_of agree
parts a b c q =
    solve! (env (a.x ∷ a.y ∷ b.x ∷ b.y ∷ c.x ∷ c.y ∷ q.x ∷ q.y ∷ []))
    (o_e 0 1 2)
    (o_e 0 1 3 ⊕ o_e 1 2 3 ⊕ o_e 2 0 3) tt

-- the corners of a triangle against a line p r
pub flat : (p r a b c : Place) → dots r r p *ℤ side a b c +ℤ side p r a *ℤ (dots r b p -ℤ dots r c p) +ℤ side p r b *ℤ (dots r c p -ℤ dots r a p) +ℤ side p r c *ℤ (dots r a p -ℤ dots r b p) ≡ pos 0
unfolding side cross_of dot_of agree
flat p r a b c =
    solve! (env (p.x ∷ p.y ∷ r.x ∷ r.y ∷ a.x ∷ a.y ∷ b.x ∷ b.y ∷ c.x ∷ c.y ∷ []))
    (d_e 1 1 0 ⊗ o_e 2 3 4 ⊕ o_e 0 1 2 ⊗ (d_e 1 3 0 ⊖ d_e 1 4 0) ⊕ o_e 0 1 3 ⊗ (d_e 1 4 0 ⊖ d_e 1 2 0) ⊕ o_e 0 1 4 ⊗ (d_e 1 2 0 ⊖ d_e 1 3 0))
    (con (pos 0)) tt

-- two steps a b, b e, and a place z
pub reverse : (a b e z : Place) → dots a a b *ℤ side b e z +ℤ dots a e b *ℤ side a b z +ℤ side b a e *ℤ dots a z b ≡ pos 0
unfolding side cross_of dot_of agree
reverse a b e z =
    solve! (env (a.x ∷ a.y ∷ b.x ∷ b.y ∷ e.x ∷ e.y ∷ z.x ∷ z.y ∷ []))
    (d_e 0 0 1 ⊗ o_e 1 2 3 ⊕ d_e 0 2 1 ⊗ o_e 0 1 3 ⊕ o_e 1 0 2 ⊗ d_e 0 3 1)
    (con (pos 0)) tt

-- the corners a, b, c as q sees them, against the vector to a
pub open-parts : (a b c q : Place) → dots a a q *ℤ side b c q +ℤ dots a b q *ℤ side c a q +ℤ dots a c q *ℤ side a b q ≡ pos 0
unfolding side cross_of dot_of agree
open-parts a b c q =
    solve! (env (a.x ∷ a.y ∷ b.x ∷ b.y ∷ c.x ∷ c.y ∷ q.x ∷ q.y ∷ []))
    (d_e 0 0 3 ⊗ o_e 1 2 3 ⊕ d_e 0 1 3 ⊗ o_e 2 0 3 ⊕ d_e 0 2 3 ⊗ o_e 0 1 3)
    (con (pos 0)) tt

-- and against a ray from q
pub ray-parts : (ρ q a b c : Place) → ray ρ q a *ℤ side b c q +ℤ ray ρ q b *ℤ side c a q +ℤ ray ρ q c *ℤ side a b q ≡ pos 0
unfolding side cross_of ray agree
ray-parts ρ q a b c =
    solve! (env (ρ.x ∷ ρ.y ∷ q.x ∷ q.y ∷ a.x ∷ a.y ∷ b.x ∷ b.y ∷ c.x ∷ c.y ∷ []))
    (r_e 0 1 2 ⊗ o_e 3 4 1 ⊕ r_e 0 1 3 ⊗ o_e 4 2 1 ⊕ r_e 0 1 4 ⊗ o_e 2 3 1)
    (con (pos 0)) tt

-- the corners of a triangle against a line p r, weighed as q sees them
pub affine : (p r a b c q : Place) → side a b c *ℤ side p r q ≡ side b c q *ℤ side p r a +ℤ side c a q *ℤ side p r b +ℤ side a b q *ℤ side p r c
unfolding side cross_of dot_of agree
affine p r a b c q =
    solve! (env (p.x ∷ p.y ∷ r.x ∷ r.y ∷ a.x ∷ a.y ∷ b.x ∷ b.y ∷ c.x ∷ c.y ∷ q.x ∷ q.y ∷ []))
    (o_e 2 3 4 ⊗ o_e 0 1 5)
    (o_e 3 4 5 ⊗ o_e 0 1 2 ⊕ o_e 4 2 5 ⊗ o_e 0 1 3 ⊕ o_e 2 3 5 ⊗ o_e 0 1 4) tt

-- a ray from q against two steps a b, c d
pub four : (ρ q a b c d : Place) → ray ρ q c *ℤ side a b d +ℤ ray ρ q a *ℤ side c d b +ℤ ray ρ q d *ℤ side b a c +ℤ ray ρ q b *ℤ side d c a ≡ pos 0
unfolding side cross_of ray agree
four ρ q a b c d =
    solve! (env (ρ.x ∷ ρ.y ∷ q.x ∷ q.y ∷ a.x ∷ a.y ∷ b.x ∷ b.y ∷ c.x ∷ c.y ∷ d.x ∷ d.y ∷ []))
    (r_e 0 1 4 ⊗ o_e 2 3 5 ⊕ r_e 0 1 2 ⊗ o_e 4 5 3 ⊕ r_e 0 1 5 ⊗ o_e 3 2 4 ⊕ r_e 0 1 3 ⊗ o_e 5 4 2)
    (con (pos 0)) tt

-- a ray from q against two steps a v, v b: by the sides, and by their length
pub descent : (ρ q a v b : Place) → (ray ρ q v -ℤ ray ρ q a) *ℤ side v b q +ℤ (ray ρ q b -ℤ ray ρ q v) *ℤ side v a q +ℤ ray ρ q v *ℤ side v a b ≡ pos 0
unfolding side cross_of ray agree
descent ρ q a v b =
    solve! (env (ρ.x ∷ ρ.y ∷ q.x ∷ q.y ∷ a.x ∷ a.y ∷ v.x ∷ v.y ∷ b.x ∷ b.y ∷ []))
    ((r_e 0 1 3 ⊖ r_e 0 1 2) ⊗ o_e 3 4 1 ⊕ (r_e 0 1 4 ⊖ r_e 0 1 3) ⊗ o_e 3 2 1 ⊕ r_e 0 1 3 ⊗ o_e 3 2 4)
    (con (pos 0)) tt

pub descent-on : (ρ q a v b : Place) → dots a a v *ℤ (ray ρ q b -ℤ ray ρ q v) +ℤ (ray ρ q v -ℤ ray ρ q a) *ℤ dots a b v +ℤ side v a b *ℤ along ρ a v ≡ pos 0
unfolding side cross_of dot_of ray along agree
descent-on ρ q a v b =
    solve! (env (ρ.x ∷ ρ.y ∷ q.x ∷ q.y ∷ a.x ∷ a.y ∷ v.x ∷ v.y ∷ b.x ∷ b.y ∷ []))
    (d_e 2 2 3 ⊗ (r_e 0 1 4 ⊖ r_e 0 1 3) ⊕ (r_e 0 1 3 ⊖ r_e 0 1 2) ⊗ d_e 2 4 3 ⊕ o_e 3 2 4 ⊗ a_e 0 2 3)
    (con (pos 0)) tt

-- a ray from another place
pub ray-base : (ρ q z v : Place) → ray ρ z v ≡ ray ρ q v -ℤ ray ρ q z
unfolding ray agree
ray-base ρ q z v =
    solve! (env (ρ.x ∷ ρ.y ∷ q.x ∷ q.y ∷ z.x ∷ z.y ∷ v.x ∷ v.y ∷ []))
    (r_e 0 2 3)
    (r_e 0 1 3 ⊖ r_e 0 1 2) tt

pub dot-back : (a b q : Place) → dots a b q ≡ dots b a q
unfolding side cross_of dot_of agree
dot-back a b q =
    solve! (env (a.x ∷ a.y ∷ b.x ∷ b.y ∷ q.x ∷ q.y ∷ []))
    (d_e 0 1 2)
    (d_e 1 0 2) tt

pub back : (a b q : Place) → side b a q ≡ neg_ℤ (side a b q)
back a b q = side-back a b q ∙ +ℤ_idl (neg_ℤ (side a b q))
