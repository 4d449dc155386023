-- 01's tests of a location as facts in signs, and back: at a vertex, on an open edge, strictly inside an inner face. Assumes nothing.
use Rattle.std.specs.Prelude.{◌≡◌, Bool, true, false, ◌&&◌, ℕ, ◌<◌, ltb, ℤ, pos}
use Rattle.std.proofs.Common.{subst, eq-eqb, ltb-true, lt-ltb}
use Rattle.std.specs.Int.Signed.{lt_z}
use Rattle.whole.specs.Bools.{and-true, and_both}
use Rattle.whole.specs.Test.{eq_z, eq_z-true, eq-eq_z}
use Rattle.signs.specs.Signs.{Pos, Neg, Zero, Low, eq-zero, zero-eq}
use Rattle.signs.specs.Order.{pos-test, test-pos, neg-test, test-neg, test_low}
use Rattle.geometry.specs.declared.Place.{Place}
use Rattle.geometry.specs.Plane.{side, on_open_segment}
use Rattle.cells.specs.Points.{dots}
use Rattle.chart.specs.Chart.{Chart, partner}
use Rattle.locate.specs.Location.{at_vertex, on_edge, left_of, left_of_three, in_face, left_of_outer}

-- the side and the dot product at a half-edge, as the definitions of location have them
abbrev pub side_at : Chart → Place → ℕ → ℤ
side_at c q h = side (c.place (c.origin h)) (c.place (c.origin (partner h))) q

abbrev pub dots_at : Chart → Place → ℕ → ℤ
dots_at c q h = dots (c.place (c.origin h)) (c.place (c.origin (partner h))) q

-- ---- the three homes
pub record AtVertex (c : Chart) (q : Place) (v : ℕ) : Type 0 where
  pub there : v < c.vertices
  pub x-is : (c.place v).x ≡ q.x
  pub y-is : (c.place v).y ≡ q.y

pub record OnEdge (c : Chart) (q : Place) (h : ℕ) : Type 0 where
  pub there : h < c.half_edges
  pub on : Zero (side_at c q h)
  pub between : Neg (dots_at c q h)

pub record InFace (c : Chart) (q : Place) (f : ℕ) : Type 0 where
  pub inner : 0 < f
  pub there : f < c.faces
  pub first : Pos (side_at c q (c.adjacent f))
  pub second : Pos (side_at c q (c.next (c.adjacent f)))
  pub third : Pos (side_at c q (c.prev (c.adjacent f)))

module _ (c : Chart) (q : Place) where
  pub vertex-to : (v : ℕ) → v < c.vertices → at_vertex c q v ≡ true → AtVertex c q v
  vertex-to v l e =
      let b = and-true (eq_z (c.place v).x q.x) (eq_z (c.place v).y q.y) e in
      record { there = l; x-is = eq_z-true (c.place v).x q.x b.0; y-is = eq_z-true (c.place v).y q.y b.1 }

  pub vertex-from : (v : ℕ) → AtVertex c q v → at_vertex c q v ≡ true
  vertex-from v a =
      and_both (eq_z (c.place v).x q.x) (eq_z (c.place v).y q.y) (eq-eq_z (c.place v).x q.x a.x-is) (eq-eq_z (c.place v).y q.y a.y-is)

  pub edge_to : (h : ℕ) → h < c.half_edges → on_edge c q h ≡ true → OnEdge c q h
  unfolding on_open_segment
  edge_to h l e =
      let b = and-true (eq_z (side_at c q h) (pos 0)) (lt_z (dots_at c q h) (pos 0)) e in
      record { there = l; on = eq-zero (eq_z-true (side_at c q h) (pos 0) b.0); between = test-neg b.1 }

  pub edge-from : (h : ℕ) → OnEdge c q h → on_edge c q h ≡ true
  unfolding on_open_segment
  edge-from h a =
      and_both (eq_z (side_at c q h) (pos 0)) (lt_z (dots_at c q h) (pos 0)) (eq-eq_z (side_at c q h) (pos 0) (zero-eq a.on)) (neg-test a.between)

  pub face-to : (f : ℕ) → f < c.faces → in_face c q f ≡ true → InFace c q f
  face-to f l e =
      let a = c.adjacent f in
      let b0 = and-true (ltb 0 f) (left_of_three c q a) e in
      let b1 = and-true (left_of c q a) (left_of c q (c.next a) && left_of c q (c.prev a)) b0.1 in
      let b2 = and-true (left_of c q (c.next a)) (left_of c q (c.prev a)) b1.1 in
      record { inner = ltb-true 0 f b0.0; there = l; first = test-pos b1.0; second = test-pos b2.0; third = test-pos b2.1 }

  pub face-from : (f : ℕ) → InFace c q f → in_face c q f ≡ true
  face-from f i =
      let a = c.adjacent f in
      and_both (ltb 0 f) (left_of_three c q a) (lt-ltb 0 f i.inner)
      (and_both (left_of c q a) (left_of c q (c.next a) && left_of c q (c.prev a)) (pos-test i.first)
      (and_both (left_of c q (c.next a)) (left_of c q (c.prev a)) (pos-test i.second) (pos-test i.third)))

  -- an outer half-edge that q is not strictly left of
  pub rim-to : (h : ℕ) → left_of_outer c q h ≡ false → c.face h ≡ 0 → Low (side_at c q h)
  rim-to h n o = test_low (subst (λ (b : Bool). (b && left_of c q h) ≡ false) (eq-eqb (c.face h) 0 o) n)
