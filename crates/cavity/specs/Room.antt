-- An accepted chart has at least two half-edges more than faces: each face has its adjacent one, and face 1 two more. So a slice as long as the
-- half-edges holds every list of natural neighbours. Assumes nothing.
use Rattle.std.proofs.Math.Path.{◌≡◌, ap}
use Rattle.std.proofs.Common.{sym, ◌∙◌}
use Rattle.std.proofs.Math.Logic.{⊎_elim}
use Rattle.std.proofs.Math.Bool.{Bool}
use Rattle.std.specs.Prelude.{true, false, ◌||◌, length}
use Prim.Native.Nat.{ℕ, zero, suc, ◌+◌, ◌≤◌, ◌<◌}
use native.Mathlib.Omega.{arith}
use Rattle.std.proofs.Math.Dec.{eqb}
use borrow.Author.Tests.{eqb-true, ne_eqb}
use Rattle.faceset.specs.Set.{none, add, count_below}
use Rattle.faceset.specs.Laws.{cases, count_none, count-new, count-le}
use Rattle.geometry.specs.declared.Place.{Place}
use Rattle.chart.specs.Chart.{Chart}
use Rattle.accepted.specs.Accepted.{Accepted}
use Rattle.locate.specs.declared.Location.{Location}
use Rattle.locate.specs.declared.Location.TheVariants.{OnVertex, OnEdge, OnFace, OutsideOfConvexHull}
use Rattle.locate.specs.Laws.{Holds}
use Rattle.neighbors.specs.Neighbors.{finished, face_search, edge_search, face_neighbors, inner_edge_neighbors, edge_neighbors, part_of_convex_hull, neighbors_of}
use Rattle.neighbors.specs.Counting.{face-length, edge-length}

module _ (c : Chart) (a : Accepted c) where
  -- the adjacent half-edges of the first k faces
  firsts : ℕ → ℕ → Bool
  firsts zero = none
  firsts (suc k) = add (c.adjacent k) (firsts k)

  -- each is its own face's adjacent one, and that face is below k
  firsts-face : (k g : ℕ) → k ≤ c.faces → firsts k g ≡ true → (c.face g < k) × (g ≡ c.adjacent (c.face g))
  unfolding firsts add none
  firsts-face zero g l e = let z : ◌≡◌ {A = ℕ} 0 1 = cc in absurd (omega arith)
  firsts-face (suc k) g l e =
      ⊎_elim
      (λ (q : eqb g (c.adjacent k) ≡ true).
      let at : g ≡ c.adjacent k = eqb-true g (c.adjacent k) q in
      let same : c.face g ≡ k = ap c.face at ∙ a.sound.adjacent-face k (omega arith) in
      (omega arith, at ∙ ap c.adjacent (sym same)))
      (λ (q : eqb g (c.adjacent k) ≡ false).
      let ih = firsts-face k g (omega arith) (ap (λ (b : Bool). b || firsts k g) (sym q) ∙ e) in
      (omega (arith, ih.0), ih.1))
      (cases (eqb g (c.adjacent k)))

  not-among : (k g : ℕ) → k ≤ c.faces → (c.face g < k → g ≡ c.adjacent (c.face g) → ⊥) → firsts k g ≡ false
  not-among k g l other =
      ⊎_elim (λ (q : firsts k g ≡ true). absurd (let r = firsts-face k g l q in other r.0 r.1))
      (λ (q : firsts k g ≡ false). q) (cases (firsts k g))

  firsts-count : (k : ℕ) → k ≤ c.faces → count_below c.half_edges (firsts k) ≡ k
  unfolding firsts
  firsts-count zero l = count_none c.half_edges
  firsts-count (suc k) l =
      count-new c.half_edges (c.adjacent k) (firsts k) (a.sound.range.adjacents k (omega arith))
      (not-among k (c.adjacent k) (omega arith) (λ m e. omega (arith, a.sound.adjacent-face k (omega arith))))
      ∙ ap suc (firsts-count k (omega arith))

  -- a half-edge of face 1 that is not its adjacent one is not among them
  of_one : (g : ℕ) → c.face g ≡ 1 → (g ≡ c.adjacent 1 → ⊥) → firsts c.faces g ≡ false
  of_one g e other = not-among c.faces g (omega arith) (λ l at. other (at ∙ ap c.adjacent e))

  -- the faces' adjacent half-edges and the two others of face 1 are all different
  two-more : c.faces + 2 ≤ c.half_edges
  unfolding add
  two-more =
      let f1 : c.face (c.adjacent 1) ≡ 1 = a.sound.adjacent-face 1 (omega (arith, a.counts.f-least)) in
      let l = a.sound.inner-one.0 in
      let n : ℕ = c.next (c.adjacent 1) in
      let p : ℕ = c.prev (c.adjacent 1) in
      let s : ℕ → Bool = firsts c.faces in
      let one : count_below c.half_edges (add n s) ≡ suc (count_below c.half_edges s) =
      count-new c.half_edges n s (a.sound.range.nexts (c.adjacent 1) l) (of_one n (a.sound.next-face (c.adjacent 1) l ∙ f1) (a.sound.next-differs (c.adjacent 1) l)) in
      let two : count_below c.half_edges (add p (add n s)) ≡ suc (count_below c.half_edges (add n s)) =
      count-new c.half_edges p (add n s) (a.sound.range.prevs (c.adjacent 1) l)
      (ap (λ (b : Bool). b || s p) (ne_eqb p n (λ e. a.sound.next-prev-differ (c.adjacent 1) a.sound.inner-one (sym e)))
      ∙ of_one p (a.sound.prev-face (c.adjacent 1) l ∙ f1) (a.sound.prev-differs (c.adjacent 1) l)) in
      omega (arith, count-le c.half_edges (add p (add n s)), firsts-count c.faces (omega arith))

  pub more_edges : c.faces + 2 ≤ c.half_edges
  more_edges = two-more

  -- no more faces are opened than there are
  face-most : (q : Place) (f : ℕ) → (face_neighbors c q f).opened ≤ c.faces
  unfolding face_neighbors finished
  face-most q f = count-le c.faces (face_search c q f).opened

  edge-most : (q : Place) (h : ℕ) → (inner_edge_neighbors c q h).opened ≤ c.faces
  unfolding inner_edge_neighbors finished
  edge-most q h = count-le c.faces (edge_search c q h).opened

  -- a list has never more edges than the chart has half-edges
  pub list-within : (q : Place) (l : Location) → Holds c q l → length (neighbors_of c q l).edges ≤ c.half_edges
  unfolding neighbors_of edge_neighbors
  list-within q (OnVertex v) h = omega (arith, a.counts.e-least)
  list-within q (OnEdge h) k =
      ⊎_elim (λ (e : part_of_convex_hull c h ≡ true). rw e (omega (arith, a.counts.e-least)))
      (λ (e : part_of_convex_hull c h ≡ false). rw e (omega (arith, edge-length c q a.sound.range h k.0, edge-most q h, two-more)))
      (cases (part_of_convex_hull c h))
  list-within q (OnFace f) k = omega (arith, face-length c q a.sound.range f k.0, face-most q f, two-more)
  list-within q (OutsideOfConvexHull h) k = omega arith
