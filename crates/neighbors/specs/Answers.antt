-- The answers where nothing is searched, and what an answer's own search is. Assumes nothing.
use Rattle.std.specs.Prelude.{◌≡◌, refl, Bool, true, false, cond, [], ◌∷◌, ℕ}
use Rattle.std.proofs.Common.{sym, ◌∙◌}
use Rattle.std.proofs.Math.Path.{ap}
use Rattle.geometry.specs.declared.Place.{Place}
use Rattle.chart.specs.Chart.{Chart, partner}
use Rattle.locate.specs.declared.Location.{Location}
use Rattle.locate.specs.declared.Location.TheVariants.{OnVertex, OnEdge, OnFace, OutsideOfConvexHull}
use Rattle.faceset.specs.Set.{none}
use Rattle.faceset.specs.Laws.{count_none}
use Rattle.flips.specs.Search.{found, opened_count}
use Rattle.neighbors.specs.Neighbors.{Neighbors, finished, edge_search, face_neighbors, inner_edge_neighbors, edge_neighbors, part_of_convex_hull, search_of, neighbors_of}

-- 01's fourth 'mistake seen elsewhere': the hull-edge pair comes in the order edge, partner, and no face is opened
pub hull-pair : (c : Chart) (q : Place) (h : ℕ) → part_of_convex_hull c h ≡ true → neighbors_of c q (OnEdge h) ≡ record { edges = h ∷ partner h ∷ []; opened = 0 }
unfolding neighbors_of edge_neighbors
hull-pair c q h e = rw e

-- any other edge is searched from
pub inner-edge : (c : Chart) (q : Place) (h : ℕ) → part_of_convex_hull c h ≡ false → neighbors_of c q (OnEdge h) ≡ inner_edge_neighbors c q h
unfolding neighbors_of edge_neighbors
inner-edge c q h e = rw e

-- a vertex has its out half-edge alone
pub vertex-edge : (c : Chart) (q : Place) (v : ℕ) → neighbors_of c q (OnVertex v) ≡ record { edges = c.out v ∷ []; opened = 0 }
unfolding neighbors_of
vertex-edge c q v = refl

-- ---- the answer's own search
-- where a load is in a face or on an inner edge, the answer is what the search has found
pub face-answer : (c : Chart) (q : Place) (f : ℕ) → neighbors_of c q (OnFace f) ≡ finished c (search_of c q (OnFace f))
unfolding neighbors_of face_neighbors
face-answer c q f = refl

pub edge-answer : (c : Chart) (q : Place) (h : ℕ) → part_of_convex_hull c h ≡ false → neighbors_of c q (OnEdge h) ≡ finished c (search_of c q (OnEdge h))
unfolding inner_edge_neighbors
edge-answer c q h e = inner-edge c q h e ∙ ap (finished c) (sym (ap (λ (b : Bool). cond b (found none []) (edge_search c q h)) e))

-- and everywhere its count is of the faces that this search opened
pub answer-searched : (c : Chart) (q : Place) (l : Location) → (neighbors_of c q l).opened ≡ opened_count c (search_of c q l).opened
unfolding neighbors_of face_neighbors finished
answer-searched c q (OnFace f) = refl
answer-searched c q (OnEdge h) = by-hull (part_of_convex_hull c h) refl
  where
    by-hull : (b : Bool) → part_of_convex_hull c h ≡ b → (neighbors_of c q (OnEdge h)).opened ≡ opened_count c (search_of c q (OnEdge h)).opened
    by-hull true e = ap (λ (n : Neighbors). n.opened) (hull-pair c q h e) ∙ sym (ap (λ (b : Bool). opened_count c (cond b (found none []) (edge_search c q h)).opened) e ∙ count_none c.faces)
    by-hull false e = ap (λ (n : Neighbors). n.opened) (edge-answer c q h e)
answer-searched c q (OnVertex v) = sym (count_none c.faces)
answer-searched c q (OutsideOfConvexHull h) = sym (count_none c.faces)
