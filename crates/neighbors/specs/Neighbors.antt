-- 01, "Weights": the edges of the natural neighbours of a load at a known place, `get_natural_neighbor_edges` of the Rust, and how many faces were opened.
use Rattle.std.specs.Prelude.{Bool, cond, ◌||◌, List, [], ◌∷◌, reverse, ℕ}
use Rattle.faceset.specs.Set.{none, add}
use Rattle.geometry.specs.declared.Place.{Place}
use Rattle.chart.specs.Chart.{Chart, partner, outer}
use Rattle.locate.specs.declared.Location.{Location}
use Rattle.locate.specs.declared.Location.TheVariants.{OnVertex, OnEdge, OnFace, OutsideOfConvexHull}
use Rattle.flips.specs.Search.{Found, found, inspect_all, opened_count}

-- the edges in the Rust's order, and how many faces were opened
pub record Neighbors : Type 0 where
  pub edges : List ℕ
  pub opened : ℕ

-- at the end of a search the list is reversed
unfoldable pub finished : Chart → Found → Neighbors
finished c w = record { edges = reverse w.listed; opened = opened_count c w.opened }

-- the partners of a face's half-edges: the Rust's `adjacent_edges` are prev, adjacent and next, and it takes the last first
abbrev pub starts : Chart → ℕ → List ℕ
starts c f = partner (c.next (c.adjacent f)) ∷ partner (c.adjacent f) ∷ partner (c.prev (c.adjacent f)) ∷ []

-- the search in a face: it counts as opened
abbrev pub face_search : Chart → Place → ℕ → Found
face_search c q f = inspect_all c q (starts c f) (found (add f none) [])

-- the search on an inner edge: it starts at h and at its partner
abbrev pub edge_search : Chart → Place → ℕ → Found
edge_search c q h = inspect_all c q (h ∷ partner h ∷ []) (found none [])

-- in a face
unfoldable pub face_neighbors : Chart → Place → ℕ → Neighbors
unfolding finished
face_neighbors c q f = finished c (face_search c q f)

-- on an inner edge
unfoldable pub inner_edge_neighbors : Chart → Place → ℕ → Neighbors
unfolding finished
inner_edge_neighbors c q h = finished c (edge_search c q h)

-- on a hull edge: the pair, not reversed, since the Rust returns before `reverse`
abbrev pub hull_edge_neighbors : ℕ → Neighbors
hull_edge_neighbors h = record { edges = h ∷ partner h ∷ []; opened = 0 }

-- on a vertex: its out half-edge
abbrev pub vertex_neighbors : Chart → ℕ → Neighbors
vertex_neighbors c v = record { edges = c.out v ∷ []; opened = 0 }

-- an edge is part of the hull where one of its half-edges is outer
abbrev pub part_of_convex_hull : Chart → ℕ → Bool
part_of_convex_hull c h = outer c h || outer c (partner h)

-- on an edge, of the hull or inner
unfoldable pub edge_neighbors : Chart → Place → ℕ → Neighbors
unfolding inner_edge_neighbors
edge_neighbors c q h = cond (part_of_convex_hull c h) (hull_edge_neighbors h) (inner_edge_neighbors c q h)

-- the answer's own search, by the location: on the hull, on a vertex and outside nothing is searched
abbrev pub search_of : Chart → Place → Location → Found
search_of c q (OnFace f) = face_search c q f
search_of c q (OnEdge h) = cond (part_of_convex_hull c h) (found none []) (edge_search c q h)
search_of c q (OnVertex v) = found none []
search_of c q (OutsideOfConvexHull h) = found none []

-- by the location; elsewhere the Rust lists nothing
unfoldable pub neighbors_of : Chart → Place → Location → Neighbors
unfolding face_neighbors edge_neighbors
neighbors_of c q (OnFace f) = face_neighbors c q f
neighbors_of c q (OnEdge h) = edge_neighbors c q h
neighbors_of c q (OnVertex v) = vertex_neighbors c v
neighbors_of c q (OutsideOfConvexHull h) = record { edges = []; opened = 0 }

-- what a call lists, and how many faces it says were opened
abbrev pub listed : List ℕ → ℕ → Neighbors
listed edges opened = record { edges = edges; opened = opened }
