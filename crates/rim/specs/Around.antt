-- 02, CR 11: the faces whose circle strictly holds a load, their borders, and what the search opens and lists, on triangle A, on the square and on a kite: the square's
-- links with the corners (10,0), (20,20), (0,10), (0,0), so that the circle of face 2 passes (10,10), which is in face 1. The lists are the oracle's second reading.
-- Each row is computed. Assumes nothing.
use Rattle.std.specs.Prelude.{◌≡◌, refl, Bool, true, false, List, [], ◌∷◌, map, ℕ, eqb, pos}
use Rattle.whole.specs.Among.{among}
use Rattle.whole.specs.First.{from}
use Rattle.geometry.specs.declared.Place.{Place}
use Rattle.geometry.specs.Plane.{cross_of, dot_of, norm2_of, side, lifted, circle, on_open_segment}
use Rattle.chart.specs.Chart.{Chart, chart_of}
use Rattle.reading.specs.Laws.{of_chart}
use Rattle.locate.specs.declared.Location.TheVariants.{OnVertex, OnEdge, OnFace, OutsideOfConvexHull}
use Rattle.faceset.specs.Set.{none, add, count_below}
use Rattle.flips.specs.Search.{in_circle, should_flip, inspect, inspect_all}
use Rattle.neighbors.specs.Neighbors.{finished, face_neighbors, inner_edge_neighbors, edge_neighbors, search_of, neighbors_of}
use Rattle.neighbourhood.specs.Rings.{how_many, times}
use Rattle.neighbourhood.specs.Opening.{border}
use Rattle.neighbourhood.specs.Neighbourhood.{holding}
use Rattle.refusals.specs.Entries.{of_entry}
use Rattle.triangle.specs.TriangleA.{vertices_a, edges_a, faces_a}

abbrev place : ℕ → ℕ → Place
place x y = record { x = pos x; y = pos y }

abbrev triangle : Chart
triangle = chart_of vertices_a edges_a faces_a

abbrev edges_s : List ℕ
edges_s = 0 ∷ 2 ∷ 9 ∷ 1 ∷ 1 ∷ 7 ∷ 3 ∷ 0 ∷ 1 ∷ 9 ∷ 0 ∷ 1 ∷ 2 ∷ 1 ∷ 5 ∷ 0 ∷ 2 ∷ 6 ∷ 8 ∷ 2 ∷ 3 ∷ 3 ∷ 7 ∷ 0 ∷ 3 ∷ 8 ∷ 4 ∷ 2 ∷ 0 ∷ 5 ∷ 1 ∷ 0 ∷ 0 ∷ 4 ∷ 6 ∷ 2 ∷ 2 ∷ 0 ∷ 2 ∷ 1 ∷ []

abbrev faces_s : List ℕ
faces_s = 1 ∷ 0 ∷ 8 ∷ []

abbrev square : Chart
square = chart_of (pos 0 ∷ pos 0 ∷ pos 1 ∷ pos 0 ∷ pos 10 ∷ pos 0 ∷ pos 2 ∷ pos 2 ∷ pos 10 ∷ pos 10 ∷ pos 3 ∷ pos 4 ∷ pos 0 ∷ pos 10 ∷ pos 4 ∷ pos 6 ∷ []) edges_s faces_s

abbrev kite : Chart
kite = chart_of (pos 10 ∷ pos 0 ∷ pos 1 ∷ pos 0 ∷ pos 20 ∷ pos 20 ∷ pos 2 ∷ pos 2 ∷ pos 0 ∷ pos 10 ∷ pos 3 ∷ pos 4 ∷ pos 0 ∷ pos 0 ∷ pos 4 ∷ pos 6 ∷ []) edges_s faces_s

-- what is said of faces 0, 1 and 2
abbrev each : (ℕ → Bool) → List Bool
each o = map o (0 ∷ 1 ∷ 2 ∷ [])

pub record Rows : Type 0 where
  -- "whose circle strictly holds the load": (9,9) and, on it, (10,10), as in 01's "Loads at the rim"
  pub inside : holding triangle (place 9 9) 1 ≡ true
  pub on-circle : holding triangle (place 10 10) 1 ≡ false
  -- a face is an inner one: the corners of face 0 turn right, so that its determinant is above 0 outside
  pub no_outer : holding triangle (place 20 20) 0 ≡ false
  -- on a circle that two faces share, both or none
  pub shared : each (holding square (place 5 2)) ≡ false ∷ true ∷ true ∷ []
  pub corner : each (holding square (place 0 10)) ≡ false ∷ false ∷ false ∷ []
  -- "those faces' borders to the rest": of face 1 its three half-edges, the diagonal too; of both the four sides, not the diagonal, nor from outside
  pub of_one : map (border square (eqb 1)) (0 ∷ 2 ∷ 9 ∷ 8 ∷ 1 ∷ []) ≡ true ∷ true ∷ true ∷ false ∷ false ∷ []
  pub of-both : map (border square (holding square (place 5 2))) (0 ∷ 2 ∷ 4 ∷ 6 ∷ 8 ∷ 9 ∷ 1 ∷ 5 ∷ []) ≡ true ∷ true ∷ true ∷ true ∷ false ∷ false ∷ false ∷ false ∷ []
  -- what the search opens: on the circle of face 2 it stays shut, one step inside it is opened
  pub kept-shut : each (search_of kite (place 10 10) (OnFace 1)).opened ≡ false ∷ true ∷ false ∷ []
  pub opened : each (search_of kite (place 9 9) (OnFace 1)).opened ≡ false ∷ true ∷ true ∷ []
  pub listed-one : neighbors_of kite (place 10 10) (OnFace 1) ≡ record { edges = 9 ∷ 0 ∷ 2 ∷ []; opened = 1 }
  pub listed-two : neighbors_of kite (place 9 9) (OnFace 1) ≡ record { edges = 4 ∷ 6 ∷ 0 ∷ 2 ∷ []; opened = 2 }
  -- on an inner edge
  pub on-diagonal : each (search_of square (place 5 5) (OnEdge 8)).opened ≡ false ∷ true ∷ true ∷ []
  pub listed-four : neighbors_of square (place 5 5) (OnEdge 8) ≡ record { edges = 0 ∷ 2 ∷ 4 ∷ 6 ∷ []; opened = 2 }
  -- on the hull, on a vertex and outside nothing is searched
  pub on-hull : each (search_of square (place 5 0) (OnEdge 0)).opened ≡ false ∷ false ∷ false ∷ []
  pub on-vertex : each (search_of square (place 0 0) (OnVertex 0)).opened ≡ false ∷ false ∷ false ∷ []
  pub outside : each (search_of square (place 11 5) (OutsideOfConvexHull 3)).opened ≡ false ∷ false ∷ false ∷ []
  -- "each exactly once"
  pub never-there : times 3 (4 ∷ 5 ∷ []) ≡ 0
  pub twice_there : times 3 (3 ∷ 4 ∷ 3 ∷ []) ≡ 2
  -- "15 leaves the table": it is on no list
  pub no-fifteen : map (among of_entry) (11 ∷ 12 ∷ 14 ∷ 15 ∷ 16 ∷ 17 ∷ 18 ∷ []) ≡ false ∷ true ∷ true ∷ false ∷ true ∷ true ∷ false ∷ []
  pub chart-ends : map (among of_chart) (0 ∷ 2 ∷ 3 ∷ 11 ∷ 12 ∷ []) ≡ false ∷ false ∷ true ∷ true ∷ false ∷ []

pub rows : Rows
unfolding vertices_a edges_a faces_a from cross_of dot_of norm2_of side lifted circle on_open_segment none add count_below in_circle should_flip inspect inspect_all finished face_neighbors inner_edge_neighbors edge_neighbors neighbors_of how_many
rows =
    record {
      inside = refl;
      on-circle = refl;
      no_outer = refl;
      shared = refl;
      corner = refl;
      of_one = refl;
      of-both = refl;
      kept-shut = refl;
      opened = refl;
      listed-one = refl;
      listed-two = refl;
      on-diagonal = refl;
      listed-four = refl;
      on-hull = refl;
      on-vertex = refl;
      outside = refl;
      never-there = refl;
      twice_there = refl;
      no-fifteen = refl;
      chart-ends = refl;
    }
