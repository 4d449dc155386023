-- Rows on charts that the check refuses, or on no chart at all: what the definitions say where no accepted chart leads. Expected are 01's words, worked out by
-- hand, and the Rust's text. Each is computed. Assumes nothing.
use Rattle.std.specs.Prelude.{◌≡◌, refl, List, [], ◌∷◌, ℕ, ℤ, pos, Float}
use Rattle.std.specs.Float.{binary64}
use Rattle.std.specs.Float.Ieee.{add, sub, mul, div, le, lt, eq, ne, neg, of_bits, of_int}
use Rattle.whole.specs.First.{from}
use Rattle.geometry.specs.declared.Place.{Place}
use Rattle.geometry.specs.Plane.{off_grid, cross_of, dot_of, norm2_of, side, lifted, circle, on_open_segment}
use Rattle.chart.specs.Chart.{Chart, chart_of}
use Rattle.locate.specs.declared.Location.TheVariants.{OnVertex, OnEdge, OnFace, OutsideOfConvexHull}
use Rattle.locate.specs.Location.{location_of}
use Rattle.faceset.specs.Set as S
use Rattle.flips.specs.Search.{in_circle, should_flip, inspect, inspect_all}
use Rattle.neighbors.specs.Neighbors.{finished, face_neighbors, inner_edge_neighbors, edge_neighbors, neighbors_of}
use Rattle.points.specs.Points.{relative_position, circumcenter_of}
use Rattle.weights.specs.Barycentric.{Weights as B, two_point_interpolation, barycentric_interpolation, weigh_two, weigh_three}
use Rattle.turns.specs.Turn.{cell_corner, face_center, turn_from, turn_of}
use Rattle.points.specs.declared.Point2.{Point2}
use Rattle.natural.specs.Natural.{shares_from, shares_of, settled}
use Rattle.gradient.specs.Gradient.{normal_of, add_normal, gradient_from}
use Rattle.gradient.specs.Turn.{turn, over_pairs}
use Rattle.interpolate.specs.Values.{sum_from, blend_on, blended, blend_from}
use Rattle.values.specs.Value.Answer.{turned_down}
use Rattle.values.specs.Value.{located_value, value_on}
use Rattle.query.specs.Location.{Located as L, locate_on}
use Rattle.query.specs.Weights.{barycentric_on}
use Rattle.query.specs.Natural.{Edges, Shares, Tally, edges_on, shares_on}
use Rattle.query.specs.Gradient.{Slope as G, gradient_on}
use Rattle.triangle.specs.TriangleA.{vertices_a, edges_a, faces_a}

-- what a call says and leaves
abbrev edges_are : Tally → List ℕ → Edges
edges_are a s = record { answer = a; slice = s }

abbrev shares_are : Tally → List ℕ → List Float → Shares
shares_are a os ws = record { answer = a; owners = os; weights = ws }

abbrev place : ℕ → ℕ → Place
place x y = record { x = pos x; y = pos y }

abbrev bits : ℕ → Float
bits n = of_bits binary64 n

-- ---- location
-- vertex 2 is in the middle of the edge between vertices 0 and 1
unfoldable pub halved : Chart
halved = chart_of (pos 0 ∷ pos 0 ∷ pos 0 ∷ pos 0 ∷ pos 2 ∷ pos 0 ∷ pos 0 ∷ pos 1 ∷ pos 1 ∷ pos 0 ∷ pos 0 ∷ pos 0 ∷ []) (0 ∷ 1 ∷ 1 ∷ 0 ∷ 1 ∷ 0 ∷ 0 ∷ 0 ∷ []) (0 ∷ [])

-- triangle A, and two vertices more, the ends of half-edges 6, 7 and of 8, 9, all of which have this face
abbrev crossed_by : ℕ → ℤ → ℤ → ℤ → ℤ → Chart
crossed_by f ax ay bx by =
    chart_of
    (pos 0 ∷ pos 0 ∷ pos 100 ∷ pos 0 ∷ pos 10 ∷ pos 0 ∷ pos 200 ∷ pos 2 ∷ pos 0 ∷ pos 10 ∷ pos 300 ∷ pos 4 ∷ ax ∷ ay ∷ pos 0 ∷ pos 6 ∷ bx ∷ by ∷ pos 0 ∷ pos 7 ∷ [])
    (0 ∷ 2 ∷ 4 ∷ 1 ∷ 1 ∷ 5 ∷ 3 ∷ 0 ∷ 1 ∷ 4 ∷ 0 ∷ 1 ∷ 2 ∷ 1 ∷ 5 ∷ 0 ∷ 2 ∷ 0 ∷ 2 ∷ 1 ∷ 0 ∷ 3 ∷ 1 ∷ 0 ∷ 3 ∷ 7 ∷ 7 ∷ f ∷ 4 ∷ 6 ∷ 6 ∷ f ∷ 3 ∷ 9 ∷ 9 ∷ f ∷ 4 ∷ 8 ∷ 8 ∷ f ∷ [])
    (1 ∷ 0 ∷ 0 ∷ [])

-- triangle A whose inner half-edges have face 0 and whose outer ones have face 1
unfoldable pub inside_out : Chart
inside_out = chart_of vertices_a (0 ∷ 2 ∷ 4 ∷ 0 ∷ 1 ∷ 5 ∷ 3 ∷ 1 ∷ 1 ∷ 4 ∷ 0 ∷ 0 ∷ 2 ∷ 1 ∷ 5 ∷ 1 ∷ 2 ∷ 0 ∷ 2 ∷ 0 ∷ 0 ∷ 3 ∷ 1 ∷ 1 ∷ []) (0 ∷ 1 ∷ [])

-- nothing at all
abbrev nothing : Chart
nothing = chart_of [] [] []

-- ---- search and turn
-- triangle A, every half-edge of face 1
unfoldable pub one_face : Chart
one_face = chart_of vertices_a (0 ∷ 2 ∷ 4 ∷ 1 ∷ 1 ∷ 5 ∷ 3 ∷ 1 ∷ 1 ∷ 4 ∷ 0 ∷ 1 ∷ 2 ∷ 1 ∷ 5 ∷ 1 ∷ 2 ∷ 0 ∷ 2 ∷ 1 ∷ 0 ∷ 3 ∷ 1 ∷ 1 ∷ []) (1 ∷ 0 ∷ [])

-- six half-edges of face 1, of which the partner of each one's next is the one after it: 0 to 5, and 0 again. Its corners are those of triangle A, and seen from
-- (0, 0) its circle's center is (5, 5), exactly
unfoldable pub wheel : Chart
wheel = chart_of vertices_a (0 ∷ 0 ∷ 0 ∷ 1 ∷ 1 ∷ 3 ∷ 0 ∷ 1 ∷ 0 ∷ 2 ∷ 0 ∷ 1 ∷ 2 ∷ 5 ∷ 0 ∷ 1 ∷ 0 ∷ 4 ∷ 0 ∷ 1 ∷ 0 ∷ 1 ∷ 0 ∷ 1 ∷ []) (0 ∷ 1 ∷ [])

-- the turn from half-edge 0, seen from (0, 0)
abbrev turned : ℕ → Float
turned stop =
    let q : Point2 = record { x = bits 0; y = bits 0 } in
    let one : Float = bits 0x3ff0_0000_0000_0000 in
    turn_of wheel q stop (record { x = one; y = bits 0 }) 0 (record { x = bits 0; y = one })

-- the turn from half-edge 2 to 4 on triangle A, one step, seen from (20, 20): the face's center has negative coordinates
abbrev turned_aside : Float
turned_aside =
    let q : Point2 = record { x = bits 0x4034_0000_0000_0000; y = bits 0x4034_0000_0000_0000 } in
    turn_of (chart_of vertices_a edges_a faces_a) q 4 (record { x = bits 0x8000_0000_0000_0000; y = bits 0 }) 2 (record { x = bits 0; y = bits 0 })

-- a triangle of (0,0), (8,0) and (0,8), whose circle has its center at (4,4), exactly; the turn from half-edge 2 to 4, seen from (0,0)
abbrev turned_at : Float
turned_at =
    let q : Point2 = record { x = bits 0; y = bits 0 } in
    let one : Float = bits 0x3ff0_0000_0000_0000 in
    turn_of (chart_of (pos 0 ∷ pos 0 ∷ pos 0 ∷ pos 0 ∷ pos 8 ∷ pos 0 ∷ pos 0 ∷ pos 2 ∷ pos 0 ∷ pos 8 ∷ pos 0 ∷ pos 4 ∷ []) edges_a faces_a) q 4 (record { x = one; y = bits 0 }) 2 (record { x = bits 0; y = one })

-- ---- gradient: the three vertices of triangle A on a line
unfoldable pub on_line : Chart
on_line = chart_of (pos 0 ∷ pos 0 ∷ pos 100 ∷ pos 0 ∷ pos 10 ∷ pos 0 ∷ pos 200 ∷ pos 2 ∷ pos 20 ∷ pos 0 ∷ pos 300 ∷ pos 4 ∷ []) edges_a faces_a

pub record Rows : Type 0 where
  -- "First that holds: the vertex at q; the lowest even half-edge ..": the vertex, though q is on an edge too
  pub vertex-first : location_of halved (place 1 0) ≡ OnVertex 2
  -- ".. the lowest even half-edge with q on its open segment; the lowest inner face ..": of 6 and 8, though face 1 has q strictly left of its three
  pub edge-next : location_of (crossed_by 1 (pos 1) (pos 3) (pos 4) (pos 3)) (place 2 3) ≡ OnEdge 6
  -- ".. the lowest inner face ..; the lowest outer half-edge ..": of faces 1 and 2, though q is strictly left of the outer half-edge 6
  pub face-next : location_of (crossed_by 0 (pos 0) (pos 1) (pos 9) (pos 1)) (place 2 3) ≡ OnFace 1
  -- "the lowest inner face": strictly left of face 0's three half-edges is in no inner face
  pub no-outer-face : location_of inside_out (place 2 3) ≡ OutsideOfConvexHull 0
  -- 02, CR 2: no location is refused. Where none of the four holds, as on no accepted chart, the load is outside, and 14 refuses what cannot be answered there
  pub none-holds : locate_on nothing (place 2 3) ≡ L.at (OutsideOfConvexHull 0)
  pub none-listed : edges_on nothing (place 2 3) (9 ∷ []) ≡ edges_are (Tally.turned_down 14) (9 ∷ [])
  pub none-shared : shares_on nothing (place 2 3) (9 ∷ []) (bits 1 ∷ []) ≡ shares_are (Tally.turned_down 14) (9 ∷ []) (bits 1 ∷ [])
  pub none-weighed : barycentric_on nothing (place 2 3) ≡ B.turned_down 14
  pub none-valued : value_on 1 nothing (place 2 3) ≡ turned_down 14
  pub none-valued-2 : value_on 2 nothing (place 2 3) ≡ turned_down 14
  -- "a face once opened is not opened again, its edge counts as border; the start face of OnFace counts as opened": seen from outside the circle, so that the
  -- test of the circle, which turns right, would open it
  pub opened-once : face_neighbors one_face (place 20 20) 1 ≡ record { edges = 4 ∷ 0 ∷ 2 ∷ []; opened = 1 }
  -- `inspect_flips` opens inner faces alone: seen from there, the outer face of triangle A would be opened by the circle too
  pub outer-border : face_neighbors (chart_of vertices_a edges_a faces_a) (place 20 20) 1 ≡ record { edges = 4 ∷ 0 ∷ 2 ∷ []; opened = 1 }
  -- as many steps as there are half-edges are allowed, which no accepted chart needs (02, CR 11). The sixth step is at half-edge 0, the partner of 1, and the
  -- polygon is closed: 1 + 0 + 5 * 25 + 0 less 0 + 5 + 5 * 25 + 5. None leads to 7, the partner of 6: no area
  pub six-steps : turned 1 ≡ bits 0xc022_0000_0000_0000
  pub no-more-steps : turned 6 ≡ bits 0
  -- `polygon_area` is positive_area - negative_area: (1, 0), (0, 1), (4, 4) give 1 * 1 + 0 * 4 + 4 * 0 less 0 * 0 + 1 * 4 + 4 * 1, which is -7
  pub area-sign : turned_at ≡ bits 0xc01c_0000_0000_0000
  -- `positive_area` begins with a product and no sum, so that it is -0 where all three products are; `negative_area` is +0
  pub minus-zero-stays : turned_aside ≡ bits 0x8000_0000_0000_0000
  -- `estimate_gradient`: [zero; 2] where the sum's last component is 0 (so the oracle, forced)
  pub no-area : gradient_on on_line 1 ≡ G.slope (bits 0) (bits 0)
  -- `relative_position` below 0: (l - f) / l with l = 4 and f = -1
  pub below-zero : relative_position (record { factor = bits 0x3ff0_0000_0000_0000; length_2 = bits 0xc010_0000_0000_0000 }) ≡ bits 0x3ff4_0000_0000_0000

pub rows : Rows
unfolding halved inside_out one_face wheel on_line vertices_a edges_a faces_a from off_grid cross_of dot_of norm2_of side lifted circle on_open_segment location_of S.none S.add S.count_below in_circle should_flip inspect inspect_all finished face_neighbors inner_edge_neighbors edge_neighbors neighbors_of circumcenter_of two_point_interpolation barycentric_interpolation weigh_two weigh_three cell_corner face_center turn_from shares_from shares_of settled normal_of add_normal gradient_from turn over_pairs sum_from blend_on blended blend_from located_value value_on locate_on edges_on shares_on gradient_on add sub mul div le lt eq ne neg of_bits of_int barycentric_on
rows =
    record {
      vertex-first = refl;
      edge-next = refl;
      face-next = refl;
      no-outer-face = refl;
      none-holds = refl;
      none-listed = refl;
      none-shared = refl;
      none-weighed = refl;
      none-valued = refl;
      none-valued-2 = refl;
      opened-once = refl;
      outer-border = refl;
      six-steps = refl;
      no-more-steps = refl;
      area-sign = refl;
      minus-zero-stays = refl;
      no-area = refl;
      below-zero = refl;
    }
