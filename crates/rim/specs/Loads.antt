-- 01, "Loads at the rim": rows of one table about triangle A's bytes and face 1's corners, each computed; and rows for 01's 'mistakes seen
-- elsewhere'. Assumes nothing.
use Rattle.std.specs.Prelude.{◌≡◌, refl, true, false, [], ◌∷◌, ℕ, ℤ, pos, negsuc}
use Rattle.std.specs.Float.{binary64}
use Rattle.std.specs.Float.Ieee.{add, sub, mul, div, le, neg, of_bits, of_int}
use Rattle.whole.specs.First.{from}
use Rattle.text.specs.Bytes.{eqs}
use Rattle.text.specs.Field.{spaces_of, digits_of, columns, last_digit, field_text, value_of, candidate, field_of}
use Rattle.tables.specs.Table.{line_of, table_of}
use Rattle.geometry.specs.declared.Place.{Place}
use Rattle.geometry.specs.Plane.{off_grid, cross_of, dot_of, norm2_of, side, lifted, circle, on_open_segment}
use Rattle.chart.specs.Chart.{Chart, chart_of}
use Rattle.ranges.specs.Ranges.{counts_refused, not_below, bad_vertex, bad_half_edge, bad_face, out_of_range}
use Rattle.links.specs.Links.{linked, links_broken}
use Rattle.delaunay.specs.Delaunay.{in_circle}
use Rattle.checks.specs.Checks.{chart_refusal, tables_refusal}
use Rattle.reading.specs.Reading.{counts_of, head_of, body_of, load_of, chart_in}
use Rattle.locate.specs.declared.Location.TheVariants.{OnVertex, OnEdge, OnFace, OutsideOfConvexHull}
use Rattle.locate.specs.Location.{location_of}
use Rattle.neighbors.specs.Neighbors.{edge_neighbors, neighbors_of}
use Rattle.weights.specs.declared.Weighted.{Weighted}
use Rattle.weights.specs.Barycentric.{two_point_interpolation, barycentric_interpolation, weigh_two, weigh_three}
use Rattle.weights.specs.Barycentric.Weights.{weights}
use Rattle.charge.specs.Charging.{charge_of}
use Rattle.charge.specs.Charging.{Cost as C}
use Rattle.query.specs.Location.{locate_on, locate_of}
use Rattle.query.specs.Location.Located.{at, turned_down}
use Rattle.query.specs.Weights.{barycentric_on, barycentric_of}
use Rattle.query.specs.Natural.{edges_on, natural_edges_of}
use Rattle.query.specs.Natural.Tally.{listed}
use Rattle.triangle.specs.TriangleA.{file_a, vertices_a, edges_a, faces_a}

-- a vertex with its weight, by the weight's bits
abbrev with_bits : ℕ → ℕ → Weighted
with_bits v n = record { vertex = v; weight = of_bits binary64 n }

abbrev pub place : ℤ → ℤ → Place
place x y = record { x = x; y = y }

abbrev pub chart_a : Chart
chart_a = chart_of vertices_a edges_a faces_a

pub record Rows : Type 0 where
  -- 01's rows
  pub vertex : locate_of file_a (pos 10) (pos 0) ≡ at (OnVertex 1)
  pub edge-low : locate_of file_a (pos 5) (pos 0) ≡ at (OnEdge 0)
  pub edge-high : locate_of file_a (pos 5) (pos 5) ≡ at (OnEdge 2)
  pub face : locate_of file_a (pos 2) (pos 3) ≡ at (OnFace 1)
  pub below : locate_of file_a (pos 5) (negsuc 0) ≡ at (OutsideOfConvexHull 1)
  pub beyond : locate_of file_a (pos 6) (pos 5) ≡ at (OutsideOfConvexHull 3)
  pub on-circle : in_circle chart_a (place (pos 10) (pos 10)) 1 ≡ false
  pub in-circle : in_circle chart_a (place (pos 9) (pos 9)) 1 ≡ true
  -- the charge of 149.5, of -0.5 and of 1,000,000.5
  pub half_up : charge_of (of_bits binary64 0x4062_b000_0000_0000) ≡ C.whole 150
  pub lowest : charge_of (of_bits binary64 0xbfe0_0000_0000_0000) ≡ C.whole 0
  pub too-high : charge_of (of_bits binary64 0x412e_8481_0000_0000) ≡ C.turned_down 16
  -- a point on the line beyond an edge is not on it
  pub past_the_end : locate_of file_a (pos 15) (pos 0) ≡ at (OutsideOfConvexHull 3)
  -- corners are not read from the adjacent edge: prev comes first
  pub corners : barycentric_of file_a (pos 2) (pos 3) ≡ weights (with_bits 2 4599075939470750515 ∷ with_bits 0 4602678819172646912 ∷ with_bits 1 4596373779694328216 ∷ [])
  -- the hull-edge pair is not reversed: the edge, then its partner; no face is opened, and the rest of the slice is as it was
  pub hull-pair : natural_edges_of file_a (pos 5) (pos 0) (9 ∷ 9 ∷ 9 ∷ 9 ∷ 9 ∷ 9 ∷ []) ≡ record { answer = listed 2 0; slice = 0 ∷ 1 ∷ 9 ∷ 9 ∷ 9 ∷ 9 ∷ [] }
  -- on an edge its origin comes first
  pub ends : barycentric_of file_a (pos 5) (pos 5) ≡ weights (with_bits 1 4602678819172646912 ∷ with_bits 2 4602678819172646912 ∷ [])
  -- the grid's end is on the grid, what follows is off it
  pub last : locate_of file_a (pos 10000) (pos 0) ≡ at (OutsideOfConvexHull 3)
  pub off : locate_of file_a (pos 10001) (pos 0) ≡ turned_down 13

pub rows : Rows
unfolding file_a vertices_a edges_a faces_a from eqs spaces_of digits_of columns last_digit field_text value_of candidate field_of line_of table_of off_grid cross_of dot_of norm2_of side lifted circle on_open_segment counts_refused not_below bad_vertex bad_half_edge bad_face out_of_range linked links_broken chart_refusal tables_refusal counts_of head_of body_of load_of chart_in location_of locate_on two_point_interpolation barycentric_interpolation weigh_two weigh_three barycentric_on edge_neighbors neighbors_of edges_on add sub mul div of_bits of_int le neg
rows =
    record {
      vertex = refl;
      edge-low = refl;
      edge-high = refl;
      face = refl;
      below = refl;
      beyond = refl;
      on-circle = refl;
      in-circle = refl;
      half_up = refl;
      lowest = refl;
      too-high = refl;
      past_the_end = refl;
      corners = refl;
      hull-pair = refl;
      ends = refl;
      last = refl;
      off = refl;
    }
