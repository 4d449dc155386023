-- 01, "Where a call can be turned down": the refusals of the public queries on triangle A, and their order, each computed. Assumes nothing.
use Rattle.std.specs.Prelude.{◌≡◌, refl, List, [], ◌∷◌, ◌++◌, ℕ, pos, negsuc, Float, replicate}
use Rattle.std.specs.Float.{binary64}
use Rattle.std.specs.Float.Ieee.{add, sub, mul, div, le, lt, ne, neg, of_bits, of_int}
use Rattle.whole.specs.First.{from}
use Rattle.text.specs.Bytes.{eqs}
use Rattle.text.specs.Field.{spaces_of, digits_of, columns, last_digit, field_text, value_of, candidate, field_of}
use Rattle.tables.specs.Table.{line_of, table_of}
use Rattle.geometry.specs.Plane.{off_grid, cross_of, dot_of, norm2_of, side, lifted, circle, on_open_segment}
use Rattle.ranges.specs.Ranges.{counts_refused, not_below, bad_vertex, bad_half_edge, bad_face, out_of_range}
use Rattle.links.specs.Links.{linked, links_broken}
use Rattle.checks.specs.Checks.{chart_refusal, tables_refusal}
use Rattle.reading.specs.Reading.{counts_of, head_of, body_of, load_of, chart_in}
use Rattle.locate.specs.Location.{location_of}
use Rattle.faceset.specs.Set as S
use Rattle.flips.specs.Search.{in_circle, should_flip, inspect, inspect_all}
use Rattle.neighbors.specs.Neighbors.{finished, face_neighbors, inner_edge_neighbors, edge_neighbors, neighbors_of}
use Rattle.weights.specs.Barycentric.{Weights as B, two_point_interpolation, barycentric_interpolation, weigh_two, weigh_three}
use Rattle.gradient.specs.Gradient.{normal_of, add_normal, gradient_from}
use Rattle.gradient.specs.Turn.{turn, over_pairs}
use Rattle.interpolate.specs.Values.{sum_from}
use Rattle.values.specs.Value.{Answer as I, located_value, value_on}
use Rattle.query.specs.Location.{Located as L, locate_on, locate_of}
use Rattle.query.specs.Weights.{barycentric_on, barycentric_of}
use Rattle.query.specs.Natural.{Edges, Shares, Tally, edges_on, natural_edges_of, natural_shares_of, shares_on}
use Rattle.query.specs.Gradient.{Slope as G, gradient_on, estimate_of}
use Rattle.query.specs.Value.{interpolate_of}
use Rattle.triangle.specs.TriangleA.{file_a, vertices_a, edges_a, faces_a}
use Rattle.rim.specs.Square.{byte, put, figures}

-- what a call says and leaves
abbrev edges_are : Tally → List ℕ → Edges
edges_are a s = record { answer = a; slice = s }

abbrev shares_are : Tally → List ℕ → List Float → Shares
shares_are a os ws = record { answer = a; owners = os; weights = ws }

abbrev nines : ℕ → List ℕ
nines n = replicate n 9

abbrev bits : ℕ → Float
bits n = of_bits binary64 n

abbrev floats : ℕ → List Float
floats n = replicate n (bits 1)

-- 2 vertices, which 4 refuses; one byte too long, which 3 refuses; a plus in a half-edge, which 5 refuses
abbrev few : List ℕ
few = put file_a 7 (figures (2 ∷ []))

abbrev long : List ℕ
long = file_a ++ (10 ∷ [])

abbrev plus : List ℕ
plus = put file_a (byte 3 6) (43 ∷ [])

pub record Rows : Type 0 where
  -- 2: "any answer slice .. shorter than the chart's half-edge count": 5 is, 6 is not (the Rust's list)
  pub edges-short : natural_edges_of file_a (pos 2) (pos 3) (nines 5) ≡ edges_are (Tally.turned_down 2) (nines 5)
  pub edges-enough : natural_edges_of file_a (pos 2) (pos 3) (nines 6) ≡ edges_are (Tally.listed 3 1) (4 ∷ 0 ∷ 2 ∷ 9 ∷ 9 ∷ 9 ∷ [])
  -- "(edges; vertex numbers and floats)"
  pub owners-short : natural_shares_of file_a (pos 2) (pos 3) (nines 5) (floats 6) ≡ shares_are (Tally.turned_down 2) (nines 5) (floats 6)
  pub floats-short : natural_shares_of file_a (pos 2) (pos 3) (nines 6) (floats 5) ≡ shares_are (Tally.turned_down 2) (nines 6) (floats 5)
  -- "(tested right after 4)"
  pub four-first : natural_edges_of few (pos 2) (pos 3) (nines 5) ≡ edges_are (Tally.turned_down 4) (nines 5)
  pub room-before-length : natural_edges_of long (pos 2) (pos 3) (nines 5) ≡ edges_are (Tally.turned_down 2) (nines 5)
  pub length-then : natural_edges_of long (pos 2) (pos 3) (nines 6) ≡ edges_are (Tally.turned_down 3) (nines 6)
  pub room-of-both : natural_shares_of long (pos 2) (pos 3) (nines 6) (floats 5) ≡ shares_are (Tally.turned_down 2) (nines 6) (floats 5)
  pub shares-four-first : natural_shares_of few (pos 2) (pos 3) (nines 5) (floats 5) ≡ shares_are (Tally.turned_down 4) (nines 5) (floats 5)
  -- "Every public call that needs a chart is handed its file bytes and checks them": the chart's refusal comes back, before 12 and 13
  pub chart-located : locate_of plus (pos 10001) (pos 3) ≡ L.turned_down 5
  pub chart-weighed : barycentric_of plus (pos 10001) (pos 3) ≡ B.turned_down 5
  pub chart-listed : natural_edges_of plus (pos 10001) (pos 3) (nines 6) ≡ edges_are (Tally.turned_down 5) (nines 6)
  pub chart-shared : natural_shares_of plus (pos 10001) (pos 3) (nines 6) (floats 6) ≡ shares_are (Tally.turned_down 5) (nines 6) (floats 6)
  pub chart-sloped : estimate_of plus 3 ≡ G.turned_down 5
  pub chart-valued : interpolate_of plus (pos 4) (pos 10001) (pos 3) ≡ I.turned_down 5
  -- 12: "vertex number .. unknown": 3 is, 2 is not (the Rust's bits)
  pub vertex-unknown : estimate_of file_a 3 ≡ G.turned_down 12
  pub vertex-last : estimate_of file_a 2 ≡ G.slope (bits 4621819117588971520) (bits 4626322717216342016)
  -- 12: "method unknown"; 12 before 13
  pub method-none : interpolate_of file_a (pos 0) (pos 2) (pos 3) ≡ I.turned_down 12
  pub method-four : interpolate_of file_a (pos 4) (pos 2) (pos 3) ≡ I.turned_down 12
  pub method-negative : interpolate_of file_a (negsuc 0) (pos 2) (pos 3) ≡ I.turned_down 12
  pub method-first : interpolate_of file_a (pos 4) (pos 10001) (pos 3) ≡ I.turned_down 12
  -- 13: "x or y not -10,000 to 10,000", of each call
  pub off-weighed : barycentric_of file_a (pos 2) (pos 10001) ≡ B.turned_down 13
  pub off-listed : natural_edges_of file_a (pos 2) (negsuc 10000) (nines 6) ≡ edges_are (Tally.turned_down 13) (nines 6)
  pub off-shared : natural_shares_of file_a (pos 10001) (pos 3) (nines 6) (floats 6) ≡ shares_are (Tally.turned_down 13) (nines 6) (floats 6)
  pub off-valued : interpolate_of file_a (pos 1) (negsuc 10000) (pos 3) ≡ I.turned_down 13
  pub off-located : locate_of file_a (pos 0) (pos 10001) ≡ L.turned_down 13
  pub off-located-below : locate_of file_a (pos 0) (negsuc 10000) ≡ L.turned_down 13

pub rows : Rows
unfolding file_a vertices_a edges_a faces_a from eqs spaces_of digits_of columns last_digit field_text value_of candidate field_of line_of table_of off_grid cross_of dot_of norm2_of side lifted circle on_open_segment counts_refused not_below bad_vertex bad_half_edge bad_face out_of_range linked links_broken chart_refusal tables_refusal counts_of head_of body_of load_of chart_in location_of S.none S.add S.count_below in_circle should_flip inspect inspect_all finished face_neighbors inner_edge_neighbors edge_neighbors neighbors_of two_point_interpolation barycentric_interpolation weigh_two weigh_three normal_of add_normal gradient_from turn over_pairs sum_from located_value value_on locate_on barycentric_on edges_on shares_on gradient_on add sub mul div le lt ne neg of_bits of_int
rows =
    record {
      edges-short = refl;
      edges-enough = refl;
      owners-short = refl;
      floats-short = refl;
      four-first = refl;
      room-before-length = refl;
      length-then = refl;
      room-of-both = refl;
      shares-four-first = refl;
      chart-located = refl;
      chart-weighed = refl;
      chart-listed = refl;
      chart-shared = refl;
      chart-sloped = refl;
      chart-valued = refl;
      vertex-unknown = refl;
      vertex-last = refl;
      method-none = refl;
      method-four = refl;
      method-negative = refl;
      method-first = refl;
      off-weighed = refl;
      off-listed = refl;
      off-shared = refl;
      off-valued = refl;
      off-located = refl;
      off-located-below = refl;
    }
