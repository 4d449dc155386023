-- What the Rust of Spade answers on a chart of five vertices, as computed rows about the public calls' definitions: the bits are the oracle's
-- (`oracle answers`, unchanged sources with 01's location), never the port's. Assumes nothing.
use Rattle.std.specs.Prelude.{◌≡◌, refl, List, [], ◌∷◌, ℕ, ℤ, pos, negsuc, Float, replicate}
use Rattle.std.specs.Float.{binary64}
use Rattle.std.specs.Float.Ieee.{add, sub, mul, div, le, lt, eq, ne, neg, of_bits, of_int}
use Rattle.whole.specs.First.{from}
use Rattle.text.specs.Bytes.{eqs}
use Rattle.text.specs.Field.{spaces_of, digits_of, columns, last_digit, field_text, value_of, candidate, field_of}
use Rattle.tables.specs.Table.{line_of, table_of}
use Rattle.geometry.specs.Plane.{off_grid, cross_of, dot_of, norm2_of, side, lifted, circle, on_open_segment}
use Rattle.chart.specs.Chart.{Chart, chart_of}
use Rattle.ranges.specs.Ranges.{counts_refused, not_below, bad_vertex, bad_half_edge, bad_face, out_of_range}
use Rattle.links.specs.Links.{linked, links_broken}
use Rattle.checks.specs.Checks.{chart_refusal, tables_refusal}
use Rattle.checks.specs.Checks.Loaded.{loaded}
use Rattle.reading.specs.Reading.{counts_of, head_of, body_of, load_of, chart_in, chart_refusal_of}
use Rattle.locate.specs.declared.Location.TheVariants.{OnEdge, OnFace, OutsideOfConvexHull}
use Rattle.locate.specs.Location.{location_of}
use Rattle.faceset.specs.Set as S
use Rattle.flips.specs.Search.{in_circle, should_flip, inspect, inspect_all}
use Rattle.neighbors.specs.Neighbors.{finished, face_neighbors, inner_edge_neighbors, edge_neighbors, neighbors_of}
use Rattle.points.specs.Points.{circumcenter_of}
use Rattle.weights.specs.declared.Weighted.{Weighted}
use Rattle.weights.specs.Barycentric.{Weights, two_point_interpolation, barycentric_interpolation, weigh_two, weigh_three}
use Rattle.turns.specs.Turn.{cell_corner, face_center, turn_from}
use Rattle.natural.specs.Natural.{shares_from, shares_of, settled}
use Rattle.gradient.specs.Gradient.{normal_of, add_normal, gradient_from}
use Rattle.gradient.specs.Turn.{turn, over_pairs}
use Rattle.interpolate.specs.Values.{sum_from, blend_on, blended, blend_from}
use Rattle.values.specs.Value.{Answer, located_value, value_on}
use Rattle.query.specs.Location.{locate_on, locate_of}
use Rattle.query.specs.Location.Located.{at}
use Rattle.query.specs.Weights.{barycentric_on, barycentric_of}
use Rattle.weights.specs.Barycentric.Weights.{weights, turned_down}
use Rattle.query.specs.Natural.{Edges, Shares, Tally, edges_on, natural_edges_of, natural_shares_of, shares_on}
use Rattle.query.specs.Natural.Tally.{listed}
use Rattle.query.specs.Gradient.{gradient_on, estimate_of}
use Rattle.query.specs.Gradient.Slope.{slope}
use Rattle.query.specs.Value.{interpolate_of}
use Rattle.values.specs.Value.Answer.{value}
use Rattle.geometry.specs.declared.Place.{Place}
use Rattle.spade_rows.specs.ChartB.{file_b, vertices_b, edges_b, faces_b}

-- what a call says and leaves
abbrev edges_are : Tally → List ℕ → Edges
edges_are a s = record { answer = a; slice = s }

abbrev shares_are : Tally → List ℕ → List Float → Shares
shares_are a os ws = record { answer = a; owners = os; weights = ws }

abbrev bits : ℕ → Float
bits n = of_bits binary64 n

abbrev weighed : ℕ → ℕ → Weighted
weighed v n = record { vertex = v; weight = bits n }

abbrev place : ℤ → ℤ → Place
place x y = record { x = x; y = y }

abbrev chart_b : Chart
chart_b = chart_of vertices_b edges_b faces_b

-- weights and values on the tables
abbrev weighted : ℤ → ℤ → Weights
weighted x y = barycentric_on chart_b (place x y)

abbrev valued : ℕ → ℤ → ℤ → Answer
valued m x y = value_on m chart_b (place x y)

-- slices longer than the chart's half-edge count, of 9 and of the smallest float
abbrev lent : List ℕ
lent = replicate 20 9

abbrev floats : List Float
floats = replicate 20 (bits 1)

-- triangle A with 100 at each vertex
abbrev flat : Chart
flat =
    chart_of (pos 0 ∷ pos 0 ∷ pos 100 ∷ pos 0 ∷ pos 10 ∷ pos 0 ∷ pos 100 ∷ pos 2 ∷ pos 0 ∷ pos 10 ∷ pos 100 ∷ pos 4 ∷ [])
    (0 ∷ 2 ∷ 4 ∷ 1 ∷ 1 ∷ 5 ∷ 3 ∷ 0 ∷ 1 ∷ 4 ∷ 0 ∷ 1 ∷ 2 ∷ 1 ∷ 5 ∷ 0 ∷ 2 ∷ 0 ∷ 2 ∷ 1 ∷ 0 ∷ 3 ∷ 1 ∷ 0 ∷ []) (1 ∷ 0 ∷ [])

-- (0,0), (5,0), (10,0) and (0,10), of which the first three are on a line
abbrev straight : Chart
straight =
    chart_of (pos 0 ∷ pos 0 ∷ pos 100 ∷ pos 1 ∷ pos 5 ∷ pos 0 ∷ pos 210 ∷ pos 5 ∷ pos 10 ∷ pos 0 ∷ pos 70 ∷ pos 4 ∷ pos 0 ∷ pos 10 ∷ pos 400 ∷ pos 7 ∷ [])
    (1 ∷ 2 ∷ 4 ∷ 0 ∷ 0 ∷ 6 ∷ 3 ∷ 1 ∷ 0 ∷ 9 ∷ 0 ∷ 0 ∷ 3 ∷ 1 ∷ 6 ∷ 1 ∷ 2 ∷ 0 ∷ 9 ∷ 0 ∷ 1 ∷ 8 ∷ 7 ∷ 2 ∷ 1 ∷ 3 ∷ 1 ∷ 1 ∷ 3 ∷ 5 ∷ 8 ∷ 2 ∷ 2 ∷ 7 ∷ 5 ∷ 2 ∷ 3 ∷ 4 ∷ 2 ∷ 0 ∷ []) (2 ∷ 1 ∷ 5 ∷ [])

-- (4,-3), (4,3) and (-5,0), on the circle of radius 5, and (12,0)
abbrev round : Chart
round =
    chart_of (pos 4 ∷ negsuc 2 ∷ pos 100 ∷ pos 0 ∷ pos 4 ∷ pos 3 ∷ pos 210 ∷ pos 1 ∷ negsuc 4 ∷ pos 0 ∷ pos 70 ∷ pos 7 ∷ pos 12 ∷ pos 0 ∷ pos 400 ∷ pos 8 ∷ [])
    (0 ∷ 6 ∷ 3 ∷ 1 ∷ 1 ∷ 5 ∷ 8 ∷ 2 ∷ 0 ∷ 7 ∷ 4 ∷ 0 ∷ 2 ∷ 0 ∷ 6 ∷ 1 ∷ 3 ∷ 2 ∷ 9 ∷ 0 ∷ 0 ∷ 8 ∷ 1 ∷ 2 ∷ 1 ∷ 3 ∷ 0 ∷ 1 ∷ 2 ∷ 9 ∷ 2 ∷ 0 ∷ 3 ∷ 1 ∷ 5 ∷ 2 ∷ 1 ∷ 4 ∷ 7 ∷ 0 ∷ []) (7 ∷ 3 ∷ 8 ∷ [])

-- six vertices and seven faces
abbrev wide : Chart
wide =
    chart_of (pos 6 ∷ pos 2 ∷ pos 258 ∷ pos 14 ∷ pos 3 ∷ pos 5 ∷ pos 254 ∷ pos 13 ∷ pos 3 ∷ pos 6 ∷ pos 77 ∷ pos 0 ∷ pos 3 ∷ pos 0 ∷ pos 320 ∷ pos 17 ∷ pos 3 ∷ pos 8 ∷ pos 159 ∷ pos 15 ∷ pos 1 ∷ pos 2 ∷ pos 102 ∷ pos 12 ∷ [])
    (2 ∷ 12 ∷ 9 ∷ 5 ∷ 5 ∷ 18 ∷ 21 ∷ 2 ∷ 2 ∷ 14 ∷ 19 ∷ 1 ∷ 0 ∷ 8 ∷ 10 ∷ 4 ∷ 5 ∷ 17 ∷ 6 ∷ 3 ∷ 3 ∷ 20 ∷ 16 ∷ 0 ∷ 0 ∷ 4 ∷ 17 ∷ 3 ∷ 5 ∷ 11 ∷ 13 ∷ 6 ∷ 2 ∷ 10 ∷ 3 ∷ 4 ∷ 1 ∷ 0 ∷ 12 ∷ 5 ∷ 1 ∷ 3 ∷ 8 ∷ 4 ∷ 0 ∷ 13 ∷ 7 ∷ 6 ∷ 5 ∷ 9 ∷ 0 ∷ 5 ∷ 1 ∷ 7 ∷ 11 ∷ 6 ∷ 0 ∷ 19 ∷ 2 ∷ 1 ∷ 4 ∷ 16 ∷ 20 ∷ 0 ∷ 0 ∷ 5 ∷ 15 ∷ 0 ∷ 3 ∷ 6 ∷ 4 ∷ 3 ∷ 2 ∷ 21 ∷ 1 ∷ 2 ∷ 4 ∷ 2 ∷ 14 ∷ 1 ∷ 5 ∷ 15 ∷ 5 ∷ 0 ∷ 4 ∷ 1 ∷ 18 ∷ 2 ∷ []) (15 ∷ 19 ∷ 1 ∷ 17 ∷ 3 ∷ 9 ∷ 13 ∷ [])

pub record Rows : Type 0 where
  -- the chart is accepted
  pub accepted : chart_refusal_of file_b ≡ 0
  -- and these are its tables, on which the other rows are computed
  pub tables : chart_in file_b ≡ loaded vertices_b edges_b faces_b
  -- each public call, for the chart's bytes and a load in a face whose search opens two more: "edges from `get_natural_neighbor_edges` in its order", "how many faces were opened"
  pub called-located : locate_of file_b (pos 6) (pos 4) ≡ at (OnFace 4)
  pub called-weights : barycentric_of file_b (pos 6) (pos 4) ≡ weights (weighed 4 4601859982876761367 ∷ weighed 2 4602678819172646912 ∷ weighed 0 4586711511402878784 ∷ [])
  pub called-edges : natural_edges_of file_b (pos 6) (pos 4) lent ≡ edges_are (listed 5 3) (8 ∷ 2 ∷ 1 ∷ 7 ∷ 13 ∷ replicate 15 9)
  pub called-natural : natural_shares_of file_b (pos 6) (pos 4) lent floats ≡ shares_are (listed 5 3) (4 ∷ 2 ∷ 0 ∷ 1 ∷ 3 ∷ replicate 15 9)
      (bits 4601867296165379477 ∷ bits 4602708308135994490 ∷ bits 4585861066771211766 ∷ bits 4546467884376942742 ∷ bits 4567054527948277494 ∷ replicate 15 (bits 1))
  pub called-slope : estimate_of file_b 4 ≡ slope (bits 4622034062116641475) (bits 4623825266513891105)
  pub called-value-1 : interpolate_of file_b (pos 1) (pos 6) (pos 4) ≡ value (bits 4640083005282356130)
  pub called-value-2 : interpolate_of file_b (pos 2) (pos 6) (pos 4) ≡ value (bits 4640093705486646163)
  pub called-value-3 : interpolate_of file_b (pos 3) (pos 6) (pos 4) ≡ value (bits 4637537635951831347)
  -- another, where the last sums of `interpolate_gradient` round otherwise
  pub near-natural : shares_on chart_b (place (pos 3) (pos 6)) lent floats ≡ shares_are (listed 5 3) (4 ∷ 2 ∷ 0 ∷ 1 ∷ 3 ∷ replicate 15 9)
      (bits 4596570906583401321 ∷ bits 4600561919115153478 ∷ bits 4601002953827205610 ∷ bits 4550959658085109448 ∷ bits 4572281283005163940 ∷ replicate 15 (bits 1))
  pub near-value-2 : valued 2 (pos 3) (pos 6) ≡ value (bits 4639746511747272340)
  pub near-value-3 : valued 3 (pos 3) (pos 6) ≡ value (bits 4636738275244495598)
  -- a load of another face, where 1 - lambda1 - lambda2 is not 1 - (lambda1 + lambda2), and one face more is opened
  pub low-weights : weighted (pos 1) (pos 0) ≡ weights (weighed 4 4598721110409200112 ∷ weighed 0 4599130528557142885 ∷ weighed 3 4601177619296856747 ∷ [])
  pub low-edges : edges_on chart_b (place (pos 1) (pos 0)) lent ≡ edges_are (listed 4 2) (4 ∷ 1 ∷ 7 ∷ 13 ∷ replicate 16 9)
  pub low-natural : shares_on chart_b (place (pos 1) (pos 0)) lent floats ≡ shares_are (listed 4 2) (4 ∷ 0 ∷ 1 ∷ 3 ∷ replicate 16 9)
      (bits 4598817535112002687 ∷ bits 4598626153188637110 ∷ bits 4587993473817295866 ∷ bits 4600606488364872268 ∷ replicate 16 (bits 1))
  pub low-value-1 : valued 1 (pos 1) (pos 0) ≡ value (bits 4633186868352945058)
  pub low-value-2 : valued 2 (pos 1) (pos 0) ≡ value (bits 4635019253958307153)
  pub low-value-3 : valued 3 (pos 1) (pos 0) ≡ value (bits 13845161271273705081)
  -- on an inner edge: the search starts from both of its half-edges
  pub edge-located : locate_on chart_b (place (pos 5) (pos 1)) ≡ at (OnEdge 4)
  pub edge-weights : weighted (pos 5) (pos 1) ≡ weights (weighed 4 4601859982876761368 ∷ weighed 0 4603088237320589684 ∷ [])
  pub edge-edges : edges_on chart_b (place (pos 5) (pos 1)) lent ≡ edges_are (listed 5 3) (8 ∷ 2 ∷ 1 ∷ 7 ∷ 13 ∷ replicate 15 9)
  pub edge-natural : shares_on chart_b (place (pos 5) (pos 1)) lent floats ≡ shares_are (listed 5 3) (4 ∷ 2 ∷ 0 ∷ 1 ∷ 3 ∷ replicate 15 9)
      (bits 4602191394358410410 ∷ bits 4594350555894897602 ∷ bits 4598774194100466972 ∷ bits 4576780774378656646 ∷ bits 4591164154925405931 ∷ replicate 15 (bits 1))
  pub edge-value-1 : valued 1 (pos 5) (pos 1) ≡ value (bits 4636110369815598918)
  pub edge-value-2 : valued 2 (pos 5) (pos 1) ≡ value (bits 4637189191550701530)
  pub edge-value-3 : valued 3 (pos 5) (pos 1) ≡ value (bits 4632414782059759616)
  -- on a hull edge: "the hull-edge pair", not reversed; "On a vertex or hull edge it is 0"
  pub hull-edges : edges_on chart_b (place (negsuc 1) (pos 6)) lent ≡ edges_are (listed 2 0) (10 ∷ 11 ∷ replicate 18 9)
  pub hull-weights : weighted (negsuc 1) (pos 6) ≡ weights (weighed 1 4604180019048437078 ∷ weighed 2 4599676419421066581 ∷ [])
  pub hull-natural : shares_on chart_b (place (negsuc 1) (pos 6)) lent floats ≡ shares_are (listed 2 0) (1 ∷ 2 ∷ replicate 18 9)
      (bits 4604180019048437078 ∷ bits 4599676419421066581 ∷ replicate 18 (bits 1))
  pub hull-value-1 : valued 1 (negsuc 1) (pos 6) ≡ value (bits 4644917657865289728)
  pub hull-value-2 : valued 2 (negsuc 1) (pos 6) ≡ value (bits 4644917657865289728)
  pub hull-value-3 : valued 3 (negsuc 1) (pos 6) ≡ value (bits 4645095541313368300)
  -- on a vertex: its out half-edge, and its value by each method
  pub vertex-edges : edges_on chart_b (place (pos 0) (pos 6)) lent ≡ edges_are (listed 1 0) (5 ∷ replicate 19 9)
  pub vertex-weights : weighted (pos 0) (pos 6) ≡ weights (weighed 0 4607182418800017408 ∷ [])
  pub vertex-natural : shares_on chart_b (place (pos 0) (pos 6)) lent floats ≡ shares_are (listed 1 0) (0 ∷ replicate 19 9)
      (bits 4607182418800017408 ∷ replicate 19 (bits 1))
  pub vertex-value-1 : valued 1 (pos 0) (pos 6) ≡ value (bits 4637229872563879936)
  pub vertex-value-2 : valued 2 (pos 0) (pos 6) ≡ value (bits 4637229872563879936)
  pub vertex-value-3 : valued 3 (pos 0) (pos 6) ≡ value (bits 4637229872563879936)
  -- "Only the location call itself answers "outside" with a half-edge, not 14"
  pub outside-located : locate_on chart_b (place (pos 12) (pos 12)) ≡ at (OutsideOfConvexHull 9)
  pub outside-weights : weighted (pos 12) (pos 12) ≡ turned_down 14
  pub outside-edges : edges_on chart_b (place (pos 12) (pos 12)) lent ≡ edges_are (Tally.turned_down 14) lent
  pub outside-natural : shares_on chart_b (place (pos 12) (pos 12)) lent floats ≡ shares_are (Tally.turned_down 14) lent floats
  pub outside-value-1 : valued 1 (pos 12) (pos 12) ≡ Answer.turned_down 14
  pub outside-value-2 : valued 2 (pos 12) (pos 12) ≡ Answer.turned_down 14
  pub outside-value-3 : valued 3 (pos 12) (pos 12) ≡ Answer.turned_down 14
  -- "Gradient: `estimate_gradient`": of the inner vertex, and of those of the hull, where one pair turns right
  pub slope-inner : gradient_on chart_b 0 ≡ slope (bits 13844657361260821941) (bits 4627456467022933543)
  pub slope-1 : gradient_on chart_b 1 ≡ slope (bits 13862747021136329695) (bits 4636616983501687379)
  pub slope-2 : gradient_on chart_b 2 ≡ slope (bits 13843045571602405724) (bits 4628489543452152349)
  pub slope-3 : gradient_on chart_b 3 ≡ slope (bits 13845462923386778306) (bits 4626701252529849450)
  pub slope-4 : gradient_on chart_b 4 ≡ slope (bits 4622034062116641475) (bits 4623825266513891105)
  -- "-0 included": triangle A with all values alike
  pub slope-flat : gradient_on flat 1 ≡ slope (bits 9223372036854775808) (bits 9223372036854775808)
  -- a load in one face and on the circle of the other: "a point on the circle taken as inside" is among 01's mistakes seen elsewhere
  pub round-located : locate_on round (place (pos 5) (pos 0)) ≡ at (OnFace 2)
  pub round-edges : edges_on round (place (pos 5) (pos 0)) lent ≡ edges_are (listed 3 1) (5 ∷ 8 ∷ 1 ∷ replicate 17 9)
  -- more faces than vertices, of which the last one is opened; and a vertex with five neighbours
  pub wide-edges : edges_on wide (place (pos 2) (pos 4)) lent ≡ edges_are (listed 6 4) (18 ∷ 21 ∷ 4 ∷ 17 ∷ 11 ∷ 9 ∷ replicate 14 9)
  pub wide-slope : gradient_on wide 0 ≡ slope (bits 4628500008947956796) (bits 13849156640145053335)
  -- of a vertex in the middle of a straight side: the pair of its two ends has no area, and does not count
  pub slope-straight : gradient_on straight 1 ≡ slope (bits 13837309855095848960) (bits 4625619029774565376)

pub rows : Rows
unfolding file_b vertices_b edges_b faces_b from eqs spaces_of digits_of columns last_digit field_text value_of candidate field_of line_of table_of off_grid cross_of dot_of norm2_of side lifted circle on_open_segment counts_refused not_below bad_vertex bad_half_edge bad_face out_of_range linked links_broken chart_refusal tables_refusal counts_of head_of body_of load_of chart_in location_of S.none S.add S.count_below in_circle should_flip inspect inspect_all finished face_neighbors inner_edge_neighbors edge_neighbors neighbors_of circumcenter_of two_point_interpolation barycentric_interpolation weigh_two weigh_three cell_corner face_center turn_from shares_from shares_of settled normal_of add_normal gradient_from turn over_pairs sum_from blend_on blended blend_from located_value value_on locate_on barycentric_on edges_on shares_on gradient_on add sub mul div le lt eq ne neg of_bits of_int
rows =
    record {
      accepted = refl;
      tables = refl;
      called-located = refl;
      called-weights = refl;
      called-edges = refl;
      called-natural = refl;
      called-slope = refl;
      called-value-1 = refl;
      called-value-2 = refl;
      called-value-3 = refl;
      near-natural = refl;
      near-value-2 = refl;
      near-value-3 = refl;
      low-weights = refl;
      low-edges = refl;
      low-natural = refl;
      low-value-1 = refl;
      low-value-2 = refl;
      low-value-3 = refl;
      edge-located = refl;
      edge-weights = refl;
      edge-edges = refl;
      edge-natural = refl;
      edge-value-1 = refl;
      edge-value-2 = refl;
      edge-value-3 = refl;
      hull-edges = refl;
      hull-weights = refl;
      hull-natural = refl;
      hull-value-1 = refl;
      hull-value-2 = refl;
      hull-value-3 = refl;
      vertex-edges = refl;
      vertex-weights = refl;
      vertex-natural = refl;
      vertex-value-1 = refl;
      vertex-value-2 = refl;
      vertex-value-3 = refl;
      outside-located = refl;
      outside-weights = refl;
      outside-edges = refl;
      outside-natural = refl;
      outside-value-1 = refl;
      outside-value-2 = refl;
      outside-value-3 = refl;
      slope-inner = refl;
      slope-1 = refl;
      slope-2 = refl;
      slope-3 = refl;
      slope-4 = refl;
      slope-flat = refl;
      round-located = refl;
      round-edges = refl;
      wide-edges = refl;
      wide-slope = refl;
      slope-straight = refl;
    }
