-- Each number on the lists of `refusals` does occur: for each of 3 to 11 bytes that it meets, and for each of an entry's five an entry on one chart. Each row is
-- computed. Assumes nothing.
use Rattle.std.specs.Prelude.{◌≡◌, refl, List, [], ◌∷◌, map, ℕ, ℤ, pos, negsuc, set}
use Rattle.std.specs.Float.Ieee.{add, sub, mul, div, le, lt, ne, neg, eq, of_bits, of_int}
use Rattle.whole.specs.First.{from}
use Rattle.text.specs.Bytes.{eqs}
use Rattle.text.specs.Field.{spaces_of, digits_of, columns, last_digit, field_text, value_of, candidate, field_of}
use Rattle.tables.specs.Table.{line_of, table_of}
use Rattle.geometry.specs.Plane.{off_grid, cross_of, dot_of, norm2_of, side, lifted, circle, on_open_segment}
use Rattle.ranges.specs.Ranges.{counts_refused, not_below, bad_vertex, bad_half_edge, bad_face, out_of_range}
use Rattle.links.specs.Links.{linked, links_broken}
use Rattle.checks.specs.Checks.{chart_refusal, tables_refusal}
use Rattle.reading.specs.Reading.{counts_of, head_of, body_of, load_of, chart_in, chart_refusal_of}
use Rattle.reading.specs.Laws.{of_chart}
use Rattle.locate.specs.Location.{location_of}
use Rattle.neighbors.specs.Neighbors.{edge_neighbors, neighbors_of}
use Rattle.weights.specs.Barycentric.{two_point_interpolation, barycentric_interpolation, weigh_two, weigh_three}
use Rattle.natural.specs.Natural.{shares_of}
use Rattle.gradient.specs.Gradient.{normal_of, add_normal, gradient_from}
use Rattle.gradient.specs.Turn.{turn, over_pairs}
use Rattle.interpolate.specs.Values.{sum_from, blend_on, blended, blend_from}
use Rattle.values.specs.Value.{located_value, value_on}
use Rattle.entries.specs.Ruling.{Ruling}
use Rattle.entries.specs.Ruling.Ruling.{Bend, Splice, Refused}
use Rattle.entries.specs.Ruling.{with17}
use Rattle.accounts.specs.Rulings.{entry_ruling}
use Rattle.estivolh.specs.Account.{queries}
use Rattle.refusals.specs.Entries.{of_entry}
use Rattle.triangle.specs.TriangleA.{file_a, vertices_a, edges_a, faces_a}
use Rattle.rim.specs.Square.{byte, put, figures, square}

-- the square, its last wear 1,000,000: between two tests that hardly wear, method 3 says less than nothing
unfoldable pub steep : List ℕ
steep = put square (byte 3 17) (figures (1 ∷ 0 ∷ 0 ∷ 0 ∷ 0 ∷ 0 ∷ 0 ∷ []))

-- the number that refuses an entry, or 0
abbrev number : Ruling → ℕ
number (Bend i n) = 0
number (Splice i) = 0
number (Refused k) = k

-- of a bend of section 0 of 2 on a full account
abbrev met : ℤ → ℤ → ℤ → ℕ
met x y method = number (with17 1000000000000 (λ i. 0) (entry_ruling queries 2 steep (record { kind = pos 1; section = pos 0; x = x; y = y; method = method })))

pub record Rows : Type 0 where
  -- no bytes; 2 vertices; a leading zero; a next of 6; an out half-edge that starts elsewhere; vertex 2 at vertex 0, and on the other side; the square's corners
  -- 1 and 3 moved in; its corner 2 moved into a circle
  pub of-chart : map chart_refusal_of
      ([] ∷ set file_a 7 50 ∷ set file_a 6 48 ∷ set file_a (byte 3 15) 54 ∷ set file_a (byte 0 31) 50 ∷ set file_a (byte 2 14) 32 ∷ set file_a (byte 2 13) 45
      ∷ put (put square (byte 1 6) (figures (9 ∷ []))) (byte 3 14) (figures (9 ∷ [])) ∷ put square (byte 2 14) (figures (2 ∷ [])) ∷ []) ≡ of_chart
  -- a method unknown; off the grid; outside; a value below -0.5; one unit more than the account holds
  pub of_entry_row : met (pos 5) (pos 0) (pos 4) ∷ met (pos 10001) (pos 0) (pos 1) ∷ met (pos 5) (negsuc 0) (pos 2) ∷ met (pos 5) (pos 0) (pos 3) ∷ met (pos 5) (pos 0) (pos 1) ∷ [] ≡ of_entry

pub rows : Rows
unfolding steep square file_a vertices_a edges_a faces_a from eqs spaces_of digits_of columns last_digit field_text value_of candidate field_of line_of table_of off_grid cross_of dot_of norm2_of side lifted circle on_open_segment counts_refused not_below bad_vertex bad_half_edge bad_face out_of_range linked links_broken chart_refusal tables_refusal counts_of head_of body_of load_of chart_in location_of two_point_interpolation barycentric_interpolation weigh_two weigh_three edge_neighbors neighbors_of add sub mul div of_bits of_int le lt ne neg eq sum_from blend_on blended blend_from normal_of add_normal gradient_from turn over_pairs located_value value_on entry_ruling shares_of
rows = record { of-chart = refl; of_entry_row = refl }
