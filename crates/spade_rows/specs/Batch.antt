-- What the oracle (01's batch over the Rust's values) answers for a batch on chart B, as a computed row about the public batch's definition: a load by each
-- method, the refusals 12, 13, 14 and 16, and a splice. Assumes nothing.
use Rattle.std.specs.Prelude.{◌≡◌, refl, List, [], ◌∷◌, ℤ, pos, replicate}
use Rattle.std.specs.Float.Ieee.{add, sub, mul, div, le, lt, eq, ne, neg, of_bits, of_int}
use Rattle.whole.specs.First.{from}
use Rattle.text.specs.Bytes.{eqs}
use Rattle.text.specs.Field.{spaces_of, digits_of, columns, last_digit, field_text, value_of, candidate, field_of}
use Rattle.tables.specs.Table.{line_of, table_of}
use Rattle.geometry.specs.Plane.{off_grid, cross_of, dot_of, norm2_of, side, lifted, circle, on_open_segment}
use Rattle.ranges.specs.Ranges.{counts_refused, not_below, bad_vertex, bad_half_edge, bad_face, out_of_range}
use Rattle.links.specs.Links.{linked, links_broken}
use Rattle.checks.specs.Checks.{chart_refusal, tables_refusal}
use Rattle.reading.specs.Reading.{counts_of, head_of, body_of, load_of, chart_in}
use Rattle.locate.specs.Location.{location_of}
use Rattle.faceset.specs.Set as S
use Rattle.flips.specs.Search.{in_circle, should_flip, inspect, inspect_all}
use Rattle.neighbors.specs.Neighbors.{finished, face_neighbors, inner_edge_neighbors, edge_neighbors, neighbors_of}
use Rattle.points.specs.Points.{circumcenter_of}
use Rattle.weights.specs.Barycentric.{two_point_interpolation, barycentric_interpolation, weigh_two, weigh_three}
use Rattle.turns.specs.Turn.{cell_corner, face_center, turn_from}
use Rattle.natural.specs.Natural.{shares_from, shares_of}
use Rattle.gradient.specs.Gradient.{normal_of, add_normal, gradient_from}
use Rattle.gradient.specs.Turn.{turn, over_pairs}
use Rattle.interpolate.specs.Values.{sum_from, blend_on, blended, blend_from}
use Rattle.values.specs.Value.{located_value, value_on}
use Rattle.book.specs.Books.{bad_book}
use Rattle.accounts.specs.Rulings.{entry_ruling}
use Rattle.accounts.specs.Batch.{batch_of}
use Rattle.accounts.specs.Demand.{fresh}
use Rattle.estivolh.specs.Account.{queries}
use Rattle.spade_rows.specs.ChartB.{file_b}

-- kind, section, x, y, method
unfoldable pub entries_b : List ℤ
entries_b =
    pos 1 ∷ pos 0 ∷ pos 6 ∷ pos 4 ∷ pos 1
    ∷ pos 1 ∷ pos 0 ∷ pos 6 ∷ pos 4 ∷ pos 2
    ∷ pos 1 ∷ pos 0 ∷ pos 6 ∷ pos 4 ∷ pos 3
    ∷ pos 1 ∷ pos 1 ∷ pos 1 ∷ pos 0 ∷ pos 3
    ∷ pos 1 ∷ pos 1 ∷ pos 12 ∷ pos 12 ∷ pos 1
    ∷ pos 1 ∷ pos 1 ∷ pos 10001 ∷ pos 12 ∷ pos 1
    ∷ pos 1 ∷ pos 1 ∷ pos 6 ∷ pos 4 ∷ pos 4
    ∷ pos 2 ∷ pos 0 ∷ pos 0 ∷ pos 0 ∷ pos 0
    ∷ pos 1 ∷ pos 0 ∷ pos 5 ∷ pos 1 ∷ pos 1
    ∷ pos 1 ∷ pos 1 ∷ pos 5 ∷ pos 1 ∷ pos 3
    ∷ pos 2 ∷ pos 1 ∷ pos 0 ∷ pos 0 ∷ pos 1
    ∷ pos 3 ∷ pos 0 ∷ pos 0 ∷ pos 0 ∷ pos 0
    ∷ []

pub record Rows : Type 0 where
  -- "In a batch 12 to 17 refuse one entry: its answer is 2,000,000 plus the number, the book is as before it, the batch goes on"; "Elements past the last
  -- answer are unchanged"
  pub batch :
      batch_of queries (fresh 2) file_b entries_b (replicate 14 9)
      ≡ record {
        refusal = 0;
        book = record { sections = 2; wear = 91 ∷ 51 ∷ 0 ∷ 0 ∷ 0 ∷ 0 ∷ 0 ∷ 0 ∷ 0 ∷ 0 ∷ 0 ∷ 0 ∷ 0 ∷ 0 ∷ 0 ∷ 0 ∷ []; bends = 1 ∷ 1 ∷ 0 ∷ 0 ∷ 0 ∷ 0 ∷ 0 ∷ 0 ∷ 0 ∷ 0 ∷ 0 ∷ 0 ∷ 0 ∷ 0 ∷ 0 ∷ 0 ∷ []; retired = 445 };
        answers = 167 ∷ 167 ∷ 111 ∷ 2000016 ∷ 2000014 ∷ 2000013 ∷ 2000012 ∷ 0 ∷ 91 ∷ 51 ∷ 2000012 ∷ 2000012 ∷ 9 ∷ 9 ∷ [];
      }

pub rows : Rows
unfolding file_b from eqs spaces_of digits_of columns last_digit field_text value_of candidate field_of line_of table_of off_grid cross_of dot_of norm2_of side lifted circle on_open_segment counts_refused not_below bad_vertex bad_half_edge bad_face out_of_range linked links_broken chart_refusal tables_refusal counts_of head_of body_of load_of chart_in location_of S.none S.add S.count_below in_circle should_flip inspect inspect_all finished face_neighbors inner_edge_neighbors edge_neighbors neighbors_of circumcenter_of two_point_interpolation barycentric_interpolation weigh_two weigh_three cell_corner face_center turn_from shares_from shares_of normal_of add_normal gradient_from turn over_pairs sum_from blend_on blended blend_from located_value value_on add sub mul div le lt eq ne neg of_bits of_int bad_book entry_ruling entries_b
rows = record { batch = refl }
