-- 01, "Program": its log on triangle A, computed from the batch's definition; and the user's two ropes. Assumes nothing.
use Rattle.std.specs.Prelude.{◌≡◌, refl, List, [], ◌∷◌, ◌++◌, ℕ, ℤ, pos, negsuc}
use Rattle.std.specs.Float.Ieee.{add, sub, mul, div, le, neg, eq, of_bits, of_int}
use Rattle.whole.specs.First.{from}
use Rattle.text.specs.Bytes.{eqs}
use Rattle.text.specs.Field.{spaces_of, digits_of, columns, last_digit, field_text, value_of, candidate, field_of}
use Rattle.tables.specs.Table.{line_of, table_of}
use Rattle.geometry.specs.Plane.{off_grid, cross_of, dot_of, norm2_of, side, lifted, circle, on_open_segment}
use Rattle.ranges.specs.Ranges.{counts_refused, not_below, bad_vertex, bad_half_edge, bad_face, out_of_range}
use Rattle.links.specs.Links.{linked, links_broken}
use Rattle.checks.specs.Checks.{chart_refusal, tables_refusal}
use Rattle.reading.specs.Reading.{counts_of, head_of, body_of, load_of, chart_in}
use Rattle.locate.specs.Location.{location_of}
use Rattle.neighbors.specs.Neighbors.{edge_neighbors, neighbors_of}
use Rattle.weights.specs.Barycentric.{two_point_interpolation, barycentric_interpolation, weigh_two, weigh_three}
use Rattle.natural.specs.Natural.{shares_of}
use Rattle.interpolate.specs.Values.{sum_from}
use Rattle.values.specs.Value.{located_value, value_on}
use Rattle.book.specs.declared.Book.{Book}
use Rattle.book.specs.Books.{bad_book}
use Rattle.accounts.specs.Rulings.{entry_ruling}
use Rattle.accounts.specs.Batch.{batch_of}
use Rattle.accounts.specs.Demand.{Call, fresh, after, answers}
use Rattle.estivolh.specs.Account.{queries}
use Rattle.triangle.specs.TriangleA.{file_a, vertices_a, edges_a, faces_a}

-- 01's log: two bends, a splice, a bend
unfoldable pub log_a : List ℤ
log_a =
    pos 1 ∷ pos 0 ∷ pos 2 ∷ pos 3 ∷ pos 1
    ∷ pos 1 ∷ pos 1 ∷ pos 5 ∷ negsuc 0 ∷ pos 1
    ∷ pos 2 ∷ pos 0 ∷ pos 0 ∷ pos 0 ∷ pos 0
    ∷ pos 1 ∷ pos 0 ∷ pos 5 ∷ pos 0 ∷ pos 2
    ∷ []

-- a book of two sections, of which section 0 has this wear after one bend
unfoldable pub book_of : ℕ → ℕ → Book
book_of wear retired =
    record {
      sections = 2;
      wear = wear ∷ 0 ∷ 0 ∷ 0 ∷ 0 ∷ 0 ∷ 0 ∷ 0 ∷ 0 ∷ 0 ∷ 0 ∷ 0 ∷ 0 ∷ 0 ∷ 0 ∷ 0 ∷ [];
      bends = 1 ∷ 0 ∷ 0 ∷ 0 ∷ 0 ∷ 0 ∷ 0 ∷ 0 ∷ 0 ∷ 0 ∷ 0 ∷ 0 ∷ 0 ∷ 0 ∷ 0 ∷ 0 ∷ [];
      retired = retired;
    }

-- the ropes: two bends, a splice, a bend
unfoldable pub bend : List ℤ
bend = pos 1 ∷ pos 0 ∷ pos 2 ∷ pos 3 ∷ pos 1 ∷ []

unfoldable pub splice : List ℤ
splice = pos 2 ∷ pos 0 ∷ pos 0 ∷ pos 0 ∷ pos 0 ∷ []

abbrev batch_a : List ℤ → Call
batch_a entries = record { chart = file_a; entries = entries; lent = 9 ∷ 9 ∷ 9 ∷ [] }

-- rope one was spliced as the last entry of a batch, rope two halfway through one
unfoldable pub rope_one : List Call
rope_one = batch_a (bend ++ bend ++ splice) ∷ batch_a bend ∷ []

unfoldable pub rope_two : List Call
rope_two = batch_a bend ∷ batch_a (bend ++ splice ++ bend) ∷ []

pub record Rows : Type 0 where
  -- what 01 says that the program prints; the fifth element of the slice is past the last answer
  pub example : batch_of queries (fresh 2) file_a log_a (9 ∷ 9 ∷ 9 ∷ 9 ∷ 9 ∷ [])
      ≡ record { refusal = 0; book = book_of 150 180; answers = 180 ∷ 2000014 ∷ 0 ∷ 150 ∷ 9 ∷ [] }
  -- both ropes start again from nothing
  pub book-one : after queries (fresh 2) rope_one ≡ book_of 180 360
  pub book-two : after queries (fresh 2) rope_two ≡ book_of 180 360
  pub answers_one : answers queries (fresh 2) rope_one ≡ 180 ∷ 180 ∷ 0 ∷ 180 ∷ []
  pub answers-two : answers queries (fresh 2) rope_two ≡ 180 ∷ 180 ∷ 0 ∷ 180 ∷ []

pub rows : Rows
unfolding log_a book_of bend splice rope_one rope_two file_a vertices_a edges_a faces_a from eqs spaces_of digits_of columns last_digit field_text value_of candidate field_of line_of table_of off_grid cross_of dot_of norm2_of side lifted circle on_open_segment counts_refused not_below bad_vertex bad_half_edge bad_face out_of_range linked links_broken chart_refusal tables_refusal counts_of head_of body_of load_of chart_in location_of two_point_interpolation barycentric_interpolation weigh_two weigh_three edge_neighbors neighbors_of add sub mul div of_bits of_int le neg eq sum_from located_value value_on bad_book entry_ruling shares_of
rows = record { example = refl; book-one = refl; book-two = refl; answers_one = refl; answers-two = refl }
