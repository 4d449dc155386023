-- The exported calls on triangle A: the numbers that include/estivolh.h names (kinds, counts, the book's 34), with 01's and the Rust's answers, as computed rows
-- about the calls' definitions. Assumes nothing.
use Rattle.std.specs.Prelude.{◌≡◌, refl, List, [], ◌∷◌, ◌++◌, map, ℕ, ℤ, pos, Float, get_or, replicate}
use Rattle.std.proofs.Common.{ap, ◌∙◌, arith}
use Rattle.std.specs.Float.{binary64}
use Rattle.std.specs.Float.Ieee.{add, sub, mul, div, le, lt, eq, ne, neg, of_bits, of_int}
use Rattle.whole.specs.First.{from}
use Rattle.text.specs.Bytes.{eqs}
use Rattle.text.specs.Field.{spaces_of, digits_of, columns, last_digit, field_text, value_of, candidate, field_of}
use Rattle.tables.specs.Table.{line_of, table_of}
use Rattle.tables.specs.Text.{line_text, table_text}
use Rattle.geometry.specs.Plane.{off_grid, cross_of, dot_of, norm2_of, side, lifted, circle, on_open_segment}
use Rattle.ranges.specs.Ranges.{counts_refused, not_below, bad_vertex, bad_half_edge, bad_face, out_of_range}
use Rattle.links.specs.Links.{linked, links_broken}
use Rattle.checks.specs.Checks.{chart_refusal, tables_refusal}
use Rattle.reading.specs.Reading.{counts_of, head_of, body_of, load_of, chart_in}
use Rattle.reading.specs.Text.{chart_text}
use Rattle.writing.specs.Writing.{Saved, numbers_refusal, write_refusal, write_of}
use Rattle.writing.specs.Writing.Written.{wrote, turned_down}
use Rattle.sites.specs.Insertion.{vertex_refusal, insert_refusal}
use Rattle.locate.specs.Location.{location_of}
use Rattle.faceset.specs.Set as S
use Rattle.flips.specs.Search.{in_circle, should_flip, inspect, inspect_all}
use Rattle.neighbors.specs.Neighbors.{finished, face_neighbors, inner_edge_neighbors, edge_neighbors, neighbors_of}
use Rattle.points.specs.Points.{circumcenter_of}
use Rattle.weights.specs.Barycentric.{two_point_interpolation, barycentric_interpolation, weigh_two, weigh_three}
use Rattle.turns.specs.Turn.{cell_corner, face_center, turn_from}
use Rattle.natural.specs.Natural.{shares_from, shares_of, settled}
use Rattle.gradient.specs.Gradient.{normal_of, add_normal, gradient_from}
use Rattle.gradient.specs.Turn.{turn, over_pairs}
use Rattle.interpolate.specs.Values.{sum_from}
use Rattle.values.specs.Value.{located_value, value_on}
use Rattle.book.specs.Books.{bad_book}
use Rattle.accounts.specs.Rulings.{entry_ruling}
use Rattle.query.specs.Location.{locate_on}
use Rattle.query.specs.Weights.{barycentric_on}
use Rattle.query.specs.Natural.{edges_on, shares_on}
use Rattle.query.specs.Gradient.{gradient_on}
use Rattle.triangle.specs.TriangleA.{file_a, vertices_a, edges_a, faces_a}
use Rattle.slices.specs.Lent.{Left}
use Rattle.slices.specs.Answers.{WeightsLeft, length_left}
use Rattle.estivolh_c.specs.Queries.{locate_called, barycentric_called, EdgesLeft, edges_called, shares_called, gradient_called, interpolate_called}
use Rattle.estivolh_c.specs.Writing.{TextLeft, text_told, write_called, InsertCalled}
use Rattle.estivolh_c.specs.Account.{charge_called, fresh_called, BatchLeft, batch_called}

-- what a call returns and leaves
abbrev is : {A : Type 0} → ℕ → List A → Left A
is n l = record { answer = n; slice = l }

abbrev weights_are : ℕ → List ℕ → List Float → List ℕ → WeightsLeft
weights_are n vs ws c = record { answer = n; vertices = vs; weights = ws; found = c }

abbrev edges_are : ℕ → List ℕ → List ℕ → EdgesLeft
edges_are n es c = record { answer = n; edges = es; found = c }

abbrev book_is : ℕ → List ℕ → List ℕ → BatchLeft
book_is n b l = record { answer = n; book = b; answers = l }

abbrev text_is : ℕ → List ℕ → List ℕ → TextLeft
text_is n t c = record { answer = n; text = t; found = c }

-- triangle A's half-edges and faces as numbers
abbrev edges_n : List ℤ
edges_n = map pos edges_a

abbrev faces_n : List ℤ
faces_n = map pos faces_a

abbrev bits : ℕ → Float
bits n = of_bits binary64 n

abbrev nines : ℕ → List ℕ
nines n = replicate n 9

abbrev floats : ℕ → List Float
floats n = replicate n (bits 1)

-- a book of two sections in 34 numbers: sections, 16 wears, 16 bend counts, retired wear
abbrev numbers : ℕ → ℕ → ℕ → ℕ → ℕ → List ℕ
numbers w₀ w₁ c₀ c₁ retired = 2 ∷ w₀ ∷ w₁ ∷ replicate 14 0 ++ (c₀ ∷ c₁ ∷ replicate 14 0 ++ (retired ∷ []))

-- a bend of section 0 at (2, 0) by method 1, which costs 120
abbrev bend : List ℤ
bend = pos 1 ∷ pos 0 ∷ pos 2 ∷ pos 0 ∷ pos 1 ∷ []

abbrev refused_with : ℕ → List ℕ → Saved
refused_with n s = record { answer = turned_down n; buffer = s }

not-zero : ◌≡◌ {A = ℕ} 26 0 → ⊥
not-zero e = omega arith

pub record Rows : Type 0 where
  -- `estivolh_locate`: kind and number; kinds are 1 vertex, 2 edge, 3 face, 4 outside (01's "Loads at the rim")
  pub vertex : locate_called file_a (pos 10) (pos 0) (nines 3) ≡ is 0 (1 ∷ 1 ∷ 9 ∷ [])
  pub edge : locate_called file_a (pos 5) (pos 5) (nines 3) ≡ is 0 (2 ∷ 2 ∷ 9 ∷ [])
  pub face : locate_called file_a (pos 2) (pos 3) (nines 3) ≡ is 0 (3 ∷ 1 ∷ 9 ∷ [])
  pub outside : locate_called file_a (pos 6) (pos 5) (nines 2) ≡ is 0 (4 ∷ 3 ∷ [])
  pub locate-short : locate_called file_a (pos 5) (pos 0) (nines 1) ≡ is 2 (nines 1)
  pub locate-refused : locate_called [] (pos 5) (pos 0) (nines 2) ≡ is 3 (nines 2)
  -- `estivolh_barycentric_weights`: up to 3 vertices, their weights, how many; the Rust's bits
  pub weights :
      barycentric_called file_a (pos 2) (pos 3) (nines 4) (floats 4) (nines 2)
      ≡ weights_are 0 (2 ∷ 0 ∷ 1 ∷ 9 ∷ []) (bits 4599075939470750515 ∷ bits 4602678819172646912 ∷ bits 4596373779694328216 ∷ bits 1 ∷ []) (3 ∷ 9 ∷ [])
  pub weights-short : barycentric_called file_a (pos 2) (pos 3) (nines 2) (floats 3) (nines 1) ≡ weights_are 2 (nines 2) (floats 3) (nines 1)
  pub weights-short-2 : barycentric_called file_a (pos 2) (pos 3) (nines 3) (floats 2) (nines 1) ≡ weights_are 2 (nines 3) (floats 2) (nines 1)
  pub weights-short-3 : barycentric_called file_a (pos 2) (pos 3) (nines 3) (floats 3) [] ≡ weights_are 2 (nines 3) (floats 3) []
  pub weights-refused : barycentric_called file_a (pos 6) (pos 5) (nines 3) (floats 3) (nines 1) ≡ weights_are 14 (nines 3) (floats 3) (nines 1)
  -- `estivolh_natural_neighbor_edges`: how many, then how many faces were opened; the Rust's list
  pub edges : edges_called file_a (pos 2) (pos 3) (nines 6) (nines 3) ≡ edges_are 0 (4 ∷ 0 ∷ 2 ∷ 9 ∷ 9 ∷ 9 ∷ []) (3 ∷ 1 ∷ 9 ∷ [])
  pub edges-short : edges_called file_a (pos 2) (pos 3) (nines 6) (nines 1) ≡ edges_are 2 (nines 6) (nines 1)
  pub edges_room : edges_called file_a (pos 2) (pos 3) (nines 5) (nines 2) ≡ edges_are 2 (nines 5) (nines 2)
  pub edges-refused : edges_called file_a (pos 6) (pos 5) (nines 6) (nines 2) ≡ edges_are 14 (nines 6) (nines 2)
  -- `estivolh_natural_neighbor_weights`
  pub natural :
      shares_called file_a (pos 2) (pos 3) (nines 6) (floats 6) (nines 2)
      ≡ weights_are 0 (2 ∷ 0 ∷ 1 ∷ 9 ∷ 9 ∷ 9 ∷ []) (bits 4599075939470750514 ∷ bits 4602678819172646911 ∷ bits 4596373779694328218 ∷ floats 3) (3 ∷ 1 ∷ [])
  pub natural-short : shares_called file_a (pos 2) (pos 3) (nines 6) (floats 6) (nines 1) ≡ weights_are 2 (nines 6) (floats 6) (nines 1)
  pub natural-refused : shares_called file_a (pos 6) (pos 5) (nines 6) (floats 6) (nines 2) ≡ weights_are 14 (nines 6) (floats 6) (nines 2)
  -- `estivolh_estimate_gradient`: x, then y: 10 and 20
  pub gradient : gradient_called file_a 1 (floats 3) ≡ is 0 (bits 4621819117588971520 ∷ bits 4626322717216342016 ∷ bits 1 ∷ [])
  pub gradient-short : gradient_called file_a 1 (floats 1) ≡ is 2 (floats 1)
  pub gradient-refused : gradient_called file_a 3 (floats 2) ≡ is 12 (floats 2)
  -- `estivolh_interpolate`: chart, method, x, y: 120 at (2, 0)
  pub value : interpolate_called file_a (pos 1) (pos 2) (pos 0) (floats 2) ≡ is 0 (bits 4638144666238189568 ∷ bits 1 ∷ [])
  pub value-short : interpolate_called file_a (pos 1) (pos 2) (pos 0) [] ≡ is 2 []
  pub value-refused : interpolate_called file_a (pos 1) (pos 6) (pos 5) (floats 1) ≡ is 14 (floats 1)
  -- `estivolh_charge`: 149.5 costs 150, 1,000,000.5 nothing
  pub charge : charge_called (bits 0x4062_b000_0000_0000) (nines 2) ≡ is 0 (150 ∷ 9 ∷ [])
  pub charge-short : charge_called (bits 0x4062_b000_0000_0000) [] ≡ is 2 []
  pub charge-refused : charge_called (bits 0x412e_8481_0000_0000) (nines 1) ≡ is 16 (nines 1)
  -- `estivolh_fresh`: 34 numbers
  pub fresh : fresh_called 2 (nines 35) ≡ is 0 (2 ∷ replicate 33 0 ++ (9 ∷ []))
  pub fresh-short : fresh_called 2 (nines 33) ≡ is 2 (nines 33)
  pub fresh-refused : fresh_called 17 (nines 34) ≡ is 1 (nines 34)
  -- `estivolh_batch`: section 0 has 120 more and one bend more; section 1 and the retired wear are as they were
  pub batch : batch_called (numbers 3 7 4 2 5) file_a bend (nines 2) ≡ book_is 0 (numbers 123 7 5 2 5) (120 ∷ 9 ∷ [])
  pub batch-splice : batch_called (numbers 3 7 4 2 5) file_a (pos 2 ∷ pos 1 ∷ pos 0 ∷ pos 0 ∷ pos 0 ∷ []) (nines 1) ≡ book_is 0 (numbers 3 0 4 0 12) (0 ∷ [])
  pub batch-short : batch_called (nines 33) file_a bend (nines 1) ≡ book_is 2 (nines 33) (nines 1)
  pub batch-bad-book : batch_called (nines 34) file_a bend (nines 1) ≡ book_is 1 (nines 34) (nines 1)
  pub batch-refused : batch_called (numbers 3 7 4 2 5) [] bend (nines 1) ≡ book_is 3 (numbers 3 7 4 2 5) (nines 1)
  -- `estivolh_write_chart` (02, CR 1): the text, bytes past it unchanged, and its length, 340
  pub text : write_called vertices_a edges_n faces_n (nines 342) (nines 2) ≡ text_is 0 (file_a ++ nines 2) (340 ∷ 9 ∷ [])
  -- and with exactly so much room for both
  pub text-exact : write_called vertices_a edges_n faces_n (nines 340) (nines 1) ≡ text_is 0 file_a (340 ∷ [])
  -- the length of another text
  pub text-length : length_left (wrote 514) (nines 2) ≡ is 0 (514 ∷ 9 ∷ [])
  -- refused, it writes neither: a buffer of 339 bytes; 13 numbers of vertices; no faces
  pub text-short : write_called vertices_a edges_n faces_n (nines 339) (nines 2) ≡ text_is 18 (nines 339) (nines 2)
  pub text-uneven : write_called (pos 0 ∷ vertices_a) edges_n faces_n (nines 342) (nines 2) ≡ text_is 2 (nines 342) (nines 2)
  pub text-refused : write_called vertices_a edges_n [] (nines 342) (nines 1) ≡ text_is 4 (nines 342) (nines 1)
  -- no room for the length, before all else; of tables that nothing else meets, nothing is written either
  pub text-unfound : write_called vertices_a edges_n [] (nines 342) [] ≡ text_is 2 (nines 342) []
  pub text-unfound-alone : write_called vertices_a edges_n faces_n (nines 342) [] ≡ text_is 2 (nines 342) []
  -- a new bench test: on the rim, and with no room for the length, before all else; neither writes
  pub insert-refused : InsertCalled file_a (pos 5) (pos 0) (pos 150) (nines 600) (nines 2) (text_is 26 (nines 600) (nines 2))
  pub insert-unfound : InsertCalled file_a (pos 5) (pos 0) (pos 150) (nines 600) [] (text_is 2 (nines 600) [])
  -- no other number, and no byte written
  pub insert-other : InsertCalled file_a (pos 5) (pos 0) (pos 150) (nines 3) (nines 1) (text_is 14 (nines 3) (nines 1)) → ⊥
  pub insert-written : InsertCalled file_a (pos 5) (pos 0) (pos 150) (nines 3) (nines 1) (text_is 26 (nines 2 ++ (8 ∷ [])) (nines 1)) → ⊥

pub rows : Rows
unfolding vertex_refusal insert_refusal file_a vertices_a edges_a faces_a from eqs spaces_of digits_of columns last_digit field_text value_of candidate field_of line_of table_of line_text table_text off_grid cross_of dot_of norm2_of side lifted circle on_open_segment counts_refused not_below bad_vertex bad_half_edge bad_face out_of_range linked links_broken chart_refusal tables_refusal counts_of head_of body_of load_of chart_in chart_text numbers_refusal write_refusal write_of location_of S.none S.add S.count_below in_circle should_flip inspect inspect_all finished face_neighbors inner_edge_neighbors edge_neighbors neighbors_of circumcenter_of two_point_interpolation barycentric_interpolation weigh_two weigh_three cell_corner face_center turn_from shares_from shares_of settled normal_of add_normal gradient_from turn over_pairs sum_from located_value value_on bad_book entry_ruling locate_on barycentric_on edges_on shares_on gradient_on add sub mul div le lt eq ne neg of_bits of_int
rows =
    record {
      vertex = refl;
      edge = refl;
      face = refl;
      outside = refl;
      locate-short = refl;
      locate-refused = refl;
      weights = refl;
      weights-short = refl;
      weights-short-2 = refl;
      weights-short-3 = refl;
      weights-refused = refl;
      edges = refl;
      edges-short = refl;
      edges_room = refl;
      edges-refused = refl;
      natural = refl;
      natural-short = refl;
      natural-refused = refl;
      gradient = refl;
      gradient-short = refl;
      gradient-refused = refl;
      value = refl;
      value-short = refl;
      value-refused = refl;
      charge = refl;
      charge-short = refl;
      charge-refused = refl;
      fresh = refl;
      fresh-short = refl;
      fresh-refused = refl;
      batch = refl;
      batch-splice = refl;
      batch-short = refl;
      batch-bad-book = refl;
      batch-refused = refl;
      text = refl;
      text-exact = refl;
      text-length = refl;
      text-short = refl;
      text-uneven = refl;
      text-refused = refl;
      text-unfound = refl;
      text-unfound-alone = refl;
      insert-refused = record { done = refused_with 26 (nines 600); inserts = λ l. record { text = []; inserted = λ e. absurd (not-zero e); left = refl }; told = refl };
      insert-unfound = record { done = refused_with 0 []; inserts = λ l. absurd (omega arith); told = refl };
      insert-other = λ i. let e : ◌≡◌ {A = ℕ} 14 26 = ap (λ (t : TextLeft). t.answer) i.told ∙ ap (λ (s : Saved). (text_told s (nines 1)).answer) (i.inserts (omega arith)).left in omega arith;
      insert-written = λ i. let e : ◌≡◌ {A = ℕ} 8 9 = ap (λ (t : TextLeft). get_or t.text 2 0) i.told ∙ ap (λ (s : Saved). get_or s.buffer 2 0) (i.inserts (omega arith)).left in omega arith;
    }
