-- 02, CR 1: what the writing call says and leaves, each row computed, with numbers written out: triangle A's tables and the square's, damaged copies of
-- them, buffers as long as the text, longer and shorter, and pairs of refusals in 02's order; and texts of fields and lines. Assumes nothing.
use Rattle.std.specs.Prelude.{◌≡◌, refl, List, [], ◌∷◌, ◌++◌, map, ℕ, ℤ, pos, negsuc, take, set, replicate}
use Rattle.std.proofs.Common.{arith}
use Rattle.whole.specs.First.{from}
use Rattle.text.specs.Bytes.{eqs}
use Rattle.text.specs.Field.{spaces_of, digits_of, columns, last_digit, field_text, value_of, candidate, field_of}
use Rattle.text.specs.RoundTrip.{Fits}
use Rattle.tables.specs.Table.{line_of, table_of}
use Rattle.tables.specs.Text.{line_text, table_text}
use Rattle.geometry.specs.Plane.{off_grid, cross_of, norm2_of, side, lifted, circle}
use Rattle.ranges.specs.Ranges.{counts_refused, not_below, bad_vertex, bad_half_edge, bad_face, out_of_range}
use Rattle.links.specs.Links.{linked, links_broken}
use Rattle.checks.specs.Checks.{chart_refusal, tables_refusal}
use Rattle.reading.specs.Reading.{counts_of, head_of, file_length, body_of}
use Rattle.reading.specs.Reading.Body.{body, malformed}
use Rattle.reading.specs.Text.{chart_text, numbers_in}
use Rattle.writing.specs.Writing.{Written, Saved, numbers_refusal, write_refusal, write_of}
use Rattle.writing.specs.Writing.Written.{wrote, turned_down}
use Rattle.triangle.specs.TriangleA.{file_a, vertices_a, edges_a, faces_a}
use Rattle.rim.specs.Square.{byte, put, figures, square}

-- what a call says and leaves
abbrev saved : Written → List ℕ → Saved
saved a s = record { answer = a; buffer = s }

-- so many bytes to write over
abbrev sevens : ℕ → List ℕ
sevens n = replicate n 7

abbrev spaces : ℕ → List ℕ → List ℕ
spaces n s = replicate n 32 ++ s

-- triangle A's half-edges and faces as numbers
abbrev edges_n : List ℤ
edges_n = map pos edges_a

abbrev faces_n : List ℤ
faces_n = map pos faces_a

-- the tables of the square
abbrev vertices_q : List ℤ
vertices_q =
    pos 0 ∷ pos 0 ∷ pos 1 ∷ pos 0
    ∷ pos 10 ∷ pos 0 ∷ pos 2 ∷ pos 2
    ∷ pos 10 ∷ pos 10 ∷ pos 3 ∷ pos 4
    ∷ pos 0 ∷ pos 10 ∷ pos 4 ∷ pos 6 ∷ []

abbrev edges_q : List ℤ
edges_q =
    pos 0 ∷ pos 2 ∷ pos 9 ∷ pos 1
    ∷ pos 1 ∷ pos 7 ∷ pos 3 ∷ pos 0
    ∷ pos 1 ∷ pos 9 ∷ pos 0 ∷ pos 1
    ∷ pos 2 ∷ pos 1 ∷ pos 5 ∷ pos 0
    ∷ pos 2 ∷ pos 6 ∷ pos 8 ∷ pos 2
    ∷ pos 3 ∷ pos 3 ∷ pos 7 ∷ pos 0
    ∷ pos 3 ∷ pos 8 ∷ pos 4 ∷ pos 2
    ∷ pos 0 ∷ pos 5 ∷ pos 1 ∷ pos 0
    ∷ pos 0 ∷ pos 4 ∷ pos 6 ∷ pos 2
    ∷ pos 2 ∷ pos 0 ∷ pos 2 ∷ pos 1 ∷ []

abbrev faces_q : List ℤ
faces_q = pos 1 ∷ pos 0 ∷ pos 8 ∷ []

pub record Rows : Type 0 where
  -- the text of a number in a field: "right-justified after spaces", "a minus sign stands next to the first digit"
  pub nought : field_text 8 (pos 0) ≡ spaces 7 (figures (0 ∷ []))
  pub value-most : field_text 8 (pos 1000000) ≡ spaces 1 (figures (1 ∷ 0 ∷ 0 ∷ 0 ∷ 0 ∷ 0 ∷ 0 ∷ []))
  pub minus_one : field_text 8 (negsuc 0) ≡ spaces 6 (45 ∷ figures (1 ∷ []))
  pub x-least : field_text 8 (negsuc 9999) ≡ spaces 2 (45 ∷ figures (1 ∷ 0 ∷ 0 ∷ 0 ∷ 0 ∷ []))
  -- the most and the least that 8 columns hold; of a number that does not fit, its last digits and no sign
  pub most : field_text 8 (pos 99999999) ≡ replicate 8 57
  pub least : field_text 8 (negsuc 9999998) ≡ 45 ∷ replicate 7 57
  pub most-fits : Fits 8 (pos 99999999)
  pub least_fits : Fits 8 (negsuc 9999998)
  pub above : field_text 8 (pos 123456789) ≡ figures (2 ∷ 3 ∷ 4 ∷ 5 ∷ 6 ∷ 7 ∷ 8 ∷ 9 ∷ [])
  pub below : field_text 8 (negsuc 12345677) ≡ figures (1 ∷ 2 ∷ 3 ∷ 4 ∷ 5 ∷ 6 ∷ 7 ∷ 8 ∷ [])
  -- a field of another width
  pub wider : field_text 16 (negsuc 9999) ≡ spaces 10 (45 ∷ figures (1 ∷ 0 ∷ 0 ∷ 0 ∷ 0 ∷ []))
  pub one-column : field_text 1 (pos 7) ≡ figures (7 ∷ [])
  pub no-column : field_text 0 (pos 7) ≡ []
  -- a line of fields
  pub line : line_text (pos 3 ∷ negsuc 5 ∷ []) ≡ spaces 7 (figures (3 ∷ []) ++ spaces 6 (45 ∷ figures (6 ∷ []) ++ (10 ∷ [])))
  pub no_fields : line_text [] ≡ 10 ∷ []
  -- as many lines as are asked for: no number past them, and no field where the numbers have ended
  pub left_over : table_text 1 1 (pos 3 ∷ pos 4 ∷ []) ≡ spaces 7 (figures (3 ∷ []) ++ (10 ∷ []))
  pub run_out : table_text 1 2 (pos 3 ∷ []) ≡ spaces 7 (figures (3 ∷ []) ++ (10 ∷ 10 ∷ []))
  -- "The bytes equal the file that was read": the tables of triangle A's file as numbers, and what is written of them into exactly as many bytes
  pub numbers : numbers_in file_a ≡ body vertices_a edges_n faces_n
  pub exact : write_of vertices_a edges_n faces_n (sevens 340) ≡ saved (wrote 340) file_a
  -- two bytes more are as they were
  pub past : write_of vertices_a edges_n faces_n (sevens 342) ≡ saved (wrote 340) (file_a ++ sevens 2)
  -- "18 when the buffer is shorter than the text ..; nothing is written"
  pub short : write_of vertices_a edges_n faces_n (sevens 339) ≡ saved (turned_down 18) (sevens 339)
  pub no_room : write_of vertices_a edges_n faces_n [] ≡ saved (turned_down 18) []
  -- coordinates below 0: x -10,000 and y -1
  pub below-nought : write_of (set (set vertices_a 0 (negsuc 9999)) 1 (negsuc 0)) edges_n faces_n (sevens 340) ≡ saved (wrote 340) (put (put file_a (byte 0 2) (45 ∷ figures (1 ∷ 0 ∷ 0 ∷ 0 ∷ 0 ∷ []))) (byte 0 14) (45 ∷ figures (1 ∷ [])))
  -- 3 faces, no multiple of four, are no reason for 2
  pub three-faces : write_of vertices_q edges_q faces_q (sevens 514) ≡ saved (wrote 514) square
  -- the square's room is another than triangle A's
  pub short-square : write_of vertices_q edges_q faces_q (sevens 513) ≡ saved (turned_down 18) (sevens 513)
  -- the numbers of other files: of the square; of one that 9 meets; 3, 5 and 4 of line 1 (24 bytes; a plus before the 3; 2 vertices)
  pub numbers-square : numbers_in square ≡ body vertices_q edges_q faces_q
  pub numbers-nine : numbers_in (put file_a (byte 2 13) (45 ∷ figures (1 ∷ 0 ∷ []))) ≡ body (set vertices_a 9 (negsuc 9)) edges_n faces_n
  pub numbers-three : numbers_in (take 24 file_a) ≡ malformed 3
  pub numbers-five : numbers_in (put file_a 6 (43 ∷ [])) ≡ malformed 5
  pub numbers-four : numbers_in (put file_a 7 (figures (2 ∷ []))) ≡ malformed 4
  -- the longest text: 128 vertices, 756 half-edges, 252 faces; of the fewest, triangle A's
  pub longest : file_length 128 756 252 ≡ 31465
  pub shortest : file_length 3 6 2 ≡ 340
  -- triangle A into a buffer that is longer than the longest text
  pub far-past : write_of vertices_a edges_n faces_n (sevens 31466) ≡ saved (wrote 340) (file_a ++ sevens 31126)
  -- "2, when the vertex or half-edge slice is no multiple of four": 13 and 11 numbers of vertices, 23 and 25 of half-edges
  pub vertices-more : write_of (vertices_a ++ (pos 0 ∷ [])) edges_n faces_n (sevens 340) ≡ saved (turned_down 2) (sevens 340)
  pub vertices-fewer : write_of (take 11 vertices_a) edges_n faces_n (sevens 340) ≡ saved (turned_down 2) (sevens 340)
  pub edges-fewer : write_of vertices_a (take 23 edges_n) faces_n (sevens 340) ≡ saved (turned_down 2) (sevens 340)
  pub edges_more : write_of vertices_a (edges_n ++ (pos 0 ∷ [])) faces_n (sevens 340) ≡ saved (turned_down 2) (sevens 340)
  -- and even numbers of them: 14, 26, and both, 40 together
  pub vertices-two-more : write_of (vertices_a ++ (pos 0 ∷ pos 0 ∷ [])) edges_n faces_n (sevens 340) ≡ saved (turned_down 2) (sevens 340)
  pub edges-two-more : write_of vertices_a (edges_n ++ (pos 0 ∷ pos 0 ∷ [])) faces_n (sevens 340) ≡ saved (turned_down 2) (sevens 340)
  pub both-two-more : write_of (vertices_a ++ (pos 0 ∷ pos 0 ∷ [])) (edges_n ++ (pos 0 ∷ pos 0 ∷ [])) faces_n (sevens 340) ≡ saved (turned_down 2) (sevens 340)
  -- 0 is a multiple of four: 4
  pub no-vertices : write_of [] edges_n faces_n (sevens 340) ≡ saved (turned_down 4) (sevens 340)
  pub no_edges : write_of vertices_a [] faces_n (sevens 340) ≡ saved (turned_down 4) (sevens 340)
  pub nothing : write_of [] [] [] [] ≡ saved (turned_down 4) []
  -- 4: "vertices not 3 to 128": of 128 it is the links that are broken
  pub two-vertices : write_of (take 8 vertices_a) edges_n faces_n [] ≡ saved (turned_down 4) []
  pub most-vertices : write_of (replicate 512 (pos 0)) edges_n faces_n [] ≡ saved (turned_down 7) []
  pub more-vertices : write_of (replicate 516 (pos 0)) edges_n faces_n [] ≡ saved (turned_down 4) []
  -- 4: "half-edges odd or not 6 to 756": of 756 it is the x of 10,001
  pub five-edges : write_of vertices_a (take 20 edges_n) faces_n [] ≡ saved (turned_down 4) []
  pub four-edges : write_of vertices_a (take 16 edges_n) faces_n [] ≡ saved (turned_down 4) []
  pub most-edges : write_of (set vertices_a 4 (pos 10001)) (replicate 3024 (pos 0)) faces_n [] ≡ saved (turned_down 6) []
  pub more_edges : write_of (set vertices_a 4 (pos 10001)) (replicate 3032 (pos 0)) faces_n [] ≡ saved (turned_down 4) []
  -- 4: "faces not 2 to 252": of 252 it is the links again
  pub one-face : write_of vertices_a edges_n (pos 1 ∷ []) [] ≡ saved (turned_down 4) []
  pub most-faces : write_of vertices_a edges_n (replicate 252 (pos 0)) [] ≡ saved (turned_down 7) []
  pub more-faces : write_of vertices_a edges_n (replicate 253 (pos 0)) [] ≡ saved (turned_down 4) []
  -- 6: a number below 0, of each table, is none that is taken over as 0: vertex 0's out half-edge, half-edge 0's origin, face 1's adjacent half-edge
  pub out-negative : write_of (set vertices_a 3 (negsuc 0)) edges_n faces_n (sevens 340) ≡ saved (turned_down 6) (sevens 340)
  pub origin-negative : write_of vertices_a (set edges_n 0 (negsuc 0)) faces_n (sevens 340) ≡ saved (turned_down 6) (sevens 340)
  pub adjacent-negative : write_of vertices_a edges_n (set faces_n 1 (negsuc 0)) (sevens 340) ≡ saved (turned_down 6) (sevens 340)
  -- "first hit answers": 2 before 4 (5 half-edges, and 13 numbers of vertices), 6 and 18
  pub two-before-four : write_of (vertices_a ++ (pos 0 ∷ [])) (take 20 edges_n) faces_n [] ≡ saved (turned_down 2) []
  pub two-before-six : write_of (set vertices_a 4 (pos 10001)) (take 23 edges_n) faces_n [] ≡ saved (turned_down 2) []
  -- 4 before 6 (5 half-edges, and an x of 10,001)
  pub four-before-six : write_of (set vertices_a 4 (pos 10001)) (take 20 edges_n) faces_n (sevens 339) ≡ saved (turned_down 4) (sevens 339)
  -- 6 to 11, each before 18: an x of 10,001; vertex 0's out half-edge starts elsewhere; vertex 2 at vertex 0; a right turn
  pub six-first : write_of (set vertices_a 4 (pos 10001)) edges_n faces_n (sevens 339) ≡ saved (turned_down 6) (sevens 339)
  pub seven-first : write_of (set vertices_a 3 (pos 2)) edges_n faces_n (sevens 339) ≡ saved (turned_down 7) (sevens 339)
  pub eight-first : write_of (set vertices_a 9 (pos 0)) edges_n faces_n (sevens 339) ≡ saved (turned_down 8) (sevens 339)
  pub nine-first : write_of (set vertices_a 9 (negsuc 9)) edges_n faces_n (sevens 339) ≡ saved (turned_down 9) (sevens 339)
  -- and on the square: a corner that is not convex; a vertex inside a circle
  pub ten-first : write_of (set (set vertices_q 4 (pos 90)) 13 (pos 90)) edges_q faces_q (sevens 513) ≡ saved (turned_down 10) (sevens 513)
  pub eleven-first : write_of (set vertices_q 9 (pos 20)) edges_q faces_q (sevens 513) ≡ saved (turned_down 11) (sevens 513)
  -- and each with room too
  pub six : write_of (set vertices_a 4 (pos 10001)) edges_n faces_n (sevens 340) ≡ saved (turned_down 6) (sevens 340)
  pub seven : write_of (set vertices_a 3 (pos 2)) edges_n faces_n (sevens 340) ≡ saved (turned_down 7) (sevens 340)
  pub eight : write_of (set vertices_a 9 (pos 0)) edges_n faces_n (sevens 340) ≡ saved (turned_down 8) (sevens 340)
  pub nine : write_of (set vertices_a 9 (negsuc 9)) edges_n faces_n (sevens 340) ≡ saved (turned_down 9) (sevens 340)
  pub ten : write_of (set (set vertices_q 4 (pos 90)) 13 (pos 90)) edges_q faces_q (sevens 514) ≡ saved (turned_down 10) (sevens 514)
  pub eleven : write_of (set vertices_q 9 (pos 20)) edges_q faces_q (sevens 514) ≡ saved (turned_down 11) (sevens 514)

pub rows : Rows
unfolding file_a vertices_a edges_a faces_a square from eqs spaces_of digits_of columns last_digit field_text value_of candidate field_of line_of table_of line_text table_text off_grid cross_of norm2_of side lifted circle counts_refused not_below bad_vertex bad_half_edge bad_face out_of_range linked links_broken chart_refusal tables_refusal counts_of head_of body_of chart_text numbers_refusal write_refusal write_of
rows =
    record {
      nought = refl;
      value-most = refl;
      minus_one = refl;
      x-least = refl;
      most = refl;
      least = refl;
      most-fits = (omega arith, omega arith);
      least_fits = (omega arith, omega arith);
      above = refl;
      below = refl;
      wider = refl;
      one-column = refl;
      no-column = refl;
      line = refl;
      no_fields = refl;
      left_over = refl;
      run_out = refl;
      numbers = refl;
      exact = refl;
      past = refl;
      short = refl;
      no_room = refl;
      below-nought = refl;
      three-faces = refl;
      short-square = refl;
      numbers-square = refl;
      numbers-nine = refl;
      numbers-three = refl;
      numbers-five = refl;
      numbers-four = refl;
      longest = refl;
      shortest = refl;
      far-past = refl;
      vertices-more = refl;
      vertices-fewer = refl;
      edges-fewer = refl;
      edges_more = refl;
      vertices-two-more = refl;
      edges-two-more = refl;
      both-two-more = refl;
      no-vertices = refl;
      no_edges = refl;
      nothing = refl;
      two-vertices = refl;
      most-vertices = refl;
      more-vertices = refl;
      five-edges = refl;
      four-edges = refl;
      most-edges = refl;
      more_edges = refl;
      one-face = refl;
      most-faces = refl;
      more-faces = refl;
      out-negative = refl;
      origin-negative = refl;
      adjacent-negative = refl;
      two-before-four = refl;
      two-before-six = refl;
      four-before-six = refl;
      six-first = refl;
      seven-first = refl;
      eight-first = refl;
      nine-first = refl;
      ten-first = refl;
      eleven-first = refl;
      six = refl;
      seven = refl;
      eight = refl;
      nine = refl;
      ten = refl;
      eleven = refl;
    }
