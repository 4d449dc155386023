-- The chart check on triangle A and on damaged copies of it: rows of one table, each computed. Assumes nothing.
use Rattle.std.specs.Prelude.{◌≡◌, refl, [], ◌∷◌, ◌++◌, ℕ, ◌+◌, ◌*◌, length, take, set}
use Rattle.whole.specs.First.{from}
use Rattle.text.specs.Bytes.{eqs}
use Rattle.text.specs.Field.{spaces_of, digits_of, columns, last_digit, field_text, value_of, candidate, field_of}
use Rattle.tables.specs.Table.{line_of, table_of}
use Rattle.geometry.specs.Plane.{off_grid, cross_of, norm2_of, side, lifted, circle}
use Rattle.ranges.specs.Ranges.{counts_refused, not_below, bad_vertex, bad_half_edge, bad_face, out_of_range}
use Rattle.links.specs.Links.{linked, links_broken}
use Rattle.checks.specs.Checks.{chart_refusal, tables_refusal}
use Rattle.checks.specs.Checks.Loaded.{loaded}
use Rattle.reading.specs.Reading.Head.{Counts}
use Rattle.reading.specs.Reading.{counts_of, head_of, body_of, load_of, chart_in, chart_refusal_of}
use Rattle.triangle.specs.TriangleA.{file_a, vertices_a, edges_a, faces_a}

-- the byte in a row of vertices, half-edges or faces: 25 bytes of line 1, then 33 a line; column k
abbrev at : ℕ → ℕ → ℕ
at row k = 25 + 33 * row + k

pub record Rows : Type 0 where
  -- triangle A is accepted, and its tables are these
  pub size : length file_a ≡ 340
  pub accepted : chart_refusal_of file_a ≡ 0
  pub counts : head_of file_a ≡ Counts 3 6 2
  pub tables : chart_in file_a ≡ loaded vertices_a edges_a faces_a
  -- 3: no bytes, 24 bytes, one byte more than the counts give
  pub empty : chart_refusal_of [] ≡ 3
  pub short : chart_refusal_of (take 24 file_a) ≡ 3
  pub long : chart_refusal_of (file_a ++ (10 ∷ [])) ≡ 3
  -- 4: 2 vertices, 7 half-edges; though the length is not what these counts give
  pub few : chart_refusal_of (set file_a 7 50) ≡ 4
  pub odd : chart_refusal_of (set file_a 15 55) ≡ 4
  -- 5: a leading zero, a plus, -0, a line that ends with CR
  pub zero-first : chart_refusal_of (set file_a 6 48) ≡ 5
  pub plus : chart_refusal_of (set file_a (at 1 5) 43) ≡ 5
  pub minus-zero : chart_refusal_of (set file_a (at 0 6) 45) ≡ 5
  pub line-end : chart_refusal_of (set file_a 339 13) ≡ 5
  -- 6: half-edge 0's next is 6; its next is negative
  pub not-below : chart_refusal_of (set file_a (at 3 15) 54) ≡ 6
  pub negative : chart_refusal_of (set file_a (at 3 14) 45) ≡ 6
  -- 7: vertex 0's out half-edge starts elsewhere; face 0's adjacent half-edge has face 1
  pub stray-out : chart_refusal_of (set file_a (at 0 31) 50) ≡ 7
  pub stray-adjacent : chart_refusal_of (set file_a (at 9 7) 48) ≡ 7
  -- 8: vertex 2 moves to vertex 0; 9: it moves to the other side
  pub same_place : chart_refusal_of (set file_a (at 2 14) 32) ≡ 8
  pub right-turn : chart_refusal_of (set file_a (at 2 13) 45) ≡ 9

pub rows : Rows
unfolding file_a vertices_a edges_a faces_a from eqs spaces_of digits_of columns last_digit field_text value_of candidate field_of line_of table_of off_grid cross_of norm2_of side lifted circle counts_refused not_below bad_vertex bad_half_edge bad_face out_of_range linked links_broken chart_refusal tables_refusal counts_of head_of body_of load_of chart_in
rows =
    record {
      size = refl;
      accepted = refl;
      counts = refl;
      tables = refl;
      empty = refl;
      short = refl;
      long = refl;
      few = refl;
      odd = refl;
      zero-first = refl;
      plus = refl;
      minus-zero = refl;
      line-end = refl;
      not-below = refl;
      negative = refl;
      stray-out = refl;
      stray-adjacent = refl;
      same_place = refl;
      right-turn = refl;
    }
