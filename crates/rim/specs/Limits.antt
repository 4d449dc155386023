-- 01, "Where a call can be turned down" and "Chart text": rows beside those of Checked and Loads, each computed: limits at both of their ends,
-- malformed fields, refusals 7 to 11, and pairs of refusals in 01's order. Numbers are written out. Assumes nothing.
use Rattle.std.specs.Prelude.{◌≡◌, refl, [], ◌∷◌, ◌++◌, pos, negsuc, length, take, replicate}
use Rattle.whole.specs.First.{from}
use Rattle.text.specs.Bytes.{eqs}
use Rattle.text.specs.Field.{spaces_of, digits_of, columns, last_digit, field_text, value_of, candidate, field_of}
use Rattle.tables.specs.Table.{line_of, table_of}
use Rattle.geometry.specs.Plane.{off_grid, cross_of, dot_of, norm2_of, side, lifted, circle, on_open_segment}
use Rattle.ranges.specs.Ranges.{counts_refused, not_below, bad_vertex, bad_half_edge, bad_face, out_of_range}
use Rattle.links.specs.Links.{linked, links_broken}
use Rattle.checks.specs.Checks.{chart_refusal, tables_refusal}
use Rattle.reading.specs.Reading.{counts_of, head_of, body_of, load_of, chart_in, chart_refusal_of}
use Rattle.locate.specs.declared.Location.TheVariants.{OnEdge, OutsideOfConvexHull}
use Rattle.locate.specs.Location.{location_of}
use Rattle.query.specs.Location.{locate_on, locate_of}
use Rattle.query.specs.Location.Located.{at, turned_down}
use Rattle.triangle.specs.TriangleA.{file_a, vertices_a, edges_a, faces_a}
use Rattle.rim.specs.Square.{byte, put, figures, square}

pub record Rows : Type 0 where
  -- 4: "vertices not 3 to 128"; the last count that passes is then refused by the length
  pub most-vertices : chart_refusal_of (put file_a 5 (figures (1 ∷ 2 ∷ 8 ∷ []))) ≡ 3
  pub more-vertices : chart_refusal_of (put file_a 5 (figures (1 ∷ 2 ∷ 9 ∷ []))) ≡ 4
  -- 4: "half-edges odd or not 6 to 756"
  pub most-half-edges : chart_refusal_of (put file_a 13 (figures (7 ∷ 5 ∷ 6 ∷ []))) ≡ 3
  pub more-half-edges : chart_refusal_of (put file_a 13 (figures (7 ∷ 5 ∷ 8 ∷ []))) ≡ 4
  pub few-half-edges : chart_refusal_of (put file_a 15 (figures (4 ∷ []))) ≡ 4
  -- 4: "faces not 2 to 252"
  pub most-faces : chart_refusal_of (put file_a 21 (figures (2 ∷ 5 ∷ 2 ∷ []))) ≡ 3
  pub more-faces : chart_refusal_of (put file_a 21 (figures (2 ∷ 5 ∷ 3 ∷ []))) ≡ 4
  pub one-face : chart_refusal_of (put file_a 23 (figures (1 ∷ []))) ≡ 4
  -- 5: "no blank field"
  pub blank : chart_refusal_of (put file_a 7 (32 ∷ [])) ≡ 5
  -- 5: "a minus sign stands next to the first digit"
  pub minus-apart : chart_refusal_of (put file_a (byte 1 4) (45 ∷ [])) ≡ 5
  -- 5: "right-justified after spaces"
  pub left-justified : chart_refusal_of (put file_a (byte 1 0) (figures (1 ∷ 0 ∷ []) ++ replicate 6 32)) ≡ 5
  -- 5: in the tables of half-edges and of faces
  pub half-edge-malformed : chart_refusal_of (put file_a (byte 3 6) (43 ∷ [])) ≡ 5
  pub face-malformed : chart_refusal_of (put file_a (byte 9 6) (43 ∷ [])) ≡ 5
  -- 3: "fewer than 25 bytes": of 24 the line is not looked at, of 25 it is
  pub short-malformed : chart_refusal_of (take 24 (put file_a 6 (48 ∷ []))) ≡ 3
  pub line-1-malformed : chart_refusal_of (take 25 (put file_a 6 (48 ∷ []))) ≡ 5
  -- 6: "value not 0 to 1,000,000"
  pub value-most : chart_refusal_of (put file_a (byte 0 17) (figures (1 ∷ 0 ∷ 0 ∷ 0 ∷ 0 ∷ 0 ∷ 0 ∷ []))) ≡ 0
  pub value-more : chart_refusal_of (put file_a (byte 0 17) (figures (1 ∷ 0 ∷ 0 ∷ 0 ∷ 0 ∷ 0 ∷ 1 ∷ []))) ≡ 6
  pub value-negative : chart_refusal_of (put file_a (byte 0 20) (45 ∷ [])) ≡ 6
  pub value_none : chart_refusal_of (put file_a (byte 0 21) (32 ∷ 32 ∷ figures (0 ∷ []))) ≡ 0
  -- 6: "coordinate not -10,000 to 10,000"
  pub x-most : chart_refusal_of (put file_a (byte 1 3) (figures (1 ∷ 0 ∷ 0 ∷ 0 ∷ 0 ∷ []))) ≡ 0
  pub x-more : chart_refusal_of (put file_a (byte 1 3) (figures (1 ∷ 0 ∷ 0 ∷ 0 ∷ 1 ∷ []))) ≡ 6
  pub x-least : chart_refusal_of (put file_a (byte 0 2) (45 ∷ figures (1 ∷ 0 ∷ 0 ∷ 0 ∷ 0 ∷ []))) ≡ 0
  pub x-less : chart_refusal_of (put file_a (byte 0 2) (45 ∷ figures (1 ∷ 0 ∷ 0 ∷ 0 ∷ 1 ∷ []))) ≡ 6
  pub y-most : chart_refusal_of (put file_a (byte 2 11) (figures (1 ∷ 0 ∷ 0 ∷ 0 ∷ 0 ∷ []))) ≡ 0
  pub y-more : chart_refusal_of (put file_a (byte 2 11) (figures (1 ∷ 0 ∷ 0 ∷ 0 ∷ 1 ∷ []))) ≡ 6
  pub y-less : chart_refusal_of (put file_a (byte 0 10) (45 ∷ figures (1 ∷ 0 ∷ 0 ∷ 0 ∷ 1 ∷ []))) ≡ 6
  -- 6: "a number of a vertex, half-edge or face negative or not below its count"
  pub origin-count : chart_refusal_of (put file_a (byte 3 7) (figures (3 ∷ []))) ≡ 6
  pub face-count : chart_refusal_of (put file_a (byte 3 31) (figures (2 ∷ []))) ≡ 6
  pub adjacent-count : chart_refusal_of (put file_a (byte 9 7) (figures (6 ∷ []))) ≡ 6
  pub out-count : chart_refusal_of (put file_a (byte 0 31) (figures (6 ∷ []))) ≡ 6
  pub prev-count : chart_refusal_of (put file_a (byte 3 23) (figures (6 ∷ []))) ≡ 6
  pub origin-negative : chart_refusal_of (put file_a (byte 3 6) (45 ∷ figures (1 ∷ []))) ≡ 6
  -- 6, in the last line of each table
  pub last-vertex : chart_refusal_of (put file_a (byte 2 31) (figures (6 ∷ []))) ≡ 6
  pub last-half-edge : chart_refusal_of (put file_a (byte 8 31) (figures (2 ∷ []))) ≡ 6
  pub last-face : chart_refusal_of (put file_a (byte 9 16) (figures (6 ∷ []))) ≡ 6
  -- 9: "corners don't turn strictly left": on a line, at three different places
  pub on-a-line : chart_refusal_of (put file_a (byte 2 6) (figures (2 ∷ 0 ∷ []) ++ (replicate 7 32 ++ figures (0 ∷ [])))) ≡ 9
  -- 5 "the rest after 3"
  pub length-first : chart_refusal_of (put file_a (byte 1 5) (43 ∷ []) ++ (10 ∷ [])) ≡ 3
  -- "first hit answers": 5 before 6
  pub malformed-first : chart_refusal_of (put (put file_a (byte 3 15) (figures (6 ∷ []))) 339 (13 ∷ [])) ≡ 5
  -- 6 before 7
  pub range-first : chart_refusal_of (put (put file_a (byte 3 15) (figures (6 ∷ []))) (byte 0 31) (figures (2 ∷ []))) ≡ 6
  -- 7 before 8
  pub links-first : chart_refusal_of (put (put file_a (byte 2 14) (32 ∷ [])) (byte 0 31) (figures (2 ∷ []))) ≡ 7
  -- 9 before 10 and 11
  pub turn-first : chart_refusal_of (put square (byte 2 6) (45 ∷ figures (1 ∷ []))) ≡ 9
  -- the square is accepted: its outer face has four half-edges, and a corner on the other face's circle is not inside
  pub size : length square ≡ 514
  pub accepted : chart_refusal_of square ≡ 0
  -- 7: "the next of h starts at the origin of h's partner": half-edge 9 starts elsewhere, nothing else is broken
  pub next-elsewhere : chart_refusal_of (put square (byte 13 7) (figures (1 ∷ []))) ≡ 7
  -- 10: "a vertex strictly left of an outer half-edge": vertices 1 and 3 move out, to (90,0) and (0,90), and the corner between them is no longer convex
  pub not-convex : chart_refusal_of (put (put square (byte 1 6) (figures (9 ∷ []))) (byte 3 14) (figures (9 ∷ []))) ≡ 10
  -- 11: "a vertex strictly inside an inner face's circle": vertex 2 moves up, and vertex 3 is inside face 1's
  pub in-a-circle : chart_refusal_of (put square (byte 2 14) (figures (2 ∷ []))) ≡ 11
  -- "the lowest outer half-edge with q strictly left": of 1 and 5
  pub lowest-outer : locate_of file_a (negsuc 0) (negsuc 0) ≡ at (OutsideOfConvexHull 1)
  -- 13: "x or y not -10,000 to 10,000"
  pub least : locate_of file_a (negsuc 9999) (negsuc 9999) ≡ at (OutsideOfConvexHull 1)
  pub off-below : locate_of file_a (negsuc 10000) (pos 0) ≡ turned_down 13
  -- "the lowest even half-edge with q on its open segment": the square's middle is on its diagonal
  pub diagonal : locate_of square (pos 5) (pos 5) ≡ at (OnEdge 8)

pub rows : Rows
unfolding file_a vertices_a edges_a faces_a square from eqs spaces_of digits_of columns last_digit field_text value_of candidate field_of line_of table_of off_grid cross_of dot_of norm2_of side lifted circle on_open_segment counts_refused not_below bad_vertex bad_half_edge bad_face out_of_range linked links_broken chart_refusal tables_refusal counts_of head_of body_of load_of chart_in location_of locate_on
rows =
    record {
      most-vertices = refl;
      more-vertices = refl;
      most-half-edges = refl;
      more-half-edges = refl;
      few-half-edges = refl;
      most-faces = refl;
      more-faces = refl;
      one-face = refl;
      blank = refl;
      minus-apart = refl;
      left-justified = refl;
      half-edge-malformed = refl;
      face-malformed = refl;
      short-malformed = refl;
      line-1-malformed = refl;
      value-most = refl;
      value-more = refl;
      value-negative = refl;
      value_none = refl;
      x-most = refl;
      x-more = refl;
      x-least = refl;
      x-less = refl;
      y-most = refl;
      y-more = refl;
      y-less = refl;
      origin-count = refl;
      face-count = refl;
      adjacent-count = refl;
      out-count = refl;
      prev-count = refl;
      origin-negative = refl;
      last-vertex = refl;
      last-half-edge = refl;
      last-face = refl;
      on-a-line = refl;
      length-first = refl;
      malformed-first = refl;
      range-first = refl;
      links-first = refl;
      turn-first = refl;
      size = refl;
      accepted = refl;
      next-elsewhere = refl;
      not-convex = refl;
      in-a-circle = refl;
      lowest-outer = refl;
      least = refl;
      off-below = refl;
      diagonal = refl;
    }
