-- 02, CR 13: which new bench tests are refused, and what the new chart is to the old one: on triangle A, on the square, and on charts of 127 and 128 vertices.
-- The tables of triangle A with a test at (2,3) are those that the sources' own `insert_into_triangle` leaves. Each row is computed. Assumes nothing.
use Rattle.std.specs.Prelude.{◌≡◌, refl, true, List, [], ◌∷◌, ◌++◌, map, ℕ, zero, suc, ◌+◌, ◌/◌, ◌≤◌, ◌<◌, ℤ, pos, negsuc, length, drop, set, replicate}
use Rattle.std.proofs.Common.{subst, ap, ◌∙◌, arith, lit<, lt-ltb, le-ltb}
use Rattle.std.proofs.lemmas.List.{length-replicate}
use Rattle.whole.specs.Bools.{never}
use Rattle.whole.specs.First.{from}
use Rattle.text.specs.Bytes.{eqs}
use Rattle.text.specs.Field.{spaces_of, digits_of, columns, last_digit, field_text, value_of, candidate, field_of}
use Rattle.tables.specs.Table.{line_of, table_of}
use Rattle.tables.specs.Text.{line_text, table_text}
use Rattle.geometry.specs.declared.Place.{Place}
use Rattle.geometry.specs.Plane.{off_grid, cross_of, dot_of, norm2_of, side, lifted, circle, on_open_segment}
use Rattle.chart.specs.Chart.{Chart, chart_of}
use Rattle.ranges.specs.Ranges.{counts_refused, not_below, bad_vertex, bad_half_edge, bad_face, out_of_range}
use Rattle.links.specs.Links.{linked, links_broken}
use Rattle.checks.specs.Checks.{chart_refusal, tables_refusal}
use Rattle.reading.specs.Reading.{counts_of, head_of, file_length, body_of, load_of, chart_in}
use Rattle.reading.specs.Text.{chart_text}
use Rattle.locate.specs.declared.Location.TheVariants.{OnEdge}
use Rattle.locate.specs.Location.{location_of}
use Rattle.patches.specs.Rows.{hit_of, face_hit}
use Rattle.patches.specs.Flip.{flipped}
use Rattle.patches.specs.Insert.{inserted}
use Rattle.patches.specs.Split.{split}
use Rattle.writing.specs.Writing.{Written, Saved, room_refusal, saved_by}
use Rattle.writing.specs.Writing.Written.{wrote, turned_down}
use Rattle.sites.specs.Insertion.{no_site, vertex_refusal, insert_refusal, Extended}
use Rattle.inserting.specs.Inserting.{Inserted, Inserts}
use Rattle.inserting.specs.Laws.{same-chart}
use Rattle.triangle.specs.TriangleA.{file_a, vertices_a, edges_a, faces_a}
use Rattle.rim.specs.Square.{byte, put, figures, square}

abbrev place : ℕ → ℕ → Place
place x y = record { x = pos x; y = pos y }

-- what a call says and leaves, and so many bytes to write over
abbrev saved : Written → List ℕ → Saved
saved a s = record { answer = a; buffer = s }

abbrev sevens : ℕ → List ℕ
sevens n = replicate n 7

-- a test on triangle A, on its file with a damage that 9 meets, and on the square
abbrev on_a : Place → ℤ → ℕ
on_a q z = insert_refusal (chart_in file_a) q z

abbrev on_nine : Place → ℤ → ℕ
on_nine q z = insert_refusal (chart_in (put file_a (byte 2 13) (45 ∷ figures (1 ∷ 0 ∷ [])))) q z

abbrev on_square : Place → ℤ → ℕ
on_square q z = insert_refusal (chart_in square) q z

-- so many vertices, all at (0,0)
abbrev crowd : ℕ → Chart
crowd n =
    record {
      vertices = n;
      half_edges = 0;
      faces = 0;
      place = λ v. place 0 0;
      value = λ v. pos 0;
      out = λ v. 0;
      origin = λ h. 0;
      next = λ h. 0;
      prev = λ h. 0;
      face = λ h. 0;
      adjacent = λ f. 0;
    }

-- triangle A with a test at (2,3), of value 150
abbrev vertices_n : List ℤ
vertices_n =
    pos 0 ∷ pos 0 ∷ pos 100 ∷ pos 0
    ∷ pos 10 ∷ pos 0 ∷ pos 200 ∷ pos 2
    ∷ pos 0 ∷ pos 10 ∷ pos 300 ∷ pos 4
    ∷ pos 2 ∷ pos 3 ∷ pos 150 ∷ pos 7 ∷ []

abbrev edges_n : List ℕ
edges_n =
    0 ∷ 6 ∷ 11 ∷ 1
    ∷ 1 ∷ 5 ∷ 3 ∷ 0
    ∷ 1 ∷ 8 ∷ 7 ∷ 2
    ∷ 2 ∷ 1 ∷ 5 ∷ 0
    ∷ 2 ∷ 10 ∷ 9 ∷ 3
    ∷ 0 ∷ 3 ∷ 1 ∷ 0
    ∷ 1 ∷ 11 ∷ 0 ∷ 1
    ∷ 3 ∷ 2 ∷ 8 ∷ 2
    ∷ 2 ∷ 7 ∷ 2 ∷ 2
    ∷ 3 ∷ 4 ∷ 10 ∷ 3
    ∷ 0 ∷ 9 ∷ 4 ∷ 3
    ∷ 3 ∷ 0 ∷ 6 ∷ 1 ∷ []

abbrev faces_n : List ℕ
faces_n = 1 ∷ 0 ∷ 2 ∷ 4 ∷ []

-- and with other numbers at its vertices
abbrev with : List ℤ → Chart
with vs = chart_of vs edges_n faces_n

unfoldable pub file_n : List ℕ
file_n = chart_text vertices_n (map pos edges_n) (map pos faces_n)

abbrev A : Chart
A = chart_of vertices_a edges_a faces_a

-- the square, and with a test at (6,2), in its face 1, joined to the corners of that face
abbrev square_q : Chart
square_q =
    chart_of (pos 0 ∷ pos 0 ∷ pos 1 ∷ pos 0 ∷ pos 10 ∷ pos 0 ∷ pos 2 ∷ pos 2 ∷ pos 10 ∷ pos 10 ∷ pos 3 ∷ pos 4 ∷ pos 0 ∷ pos 10 ∷ pos 4 ∷ pos 6 ∷ [])
    (0 ∷ 2 ∷ 9 ∷ 1 ∷ 1 ∷ 7 ∷ 3 ∷ 0 ∷ 1 ∷ 9 ∷ 0 ∷ 1 ∷ 2 ∷ 1 ∷ 5 ∷ 0 ∷ 2 ∷ 6 ∷ 8 ∷ 2 ∷ 3 ∷ 3 ∷ 7 ∷ 0 ∷ 3 ∷ 8 ∷ 4 ∷ 2 ∷ 0 ∷ 5 ∷ 1 ∷ 0 ∷ 0 ∷ 4 ∷ 6 ∷ 2 ∷ 2 ∷ 0 ∷ 2 ∷ 1 ∷ [])
    (1 ∷ 0 ∷ 8 ∷ [])

unfoldable pub joined : Chart
joined = inserted square_q 0 (place 6 2) (pos 7)

-- the links of a chart: the vertices' out half-edges; origin, next, prev and face of each half-edge; the faces' adjacent ones
half_edges_from : Chart → ℕ → ℕ → List ℕ
half_edges_from c h zero = []
half_edges_from c h (suc n) = c.origin h ∷ c.next h ∷ c.prev h ∷ c.face h ∷ half_edges_from c (suc h) n

below : ℕ → ℕ → List ℕ
below i zero = []
below i (suc n) = i ∷ below (suc i) n

unfoldable pub links_of : Chart → List ℕ
unfolding half_edges_from below
links_of c = map c.out (below 0 c.vertices) ++ (half_edges_from c 0 c.half_edges ++ map c.adjacent (below 0 c.faces))

-- those that the sources' own operations leave: `insert_into_triangle` on triangle A, `split_edge` on the square's diagonal, and on the square with a test at
-- (6,2) `insert_into_triangle`, then `flip_cw` of the diagonal
abbrev rust_inserted : List ℕ
rust_inserted =
    0 ∷ 2 ∷ 4 ∷ 7
    ∷ 0 ∷ 6 ∷ 11 ∷ 1
    ∷ 1 ∷ 5 ∷ 3 ∷ 0
    ∷ 1 ∷ 8 ∷ 7 ∷ 2
    ∷ 2 ∷ 1 ∷ 5 ∷ 0
    ∷ 2 ∷ 10 ∷ 9 ∷ 3
    ∷ 0 ∷ 3 ∷ 1 ∷ 0
    ∷ 1 ∷ 11 ∷ 0 ∷ 1
    ∷ 3 ∷ 2 ∷ 8 ∷ 2
    ∷ 2 ∷ 7 ∷ 2 ∷ 2
    ∷ 3 ∷ 4 ∷ 10 ∷ 3
    ∷ 0 ∷ 9 ∷ 4 ∷ 3
    ∷ 3 ∷ 0 ∷ 6 ∷ 1
    ∷ 1 ∷ 0 ∷ 2 ∷ 4 ∷ []

abbrev rust_split : List ℕ
rust_split =
    0 ∷ 2 ∷ 12 ∷ 6 ∷ 9
    ∷ 0 ∷ 10 ∷ 9 ∷ 1
    ∷ 1 ∷ 7 ∷ 3 ∷ 0
    ∷ 1 ∷ 12 ∷ 11 ∷ 3
    ∷ 2 ∷ 1 ∷ 5 ∷ 0
    ∷ 2 ∷ 14 ∷ 13 ∷ 4
    ∷ 3 ∷ 3 ∷ 7 ∷ 0
    ∷ 3 ∷ 8 ∷ 15 ∷ 2
    ∷ 0 ∷ 5 ∷ 1 ∷ 0
    ∷ 0 ∷ 15 ∷ 6 ∷ 2
    ∷ 4 ∷ 0 ∷ 10 ∷ 1
    ∷ 1 ∷ 9 ∷ 0 ∷ 1
    ∷ 4 ∷ 2 ∷ 12 ∷ 3
    ∷ 2 ∷ 11 ∷ 2 ∷ 3
    ∷ 4 ∷ 4 ∷ 14 ∷ 4
    ∷ 3 ∷ 13 ∷ 4 ∷ 4
    ∷ 4 ∷ 6 ∷ 8 ∷ 2
    ∷ 1 ∷ 10 ∷ 8 ∷ 12 ∷ 14 ∷ []

abbrev rust_flipped : List ℕ
rust_flipped =
    14 ∷ 2 ∷ 4 ∷ 6 ∷ 11
    ∷ 0 ∷ 10 ∷ 15 ∷ 1
    ∷ 1 ∷ 7 ∷ 3 ∷ 0
    ∷ 1 ∷ 12 ∷ 11 ∷ 3
    ∷ 2 ∷ 1 ∷ 5 ∷ 0
    ∷ 2 ∷ 8 ∷ 13 ∷ 2
    ∷ 3 ∷ 3 ∷ 7 ∷ 0
    ∷ 3 ∷ 14 ∷ 9 ∷ 4
    ∷ 0 ∷ 5 ∷ 1 ∷ 0
    ∷ 3 ∷ 13 ∷ 4 ∷ 2
    ∷ 4 ∷ 6 ∷ 14 ∷ 4
    ∷ 1 ∷ 15 ∷ 0 ∷ 1
    ∷ 4 ∷ 2 ∷ 12 ∷ 3
    ∷ 2 ∷ 11 ∷ 2 ∷ 3
    ∷ 4 ∷ 4 ∷ 8 ∷ 2
    ∷ 0 ∷ 9 ∷ 6 ∷ 4
    ∷ 4 ∷ 0 ∷ 10 ∷ 1
    ∷ 1 ∷ 0 ∷ 8 ∷ 2 ∷ 9 ∷ []

pub record Rows : Type 0 where
  -- inside face 1; the values at both ends of their range, and one step past them
  pub inside : on_a (place 2 3) (pos 150) ≡ 0
  pub value-least : on_a (place 2 3) (pos 0) ≡ 0
  pub value-most : on_a (place 2 3) (pos 1000000) ≡ 0
  pub value-below : on_a (place 2 3) (negsuc 0) ≡ 13
  pub value-above : on_a (place 2 3) (pos 1000001) ≡ 13
  -- off the grid, in either coordinate, and the grid's own corner, which is outside
  pub x-above : on_a (place 10001 3) (pos 150) ≡ 13
  pub y-below : on_a (record { x = pos 2; y = negsuc 10000 }) (pos 150) ≡ 13
  pub grid-corner : on_a (place 10000 10000) (pos 150) ≡ 26
  -- "26 when the point is on a vertex, on a hull edge or outside": the vertices, the edges' middles, one step inside and outside of one
  pub vertex : on_a (place 10 0) (pos 150) ≡ 26
  pub vertex-first : on_a (place 0 0) (pos 150) ≡ 26
  pub hull-edge : on_a (place 5 0) (pos 150) ≡ 26
  pub hull-edge-2 : on_a (place 5 5) (pos 150) ≡ 26
  pub step-inside : on_a (place 5 4) (pos 150) ≡ 0
  pub step-outside : on_a (place 6 5) (pos 150) ≡ 26
  -- an edge of the rim, whichever half-edge is named
  pub rim-inner-half : no_site A (OnEdge 0) ≡ true
  pub rim-outer-half : no_site A (OnEdge 1) ≡ true
  -- on the square's inner edge, on its hull edge, at a corner
  pub inner-edge : on_square (place 5 5) (pos 150) ≡ 0
  pub square-side : on_square (place 10 5) (pos 150) ≡ 26
  pub square-corner : on_square (place 10 10) (pos 150) ≡ 26
  -- the old chart's refusals first, then 13, then 25, then 26: each beside all later ones
  pub chart-first : on_nine (place 10001 0) (pos 1000001) ≡ 9
  pub bounds-first : vertex_refusal (crowd 128) (place 0 0) (pos 1000001) ≡ 13
  pub full : vertex_refusal (crowd 128) (place 0 0) (pos 150) ≡ 25
  pub not_full : vertex_refusal (crowd 127) (place 0 0) (pos 150) ≡ 26
  -- one vertex, six half-edges and two faces more: 589 bytes
  pub long : length file_n ≡ 589
  pub new : Inserted (chart_in file_a) (place 2 3) (pos 150) file_n
  -- the text in exactly as many bytes; two more are as they were; "a new buffer that is too short gets 18, here checked last of all"
  pub exact : Inserts (chart_in file_a) (place 2 3) (pos 150) (sevens 589) (saved (wrote 589) file_n)
  pub past : Inserts (chart_in file_a) (place 2 3) (pos 150) (sevens 591) (saved (wrote 589) (file_n ++ sevens 2))
  pub short : Inserts (chart_in file_a) (place 2 3) (pos 150) (sevens 588) (saved (turned_down 18) (sevens 588))
  pub before-room : Inserts (chart_in file_a) (place 2 3) (pos 1000001) [] (saved (turned_down 13) [])
  -- whatever the text is, no call is accepted with less room, nor refused with more
  pub no_less : (t : List ℕ) → Inserts (chart_in file_a) (place 2 3) (pos 150) (sevens 588) (saved (wrote 589) t) → ⊥
  pub no_more : (t : List ℕ) → Inserts (chart_in file_a) (place 2 3) (pos 150) (sevens 589) (saved (turned_down 18) t) → ⊥
  -- "its links beyond that are free": vertex 0 with another out half-edge
  pub links-free : Extended A (place 2 3) (pos 150) (with (set vertices_n 3 (pos 10)))
  -- no other value, and no other place, of the new vertex or of an old one, whichever
  pub other-value : Extended A (place 2 3) (pos 151) (with vertices_n) → ⊥
  pub other_place : Extended A (place 2 4) (pos 150) (with vertices_n) → ⊥
  pub first-value : Extended A (place 2 3) (pos 150) (with (set vertices_n 2 (pos 150))) → ⊥
  pub last-value : Extended A (place 2 3) (pos 150) (with (set vertices_n 10 (pos 150))) → ⊥
  pub moved : Extended A (place 2 3) (pos 150) (with (set vertices_n 9 (pos 11))) → ⊥
  -- nothing more, and nothing at all
  pub unchanged : Extended A (place 2 3) (pos 150) A → ⊥
  -- "then flip edges until the circle rule is met": the diagonal not flipped, 11 meets the outcome; flipped, nothing does
  pub flip-left-out : chart_refusal joined ≡ 11
  pub flip-made : chart_refusal (flipped joined 9) ≡ 0
  pub other-flip : chart_refusal (flipped joined 0) ≡ 7
  -- an edge that is divided
  pub split-made : chart_refusal (split square_q 8 (place 5 5) (pos 7)) ≡ 0
  -- "as far as possible with the operations in dcel_operations.rs": number by number
  pub insert-rust : links_of (inserted A 0 (place 2 3) (pos 150)) ≡ rust_inserted
  pub split-rust : links_of (split square_q 8 (place 5 5) (pos 7)) ≡ rust_split
  pub flip-rust : links_of (flipped joined 9) ≡ rust_flipped

-- the vertices of triangle A, one by one
kept : (P : ℕ → Type 0) → P 0 → P 1 → P 2 → (v : ℕ) → v < 3 → P v
kept P a b c zero l = a
kept P a b c (suc zero) l = b
kept P a b c (suc (suc zero)) l = c
kept P a b c (suc (suc (suc v))) l = absurd (omega arith)

-- two numbers that are one as whole numbers
same : (m n : ℕ) → pos m ≡ pos n → m ≡ n
same m n e = cc

extended : (vs : List ℤ) → length vs / 4 ≡ 4 → (with vs).place 0 ≡ A.place 0 → (with vs).place 1 ≡ A.place 1 → (with vs).place 2 ≡ A.place 2 → (with vs).value 0 ≡ A.value 0 → (with vs).value 1 ≡ A.value 1 → (with vs).value 2 ≡ A.value 2
    → (with vs).place 3 ≡ place 2 3 → (with vs).value 3 ≡ pos 150 → Extended A (place 2 3) (pos 150) (with vs)
unfolding vertices_a edges_a faces_a
extended vs n a b c d e f p z =
    record {
      vertices-more = n;
      half-edges-more = refl;
      faces-more = refl;
      places-kept = λ v l. kept (λ v. (with vs).place v ≡ A.place v) a b c v l;
      values-kept = λ v l. kept (λ v. (with vs).value v ≡ A.value v) d e f v l;
      place-last = p;
      value-last = z;
    }

-- what the writer leaves of any text, by the room
room-short : (t : List ℕ) (n : ℕ) → n < length t → saved_by (room_refusal 0 t (sevens n)) t (sevens n) ≡ saved (turned_down 18) (sevens n)
room-short t n l = rw (length-replicate {A = ℕ} n 7, lt-ltb n (length t) l)

room-enough : (t : List ℕ) (n : ℕ) → length t ≤ n → saved_by (room_refusal 0 t (sevens n)) t (sevens n) ≡ saved (wrote (length t)) (t ++ drop (length t) (sevens n))
room-enough t n l = rw (length-replicate {A = ℕ} n 7, le-ltb n (length t) l)

wrote-not : (n : ℕ) → wrote n ≡ turned_down 18 → ⊥
wrote-not n e = never (cc)

not-wrote : (n : ℕ) → turned_down 18 ≡ wrote n → ⊥
not-wrote n e = never (cc)

new-extended : Extended A (place 2 3) (pos 150) (with vertices_n)
unfolding vertices_a edges_a faces_a
new-extended = extended vertices_n refl refl refl refl refl refl refl refl refl

new-inserted : Inserted (chart_in file_a) (place 2 3) (pos 150) file_n
unfolding file_a vertices_a edges_a faces_a file_n from eqs spaces_of digits_of columns last_digit field_text value_of candidate field_of line_of table_of line_text table_text off_grid cross_of dot_of norm2_of side lifted circle on_open_segment counts_refused not_below bad_vertex bad_half_edge bad_face out_of_range linked links_broken chart_refusal tables_refusal counts_of head_of body_of load_of chart_in chart_text hit_of face_hit
new-inserted =
    record {
      passes = refl;
      extends = λ vs us es fs gs hs w y.
          subst (λ (c : Chart). Extended c (place 2 3) (pos 150) (chart_of us gs hs)) (same-chart vertices_a vs edges_a es faces_a fs w)
          (subst (Extended A (place 2 3) (pos 150)) (same-chart vertices_n us edges_n gs faces_n hs y) new-extended);
      long = λ vs es fs w.
          let e : A ≡ chart_of vs es fs = same-chart vertices_a vs edges_a es faces_a fs w in
          ap (λ (c : Chart). file_length (c.vertices + 1) (c.half_edges + 6) (c.faces + 2)) e;
    }

pub rows : Rows
unfolding links_of square joined file_a vertices_a edges_a faces_a file_n from eqs spaces_of digits_of columns last_digit field_text value_of candidate field_of line_of table_of line_text table_text off_grid cross_of dot_of norm2_of side lifted circle on_open_segment counts_refused not_below bad_vertex bad_half_edge bad_face out_of_range linked links_broken chart_refusal tables_refusal counts_of head_of body_of load_of chart_in chart_text hit_of face_hit location_of vertex_refusal insert_refusal
rows =
    record {
      inside = refl;
      value-least = refl;
      value-most = refl;
      value-below = refl;
      value-above = refl;
      x-above = refl;
      y-below = refl;
      grid-corner = refl;
      vertex = refl;
      vertex-first = refl;
      hull-edge = refl;
      hull-edge-2 = refl;
      step-inside = refl;
      step-outside = refl;
      inner-edge = refl;
      square-side = refl;
      square-corner = refl;
      chart-first = refl;
      bounds-first = refl;
      full = refl;
      not_full = refl;
      rim-inner-half = refl;
      rim-outer-half = refl;
      long = refl;
      new = new-inserted;
      exact = record { text = file_n; inserted = λ e. new-inserted; left = refl };
      past = record { text = file_n; inserted = λ e. new-inserted; left = refl };
      short = record { text = file_n; inserted = λ e. new-inserted; left = refl };
      before-room = record { text = []; inserted = λ e. absurd (let o : ◌≡◌ {A = ℕ} 13 0 = e in omega arith); left = refl };
      no_less = λ t i. wrote-not 589 (ap (λ (d : Saved). d.answer) (i.left ∙ room-short i.text 588 (let l : length i.text ≡ 589 = (i.inserted refl).long vertices_a edges_a faces_a refl in omega arith)));
      no_more = λ t i. not-wrote (length i.text) (ap (λ (d : Saved). d.answer) (i.left ∙ room-enough i.text 589 (let l : length i.text ≡ 589 = (i.inserted refl).long vertices_a edges_a faces_a refl in omega arith)));
      links-free = extended (set vertices_n 3 (pos 10)) refl refl refl refl refl refl refl refl refl;
      other-value = λ x. let k : ◌≡◌ {A = ℤ} (pos 150) (pos 151) = x.value-last in let o : ◌≡◌ {A = ℕ} 150 151 = same 150 151 k in omega arith;
      other_place = λ x. let k : ◌≡◌ {A = ℤ} (pos 3) (pos 4) = ap (λ (p : Place). p.y) x.place-last in let o : ◌≡◌ {A = ℕ} 3 4 = same 3 4 k in omega arith;
      first-value = λ x. let k : ◌≡◌ {A = ℤ} (pos 150) (pos 100) = x.values-kept 0 (lit< tt) in let o : ◌≡◌ {A = ℕ} 150 100 = same 150 100 k in omega arith;
      last-value = λ x. let k : ◌≡◌ {A = ℤ} (pos 150) (pos 300) = x.values-kept 2 (lit< tt) in let o : ◌≡◌ {A = ℕ} 150 300 = same 150 300 k in omega arith;
      moved = λ x. let k : ◌≡◌ {A = ℤ} (pos 11) (pos 10) = ap (λ (p : Place). p.y) (x.places-kept 2 (lit< tt)) in let o : ◌≡◌ {A = ℕ} 11 10 = same 11 10 k in omega arith;
      unchanged = λ x. let k : ◌≡◌ {A = ℕ} 3 4 = x.vertices-more in omega arith;
      flip-left-out = refl;
      flip-made = refl;
      other-flip = refl;
      split-made = refl;
      insert-rust = refl;
      split-rust = refl;
      flip-rust = refl;
    }
