-- 02, CR 1: a file that none of 3, 4 and 5 meets is the chart text of its own tables (`file-is-text`), and the chart text of tables whose numbers fit
-- their fields is a file of these tables (`text-is-file`). Assumes nothing.
use Rattle.std.specs.Prelude.{ℕ, ◌+◌, ◌*◌, ◌≤◌, List, [], ◌∷◌, ◌++◌, Bool, true, false, cond, ◌≡◌, refl, length, drop, get_or, ltb, eqb, ℤ, pos}
use Rattle.std.proofs.Common.{append-nil, ap, sym, ◌∙◌, arith, length-drop, length-append, drop_of_length-le, drop-drop, drop_at, ltb-false, eqb-true, le-ltb, eq-eqb}
use Rattle.whole.specs.Bools.{never}
use Rattle.text.specs.Field.{field_width}
use Rattle.text.specs.RoundTrip.{Fits}
use Rattle.tables.specs.Table.{Cells, line_of, table_of, line_bytes, lines_max}
use Rattle.tables.specs.Table.Cells.{cells, bad}
use Rattle.tables.specs.Size.{line-length, table-length}
use Rattle.tables.specs.Text.{line_text, table_text}
use Rattle.tables.specs.RoundTrip.{line_read, table-read, line-back, table-back, line-bytes, table-bytes, AllFit}
use Rattle.chart.specs.Tables.{rows, unsigned}
use Rattle.ranges.specs.Ranges.{counts_refused}
use Rattle.ranges.specs.Passed.{Counted, counts-pass, passed-positive}
use Rattle.reading.specs.Reading.Head.{Refused, Counts}
use Rattle.reading.specs.Reading.{Head, counts_of, head_line, head_length, head_of, file_length, Body, three, body_of, load_body, load_of, after_head, chart_in}
use Rattle.reading.specs.Reading.Body.{body, malformed}
use Rattle.reading.specs.Laws.{head-counted}
use Rattle.reading.specs.Text.{chart_text, numbers_after, numbers_in}

-- ---- how long
-- the text of tables of whole rows has the length that their counts give
pub text-length : (vs es fs : List ℤ) → length vs ≡ 4 * rows vs → length es ≡ 4 * rows es → length (chart_text vs es fs) ≡ file_length (rows vs) (rows es) (length fs)
unfolding chart_text
text-length vs es fs a b =
    let k : List ℤ = pos (rows vs) ∷ pos (rows es) ∷ pos (length fs) ∷ [] in
    let x = table_text 4 (rows vs) vs in
    let y = table_text 4 (rows es) es in
    let z = table_text 1 (length fs) fs in
    let c : length fs ≡ 1 * length fs = omega arith in
    omega (
      arith,
      length-append (line_text k) (x ++ (y ++ z)),
      length-append x (y ++ z),
      length-append y z,
      line-bytes k,
      table-bytes 4 (rows vs) vs a,
      table-bytes 4 (rows es) es b,
      table-bytes 1 (length fs) fs c,
    )

-- ---- read, then written
-- three tables, none malformed
three-cells : (x y z : Cells) (a b c : List ℤ) → three x y z ≡ body a b c → (x ≡ cells a) × ((y ≡ cells b) × (z ≡ cells c))
three-cells (cells x) (cells y) (cells z) a b c e = (cc, (cc, cc))
three-cells (cells x) (cells y) bad a b c e = never (cc)
three-cells (cells x) bad z a b c e = never (cc)
three-cells bad y z a b c e = never (cc)

-- a body that is there has passed the test of its length
body-by : (t : Bool) (h : Body) (a b c : List ℤ) → cond t h (malformed 3) ≡ body a b c → (t ≡ true) × (h ≡ body a b c)
body-by true h a b c e = (refl, e)
body-by false h a b c e = never (cc)

-- where the half-edges begin, and where the faces do
abbrev edges_at : ℕ → ℕ
edges_at v = head_length + line_bytes 4 * v

abbrev faces_at : ℕ → ℕ → ℕ
faces_at v e = head_length + line_bytes 4 * v + line_bytes 4 * e

-- what the rest of a file is, where it holds tables
record Rest (v e f : ℕ) (s : List ℕ) (vs es fs : List ℤ) : Type 0 where
  long : length s ≡ file_length v e f
  vertices : table_of 4 v (drop head_length s) ≡ cells vs
  edges : table_of 4 e (drop (edges_at v) s) ≡ cells es
  faces : table_of 1 f (drop (faces_at v e) s) ≡ cells fs

rest_of : (v e f : ℕ) (s : List ℕ) (vs es fs : List ℤ) → body_of v e f s ≡ body vs es fs → Rest v e f s vs es fs
unfolding body_of
rest_of v e f s vs es fs q =
    let x = table_of 4 v (drop head_length s) in
    let y = table_of 4 e (drop (edges_at v) s) in
    let z = table_of 1 f (drop (faces_at v e) s) in
    let p = body-by (eqb (length s) (file_length v e f)) (three x y z) vs es fs q in
    let t = three-cells x y z vs es fs p.1 in
    record { long = eqb-true (length s) (file_length v e f) p.0; vertices = t.0; edges = t.1.0; faces = t.1.1 }

-- the rest of a file is the text of its tables
rest-text : (v e f : ℕ) (s : List ℕ) (vs es fs : List ℤ) → Rest v e f s vs es fs → drop head_length s ≡ table_text 4 v vs ++ (table_text 4 e es ++ table_text 1 f fs)
rest-text v e f s vs es fs r =
    let l = r.long in
    let x = table-read 4 v (drop head_length s) vs (simp length-drop (omega arith)) r.vertices in
    let y = table-read 4 e (drop (edges_at v) s) es (simp length-drop (omega arith)) r.edges in
    let z = table-read 1 f (drop (faces_at v e) s) fs (simp length-drop (omega arith)) r.faces in
    let end : drop (line_bytes 1 * f) (drop (faces_at v e) s) ≡ [] = drop_of_length-le (drop (faces_at v e) s) {i = line_bytes 1 * f} (simp length-drop (omega arith)) in
    x
    ∙ ap (λ (m : List ℕ). table_text 4 v vs ++ m) (drop-drop (line_bytes 4 * v) head_length s ∙ y
    ∙ ap (λ (m : List ℕ). table_text 4 e es ++ m) (drop-drop (line_bytes 4 * e) (edges_at v) s ∙ z ∙ ap (λ (m : List ℕ). table_text 1 f fs ++ m) end ∙ append-nil (table_text 1 f fs)))

-- the numbers of line 1 are the counts
picked : (x y z : ℤ) (v e f : ℕ) (b : Bool) → counts_refused x y z ≡ b → cond b (Refused 4) (Counts (unsigned x) (unsigned y) (unsigned z)) ≡ Counts v e f → (x ≡ pos v) × ((y ≡ pos e) × (z ≡ pos f))
picked x y z v e f true h q = never (cc)
picked x y z v e f false h q =
    let p = passed-positive x y z h in
    let i : unsigned x ≡ v = cc in
    let j : unsigned y ≡ e = cc in
    let k : unsigned z ≡ f = cc in
    (sym p.0 ∙ ap pos i, (sym p.1.0 ∙ ap pos j, sym p.1.1 ∙ ap pos k))

-- a line of three numbers, by them
three-long : (l : List ℤ) (x y z : ℤ) → length l ≡ 3 → get_or l 0 (pos 0) ≡ x → get_or l 1 (pos 0) ≡ y → get_or l 2 (pos 0) ≡ z → l ≡ x ∷ y ∷ z ∷ []
three-long [] x y z h p q r = let o : ⊥ = omega arith in absurd o
three-long (a ∷ []) x y z h p q r = let o : ⊥ = omega arith in absurd o
three-long (a ∷ b ∷ []) x y z h p q r = let o : ⊥ = omega arith in absurd o
three-long (a ∷ b ∷ c ∷ []) x y z h p q r = cc
three-long (a ∷ b ∷ c ∷ d ∷ l) x y z h p q r = let o : ⊥ = omega arith in absurd o

-- line 1, well formed, is the text of the counts
line-text : (s : List ℕ) (c : Cells) (v e f : ℕ) → head_length ≤ length s → line_of 3 s ≡ c → head_line c ≡ Counts v e f → s ≡ line_text (pos v ∷ pos e ∷ pos f ∷ []) ++ drop head_length s
unfolding counts_of
line-text s (cells l) v e f h i q =
    let p = picked (get_or l 0 (pos 0)) (get_or l 1 (pos 0)) (get_or l 2 (pos 0)) v e f _ refl q in
    line_read 3 s l h i
    ∙ ap (λ (k : List ℤ). line_text k ++ drop head_length s) (three-long l (pos v) (pos e) (pos f) (line-length 3 s l i) p.0 p.1.0 p.1.1)
line-text s bad v e f h i q = never (cc)

-- a head that is there has passed the test of its length
long-by : (t : Bool) (h : Head) (v e f : ℕ) → cond t (Refused 3) h ≡ Counts v e f → (t ≡ false) × (h ≡ Counts v e f)
long-by true h v e f q = never (cc)
long-by false h v e f q = (refl, q)

-- the head of a file is the text of its counts
head-text : (s : List ℕ) (v e f : ℕ) → head_of s ≡ Counts v e f → s ≡ line_text (pos v ∷ pos e ∷ pos f ∷ []) ++ drop head_length s
unfolding head_of
head-text s v e f q =
    let p = long-by (ltb (length s) head_length) (head_line (line_of 3 s)) v e f q in
    line-text s (line_of 3 s) v e f (ltb-false (length s) head_length p.0) refl p.1

-- what holds of the tables of a file that none of 3, 4 and 5 meets: it is their text, their counts are in range, two are whole rows
pub record FileText (s : List ℕ) (vs es fs : List ℤ) : Type 0 where
  pub same : chart_text vs es fs ≡ s
  pub counts : Counted (rows vs) (rows es) (length fs)
  pub vertex-rows : length vs ≡ 4 * rows vs
  pub edge-rows : length es ≡ 4 * rows es

-- the same under counts that the tables have
by-counts : (s : List ℕ) (v e f : ℕ) (vs es fs : List ℤ) → rows vs ≡ v → rows es ≡ e → length fs ≡ f → length vs ≡ 4 * v → length es ≡ 4 * e → Counted v e f → line_text (pos v ∷ pos e ∷ pos f ∷ []) ++ (table_text 4 v vs ++ (table_text 4 e es ++ table_text 1 f fs)) ≡ s → FileText s vs es fs
unfolding chart_text
by-counts s v e f vs es fs a b c x y n t = record { same = rw (a, b, c) t; counts = rw (a, b, c) n; vertex-rows = rw a x; edge-rows = rw b y }

-- four a row: so many rows
rows_of : (l : List ℤ) (n : ℕ) → length l ≡ 4 * n → rows l ≡ n
rows_of l n h = omega arith

by-head : (s : List ℕ) (h : Head) (vs es fs : List ℤ) → head_of s ≡ h → numbers_after h s ≡ body vs es fs → FileText s vs es fs
by-head s (Refused n) vs es fs q p = never (cc)
by-head s (Counts v e f) vs es fs q p =
    let r = rest_of v e f s vs es fs p in
    let x = table-length 4 v (drop head_length s) vs r.vertices in
    let y = table-length 4 e (drop (edges_at v) s) es r.edges in
    let z : length fs ≡ f = table-length 1 f (drop (faces_at v e) s) fs r.faces ∙ omega arith in
    by-counts s v e f vs es fs (rows_of vs v x) (rows_of es e y) z x y (head-counted s v e f q)
    (sym (head-text s v e f q ∙ ap (λ (m : List ℕ). line_text (pos v ∷ pos e ∷ pos f ∷ []) ++ m) (rest-text v e f s vs es fs r)))

-- every file that holds tables is their text
pub file-is-text : (s : List ℕ) (vs es fs : List ℤ) → numbers_in s ≡ body vs es fs → FileText s vs es fs
file-is-text s vs es fs e = by-head s (head_of s) vs es fs refl e

-- ---- written, then read
-- a count fits its field
small : (n : ℕ) → n ≤ lines_max → Fits field_width (pos n)
small n h = (omega arith, omega arith)

-- the text of counts in range is read as these counts, whatever follows
head-written : (v e f : ℕ) (t : List ℕ) → Counted v e f → head_of (line_text (pos v ∷ pos e ∷ pos f ∷ []) ++ t) ≡ Counts v e f
unfolding head_of counts_of
head-written v e f t r =
    let k = pos v ∷ pos e ∷ pos f ∷ [] in
    let long : head_length ≤ length (line_text k ++ t) = omega (arith, length-append (line_text k) t, line-bytes k) in
    let x = r.v-most in
    let y = r.e-most in
    let z = r.f-most in
    rw (
      le-ltb (length (line_text k ++ t)) head_length long,
      line-back k t (small v (omega arith), (small e (omega arith), (small f (omega arith), tt))),
      counts-pass v e f r,
    )

-- the text of tables in range is a file of these tables
pub text-is-file : (vs es fs : List ℤ) → Counted (rows vs) (rows es) (length fs) → length vs ≡ 4 * rows vs → length es ≡ 4 * rows es → AllFit vs → AllFit es → AllFit fs → numbers_in (chart_text vs es fs) ≡ body vs es fs
unfolding chart_text body_of
text-is-file vs es fs n a b p q r =
    let v = rows vs in
    let e = rows es in
    let f = length fs in
    let k : List ℤ = pos v ∷ pos e ∷ pos f ∷ [] in
    let x = table_text 4 v vs in
    let y = table_text 4 e es in
    let z = table_text 1 f fs in
    let s = line_text k ++ (x ++ (y ++ z)) in
    let c : length fs ≡ 1 * f = omega arith in
    let d1 : drop head_length s ≡ x ++ (y ++ z) = drop_at (line_text k) (x ++ (y ++ z)) head_length (line-bytes k) in
    let d2 : drop (edges_at v) s ≡ y ++ z = sym (drop-drop (line_bytes 4 * v) head_length s) ∙ ap (drop (line_bytes 4 * v)) d1 ∙ drop_at x (y ++ z) (line_bytes 4 * v) (table-bytes 4 v vs a) in
    let d3 : drop (faces_at v e) s ≡ z = sym (drop-drop (line_bytes 4 * e) (edges_at v) s) ∙ ap (drop (line_bytes 4 * e)) d2 ∙ drop_at y z (line_bytes 4 * e) (table-bytes 4 e es b) in
    ap (λ (h : Head). numbers_after h s) (head-written v e f (x ++ (y ++ z)) n)
    ∙ rw (
      eq-eqb (length s) (file_length v e f) (text-length vs es fs a b),
      ap (table_of 4 v) d1 ∙ table-back 4 v vs (y ++ z) a p,
      ap (table_of 4 e) d2 ∙ table-back 4 e es z b q,
      ap (table_of 1 f) (d3 ∙ sym (append-nil z)) ∙ table-back 1 f fs [] c r,
    ) refl

-- ---- what every other call reads
after-head : (h : Head) (s : List ℕ) → after_head h s ≡ load_body (numbers_after h s)
unfolding load_of
after-head (Refused n) s = refl
after-head (Counts v e f) s = refl

-- is the file's tables as numbers, checked and taken over
pub chart-numbers : (s : List ℕ) → chart_in s ≡ load_body (numbers_in s)
unfolding chart_in
chart-numbers s = after-head (head_of s) s
