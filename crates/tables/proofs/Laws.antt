-- Laws of the definitions of specs/Table.antt, a field and a line at a time.
use Prim.Native.Nat.{ℕ, suc, ◌+◌, ◌-◌, ◌*◌, ◌≤◌, ◌<◌}
use mathlib.Core.List.{List, [], ◌∷◌, ◌++◌, append_assoc, append-nil}
use mathlib.Core.Bool.{Bool, true, false}
use mathlib.Core.Path.{◌≡◌, refl, ap, sym, ◌∙◌}
use native.Mathlib.Omega.{arith}
use native.Mathlib.Numerals.{add-one}
use native.Mathlib.Nat.{add-zero, mul-suc}
use lib.ListN.{length, take, drop, set, get_or, length-append, length-take, length-drop}
use borrow.Rule.Slice.PartMut.{put_mid, post_of}
use lib.Seq.{drop-drop, take-suc-set, get_or-drop, take_all, take_at}
use lib.Dec.{eqb}
use lib.IntN.{ℤ}
use Rattle.std.specs.Prelude.{Some, None, is_some}
use Rattle.std.specs.Bool.{then_some}
use Rattle.text.specs.Field.{field_of, field_width}
use Rattle.tables.specs.Table.{Cells, given, before, join, cell_of, line_of, line_bytes, table_of}
use Rattle.tables.specs.Table.Cells.{cells, bad}

-- Numbers before numbers.
before-before : (l m : List ℤ) (c : Cells) → before l (before m c) ≡ before (l ++ m) c
before-before l m (cells n) = ap cells (sym (append_assoc l m n))
before-before l m bad = refl

-- No numbers before.
pub before-nil : (c : Cells) → before [] c ≡ c
before-nil (cells n) = refl
before-nil bad = refl

-- Nothing but a test after them.
before-given : (l : List ℤ) (b : Bool) → before l (given b []) ≡ given b l
before-given l true = ap cells (append-nil l)
before-given l false = refl

-- No numbers after.
join-nil : (c : Cells) → join c (cells []) ≡ c
join-nil (cells l) = ap cells (append-nil l)
join-nil bad = refl

-- A table of one line is that line.
pub table-one : (w : ℕ) (s : List ℕ) → table_of w 1 s ≡ line_of w s
unfolding table_of
table-one w s = join-nil (line_of w s)

pub ruleset lines = (table-one)

-- A line that has a field.
line-by : (w k : ℕ) → w ≡ suc k → (s : List ℕ) → line_of w s ≡ join (cell_of (field_of (take field_width s))) (line_of k (drop field_width s))
unfolding line_of
line-by w k e s = rw e refl

-- The part that is read is a field wide.
one_field : (a : ℕ) → a + field_width - a ≡ field_width
one_field a = omega arith

module _
    (text : List ℕ) (row : List ℤ) (w at a j : ℕ) (hw : j < w) (ha : a ≡ at + field_width * j)
    (h : line_of w (drop at text) ≡ before (take j row) (line_of (w - j) (drop (at + field_width * j) text))) where
  -- The next field of a line, after j fields.
  next_field : line_of w (drop at text)
      ≡ before (take j row) (join (cell_of (field_of (take (a + field_width - a) (drop a text)))) (line_of (w - (j + 1)) (drop (at + field_width * (j + 1)) text)))
  next_field =
      let e : a + field_width ≡ at + field_width * (j + 1) = omega arith in
      h
      ∙ ap (before (take j row)) (ap (λ (m : ℕ). line_of (w - j) (drop m text)) (sym ha) ∙ line-by (w - j) (w - (j + 1)) (omega arith) (drop a text))
      ∙ rw (drop-drop field_width a text, one_field a, e) refl

  -- It holds a number.
  pub line-again : (z : ℤ) → j < length row → field_of (take (a + field_width - a) (drop a text)) ≡ Some z
      → line_of w (drop at text) ≡ before (take (j + 1) (set row j z)) (line_of (w - (j + 1)) (drop (at + field_width * (j + 1)) text))
  line-again z l e =
      next_field ∙ rw e (before-before (take j row) (z ∷ []) (line_of (w - (j + 1)) (drop (at + field_width * (j + 1)) text))
      ∙ ap (λ (m : List ℤ). before m (line_of (w - (j + 1)) (drop (at + field_width * (j + 1)) text))) (rw (add-one j) (sym (take-suc-set row j z l))))

  -- It is malformed, and so is the line.
  pub line-fails : field_of (take (a + field_width - a) (drop a text)) ≡ None → line_of w (drop at text) ≡ bad
  line-fails e = next_field ∙ rw e refl

-- A line with no field left is its line end.
line-end : (s : List ℕ) → line_of 0 s ≡ given (eqb (get_or s 0 0) 10) []
unfolding line_of
line-end s = refl

-- The line end, after all fields.
pub line-ends : (text : List ℕ) (row : List ℤ) (w at j : ℕ) → w ≤ j → length row ≡ j
    → line_of w (drop at text) ≡ before (take j row) (line_of (w - j) (drop (at + field_width * j) text))
    → line_of w (drop at text) ≡ given (eqb (get_or text (at + field_width * j) 0) 10) row
line-ends text row w at j hw l h =
    let a = at + field_width * j in
    let z : w - j ≡ 0 = omega arith in
    h ∙ rw (z, take_all j row (omega arith), line-end (drop a text), get_or-drop a text 0 0, add-zero a) (before-given row (eqb (get_or text a 0) 10))

-- A table that has a line.
table-by : (w n k : ℕ) → n ≡ suc k → (s : List ℕ) → table_of w n s ≡ join (line_of w s) (table_of w k (drop (line_bytes w) s))
unfolding table_of
table-by w n k e s = rw e refl

-- A table with no line.
table_none : (w : ℕ) (s : List ℕ) → table_of w 0 s ≡ cells []
unfolding table_of
table_none w s = refl

module _
    (text : List ℕ) (done : List ℤ) (w n at i : ℕ) (hi : i < n)
    (h : table_of w n (drop at text) ≡ before done (table_of w (n - i) (drop (at + line_bytes w * i) text))) where
  -- The next line of a table, after i lines.
  next-line : table_of w n (drop at text)
      ≡ before done (join (line_of w (drop (at + line_bytes w * i) text)) (table_of w (n - (i + 1)) (drop (at + line_bytes w * (i + 1)) text)))
  next-line =
      let pos = at + line_bytes w * i in
      let e : pos + line_bytes w ≡ at + line_bytes w * (i + 1) = rw (add-one i, mul-suc (line_bytes w) i) (omega arith) in
      h ∙ ap (before done) (table-by w (n - i) (n - (i + 1)) (omega arith) (drop pos text)) ∙ rw (drop-drop (line_bytes w) pos text, e) refl

  -- It holds a row of numbers.
  pub table-again : (row : List ℤ) → line_of w (drop (at + line_bytes w * i) text) ≡ cells row
      → table_of w n (drop at text) ≡ before (done ++ row) (table_of w (n - (i + 1)) (drop (at + line_bytes w * (i + 1)) text))
  table-again row e = next-line ∙ rw e (before-before done row (table_of w (n - (i + 1)) (drop (at + line_bytes w * (i + 1)) text)))

  -- It is malformed, and so is the table.
  pub table-fails : line_of w (drop (at + line_bytes w * i) text) ≡ bad → table_of w n (drop at text) ≡ bad
  table-fails e = next-line ∙ rw e refl

-- The end of a table, after all lines.
pub table-ends : (text : List ℕ) (all : List ℤ) (w n at i : ℕ) → i ≡ n → length all ≡ w * n
    → table_of w n (drop at text) ≡ before (take (w * i) all) (table_of w (n - i) (drop (at + line_bytes w * i) text)) → table_of w n (drop at text) ≡ cells all
table-ends text all w n at i e l h =
    let z : n - i ≡ 0 = omega arith in
    let whole : length all ≤ w * i = rw e (omega arith) in
    h ∙ rw (z, table_none w (drop (at + line_bytes w * i) text), take_all (w * i) all whole) (ap cells (append-nil all))

-- The part that is lent for a line is as long as the line has fields.
pub part_length : (xs : List ℤ) (a w : ℕ) → a + w ≤ length xs → length (take (a + w - a) (drop a xs)) ≡ w
part_length xs a w h = simp (length-take, length-drop) (omega arith)

-- The part has come back, with the numbers of the line.
pub part-back : (xs ys : List ℤ) (a w b k : ℕ) → a + w ≤ length xs → length ys ≡ w → b ≡ a + w → take b (put_mid a k xs ys) ≡ take a xs ++ ys
part-back xs ys a w b k h l e =
    ap (λ (m : ℕ). take m (put_mid a k xs ys)) e
    ∙ ap (take (a + w)) (sym (append_assoc (take a xs) ys (post_of a k xs)))
    ∙ take_at (take a xs ++ ys) (post_of a k xs) (a + w) (simp (length-append, length-take) (omega arith))

-- What a line's reader says of the part, said of the line.
pub part-line : (text : List ℕ) (xs row : List ℤ) (pos a w : ℕ) (r b : Bool) → a + w ≤ length xs
    → line_of (length (take (a + w - a) (drop a xs))) (drop pos text) ≡ given r row → r ≡ b → line_of w (drop pos text) ≡ given b row
part-line text xs row pos a w r b h e t =
    ap (λ (k : ℕ). line_of k (drop pos text)) (sym (part_length xs a w h)) ∙ e ∙ ap (λ (x : Bool). given x row) t

-- A test that becomes an Option: whether there is something is the test.
pub some-then : (b : Bool) → is_some (then_some b (tt {0})) ≡ b
some-then true = refl
some-then false = refl
