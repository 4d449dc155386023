-- 02, CR 1: lines and tables that were read are the text of their numbers (`line_read`, `table-read`), and the text of numbers is read as these numbers
-- (`line-back`, `table-back`). Assumes nothing.
use Rattle.std.specs.Prelude.{ℕ, zero, suc, ◌+◌, ◌*◌, ◌≤◌, ◌<◌, List, [], ◌∷◌, ◌++◌, Bool, true, false, Option, Some, None, ◌≡◌, refl, length, take, drop, get_or, eqb, ℤ, pos}
use Rattle.std.proofs.Common.{append_assoc, ap, sym, ◌∙◌, arith, mul-suc, mul-zero, length-drop, length-append, take-append-drop, take_at, drop_at, length-take-le, drop-drop, eqb-true}
use Rattle.whole.specs.Bools.{never}
use Rattle.text.specs.Field.{field_of, field_text, field_width}
use Rattle.text.specs.RoundTrip.{field-read, field-length, Fits}
use Rattle.text.proofs.RoundTrip.{field_back}
use Rattle.tables.specs.Table.{Cells, given, before, join, cell_of, line_of, line_bytes, table_of}
use Rattle.tables.specs.Table.Cells.{cells, bad}
use Rattle.tables.specs.Text.{line_text, table_text}
use Rattle.tables.specs.Size.{line-length}

-- a list of no elements
none : {A : Type 0} (l : List A) → length l ≡ 0 → l ≡ []
none [] h = refl
none (x ∷ l) h = let o : ⊥ = omega arith in absurd o

-- ---- read, then written
-- numbers before others, where both are there
before-cells : (l m : List ℤ) (c : Cells) → before l c ≡ cells m → (r : List ℤ) × (c ≡ cells r) × (l ++ r ≡ m)
before-cells l m (cells r) e = (r, refl, cc)
before-cells l m bad e = never (cc)

-- what two texts hold together is what each holds
join_cells : (a c : Cells) (m : List ℤ) → join a c ≡ cells m → (l : List ℤ) × (r : List ℤ) × (a ≡ cells l) × (c ≡ cells r) × (l ++ r ≡ m)
join_cells (cells l) c m e = let b = before-cells l m c e in (l, b.0, refl, b.1, b.2)
join_cells bad c m e = never (cc)

-- what a field holds is one number
cell-number : (f : Option ℤ) (l : List ℤ) → cell_of f ≡ cells l → (z : ℤ) × (f ≡ Some z) × (l ≡ z ∷ [])
cell-number (Some z) l e = (z, refl, cc)
cell-number None l e = never (cc)

-- the end of a line is its LF
line-end : (s : List ℕ) (b : Bool) (l : List ℤ) → eqb (get_or s 0 0) 10 ≡ b → 1 ≤ length s → given b [] ≡ cells l → s ≡ line_text l ++ drop 1 s
unfolding line_text
line-end [] b l q h e = let o : ⊥ = omega arith in absurd o
line-end (x ∷ t) true l q h e =
    let n : l ≡ [] = cc in
    let lf : x ≡ 10 = eqb-true x 10 q in
    rw (n, lf) refl
line-end (x ∷ t) false l q h e = never (cc)

-- a field before the text of a line
line-put : (s t : List ℕ) (l r : List ℤ) (z : ℤ) → take field_width s ≡ field_text field_width z → drop field_width s ≡ line_text r ++ t → l ≡ z ∷ r → s ≡ line_text l ++ t
unfolding line_text
line-put s t l r z p q e =
    sym (take-append-drop field_width s)
    ∙ ap (λ (m : List ℕ). m ++ drop field_width s) p
    ∙ ap (λ (m : List ℕ). field_text field_width z ++ m) q
    ∙ rw e (sym (append_assoc (field_text field_width z) (line_text r) t))

-- a line that was read is the text of its numbers
pub line_read : (w : ℕ) (s : List ℕ) (l : List ℤ) → line_bytes w ≤ length s → line_of w s ≡ cells l → s ≡ line_text l ++ drop (line_bytes w) s
unfolding line_of
line_read zero s l h e = line-end s (eqb (get_or s 0 0) 10) l refl h e
line_read (suc w) s l h e =
    let j = join_cells (cell_of (field_of (take field_width s))) (line_of w (drop field_width s)) l e in
    let n = cell-number (field_of (take field_width s)) j.0 j.2 in
    let wide : length (take field_width s) ≡ field_width = length-take-le field_width s (omega arith) in
    let left : line_bytes w ≤ length (drop field_width s) = simp length-drop (omega arith) in
    let k : field_width + line_bytes w ≡ line_bytes (suc w) = omega arith in
    let d : drop (line_bytes w) (drop field_width s) ≡ drop (line_bytes (suc w)) s = drop-drop (line_bytes w) field_width s ∙ ap (λ (m : ℕ). drop m s) k in
    line-put s (drop (line_bytes (suc w)) s) l j.1 n.0 (field-read (take field_width s) n.0 n.1 ∙ ap (λ (m : ℕ). field_text m n.0) wide)
    (line_read w (drop field_width s) j.1 left j.3 ∙ ap (λ (t : List ℕ). line_text j.1 ++ t) d)
    (sym j.4 ∙ ap (λ (t : List ℤ). t ++ j.1) n.2)

-- a line before the text of a table
table-put : (w n : ℕ) (a b l : List ℤ) → a ++ b ≡ l → length a ≡ w → line_text a ++ table_text w n b ≡ table_text w (suc n) l
unfolding table_text
table-put w n a b l e h = rw (← e, take_at a b w h, drop_at a b w h) refl

-- a table that was read is the text of its numbers
pub table-read : (w n : ℕ) (s : List ℕ) (l : List ℤ) → line_bytes w * n ≤ length s → table_of w n s ≡ cells l → s ≡ table_text w n l ++ drop (line_bytes w * n) s
unfolding table_of table_text
table-read w zero s l h e = rw (mul-zero (line_bytes w)) refl
table-read w (suc n) s l h e =
    let j = join_cells (line_of w s) (table_of w n (drop (line_bytes w) s)) l e in
    let m = mul-suc (line_bytes w) n in
    let left : line_bytes w * n ≤ length (drop (line_bytes w) s) = simp length-drop (omega arith) in
    let k : line_bytes w + line_bytes w * n ≡ line_bytes w * suc n = omega arith in
    let d : drop (line_bytes w * n) (drop (line_bytes w) s) ≡ drop (line_bytes w * suc n) s = drop-drop (line_bytes w * n) (line_bytes w) s ∙ ap (λ (t : ℕ). drop t s) k in
    line_read w s j.0 (omega arith) j.2
    ∙ ap (λ (t : List ℕ). line_text j.0 ++ t) (table-read w n (drop (line_bytes w) s) j.1 left j.3 ∙ ap (λ (t : List ℕ). table_text w n j.1 ++ t) d)
    ∙ sym (append_assoc (line_text j.0) (table_text w n j.1) (drop (line_bytes w * suc n) s))
    ∙ ap (λ (t : List ℕ). t ++ drop (line_bytes w * suc n) s) (table-put w n j.0 j.1 l j.4 (line-length w s j.0 j.2))

-- ---- how long
-- the text of a line has as many bytes as a line of so many fields
pub line-bytes : (l : List ℤ) → length (line_text l) ≡ line_bytes (length l)
unfolding line_text
line-bytes [] = refl
line-bytes (z ∷ l) = simp (length-append, field-length field_width z, line-bytes l) (omega arith)

-- the text of a table's first line
first-bytes : (w n : ℕ) (l : List ℤ) → length l ≡ w * suc n → length (line_text (take w l)) ≡ line_bytes w
first-bytes w n l h =
    let m = h ∙ mul-suc w n in
    line-bytes (take w l) ∙ ap line_bytes (length-take-le w l (omega arith))

-- the numbers past it
later-numbers : (w n : ℕ) (l : List ℤ) → length l ≡ w * suc n → length (drop w l) ≡ w * n
later-numbers w n l h = let m = h ∙ mul-suc w n in simp length-drop (omega arith)

-- the text of a table has as many bytes as its lines
pub table-bytes : (w n : ℕ) (l : List ℤ) → length l ≡ w * n → length (table_text w n l) ≡ line_bytes w * n
unfolding table_text
table-bytes w zero l h = sym (mul-zero (line_bytes w))
table-bytes w (suc n) l h =
    let k = mul-suc (line_bytes w) n in
    length-append (line_text (take w l)) (table_text w n (drop w l))
    ∙ omega (arith, first-bytes w n l h, table-bytes w n (drop w l) (later-numbers w n l h))

-- ---- written, then read
-- each number has a text in a field
abbrev pub AllFit : List ℤ → Type 0
AllFit [] = Unit {0}
AllFit (z ∷ l) = Fits field_width z × AllFit l

-- where each does by its position, all do
pub all_fit : (l : List ℤ) → ((i : ℕ) → i < length l → Fits field_width (get_or l i (pos 0))) → AllFit l
all_fit [] h = tt
all_fit (z ∷ l) h = (h 0 (omega arith), all_fit l (λ i b. h (suc i) (omega arith)))

-- the first of them
all_take : (w : ℕ) (l : List ℤ) → AllFit l → AllFit (take w l)
all_take zero l h = tt
all_take (suc w) [] h = tt
all_take (suc w) (z ∷ l) h = (h.0, all_take w l h.1)

-- and the others
all_drop : (w : ℕ) (l : List ℤ) → AllFit l → AllFit (drop w l)
all_drop zero l h = h
all_drop (suc w) [] h = tt
all_drop (suc w) (z ∷ l) h = all_drop w l h.1

-- the text of a line is read as its numbers, whatever follows
pub line-back : (l : List ℤ) (t : List ℕ) → AllFit l → line_of (length l) (line_text l ++ t) ≡ cells l
unfolding line_of line_text
line-back [] t h = refl
line-back (z ∷ l) t h =
    let f = field_text field_width z in
    let rest = line_text l ++ t in
    rw (
      append_assoc f (line_text l) t,
      take_at f rest field_width (field-length field_width z),
      drop_at f rest field_width (field-length field_width z),
      field_back field_width z h.0,
      line-back l t h.1,
    ) refl

-- the text of a table is read as its numbers, whatever follows
pub table-back : (w n : ℕ) (l : List ℤ) (t : List ℕ) → length l ≡ w * n → AllFit l → table_of w n (table_text w n l ++ t) ≡ cells l
unfolding table_of table_text
table-back w zero l t h a = ap cells (sym (none l (h ∙ mul-zero w)))
table-back w (suc n) l t h a =
    let m = h ∙ mul-suc w n in
    let rest = table_text w n (drop w l) ++ t in
    let wide : length (take w l) ≡ w = length-take-le w l (omega arith) in
    let one : line_of w (line_text (take w l) ++ rest) ≡ cells (take w l) = ap (λ (k : ℕ). line_of k (line_text (take w l) ++ rest)) (sym wide) ∙ line-back (take w l) rest (all_take w l a) in
    rw (
      append_assoc (line_text (take w l)) (table_text w n (drop w l)) t,
      one,
      drop_at (line_text (take w l)) rest (line_bytes w) (first-bytes w n l h),
      table-back w n (drop w l) t (later-numbers w n l h) (all_drop w l a),
    ) (ap cells (take-append-drop w l))
