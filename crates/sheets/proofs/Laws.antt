-- A field and a line at a time: what is put and what remains, one after the other, are the whole.
use Rattle.std.specs.Prelude.{ℕ, suc, ◌+◌, ◌-◌, ◌*◌, ◌≤◌, ◌<◌, List, [], ◌∷◌, ◌++◌, ◌≡◌, ℤ, pos, length, take, drop, get_or}
use Rattle.std.proofs.Common.{refl, ap, sym, ◌∙◌, arith, add-one, mul-suc, mul-le-mul_left, subst, length-drop, drop-cons, drop-drop, length-take-le}
use lib.Seq.{drop-length}
use Rattle.text.specs.Field.{field_width, field_text}
use Rattle.text.specs.RoundTrip.{field-length}
use Rattle.tables.specs.Table.{line_bytes}
use Rattle.tables.specs.Text.{line_text, table_text}
use Rattle.tables.specs.RoundTrip.{line-bytes, table-bytes}
use Rattle.chart.specs.Tables.{rows}
use Rattle.reading.specs.Reading.{head_length, file_length}
use Rattle.reading.specs.Text.{chart_text}
use Rattle.reading.specs.RoundTrip.{text-length}
use Rattle.columns.specs.Laid.{laid, laid_none, then-laid}

line-by : (z : ℤ) (l m : List ℤ) → m ≡ z ∷ l → field_text field_width z ++ line_text l ≡ line_text m
unfolding line_text
line-by z l m e = rw e refl

-- a field more of a line
pub line-next : (row : List ℤ) (j : ℕ) (old mid : List ℕ) (at end : ℕ) → j < length row → at + field_width ≤ length old → end ≡ at + field_width
    → mid ≡ laid old at (field_text field_width (get_or row j (pos 0))) → laid mid end (line_text (drop (j + 1) row)) ≡ laid old at (line_text (drop j row))
line-next row j old mid at end h room e p =
    let z = get_or row j (pos 0) in
    then-laid old at (field_text field_width z) (line_text (drop (j + 1) row)) field_width end mid _ (field-length field_width z) room e p refl
    ∙ ap (λ (t : List ℕ). laid old at t) (line-by z (drop (j + 1) row) (drop j row) (drop-cons row j (pos 0) h ∙ ap (λ (k : ℕ). z ∷ drop k row) (sym (add-one j))))

-- no field is left
pub line-ends : (row : List ℤ) (j : ℕ) → j ≡ length row → 10 ∷ [] ≡ line_text (drop j row)
unfolding line_text
line-ends row j e = rw (e, drop-length row) refl

pub line-last : (row : List ℤ) (j : ℕ) (out : List ℕ) (at : ℕ) → j ≡ length row → laid out (at + field_width * length row) (10 ∷ []) ≡ laid out (at + field_width * j) (line_text (drop j row))
line-last row j out at e = rw e (ap (λ (t : List ℕ). laid out (at + field_width * length row) t) (line-ends row (length row) refl))

table-by : (w k : ℕ) (l : List ℤ) (n : ℕ) → n ≡ suc k → line_text (take w l) ++ table_text w k (drop w l) ≡ table_text w n l
unfolding table_text
table-by w k l n e = rw e refl

-- line i of n is within them
row-in : (w n i : ℕ) → i < n → w * i + w ≤ w * n
row-in w n i h = subst (λ (k : ℕ). k ≤ w * n) (mul-suc w i) (mul-le-mul_left w h)

-- the part of a table that line i is
pub part-is : (cells : List ℤ) (w i : ℕ) → take (w * i + w - w * i) (drop (w * i) cells) ≡ take w (drop (w * i) cells)
part-is cells w i = let e : w * i + w - w * i ≡ w = omega arith in ap (λ (k : ℕ). take k (drop (w * i) cells)) e

pub part-long : (cells : List ℤ) (w n i : ℕ) → i < n → length cells ≡ w * n → length (take w (drop (w * i) cells)) ≡ w
part-long cells w n i h l = length-take-le w (drop (w * i) cells) (simp length-drop (omega (arith, row-in w n i h)))

-- a line more of a table
pub table-next : (w n i : ℕ) (cells : List ℤ) (old mid : List ℕ) (at : ℕ) → i < n → length cells ≡ w * n → at + line_bytes w * n ≤ length old
    → mid ≡ laid old (at + line_bytes w * i) (line_text (take (w * i + w - w * i) (drop (w * i) cells)))
    → laid mid (at + line_bytes w * (i + 1)) (table_text w (n - (i + 1)) (drop (w * (i + 1)) cells)) ≡ laid old (at + line_bytes w * i) (table_text w (n - i) (drop (w * i) cells))
table-next w n i cells old mid at h l room p =
    let from = w * i in
    let row = take w (drop from cells) in
    let k = n - (i + 1) in
    let m = at + line_bytes w * i in
    let next : w * (i + 1) ≡ from + w = rw (add-one i) (mul-suc w i) in
    let end : at + line_bytes w * (i + 1) ≡ m + line_bytes w = omega (arith, mul-suc (line_bytes w) i) in
    then-laid old m (line_text row) (table_text w k (drop (w * (i + 1)) cells)) (line_bytes w) (at + line_bytes w * (i + 1)) mid _
    (line-bytes row ∙ ap line_bytes (part-long cells w n i h l)) (omega (arith, row-in (line_bytes w) n i h)) end (rw part-is at p) refl
    ∙ ap (λ (t : List ℕ). laid old m t)
    (ap (λ (q : List ℤ). line_text row ++ table_text w k q) (ap (λ (q : ℕ). drop q cells) next ∙ sym (drop-drop w from cells)) ∙ table-by w k (drop from cells) (n - i) (omega arith))

-- no line is left
pub table-ends : (w n i : ℕ) (l : List ℤ) → i ≡ n → table_text w (n - i) l ≡ []
unfolding table_text
table-ends w n i l e = let z : n - i ≡ 0 = omega arith in rw z refl

-- line 1 and three tables, each from where the one before it ends, are the text
pub chart-put : (vs es fs : List ℤ) → length vs ≡ 4 * rows vs → length es ≡ 4 * rows es → (old x y z new : List ℕ) (a b c : ℕ)
    → file_length (rows vs) (rows es) (length fs) ≤ length old → length x ≡ length old → length y ≡ length old → a ≡ head_length → b ≡ a + line_bytes 4 * rows vs
    → c ≡ b + line_bytes 4 * rows es → x ≡ laid old 0 (line_text (pos (rows vs) ∷ pos (rows es) ∷ pos (length fs) ∷ [])) → y ≡ laid x a (table_text 4 (rows vs) vs)
    → z ≡ laid y b (table_text 4 (rows es) es) → new ≡ laid z c (table_text 1 (length fs) fs) → new ≡ laid old 0 (chart_text vs es fs)
unfolding chart_text
chart-put vs es fs lv le old x y z new a b c room lx ly ea eb ec px py pz p =
    let k : List ℤ = pos (rows vs) ∷ pos (rows es) ∷ pos (length fs) ∷ [] in
    let t = table_text 4 (rows vs) vs in
    let u = table_text 4 (rows es) es in
    let w = table_text 1 (length fs) fs in
    then-laid old 0 (line_text k) (t ++ (u ++ w)) head_length a x new (line-bytes k) (omega arith) (omega arith) px
    (then-laid x a t (u ++ w) (line_bytes 4 * rows vs) b y new (table-bytes 4 (rows vs) vs lv) (omega arith) eb py
    (then-laid y b u w (line_bytes 4 * rows es) c z new (table-bytes 4 (rows es) es le) (omega arith) ec pz p))

pub ruleset line = (line-next, line-last)

pub ruleset table = (table-next, table-ends, laid_none)

pub ruleset chart = (text-length, chart-put)
