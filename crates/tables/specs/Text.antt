-- 01, "Chart text": the text of lines of fields, and of tables of lines.
use Rattle.std.specs.Prelude.{ℕ, zero, suc, List, [], ◌∷◌, ◌++◌, take, drop, ℤ}
use Rattle.text.specs.Field.{field_width, field_text}

-- 01 "Chart text": numbers in fields; "A line ends with LF (byte 10)".
unfoldable pub line_text : List ℤ → List ℕ
line_text [] = 10 ∷ []
line_text (z ∷ l) = field_text field_width z ++ line_text l

-- 01 "Chart text": n lines of w numbers each, as "per vertex: x, y, value, out half-edge".
unfoldable pub table_text : ℕ → ℕ → List ℤ → List ℕ
table_text w zero l = []
table_text w (suc n) l = line_text (take w l) ++ table_text w n (drop w l)
