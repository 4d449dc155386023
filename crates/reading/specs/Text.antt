-- 02, CR 1: the chart text of three tables, and a file's tables as numbers.
use Rattle.std.specs.Prelude.{ℕ, List, [], ◌∷◌, ◌++◌, ℤ, pos, length}
use Rattle.tables.specs.Text.{line_text, table_text}
use Rattle.chart.specs.Tables.{rows}
use Rattle.reading.specs.Reading.Head.{Refused, Counts}
use Rattle.reading.specs.Reading.{Head, head_of, Body, body_of}
use Rattle.reading.specs.Reading.Body.{malformed}

-- 01 "Chart text": "Line 1: counts of vertices, half-edges, faces. Then per vertex: ..; per half-edge: ..; per face: adjacent half-edge."
unfoldable pub chart_text : List ℤ → List ℤ → List ℤ → List ℕ
chart_text vs es fs =
    line_text (pos (rows vs) ∷ pos (rows es) ∷ pos (length fs) ∷ [])
    ++ (table_text 4 (rows vs) vs ++ (table_text 4 (rows es) es ++ table_text 1 (length fs) fs))

-- 02 CR 1: "the tables as numbers in file order" that a file holds, or the first of 3, 5, 4, 3, 5 that meets it
abbrev pub numbers_after : Head → List ℕ → Body
numbers_after (Refused n) s = malformed n
numbers_after (Counts v e f) s = body_of v e f s

abbrev pub numbers_in : List ℕ → Body
numbers_in s = numbers_after (head_of s) s
