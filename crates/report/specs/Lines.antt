-- 01, "Program": the lines that the program prints, and how long they are.
use Rattle.std.specs.Prelude.{ℕ, zero, suc, ◌+◌, ◌*◌, List, [], ◌∷◌, ◌++◌, get_or}
use Rattle.text.specs.Field.{field_width}
use Rattle.columns.specs.Printed.{printed, line_feed}
use Rattle.book.specs.declared.Book.{Book}

-- 01 "Program": the columns of wear and bend count, 16; other fields have 8, as in the chart's text
abbrev pub wide_field : ℕ
wide_field = 16

-- 01 "Program": "entry number and answer (8, 8 columns)"
unfoldable pub answer_line : ℕ → ℕ → List ℕ
answer_line i a = printed field_width i ++ (printed field_width a ++ (line_feed ∷ []))

-- 01 "Program": "section, wear, bend count (8, 16, 16)"
unfoldable pub section_line : ℕ → ℕ → ℕ → List ℕ
section_line s w c = printed field_width s ++ (printed wide_field w ++ (printed wide_field c ++ (line_feed ∷ [])))

-- 01 "Program": "retired wear (16)"
unfoldable pub retired_line : ℕ → List ℕ
retired_line w = printed wide_field w ++ (line_feed ∷ [])

-- 01 "Program": "A refusal prints its number in 8 columns"
unfoldable pub refusal_line : ℕ → List ℕ
refusal_line n = printed field_width n ++ (line_feed ∷ [])

-- 01 "Program": the answers of a run's entries, which are numbered from i on
unfoldable pub answer_lines : ℕ → List ℕ → List ℕ
answer_lines i [] = []
answer_lines i (a ∷ as') = answer_line i a ++ answer_lines (suc i) as'

-- 01 "Program": "The book has 2 sections"
abbrev pub program_sections : ℕ
program_sections = 2

-- the first k sections, by their wear and bend counts
unfoldable pub section_lines : List ℕ → List ℕ → ℕ → List ℕ
section_lines wear bends zero = []
section_lines wear bends (suc k) = section_lines wear bends k ++ section_line k (get_or wear k 0) (get_or bends k 0)

-- 01 "Program": the sections, "then retired wear"
unfoldable pub book_lines : Book → List ℕ
book_lines b = section_lines b.wear b.bends program_sections ++ retired_line b.retired

-- 01 "Program": all that a run with no refusal prints
unfoldable pub output_of : List ℕ → Book → List ℕ
output_of answers b = answer_lines 1 answers ++ book_lines b

-- ---- how many bytes these have
abbrev pub answer_bytes : ℕ
answer_bytes = field_width + field_width + 1

abbrev pub section_bytes : ℕ
section_bytes = field_width + wide_field + wide_field + 1

abbrev pub retired_bytes : ℕ
retired_bytes = wide_field + 1

abbrev pub refusal_bytes : ℕ
refusal_bytes = field_width + 1

abbrev pub book_bytes : ℕ
book_bytes = section_bytes * program_sections + retired_bytes
