-- 01, "Program": the fields and line ends that the program prints.
use Rattle.std.specs.Prelude.{ℕ, List, pos}
use Rattle.text.specs.Field.{field_text}

-- 01 "Program": "Printed fields are right-justified after spaces": n in w columns; of a number that does not fit, its last digits
abbrev pub printed : ℕ → ℕ → List ℕ
printed w n = field_text w (pos n)

-- 01 "Program": "each printed line ends with LF"
abbrev pub line_feed : ℕ
line_feed = 10
