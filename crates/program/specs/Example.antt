-- 01, "Program": its example, and what a refusal prints, computed. Assumes nothing.
use Rattle.std.specs.Prelude.{ℕ, List, [], ◌∷◌, ◌++◌, ◌≡◌, replicate, set}
use Rattle.triangle.specs.TriangleA.{file_a}
use Rattle.program.specs.Program.{program_of}

-- so many spaces, and then these bytes
abbrev after : ℕ → List ℕ → List ℕ
after k bytes = replicate k 32 ++ bytes

-- one digit in 8 columns
abbrev digit : ℕ → List ℕ
digit b = after 7 (b ∷ [])

abbrev lf : List ℕ
lf = 10 ∷ []

-- 01's log
unfoldable pub example_log : List ℕ
example_log =
    digit 49 ++ digit 48 ++ digit 50 ++ digit 51 ++ digit 49 ++ lf
    ++ digit 49 ++ digit 49 ++ digit 53 ++ after 6 (45 ∷ 49 ∷ []) ++ digit 49 ++ lf
    ++ digit 50 ++ digit 48 ++ digit 48 ++ digit 48 ++ digit 48 ++ lf
    ++ digit 49 ++ digit 48 ++ digit 53 ++ digit 48 ++ digit 50 ++ lf

-- what 01 prints for it
unfoldable pub example_output : List ℕ
example_output =
    digit 49 ++ after 5 (49 ∷ 56 ∷ 48 ∷ []) ++ lf
    ++ digit 50 ++ after 1 (50 ∷ 48 ∷ 48 ∷ 48 ∷ 48 ∷ 49 ∷ 52 ∷ []) ++ lf
    ++ digit 51 ++ digit 48 ++ lf
    ++ digit 52 ++ after 5 (49 ∷ 53 ∷ 48 ∷ []) ++ lf
    ++ digit 48 ++ after 13 (49 ∷ 53 ∷ 48 ∷ []) ++ after 15 (49 ∷ []) ++ lf
    ++ digit 49 ++ after 15 (48 ∷ []) ++ after 15 (48 ∷ []) ++ lf
    ++ after 13 (49 ∷ 56 ∷ 48 ∷ []) ++ lf

-- a line of 8 columns with one digit
abbrev number_line : ℕ → List ℕ
number_line b = digit b ++ lf

pub record Refusals : Type 0 where
  -- "chart.txt (unreadable counts as empty)"; "A refusal prints its number in 8 columns and stops"; "each printed line ends with LF"
  pub no-chart : program_of [] example_log ≡ number_line 51
  -- "chart first": of a chart that 4 refuses and a log that 3 refuses
  pub chart-first : program_of (set file_a 7 50) (49 ∷ []) ≡ number_line 52
  -- "3 if no multiple of 41"
  pub log-cut : program_of file_a (49 ∷ []) ≡ number_line 51
  -- "The book has 2 sections": of a log without entries the book alone
  pub no-entry : program_of file_a [] ≡ digit 48 ++ after 15 (48 ∷ []) ++ after 15 (48 ∷ []) ++ lf ++ digit 49 ++ after 15 (48 ∷ []) ++ after 15 (48 ∷ []) ++ lf ++ after 15 (48 ∷ []) ++ lf
