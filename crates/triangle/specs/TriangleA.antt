-- 01, "Chart text": the file of triangle A, 340 bytes, written out field by field.
use Rattle.std.specs.Prelude.{ℕ, ◌+◌, List, [], ◌∷◌, ◌++◌, map, replicate, ℤ, pos}

-- a field: so many spaces, and then these digits
abbrev field : ℕ → List ℕ → List ℕ
field k digits = replicate k 32 ++ map (λ d. 48 + d) digits

abbrev lf : List ℕ
lf = 10 ∷ []

unfoldable pub file_a : List ℕ
file_a =
    (field 7 (3 ∷ []) ++ field 7 (6 ∷ []) ++ field 7 (2 ∷ []) ++ lf)
    ++ (field 7 (0 ∷ []) ++ field 7 (0 ∷ []) ++ field 5 (1 ∷ 0 ∷ 0 ∷ []) ++ field 7 (0 ∷ []) ++ lf)
    ++ (field 6 (1 ∷ 0 ∷ []) ++ field 7 (0 ∷ []) ++ field 5 (2 ∷ 0 ∷ 0 ∷ []) ++ field 7 (2 ∷ []) ++ lf)
    ++ (field 7 (0 ∷ []) ++ field 6 (1 ∷ 0 ∷ []) ++ field 5 (3 ∷ 0 ∷ 0 ∷ []) ++ field 7 (4 ∷ []) ++ lf)
    ++ (field 7 (0 ∷ []) ++ field 7 (2 ∷ []) ++ field 7 (4 ∷ []) ++ field 7 (1 ∷ []) ++ lf)
    ++ (field 7 (1 ∷ []) ++ field 7 (5 ∷ []) ++ field 7 (3 ∷ []) ++ field 7 (0 ∷ []) ++ lf)
    ++ (field 7 (1 ∷ []) ++ field 7 (4 ∷ []) ++ field 7 (0 ∷ []) ++ field 7 (1 ∷ []) ++ lf)
    ++ (field 7 (2 ∷ []) ++ field 7 (1 ∷ []) ++ field 7 (5 ∷ []) ++ field 7 (0 ∷ []) ++ lf)
    ++ (field 7 (2 ∷ []) ++ field 7 (0 ∷ []) ++ field 7 (2 ∷ []) ++ field 7 (1 ∷ []) ++ lf)
    ++ (field 7 (0 ∷ []) ++ field 7 (3 ∷ []) ++ field 7 (1 ∷ []) ++ field 7 (0 ∷ []) ++ lf)
    ++ (field 7 (1 ∷ []) ++ lf)
    ++ (field 7 (0 ∷ []) ++ lf)

-- its tables
unfoldable pub vertices_a : List ℤ
vertices_a =
    pos 0 ∷ pos 0 ∷ pos 100 ∷ pos 0
    ∷ pos 10 ∷ pos 0 ∷ pos 200 ∷ pos 2
    ∷ pos 0 ∷ pos 10 ∷ pos 300 ∷ pos 4 ∷ []

unfoldable pub edges_a : List ℕ
edges_a =
    0 ∷ 2 ∷ 4 ∷ 1
    ∷ 1 ∷ 5 ∷ 3 ∷ 0
    ∷ 1 ∷ 4 ∷ 0 ∷ 1
    ∷ 2 ∷ 1 ∷ 5 ∷ 0
    ∷ 2 ∷ 0 ∷ 2 ∷ 1
    ∷ 0 ∷ 3 ∷ 1 ∷ 0 ∷ []

unfoldable pub faces_a : List ℕ
faces_a = 1 ∷ 0 ∷ []
