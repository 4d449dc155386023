-- A chart of five vertices, of which vertex 0 is an inner one, written out field by field.
use Rattle.std.specs.Prelude.{ℕ, ◌+◌, List, [], ◌∷◌, ◌++◌, map, ℤ, pos, negsuc, replicate}

-- a field: so many spaces, and then these digits, or a minus sign and these digits
abbrev field : ℕ → List ℕ → List ℕ
field k digits = replicate k 32 ++ map (λ d. 48 + d) digits

abbrev below : ℕ → List ℕ → List ℕ
below k digits = replicate k 32 ++ (45 ∷ map (λ d. 48 + d) digits)

abbrev lf : List ℕ
lf = 10 ∷ []

unfoldable pub file_b : List ℕ
file_b =
    (field 7 (5 ∷ []) ++ field 6 (1 ∷ 6 ∷ []) ++ field 7 (5 ∷ []) ++ lf)
    ++ (field 7 (0 ∷ []) ++ field 7 (6 ∷ []) ++ field 5 (1 ∷ 0 ∷ 7 ∷ []) ++ field 7 (5 ∷ []) ++ lf)
    ++ (below 6 (4 ∷ []) ++ field 7 (3 ∷ []) ++ field 5 (4 ∷ 0 ∷ 0 ∷ []) ++ field 7 (7 ∷ []) ++ lf)
    ++ (field 7 (2 ∷ []) ++ field 6 (1 ∷ 2 ∷ []) ++ field 5 (2 ∷ 5 ∷ 9 ∷ []) ++ field 7 (2 ∷ []) ++ lf)
    ++ (below 6 (5 ∷ []) ++ below 6 (1 ∷ []) ++ field 6 (1 ∷ 0 ∷ []) ++ field 6 (1 ∷ 5 ∷ []) ++ lf)
    ++ (field 6 (1 ∷ 1 ∷ []) ++ below 6 (5 ∷ []) ++ field 6 (7 ∷ 2 ∷ []) ++ field 7 (8 ∷ []) ++ lf)
    ++ (field 7 (1 ∷ []) ++ field 7 (3 ∷ []) ++ field 6 (1 ∷ 1 ∷ []) ++ field 7 (2 ∷ []) ++ lf)
    ++ (field 7 (0 ∷ []) ++ field 7 (7 ∷ []) ++ field 6 (1 ∷ 5 ∷ []) ++ field 7 (1 ∷ []) ++ lf)
    ++ (field 7 (2 ∷ []) ++ field 7 (5 ∷ []) ++ field 7 (8 ∷ []) ++ field 7 (4 ∷ []) ++ lf)
    ++ (field 7 (0 ∷ []) ++ field 6 (1 ∷ 1 ∷ []) ++ field 7 (0 ∷ []) ++ field 7 (2 ∷ []) ++ lf)
    ++ (field 7 (4 ∷ []) ++ field 6 (1 ∷ 4 ∷ []) ++ field 6 (1 ∷ 3 ∷ []) ++ field 7 (3 ∷ []) ++ lf)
    ++ (field 7 (0 ∷ []) ++ field 7 (8 ∷ []) ++ field 7 (2 ∷ []) ++ field 7 (4 ∷ []) ++ lf)
    ++ (field 7 (3 ∷ []) ++ field 6 (1 ∷ 0 ∷ []) ++ field 6 (1 ∷ 2 ∷ []) ++ field 7 (0 ∷ []) ++ lf)
    ++ (field 7 (1 ∷ []) ++ field 6 (1 ∷ 5 ∷ []) ++ field 7 (1 ∷ []) ++ field 7 (1 ∷ []) ++ lf)
    ++ (field 7 (4 ∷ []) ++ field 7 (2 ∷ []) ++ field 7 (5 ∷ []) ++ field 7 (4 ∷ []) ++ lf)
    ++ (field 7 (2 ∷ []) ++ field 6 (1 ∷ 2 ∷ []) ++ field 6 (1 ∷ 0 ∷ []) ++ field 7 (0 ∷ []) ++ lf)
    ++ (field 7 (1 ∷ []) ++ field 7 (9 ∷ []) ++ field 7 (6 ∷ []) ++ field 7 (0 ∷ []) ++ lf)
    ++ (field 7 (2 ∷ []) ++ field 7 (0 ∷ []) ++ field 7 (3 ∷ []) ++ field 7 (2 ∷ []) ++ lf)
    ++ (field 7 (4 ∷ []) ++ field 7 (6 ∷ []) ++ field 7 (9 ∷ []) ++ field 7 (0 ∷ []) ++ lf)
    ++ (field 7 (3 ∷ []) ++ field 7 (4 ∷ []) ++ field 6 (1 ∷ 4 ∷ []) ++ field 7 (3 ∷ []) ++ lf)
    ++ (field 7 (0 ∷ []) ++ field 6 (1 ∷ 3 ∷ []) ++ field 7 (4 ∷ []) ++ field 7 (3 ∷ []) ++ lf)
    ++ (field 7 (3 ∷ []) ++ field 7 (1 ∷ []) ++ field 7 (7 ∷ []) ++ field 7 (1 ∷ []) ++ lf)
    ++ (field 7 (6 ∷ []) ++ lf)
    ++ (field 6 (1 ∷ 5 ∷ []) ++ lf)
    ++ (field 7 (0 ∷ []) ++ lf)
    ++ (field 6 (1 ∷ 4 ∷ []) ++ lf)
    ++ (field 7 (2 ∷ []) ++ lf)

-- its tables
unfoldable pub vertices_b : List ℤ
vertices_b =
    pos 0 ∷ pos 6 ∷ pos 107 ∷ pos 5
    ∷ negsuc 3 ∷ pos 3 ∷ pos 400 ∷ pos 7
    ∷ pos 2 ∷ pos 12 ∷ pos 259 ∷ pos 2
    ∷ negsuc 4 ∷ negsuc 0 ∷ pos 10 ∷ pos 15
    ∷ pos 11 ∷ negsuc 4 ∷ pos 72 ∷ pos 8 ∷ []

unfoldable pub edges_b : List ℕ
edges_b =
    1 ∷ 3 ∷ 11 ∷ 2
    ∷ 0 ∷ 7 ∷ 15 ∷ 1
    ∷ 2 ∷ 5 ∷ 8 ∷ 4
    ∷ 0 ∷ 11 ∷ 0 ∷ 2
    ∷ 4 ∷ 14 ∷ 13 ∷ 3
    ∷ 0 ∷ 8 ∷ 2 ∷ 4
    ∷ 3 ∷ 10 ∷ 12 ∷ 0
    ∷ 1 ∷ 15 ∷ 1 ∷ 1
    ∷ 4 ∷ 2 ∷ 5 ∷ 4
    ∷ 2 ∷ 12 ∷ 10 ∷ 0
    ∷ 1 ∷ 9 ∷ 6 ∷ 0
    ∷ 2 ∷ 0 ∷ 3 ∷ 2
    ∷ 4 ∷ 6 ∷ 9 ∷ 0
    ∷ 3 ∷ 4 ∷ 14 ∷ 3
    ∷ 0 ∷ 13 ∷ 4 ∷ 3
    ∷ 3 ∷ 1 ∷ 7 ∷ 1 ∷ []

unfoldable pub faces_b : List ℕ
faces_b = 6 ∷ 15 ∷ 0 ∷ 14 ∷ 2 ∷ []
