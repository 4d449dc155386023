-- Copies of a chart's text with some bytes replaced, and the text of a square with a diagonal.
use Rattle.std.specs.Prelude.{ℕ, ◌+◌, ◌*◌, List, [], ◌∷◌, ◌++◌, map, length, take, drop, replicate}

-- the byte in column k of a row of vertices or half-edges: 25 bytes of line 1, then 33 a line
abbrev pub byte : ℕ → ℕ → ℕ
byte row k = 25 + 33 * row + k

-- a text with these bytes in the place of its own from i on
abbrev pub put : List ℕ → ℕ → List ℕ → List ℕ
put s i t = take i s ++ (t ++ drop (i + length t) s)

-- digits as bytes
abbrev pub figures : List ℕ → List ℕ
figures ds = map (λ d. 48 + d) ds

-- a field of one digit, and 10
abbrev one : ℕ → List ℕ
one d = replicate 7 32 ++ figures (d ∷ [])

abbrev ten : List ℕ
ten = replicate 6 32 ++ figures (1 ∷ 0 ∷ [])

abbrev lf : List ℕ
lf = 10 ∷ []

abbrev row : ℕ → ℕ → ℕ → ℕ → List ℕ
row a b c d = one a ++ one b ++ one c ++ one d ++ lf

-- (0,0), (10,0), (10,10), (0,10) with the diagonal from the first to the third: 4 vertices, 10 half-edges, 3 faces; its outer face has four half-edges
unfoldable pub square : List ℕ
square =
    (one 4 ++ ten ++ one 3 ++ lf)
    ++ row 0 0 1 0
    ++ (ten ++ one 0 ++ one 2 ++ one 2 ++ lf)
    ++ (ten ++ ten ++ one 3 ++ one 4 ++ lf)
    ++ (one 0 ++ ten ++ one 4 ++ one 6 ++ lf)
    ++ row 0 2 9 1
    ++ row 1 7 3 0
    ++ row 1 9 0 1
    ++ row 2 1 5 0
    ++ row 2 6 8 2
    ++ row 3 3 7 0
    ++ row 3 8 4 2
    ++ row 0 5 1 0
    ++ row 0 4 6 2
    ++ row 2 0 2 1
    ++ (one 1 ++ lf)
    ++ (one 0 ++ lf)
    ++ (one 8 ++ lf)
