-- 01, "Chart text": the three tables as lists in file order, and their columns.
--     vertices      x, y, value, out half-edge
--     half-edges    origin, next, prev, face
--     faces         adjacent half-edge
use Rattle.std.specs.Prelude.{List, map, ℕ, ◌+◌, ◌*◌, ◌/◌, ℤ, pos, negsuc, length, get_or}
use Rattle.geometry.specs.declared.Place.{Place}

-- a number of a vertex, half-edge or face, taken over as an unsigned one once row 6 has let it pass
abbrev pub unsigned : ℤ → ℕ
unsigned (pos n) = n
unsigned (negsuc n) = 0

abbrev pub unsigned_all : List ℤ → List ℕ
unsigned_all zs = map unsigned zs

-- how many rows of four numbers a table has
abbrev pub rows : {A : Type 0} → List A → ℕ
rows t = length t / 4

-- ---- the columns
abbrev pub place_of : List ℤ → ℕ → Place
place_of vs v = record { x = get_or vs (v * 4) (pos 0); y = get_or vs (v * 4 + 1) (pos 0) }

abbrev pub value_of : List ℤ → ℕ → ℤ
value_of vs v = get_or vs (v * 4 + 2) (pos 0)

abbrev pub out_of : List ℤ → ℕ → ℕ
out_of vs v = unsigned (get_or vs (v * 4 + 3) (pos 0))

abbrev pub origin_of : List ℕ → ℕ → ℕ
origin_of es h = get_or es (h * 4) 0

abbrev pub next_of : List ℕ → ℕ → ℕ
next_of es h = get_or es (h * 4 + 1) 0

abbrev pub prev_of : List ℕ → ℕ → ℕ
prev_of es h = get_or es (h * 4 + 2) 0

abbrev pub face_of : List ℕ → ℕ → ℕ
face_of es h = get_or es (h * 4 + 3) 0

abbrev pub adjacent_of : List ℕ → ℕ → ℕ
adjacent_of fs f = get_or fs f 0
