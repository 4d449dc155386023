-- 01, "Where a call can be turned down", rows 4 and 6: counts and numbers of three tables of whole numbers.
use Rattle.std.specs.Prelude.{Bool, not, ◌||◌, List, ℕ, ◌+◌, ◌*◌, ◌%◌, eqb, ℤ, pos, nat_abs, length, get_or}
use Rattle.std.specs.Int.Signed.{lt_z}
use Rattle.whole.specs.First.{some}
use Rattle.whole.specs.Bound.{outside}
use Rattle.geometry.specs.Plane.{off_grid}
use Rattle.chart.specs.Limits.{least_vertices, most_vertices, least_half_edges, most_half_edges, least_faces, most_faces}
use Rattle.chart.specs.Tables.{rows, place_of, value_of}

-- ---- 4: vertices not 3 to 128; half-edges odd or not 6 to 756; faces not 2 to 252
abbrev pub odd : ℤ → Bool
odd z = not (eqb (nat_abs z % 2) 0)

unfoldable pub counts_refused : ℤ → ℤ → ℤ → Bool
counts_refused vertices half_edges faces =
    outside (pos least_vertices) (pos most_vertices) vertices
    || (odd half_edges
    || (outside (pos least_half_edges) (pos most_half_edges) half_edges || outside (pos least_faces) (pos most_faces) faces))

-- ---- 6: a number of a vertex, half-edge or face negative or not below its count
unfoldable pub not_below : ℕ → ℤ → Bool
not_below n z = lt_z z (pos 0) || not (lt_z z (pos n))

-- the number in row r and column k of a table
abbrev pub cell : List ℤ → ℕ → ℕ → ℤ
cell t r k = get_or t (r * 4 + k) (pos 0)

-- coordinate not -10,000 to 10,000; value not 0 to 1,000,000; the out half-edge
abbrev pub value_max : ℕ
value_max = 1000000

unfoldable pub bad_vertex : ℕ → List ℤ → ℕ → Bool
bad_vertex half_edges vs v =
    off_grid (place_of vs v) || (outside (pos 0) (pos value_max) (value_of vs v) || not_below half_edges (cell vs v 3))

-- origin, next, prev, face
unfoldable pub bad_half_edge : ℕ → ℕ → List ℤ → ℕ → Bool
bad_half_edge vertices faces es h =
    not_below vertices (cell es h 0)
    || (not_below (rows es) (cell es h 1) || (not_below (rows es) (cell es h 2) || not_below faces (cell es h 3)))

-- the adjacent half-edge
unfoldable pub bad_face : ℕ → List ℤ → ℕ → Bool
bad_face half_edges fs f = not_below half_edges (get_or fs f (pos 0))

-- 6 meets the tables
unfoldable pub out_of_range : List ℤ → List ℤ → List ℤ → Bool
out_of_range vs es fs =
    some (bad_vertex (rows es) vs) (rows vs)
    || (some (bad_half_edge (rows vs) (length fs) es) (rows es) || some (bad_face (rows es) fs) (length fs))
