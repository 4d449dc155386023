-- 02, CR 1: tables that 4 and 6 let pass have numbers that fit their fields. Assumes nothing.
use Rattle.std.specs.Prelude.{◌≡◌, false, List, [], ◌∷◌, ℕ, zero, suc, ◌+◌, ◌*◌, ◌-◌, ◌/◌, ◌%◌, ◌^◌, ◌≤◌, ◌<◌, T, ltb, ℤ, pos, negsuc, nat_abs, length, get_or}
use Rattle.std.proofs.Common.{add-zero, arith, ltb→lt}
use Rattle.whole.specs.Bound.{Within, up_to}
use Rattle.text.specs.Field.{field_width}
use Rattle.text.specs.RoundTrip.{Fits}
use Rattle.tables.specs.RoundTrip.{AllFit, all_fit}
use Rattle.geometry.specs.Plane.{on-grid}
use Rattle.chart.specs.Limits.{most_vertices, most_half_edges, most_faces}
use Rattle.chart.specs.Tables.{rows, place_of, value_of}
use Rattle.ranges.specs.Ranges.{cell, value_max, out_of_range}
use Rattle.ranges.specs.Passed.{Counted, below_in, vertex, edge, face}

-- a number whose bound has one digit fewer than a field has columns fits it, with its sign: `within-fits h tt` at a bound that is a numeral
pub within-fits : {n : ℕ} {z : ℤ} → Within n z → T (ltb n (10 ^ (field_width - 1))) → Fits field_width z
within-fits {n} {z} h t = by_sign z h.abs (ltb→lt n (10 ^ (field_width - 1)) t)
  where
    by_sign : (z : ℤ) → nat_abs z ≤ n → n < 10 ^ (field_width - 1) → Fits field_width z
    by_sign (pos k) b l = (omega arith, omega arith)
    by_sign (negsuc k) b l = (omega arith, omega arith)

-- the four numbers of a row
abbrev row_of : List ℤ → ℕ → List ℤ
row_of l r = cell l r 0 ∷ cell l r 1 ∷ cell l r 2 ∷ cell l r 3 ∷ []

-- a number by its row and column
in_row : (l : List ℤ) (i r k : ℕ) → i ≡ r * 4 + k → k < 4 → AllFit (row_of l r) → Fits field_width (get_or l i (pos 0))
in_row l i r zero e h f = rw e f.0
in_row l i r (suc zero) e h f = rw e f.1.0
in_row l i r (suc (suc zero)) e h f = rw e f.1.1.0
in_row l i r (suc (suc (suc zero))) e h f = rw e f.1.1.1.0
in_row l i r (suc (suc (suc (suc k)))) e h f = let o : ⊥ = omega arith in absurd o

-- a table of whole rows that fit
rows_fit : (l : List ℤ) → length l ≡ 4 * rows l → ((r : ℕ) → r < rows l → AllFit (row_of l r)) → AllFit l
rows_fit l e h = all_fit l (λ i b. in_row l i (i / 4) (i % 4) (omega arith) (omega arith) (h (i / 4) (omega arith)))

module _ (vs es fs : List ℤ) (h : out_of_range vs es fs ≡ false) (n : Counted (rows vs) (rows es) (length fs)) where
  -- x, y, value, out half-edge
  vertex-fits : (v : ℕ) → v < rows vs → AllFit (row_of vs v)
  vertex-fits v l =
      let a = vertex vs es fs h v l in
      let p = on-grid (place_of vs v) a.0 in (
        rw (add-zero (v * 4)) (within-fits p.x-in tt),
        (
          within-fits p.y-in tt,
          (
            within-fits (up_to value_max (value_of vs v) a.1.0) tt,
            (within-fits (below_in (rows es) most_half_edges (cell vs v 3) a.1.1 n.e-most) tt, tt),
          ),
        ),
      )

  -- origin, next, prev, face
  edge-fits : (k : ℕ) → k < rows es → AllFit (row_of es k)
  edge-fits k l =
      let a = edge vs es fs h k l in (
        within-fits (below_in (rows vs) most_vertices (cell es k 0) a.0 n.v-most) tt,
        (
          within-fits (below_in (rows es) most_half_edges (cell es k 1) a.1.0 n.e-most) tt,
          (
            within-fits (below_in (rows es) most_half_edges (cell es k 2) a.1.1.0 n.e-most) tt,
            (within-fits (below_in (length fs) most_faces (cell es k 3) a.1.1.1 n.f-most) tt, tt),
          ),
        ),
      )

  -- adjacent half-edge
  face-fits : (f : ℕ) → f < length fs → Fits field_width (get_or fs f (pos 0))
  face-fits f l = within-fits (below_in (rows es) most_half_edges (get_or fs f (pos 0)) (face vs es fs h f l) n.e-most) tt

  -- every number of the three tables fits its field
  pub tables-fit : length vs ≡ 4 * rows vs → length es ≡ 4 * rows es → AllFit vs × (AllFit es × AllFit fs)
  tables-fit a b = (rows_fit vs a vertex-fits, (rows_fit es b edge-fits, all_fit fs face-fits))
