-- What rows 4 and 6 leave of tables that they let pass. Assumes nothing.
use Rattle.std.specs.Prelude.{◌≡◌, refl, false, not, List, ℕ, ◌+◌, ◌*◌, ◌/◌, ◌%◌, ◌≤◌, ◌<◌, eqb, ltb, ℤ, pos, negsuc, length, get_or}
use Rattle.std.proofs.Common.{sym, subst, ap, add-zero, arith, ltb-true, ltb-false, eqb-true, le-ltb, eq-eqb}
use Rattle.std.proofs.lemmas.Bool.{false≢true, not-false}
use Rattle.std.proofs.lemmas.List.{length-map}
use Rattle.std.proofs.Math.ListN.{get_or-map}
use Rattle.whole.specs.Bools.{or-false}
use Rattle.whole.specs.Bound.{Within, outside}
use Rattle.whole.specs.First.{some, none-at}
use Rattle.geometry.specs.Plane.{off_grid, on-grid}
use Rattle.chart.specs.Limits.{least_vertices, most_vertices, least_half_edges, most_half_edges, least_faces, most_faces}
use Rattle.chart.specs.Tables.{rows, unsigned, unsigned_all, place_of, value_of}
use Rattle.chart.specs.Chart.{chart_of, InRange}
use Rattle.ranges.specs.Ranges.{counts_refused, odd, not_below, cell, value_max, bad_vertex, bad_half_edge, bad_face, out_of_range}

-- ---- 4
-- the counts that pass
pub record Counted (v e f : ℕ) : Type 0 where
  pub v-least : least_vertices ≤ v
  pub v-most : v ≤ most_vertices
  pub e-least : least_half_edges ≤ e
  pub e-most : e ≤ most_half_edges
  pub e-even : e % 2 ≡ 0
  pub f-least : least_faces ≤ f
  pub f-most : f ≤ most_faces

-- a number that is not outside
between : (lo hi n : ℕ) → outside (pos lo) (pos hi) (pos n) ≡ false → (lo ≤ n) × (n ≤ hi)
between lo hi n e = let p = or-false (ltb n lo) (ltb hi n) e in (ltb-false n lo p.0, ltb-false hi n p.1)

-- what row 4 leaves
pub counted : (v e f : ℕ) → counts_refused (pos v) (pos e) (pos f) ≡ false → Counted v e f
unfolding counts_refused
counted v e f h =
    let a = or-false (outside (pos least_vertices) (pos most_vertices) (pos v)) _ h in
    let b = or-false (odd (pos e)) _ a.1 in
    let d = or-false (outside (pos least_half_edges) (pos most_half_edges) (pos e)) (outside (pos least_faces) (pos most_faces) (pos f)) b.1 in
    let x = between least_vertices most_vertices v a.0 in
    let y = between least_half_edges most_half_edges e d.0 in
    let z = between least_faces most_faces f d.1 in
    record {
      v-least = x.0;
      v-most = x.1;
      e-least = y.0;
      e-most = y.1;
      e-even = eqb-true (e % 2) 0 (not-false (eqb (e % 2) 0) b.0);
      f-least = z.0;
      f-most = z.1;
    }

-- and it lets such counts pass
pub counts-pass : (v e f : ℕ) → Counted v e f → counts_refused (pos v) (pos e) (pos f) ≡ false
unfolding counts_refused
counts-pass v e f r =
    rw (
      le-ltb v least_vertices r.v-least,
      le-ltb most_vertices v r.v-most,
      eq-eqb (e % 2) 0 r.e-even,
      le-ltb e least_half_edges r.e-least,
      le-ltb most_half_edges e r.e-most,
      le-ltb f least_faces r.f-least,
      le-ltb most_faces f r.f-most,
    )

-- a count that passes is no negative number
not_negative : (lo hi : ℕ) (z : ℤ) → outside (pos lo) (pos hi) z ≡ false → pos (unsigned z) ≡ z
not_negative lo hi (pos n) e = refl
not_negative lo hi (negsuc n) e = absurd (false≢true (sym e))

-- all three counts are no negative numbers
pub passed-positive : (v e f : ℤ) → counts_refused v e f ≡ false → (pos (unsigned v) ≡ v) × ((pos (unsigned e) ≡ e) × (pos (unsigned f) ≡ f))
unfolding counts_refused
passed-positive v e f h =
    let a = or-false (outside (pos least_vertices) (pos most_vertices) v) _ h in
    let b = or-false (odd e) _ a.1 in
    let d = or-false (outside (pos least_half_edges) (pos most_half_edges) e) (outside (pos least_faces) (pos most_faces) f) b.1 in
    (not_negative least_vertices most_vertices v a.0, (not_negative least_half_edges most_half_edges e d.0, not_negative least_faces most_faces f d.1))

-- ---- 6
-- a number that is let pass, taken over
pub below : (n : ℕ) (z : ℤ) → not_below n z ≡ false → unsigned z < n
unfolding not_below
below n (pos m) e = ltb-true m n (not-false (ltb m n) (or-false (ltb m 0) (not (ltb m n)) e).1)
below n (negsuc m) e = absurd (false≢true (sym e))

-- and it is within a bound of the count
pub below_in : (n m : ℕ) (z : ℤ) → not_below n z ≡ false → n ≤ m → Within m z
unfolding not_below
below_in n m (pos k) e h = let l = below n (pos k) e in record { abs = omega arith }
below_in n m (negsuc k) e h = absurd (false≢true (sym e))

-- a number of a table taken over, below a count of one
taken : (t : List ℤ) (k n m : ℕ) → n ≡ m → not_below n (get_or t k (pos 0)) ≡ false → get_or (unsigned_all t) k 0 < m
taken t k n m e h =
    subst (λ (x : ℕ). x < m) (sym (get_or-map unsigned t k (pos 0))) (subst (λ (x : ℕ). unsigned (get_or t k (pos 0)) < x) e (below n (get_or t k (pos 0)) h))

-- taking a table over keeps its rows
same_rows : (t : List ℤ) → rows t ≡ rows (unsigned_all t)
same_rows t = ap (λ (n : ℕ). n / 4) (sym (length-map t unsigned))

module _ (vs es fs : List ℤ) (h : out_of_range vs es fs ≡ false) where
  -- the three scans of row 6
  parts : (some (bad_vertex (rows es) vs) (rows vs) ≡ false) × ((some (bad_half_edge (rows vs) (length fs) es) (rows es) ≡ false) × (some (bad_face (rows es) fs) (length fs) ≡ false))
  unfolding out_of_range
  parts =
      let a = or-false (some (bad_vertex (rows es) vs) (rows vs)) _ h in
      (a.0, or-false (some (bad_half_edge (rows vs) (length fs) es) (rows es)) (some (bad_face (rows es) fs) (length fs)) a.1)

  -- what it leaves of a vertex
  pub vertex : (v : ℕ) → v < rows vs → (off_grid (place_of vs v) ≡ false) × ((outside (pos 0) (pos value_max) (value_of vs v) ≡ false) × (not_below (rows es) (cell vs v 3) ≡ false))
  unfolding bad_vertex
  vertex v l =
      let a = or-false (off_grid (place_of vs v)) _ (none-at (bad_vertex (rows es) vs) (rows vs) parts.0 v l) in
      (a.0, or-false (outside (pos 0) (pos value_max) (value_of vs v)) (not_below (rows es) (cell vs v 3)) a.1)

  -- of a half-edge
  pub edge : (k : ℕ) → k < rows es → (not_below (rows vs) (cell es k 0) ≡ false) × ((not_below (rows es) (cell es k 1) ≡ false) × ((not_below (rows es) (cell es k 2) ≡ false) × (not_below (length fs) (cell es k 3) ≡ false)))
  unfolding bad_half_edge
  edge k l =
      let a = or-false (not_below (rows vs) (cell es k 0)) _ (none-at (bad_half_edge (rows vs) (length fs) es) (rows es) parts.1.0 k l) in
      let b = or-false (not_below (rows es) (cell es k 1)) _ a.1 in
      (a.0, (b.0, or-false (not_below (rows es) (cell es k 2)) (not_below (length fs) (cell es k 3)) b.1))

  -- of a face
  pub face : (f : ℕ) → f < length fs → not_below (rows es) (get_or fs f (pos 0)) ≡ false
  unfolding bad_face
  face f l = none-at (bad_face (rows es) fs) (length fs) parts.1.1 f l

  -- the same bound, over the tables taken over
  in-edges : {k : ℕ} → k < rows (unsigned_all es) → k < rows es
  in-edges {k} l = subst (λ (n : ℕ). k < n) (sym (same_rows es)) l

  -- and so is a face's
  in-faces : {k : ℕ} → k < length (unsigned_all fs) → k < length fs
  in-faces {k} l = subst (λ (n : ℕ). k < n) (length-map fs unsigned) l

  -- a value is 0 to 1,000,000
  pub values-in : (v : ℕ) → v < rows vs → outside (pos 0) (pos value_max) (value_of vs v) ≡ false
  values-in v l = (vertex v l).1.0

  -- what row 6 leaves: every number is in range
  pub in-range : rows es % 2 ≡ 0 → InRange (chart_of vs (unsigned_all es) (unsigned_all fs))
  in-range even =
      record {
        places = λ v l. on-grid (place_of vs v) (vertex v l).0;
        outs = λ v l. subst (λ (n : ℕ). unsigned (cell vs v 3) < n) (same_rows es) (below (rows es) (cell vs v 3) (vertex v l).1.1);
        origins = λ k l. subst (λ (n : ℕ). get_or (unsigned_all es) n 0 < rows vs) (add-zero (k * 4)) (taken es (k * 4 + 0) (rows vs) (rows vs) refl (edge k (in-edges l)).0);
        nexts = λ k l. taken es (k * 4 + 1) (rows es) _ (same_rows es) (edge k (in-edges l)).1.0;
        prevs = λ k l. taken es (k * 4 + 2) (rows es) _ (same_rows es) (edge k (in-edges l)).1.1.0;
        face-numbers = λ k l. taken es (k * 4 + 3) (length fs) _ (sym (length-map fs unsigned)) (edge k (in-edges l)).1.1.1;
        adjacents = λ f l. taken fs f (rows es) _ (same_rows es) (face f (in-faces l));
        pairs = subst (λ (n : ℕ). n % 2 ≡ 0) (same_rows es) even;
      }
