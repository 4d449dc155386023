-- `insert_into_triangle`: a face is divided in three about a new vertex, as three triangles written in. Assumes nothing.
use Rattle.std.specs.Prelude.{◌≡◌, List, [], ◌∷◌, ℕ, suc, ◌+◌, ◌<◌, ℤ}
use Rattle.std.proofs.Common.{arith}
use Rattle.geometry.specs.declared.Place.{Place}
use Rattle.chart.specs.Chart.{Chart}
use Rattle.patches.specs.declared.Row.{Row}
use Rattle.patches.specs.Rows.{row_from, row_at}
use Rattle.patches.specs.Patch.{put, grown_with}

-- the triangles that replace triangle r: vertex n is across each of its half-edges; h and f are the first new half-edge and face
abbrev pub insert_row₀ : Row → ℕ → ℕ → Row
insert_row₀ r n h = row_from r.key h (h + 5) r.face r.from r.to n

abbrev pub insert_row₁ : Row → ℕ → ℕ → ℕ → Row
insert_row₁ r n h f = row_from r.next (h + 2) (h + 1) f r.to r.apex n

abbrev pub insert_row₂ : Row → ℕ → ℕ → ℕ → Row
insert_row₂ r n h f = row_from r.prev (h + 4) (h + 3) (f + 1) r.apex r.from n

-- e is a half-edge of the face
abbrev pub insert_rows : Chart → ℕ → List Row
insert_rows c e =
    insert_row₀ (row_at c e) c.vertices c.half_edges
    ∷ insert_row₁ (row_at c e) c.vertices c.half_edges c.faces
    ∷ insert_row₂ (row_at c e) c.vertices c.half_edges c.faces
    ∷ []

-- the new vertex's out half-edge
abbrev pub new_out : Chart → ℕ
new_out c = c.half_edges + 1

abbrev pub inserted : Chart → ℕ → Place → ℤ → Chart
inserted c e q z = grown_with c (insert_rows c e) (put c.vertices (new_out c) c.out) q z

-- ---- what holds of new numbers
pub over : {k m : ℕ} (i : ℕ) → k < m → k ≡ m + i → ⊥
over {k} {m} i l q = omega arith

pub at-end : {k m : ℕ} → k < m → k ≡ m → ⊥
at-end {k} {m} l q = omega arith

pub two-more : (f m : ℕ) → f < m + 2 → (f ≡ m → ⊥) → (f ≡ m + 1 → ⊥) → f < m
two-more f m l a b = omega arith

cut : (h m i : ℕ) → h < m + suc i → (h ≡ m + i → ⊥) → h < m + i
cut h m i l n = omega arith

one_more : (h m : ℕ) → h < m + 1 → (h ≡ m → ⊥) → h < m
one_more h m l n = omega arith

pub six : (h m : ℕ) → h < m + 6 → (h ≡ m → ⊥) → (h ≡ m + 1 → ⊥) → (h ≡ m + 2 → ⊥) → (h ≡ m + 3 → ⊥) → (h ≡ m + 4 → ⊥) → (h ≡ m + 5 → ⊥) → h < m
six h m l a b x d y f = one_more h m (cut h m 1 (cut h m 2 (cut h m 3 (cut h m 4 (cut h m 5 l f) y) d) x) b) a
