-- `split_edge`: the two faces at an inner edge are divided in four about a new vertex on it, as four triangles written in. Assumes nothing.
use Rattle.std.specs.Prelude.{List, [], ◌∷◌, ℕ, ◌+◌, ℤ}
use Rattle.geometry.specs.declared.Place.{Place}
use Rattle.chart.specs.Chart.{Chart, partner}
use Rattle.patches.specs.declared.Row.{Row}
use Rattle.patches.specs.Rows.{row_from, row_at}
use Rattle.patches.specs.Patch.{put, grown_with}

-- the triangles that replace r and s, on both sides of an edge, about a vertex n on it; h and f are the first new half-edge and face
abbrev pub split_row₀ : Row → ℕ → ℕ → Row
split_row₀ r n h = row_from r.key (h + 5) r.prev r.face r.from n r.apex

abbrev pub split_row₁ : Row → Row → ℕ → ℕ → Row
split_row₁ r s n h = row_from h s.key s.next s.face s.apex n r.from

abbrev pub split_row₂ : Row → ℕ → ℕ → ℕ → Row
split_row₂ s n h f = row_from (h + 2) (h + 1) s.prev f s.from n s.apex

abbrev pub split_row₃ : Row → Row → ℕ → ℕ → ℕ → Row
split_row₃ r s n h f = row_from (h + 4) (h + 3) r.next (f + 1) r.apex n s.from

-- e and t are the halves of the edge
abbrev pub split_rows : Chart → ℕ → ℕ → List Row
split_rows c e t =
    split_row₀ (row_at c e) c.vertices c.half_edges
    ∷ split_row₁ (row_at c e) (row_at c t) c.vertices c.half_edges
    ∷ split_row₂ (row_at c t) c.vertices c.half_edges c.faces
    ∷ split_row₃ (row_at c e) (row_at c t) c.vertices c.half_edges c.faces
    ∷ []

-- the out half-edge of the vertex where the edge ended: its old one may be t, which now starts at the new vertex
abbrev pub end_out : Chart → ℕ → ℕ
end_out c t = c.half_edges + 2

abbrev pub split_out : Chart → ℕ → ℕ → ℕ
split_out c t = put (c.origin t) (end_out c t) (put c.vertices t c.out)

abbrev pub split : Chart → ℕ → Place → ℤ → Chart
split c e q z = grown_with c (split_rows c e (partner e)) (split_out c (partner e)) q z
