-- The chart that stands in the first elements of lent slices, and room behind it.
use Rattle.std.specs.Prelude.{◌≡◌, List, ℕ, ◌+◌, ◌*◌, ◌≤◌, ℤ, length, take}
use Rattle.chart.specs.Chart.{Chart, chart_of}
use Rattle.rewire.specs.declared.Tables.{Tables}

abbrev pub front_of : ℕ → ℕ → ℕ → List ℤ → List ℕ → List ℕ → Chart
front_of v e f vs es fs = chart_of (take (4 * v) vs) (take (4 * e) es) (take f fs)

abbrev pub shown : Tables → Chart
shown t = front_of t.vertex_count t.half_edge_count t.face_count t.vertices.now t.edges.now t.faces.now

-- the slices are long enough for a vertex more, which adds six half-edges and two faces
pub record Long (vs : List ℤ) (es fs : List ℕ) (n h f : ℕ) : Type 0 where
  pub vertices : 4 * (n + 1) ≤ length vs
  pub half_edges : 4 * (h + 6) ≤ length es
  pub faces : f + 2 ≤ length fs

abbrev pub Roomy : Tables → Type 0
Roomy t = Long t.vertices.now t.edges.now t.faces.now t.vertex_count t.half_edge_count t.face_count

-- the slices are the same ones, as long as before: what is written is the lender's
pub record SameLent (t u : Tables) : Type 0 where
  pub vertices : t.vertices.ghost_name ≡ u.vertices.ghost_name
  pub edges : t.edges.ghost_name ≡ u.edges.ghost_name
  pub faces : t.faces.ghost_name ≡ u.faces.ghost_name
  pub vertices_long : length t.vertices.now ≡ length u.vertices.now
  pub edges_long : length t.edges.now ≡ length u.edges.now
  pub faces_long : length t.faces.now ≡ length u.faces.now
