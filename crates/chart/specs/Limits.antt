-- 01, row 4: the least and the most vertices, half-edges and faces of a chart.
use Rattle.std.specs.Prelude.{ℕ}

abbrev pub least_vertices : ℕ
least_vertices = 3

abbrev pub most_vertices : ℕ
most_vertices = 128

abbrev pub least_half_edges : ℕ
least_half_edges = 6

abbrev pub most_half_edges : ℕ
most_half_edges = 756

abbrev pub least_faces : ℕ
least_faces = 2

abbrev pub most_faces : ℕ
most_faces = 252
