-- The largest chart, and what a longer one and its first bytes say. Assumes nothing.
use Rattle.std.specs.Prelude.{ℕ, suc, List, ◌≡◌}
use Rattle.chart.specs.Limits.{most_vertices, most_half_edges, most_faces}
use Rattle.reading.specs.Reading.{file_length, chart_refusal_of}

-- so many bytes has the largest chart
abbrev pub chart_max : ℕ
chart_max = file_length most_vertices most_half_edges most_faces

-- its refusal, and that of its first bytes
pub record Long (s p : List ℕ) : Type 0 where
  pub number : ℕ
  pub whole : chart_refusal_of s ≡ suc number
  pub kept : chart_refusal_of p ≡ suc number
