-- The lines of a chart's edges, worked out once for all loads that are located on it: where v is the vector of an edge from a, the side of q is
-- v × q less v × a (01, "Side and circle"). Assumes nothing.
use Rattle.std.specs.Prelude.{◌≡◌, List, ℕ, ◌*◌, ◌≤◌, ◌<◌, ℤ, pos, length, get_or}
use Rattle.geometry.specs.declared.Place.{Place}
use Rattle.whole.specs.Bound.{Within}
use Rattle.geometry.specs.Plane.{area_max, OnGrid, Near, vector_of, cross_of, place_at, vector-near, grid-near, cross-in}
use Rattle.chart.specs.Chart.{Chart, from_of, to_of, InRange, partner-in}
use Rattle.lines.specs.declared.Line.{Line}

-- the vector of half-edge h
abbrev pub vector_at : Chart → ℕ → Place
vector_at c h = vector_of (from_of c h) (to_of c h)

-- what its side takes off: v × a
abbrev pub offset_at : Chart → ℕ → ℤ
offset_at c h = cross_of (vector_at c h) (from_of c h)

-- its line
abbrev pub line_of : Chart → ℕ → Line
line_of c h = record { vector = vector_at c h; offset = offset_at c h }

-- the line where there is none
abbrev pub no_line : Line
no_line = record { vector = place_at (pos 0) (pos 0); offset = pos 0 }

-- the lines of the first n edges, those of the half-edges 0, 2, 4 and so on, stand in a table
pub record Drawn (c : Chart) (lines : List Line) (n : ℕ) : Type 0 where
  pub room : n ≤ length lines
  pub each : (k : ℕ) → k < n → get_or lines k no_line ≡ line_of c (2 * k)

-- ---- how large these numbers are
module _ {c : Chart} (r : InRange c) (h : ℕ) (l : h < c.half_edges) where
  pub from_in : OnGrid (from_of c h)
  from_in = r.places _ (r.origins h l)

  pub to_in : OnGrid (to_of c h)
  to_in = r.places _ (r.origins _ (partner-in r h l))

  pub vector-in : Near (vector_at c h)
  vector-in = vector-near from_in to_in

  pub offset-in : Within area_max (offset_at c h)
  offset-in = cross-in vector-in (grid-near from_in)
