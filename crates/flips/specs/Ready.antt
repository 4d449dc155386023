-- What the search is handed: the half-edges that wait, that on top first, and what was found before.
use Rattle.std.specs.Prelude.{Bool, List, ℕ, ◌+◌, ◌≤◌, ◌<◌, length, get_or}
use Rattle.faceset.specs.Set.{Below}
use Rattle.chart.specs.Chart.{Chart}
use Rattle.flips.specs.Search.{free}

-- half-edges listed, half-edges that wait, and faces opened: no more of them than one search has
pub record Ready (c : Chart) (opened : ℕ → Bool) (listed stack : List ℕ) : Type 0 where
  pub fits : length listed + length stack + free c opened ≤ c.faces + 2
  pub in-range : (k : ℕ) → k < length stack → get_or stack k 0 < c.half_edges
  pub below : Below c.faces opened
