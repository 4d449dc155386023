-- What an accepted chart is to the calls of `neighbors` and to a list as long as its half-edges. Assumes nothing.
use Rattle.std.specs.Prelude.{ℕ, ◌+◌, ◌≤◌}
use Rattle.chart.specs.Limits.{most_half_edges, most_faces}
use Rattle.chart.specs.Chart.{Chart}
use Rattle.accepted.specs.Accepted.{Accepted}
use Rattle.cavity.specs.Room.{more_edges}

pub roomy : (c : Chart) → Accepted c → (n : ℕ) → c.half_edges ≤ n → (c.faces ≤ most_faces) × (c.half_edges ≤ most_half_edges) × (c.faces + 2 ≤ c.half_edges) × (c.half_edges ≤ n)
roomy c a n l = (a.counts.f-most, a.counts.e-most, more_edges c a, l)
