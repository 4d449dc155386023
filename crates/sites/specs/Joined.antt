-- A chart with a new vertex joined and edges flipped about it is accepted, keeps the old vertices and has the new one last. Assumes nothing.
use Rattle.std.specs.Prelude.{ℤ}
use Rattle.geometry.specs.declared.Place.{Place}
use Rattle.chart.specs.Chart.{Chart}
use Rattle.accepted.specs.Accepted.{Accepted}
use Rattle.sites.specs.Insertion.{Extended}

-- the chart d is accepted, and extends c by a vertex at q with value z
pub record Joined (c : Chart) (q : Place) (z : ℤ) (d : Chart) : Type 0 where
  pub accepted : Accepted d
  pub extended : Extended c q z d
