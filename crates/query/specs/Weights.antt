-- The public call `barycentric_weights`: 01, "Weights", behind the refusals of the chart, the query and the location.
use Rattle.std.specs.Prelude.{cond, List, ℕ, ℤ}
use Rattle.geometry.specs.declared.Place.{Place}
use Rattle.geometry.specs.Plane.{off_grid}
use Rattle.chart.specs.Chart.{Chart, chart_of}
use Rattle.checks.specs.Checks.{Loaded}
use Rattle.checks.specs.Checks.Loaded.{loaded, refused}
use Rattle.reading.specs.Reading.{chart_in}
use Rattle.locate.specs.Location.{location_of}
use Rattle.weights.specs.Barycentric.{Weights}
use Rattle.weights.specs.Barycentric.Weights.{turned_down}
use Rattle.values.specs.Located.{barycentric_at}

-- 13: x or y not -10,000 to 10,000
unfoldable pub barycentric_on : Chart → Place → Weights
barycentric_on c q = cond (off_grid q) (turned_down 13) (barycentric_at c q (location_of c q))

-- 3 to 11 come first
abbrev pub barycentric_in : Loaded → Place → Weights
barycentric_in (loaded vs es fs) q = barycentric_on (chart_of vs es fs) q
barycentric_in (refused n) q = turned_down n

abbrev pub barycentric_of : List ℕ → ℤ → ℤ → Weights
barycentric_of s x y = barycentric_in (chart_in s) (record { x = x; y = y })
