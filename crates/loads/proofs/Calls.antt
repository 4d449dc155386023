-- A load on the grid of an accepted chart is answered by every call. Assumes nothing.
use Rattle.std.specs.Prelude.{◌≡◌, List, ℕ, ℤ}
use Rattle.geometry.specs.declared.Place.{Place}
use Rattle.chart.specs.Chart.{chart_of}
use Rattle.checks.specs.Checks.Loaded.{loaded}
use Rattle.reading.specs.Reading.{chart_in}
use Rattle.accepted.proofs.Bytes.{chart-accepted}
use Rattle.loads.specs.Calls.{Answered, all-answered}

pub answered : (s : List ℕ) (vs : List ℤ) (es fs : List ℕ) → chart_in s ≡ loaded vs es fs → (q : Place) → Answered (chart_of vs es fs) q
answered s vs es fs e q = all-answered (chart_of vs es fs) (chart-accepted s vs es fs e).sound q
