-- The public call `interpolate`: 01, "Gradient and value", behind the refusals of the chart.
use Rattle.std.specs.Prelude.{List, ℕ, ℤ}
use Rattle.geometry.specs.declared.Place.{Place}
use Rattle.chart.specs.Chart.{chart_of}
use Rattle.checks.specs.Checks.{Loaded}
use Rattle.checks.specs.Checks.Loaded.{loaded, refused}
use Rattle.reading.specs.Reading.{chart_in}
use Rattle.values.specs.Value.{Answer, method_of, value_on}

-- 3 to 11 come first
abbrev pub value_in : Loaded → ℕ → Place → Answer
value_in (loaded vs es fs) m q = value_on m (chart_of vs es fs) q
value_in (refused n) m q = Answer.turned_down n

abbrev pub interpolate_of : List ℕ → ℤ → ℤ → ℤ → Answer
interpolate_of s method x y = value_in (chart_in s) (method_of method) (record { x = x; y = y })
