-- The public call `estimate_gradient`: 01, "Gradient and value", behind the refusals of the chart and of the vertex number.
use Rattle.std.specs.Prelude.{cond, List, ℕ, ltb, Float, Result, Ok, Err}
use Rattle.refusal.specs.declared.Refusal.{Refusal}
use Rattle.refusal.specs.Number.{number}
use Rattle.chart.specs.Chart.{Chart, chart_of}
use Rattle.checks.specs.Checks.{Loaded}
use Rattle.checks.specs.Checks.Loaded.{loaded, refused}
use Rattle.reading.specs.Reading.{chart_in}
use Rattle.gradient.specs.declared.Gradient.{Gradient}
use Rattle.gradient.specs.Gradient.{gradient_of}

-- the two components, or the number of the refusal
pub data Slope : Type 0 where
  slope : Float → Float → Slope
  turned_down : ℕ → Slope

-- what each case of the call's answer says, in 01's numbers and values
abbrev pub gradient_says : Result Gradient Refusal → Slope
gradient_says (Ok g) = slope g.x g.y
gradient_says (Err r) = turned_down (number r)

-- 12: vertex number unknown
unfoldable pub gradient_on : Chart → ℕ → Slope
gradient_on c v = cond (ltb v c.vertices) (slope (gradient_of c v).x (gradient_of c v).y) (turned_down 12)

-- 3 to 11 come first
abbrev pub gradient_in : Loaded → ℕ → Slope
gradient_in (loaded vs es fs) v = gradient_on (chart_of vs es fs) v
gradient_in (refused n) v = turned_down n

abbrev pub estimate_of : List ℕ → ℕ → Slope
estimate_of s v = gradient_in (chart_in s) v
