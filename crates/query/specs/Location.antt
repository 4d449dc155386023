-- The public call `locate`: 01, "Location", behind the refusals of the chart and of the query.
use Rattle.std.specs.Prelude.{cond, List, ℕ, ℤ, Result, Ok, Err}
use Rattle.refusal.specs.declared.Refusal.{Refusal}
use Rattle.refusal.specs.Number.{number}
use Rattle.geometry.specs.declared.Place.{Place}
use Rattle.geometry.specs.Plane.{off_grid}
use Rattle.chart.specs.Chart.{Chart, chart_of}
use Rattle.checks.specs.Checks.{Loaded}
use Rattle.checks.specs.Checks.Loaded.{loaded, refused}
use Rattle.reading.specs.Reading.{chart_in}
use Rattle.locate.specs.declared.Location.{Location}
use Rattle.locate.specs.Location.{location_of}

-- a location, or the number of the refusal
pub data Located : Type 0 where
  at : Location → Located
  turned_down : ℕ → Located

-- what each case of the call's answer says, in 01's numbers
abbrev pub position_says : Result Location Refusal → Located
position_says (Ok l) = at l
position_says (Err r) = turned_down (number r)

-- 13: x or y not -10,000 to 10,000; then the location: only this call answers "outside" with a half-edge, not 14
unfoldable pub locate_on : Chart → Place → Located
locate_on c q = cond (off_grid q) (turned_down 13) (at (location_of c q))

-- 3 to 11 come first
abbrev pub locate_in : Loaded → Place → Located
locate_in (loaded vs es fs) q = locate_on (chart_of vs es fs) q
locate_in (refused n) q = turned_down n

abbrev pub locate_of : List ℕ → ℤ → ℤ → Located
locate_of s x y = locate_in (chart_in s) (record { x = x; y = y })
