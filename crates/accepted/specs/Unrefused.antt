-- A chart that none of rows 4 and 6 to 11 meets, in the words of the code that tests them. It says the same as `Accepted` (`unrefused-accepted` of proofs/Facts,
-- and `accepted-unrefused` of proofs/Exactly), in a form that a type can carry.
use Rattle.std.specs.Prelude.{◌≡◌, false, ℕ, ◌<◌, pos}
use Rattle.whole.specs.Bound.{outside}
use Rattle.chart.specs.Chart.{Chart}
use Rattle.ranges.specs.Ranges.{value_max}
use Rattle.ranges.specs.Passed.{Counted}
use Rattle.checks.specs.Checks.{chart_refusal}

pub record Unrefused (c : Chart) : Type 0 where
  pub counts : Counted c.vertices c.half_edges c.faces
  pub values : (v : ℕ) → v < c.vertices → outside (pos 0) (pos value_max) (c.value v) ≡ false
  pub none : chart_refusal c ≡ 0
