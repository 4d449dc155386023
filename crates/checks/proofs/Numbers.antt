-- Which numbers refuse tables. Assumes nothing.
use Rattle.std.specs.Prelude.{◌≡◌, refl, true, List, ◌∷◌, ℤ}
use Rattle.whole.specs.Among.{among, among-cond}
use Rattle.chart.specs.Tables.{unsigned_all}
use Rattle.chart.specs.Chart.{chart_of}
use Rattle.ranges.specs.Ranges.{out_of_range}
use Rattle.checks.specs.Checks.{tables_refusal}
use Rattle.checks.specs.Numbers.{of_tables, chart-among}

-- 0 where none refuses them
pub tables-among : (vs es fs : List ℤ) → among (0 ∷ of_tables) (tables_refusal vs es fs) ≡ true
unfolding tables_refusal
tables-among vs es fs = among-cond (0 ∷ of_tables) (out_of_range vs es fs) 6 _ refl (chart-among (chart_of vs (unsigned_all es) (unsigned_all fs)))
