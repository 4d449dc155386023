-- 01, "Where a call can be turned down": the rows of tables, 6 to 11, first hit answers. Each number is tested over the whole chart before the next.
use Rattle.std.specs.Prelude.{cond, List, ℕ, zero, suc, ℤ}
use Rattle.whole.specs.First.{some}
use Rattle.chart.specs.Tables.{unsigned_all}
use Rattle.chart.specs.Chart.{Chart, chart_of}
use Rattle.ranges.specs.Ranges.{out_of_range}
use Rattle.links.specs.Links.{links_broken}
use Rattle.delaunay.specs.Delaunay.{shares_place, not_left, overhung, crowded}

-- 7 to 11, of a chart whose numbers are in range; 0 where none meets it
unfoldable pub chart_refusal : Chart → ℕ
chart_refusal c =
    cond (links_broken c) 7
    (cond (some (shares_place c) c.vertices) 8
    (cond (some (not_left c) c.faces) 9
    (cond (some (overhung c) c.half_edges) 10 (cond (some (crowded c) c.faces) 11 0))))

-- 6 to 11, of three tables of whole numbers
unfoldable pub tables_refusal : List ℤ → List ℤ → List ℤ → ℕ
tables_refusal vs es fs = cond (out_of_range vs es fs) 6 (chart_refusal (chart_of vs (unsigned_all es) (unsigned_all fs)))

-- ---- what a reader says: 0 and the tables, or the refusal's number
pub data Loaded : Type 0 where
  loaded : List ℤ → List ℕ → List ℕ → Loaded
  refused : ℕ → Loaded

abbrev pub told : ℕ → List ℤ → List ℕ → List ℕ → Loaded
told zero vs es fs = loaded vs es fs
told (suc n) vs es fs = refused (suc n)
