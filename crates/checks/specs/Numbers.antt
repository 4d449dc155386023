-- Which numbers refuse tables. Assumes nothing.
use Rattle.std.specs.Prelude.{◌≡◌, refl, true, List, [], ◌∷◌, ℕ}
use Rattle.whole.specs.Among.{among, among-cond}
use Rattle.whole.specs.First.{some}
use Rattle.chart.specs.Chart.{Chart}
use Rattle.links.specs.Links.{links_broken}
use Rattle.delaunay.specs.Delaunay.{shares_place, not_left, overhung, crowded}
use Rattle.checks.specs.Checks.{chart_refusal}

-- 01's rows of tables
abbrev pub of_tables : List ℕ
of_tables = 6 ∷ 7 ∷ 8 ∷ 9 ∷ 10 ∷ 11 ∷ []

pub chart-among : (c : Chart) → among (0 ∷ of_tables) (chart_refusal c) ≡ true
unfolding chart_refusal
chart-among c =
    let ns : List ℕ = 0 ∷ of_tables in
    among-cond ns (links_broken c) 7 _ refl
    (among-cond ns (some (shares_place c) c.vertices) 8 _ refl
    (among-cond ns (some (not_left c) c.faces) 9 _ refl
    (among-cond ns (some (overhung c) c.half_edges) 10 _ refl (among-cond ns (some (crowded c) c.faces) 11 0 refl refl))))
