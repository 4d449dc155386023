-- Refusal 11 of a chart that 7 to 10 have let pass, told by its edges.
use Rattle.std.specs.Prelude.{◌≡◌, false, cond, ◌/◌}
use Rattle.std.proofs.Common.{sym}
use Rattle.whole.specs.First.{some}
use Rattle.chart.specs.Chart.{Chart, InRange}
use Rattle.links.specs.Links.{links_broken}
use Rattle.delaunay.specs.Delaunay.{shares_place, not_left, overhung}
use Rattle.across.specs.Across.{pressed}
use Rattle.nearby.specs.Local.{crowded-pressed}
use Rattle.checks.specs.Checks.{chart_refusal}

pub told_by_edges : (c : Chart) → InRange c → links_broken c ≡ false → some (shares_place c) c.vertices ≡ false → some (not_left c) c.faces ≡ false → some (overhung c) c.half_edges ≡ false → chart_refusal c ≡ cond (some (pressed c) (c.half_edges / 2)) 11 0
unfolding chart_refusal
told_by_edges c r links places turns rim = rw (links, places, turns, rim, sym (crowded-pressed c r (record { links = links; places = places; turns = turns; rim = rim })))
