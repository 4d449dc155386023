use Rattle.std.proofs.Common.{sym, subst}
use Rattle.geometry.specs.Grid.{at}
use Rattle.chart.specs.Seen.{seen}
use Rattle.locate.proofs.Laws.{located}
use Rattle.weights.specs.Barycentric.{Weights}
use Rattle.natural.specs.Facts.{vertices_in}
use Rattle.interpolate.specs.Values.{Owners}
use Rattle.values.specs.Value.{barycentric-owners}
use Rattle.values.proofs.value_at.Goals as goal

pub weighed_value-requires : goal.weighed_value-requires
weighed_value-requires c =
    let chart = c.args.prepared.now.accepted.chart in
    subst (λ (x : Weights). Owners (seen chart) (vertices_in x)) (sym c.in_ok-w.ensures)
    (barycentric-owners (seen chart) (at c.args.q) c.args.place chart.in_range (located _ _ _ c.requires))
