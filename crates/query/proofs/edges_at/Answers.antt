use Rattle.std.proofs.Common.{arith, ap, ◌∙◌}
use Rattle.geometry.specs.Grid.{at}
use Rattle.chart.specs.Seen.{seen}
use Rattle.accepted.proofs.Facts.{is-accepted}
use Rattle.neighbors.specs.Neighbors.{Neighbors}
use Rattle.cavity.specs.Room.{list-within}
use Rattle.query.proofs.edges_at.Goals as goal

pub copy_list-requires : goal.copy_list-requires
copy_list-requires c =
    let w = list-within (seen c.args.accepted.now.chart) (is-accepted c.args.accepted.now) (at c.args.q) c.args.place c.requires.holds in
    rw (c.deref.ensures.0 ∙ ap (λ (n : Neighbors). n.edges) c.get_natural_neighbor_edges-opened.ensures) (omega (arith, w, c.requires.room))
