use Rattle.std.proofs.Common.{arith, ap, ◌∙◌, ◌≡◌, ◌≤◌, length}
use Rattle.geometry.specs.Grid.{at}
use Rattle.chart.specs.Seen.{seen}
use Rattle.accepted.proofs.Facts.{is-accepted}
use Rattle.neighbors.specs.Neighbors.{Neighbors, neighbors_of}
use Rattle.cavity.specs.Room.{list-within}
use Rattle.cavity.specs.Listed.{listed_below}
use Rattle.query.proofs.shares_at.Goals as goal
use Rattle.query.proofs.shares_at.Goals.{After-deref}

-- the list is the definition's, and no longer than the chart has half-edges
found : (c : After-deref) → c.deref.result.now ≡ (neighbors_of (seen c.args.accepted.now.chart) (at c.args.q) c.args.place).edges
found c = c.deref.ensures.0 ∙ ap (λ (n : Neighbors). n.edges) c.get_natural_neighbor_edges-opened.ensures

within : (c : After-deref) → length c.deref.result.now ≤ (seen c.args.accepted.now.chart).half_edges
within c = rw (found c) (list-within (seen c.args.accepted.now.chart) (is-accepted c.args.accepted.now) (at c.args.q) c.args.place c.requires.holds)

pub invariant_of-edges : goal.invariant_of-edges
invariant_of-edges c =
    let w = within (goal.at.invariant_of-edges c).After-deref in
    let a = is-accepted c.args.accepted.now in
    record {
      listed =
          record {
            below = rw (found (goal.at.invariant_of-edges c).After-deref) (listed_below (seen c.args.accepted.now.chart) (at c.args.q) c.args.accepted.now.chart.in_range c.args.place c.requires.holds);
            few = omega (arith, w, a.counts.e-most);
          };
    }

pub natural_weights-requires-clause-owners_room : goal.natural_weights-requires-clause-owners_room
natural_weights-requires-clause-owners_room c = omega (arith, within (goal.at.natural_weights-requires-clause-owners_room c).After-deref, c.requires.owners_room)

pub natural_weights-requires-clause-weights_room : goal.natural_weights-requires-clause-weights_room
natural_weights-requires-clause-weights_room c = omega (arith, within (goal.at.natural_weights-requires-clause-weights_room c).After-deref, c.requires.weights_room)
