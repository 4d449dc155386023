use Rattle.std.proofs.Common.{arith, ◌≤◌}
use Rattle.faceset.specs.Set.{has}
use Rattle.geometry.specs.Grid.{at}
use Rattle.chart.specs.Seen.{seen}
use Rattle.neighbors.specs.Neighbors.{inner_edge_neighbors, edge_search}
use Rattle.neighbors.proofs.Ends.{ready-edge, ended}
use Rattle.neighbors.proofs.inner_edge_neighbors_by.Goals as goal

pub inspect_flips-found-requires-clause-ready : goal.inspect_flips-found-requires-clause-ready
inspect_flips-found-requires-clause-ready c =
    rw (c.empty.ensures, c.clear.ensures, c.push-2.ensures.items, c.push.ensures.items, c.clear-2.ensures, c.partner.ensures.value)
    (ready-edge (seen c.args.chart.now) (at c.args.q) c.args.chart.now.in_range c.args.h c.requires.below)

pub returns : goal.returns
unfolding inner_edge_neighbors
returns c =
    let s = c.inspect_flips-found in
    let few : (seen c.args.chart.now).faces ≤ 256 = omega (arith, c.requires.few) in
    let runs = rw (c.empty.ensures, c.clear.ensures, c.push-2.ensures.items, c.push.ensures.items, c.clear-2.ensures, c.partner.ensures.value) at s.ensures.runs in
    rw (c.count.ensures, c.reverse.ensures.after)
    (ended (seen c.args.chart.now) (edge_search (seen c.args.chart.now) (at c.args.q) c.args.h) (has s.result.words) s.new.out.items c.deref_mut.result.now few c.deref_mut.ensures.value runs s.ensures.below)
