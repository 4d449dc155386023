use Rattle.std.proofs.Common.{arith, ◌≤◌}
use Rattle.faceset.specs.Set.{has}
use Rattle.geometry.specs.Grid.{at}
use Rattle.chart.specs.Seen.{seen}
use Rattle.neighbors.specs.Neighbors.{face_neighbors, face_search}
use Rattle.neighbors.proofs.Ends.{ready-face, ended}
use Rattle.neighbors.proofs.face_neighbors_by.Goals as goal

pub inspect_flips-found-requires-clause-ready : goal.inspect_flips-found-requires-clause-ready
inspect_flips-found-requires-clause-ready c =
    rw (c.insert-opened.ensures, c.empty.ensures, c.clear.ensures, c.push-3.ensures.items, c.push-2.ensures.items, c.push.ensures.items, c.clear-2.ensures, c.behind_next.ensures.value, c.partner.ensures.value, c.behind_prev.ensures.value, c.adjacent-h.ensures.value)
    (ready-face (seen c.args.chart.now) (at c.args.q) c.args.chart.now.in_range c.args.f c.requires.below)

pub returns : goal.returns
unfolding face_neighbors
returns c =
    let s = c.inspect_flips-found in
    let few : (seen c.args.chart.now).faces ≤ 256 = omega (arith, c.requires.few) in
    let runs = rw (c.insert-opened.ensures, c.empty.ensures, c.clear.ensures, c.push-3.ensures.items, c.push-2.ensures.items, c.push.ensures.items, c.clear-2.ensures, c.behind_next.ensures.value, c.partner.ensures.value, c.behind_prev.ensures.value, c.adjacent-h.ensures.value) at s.ensures.runs in
    rw (c.count.ensures, c.reverse.ensures.after)
    (ended (seen c.args.chart.now) (face_search (seen c.args.chart.now) (at c.args.q) c.args.f) (has s.result.words) s.new.out.items c.deref_mut.result.now few c.deref_mut.ensures.value runs s.ensures.below)
