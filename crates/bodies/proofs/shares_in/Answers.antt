use Rattle.std.proofs.Common.{arith}
use Rattle.bodies.proofs.Sizes.{loaded-edges}
use Rattle.bodies.proofs.shares_in.Goals as goal

pub shares_on-requires-clause-owners_room : goal.shares_on-requires-clause-owners_room
shares_on-requires-clause-owners_room c =
    let n = c.args.counts in
    let t = c.in_ok-accepted.accepted.chart in
    omega (arith, loaded-edges n.vertices n.half_edges n.faces c.args.text.now t.vertices.now t.edges.now t.faces.now c.in_ok-accepted.ensures, c.requires.owners_room)

pub shares_on-requires-clause-weights_room : goal.shares_on-requires-clause-weights_room
shares_on-requires-clause-weights_room c =
    let n = c.args.counts in
    let t = c.in_ok-accepted.accepted.chart in
    omega (arith, loaded-edges n.vertices n.half_edges n.faces c.args.text.now t.vertices.now t.edges.now t.faces.now c.in_ok-accepted.ensures, c.requires.weights_room)
