use Rattle.std.proofs.Common.{arith}
use Rattle.bodies.proofs.Sizes.{loaded-edges}
use Rattle.bodies.proofs.edges_in.Goals as goal

pub edges_on-requires : goal.edges_on-requires
edges_on-requires c =
    let n = c.args.counts in
    let t = c.in_ok-accepted.accepted.chart in
    omega (arith, loaded-edges n.vertices n.half_edges n.faces c.args.text.now t.vertices.now t.edges.now t.faces.now c.in_ok-accepted.ensures, c.requires)
