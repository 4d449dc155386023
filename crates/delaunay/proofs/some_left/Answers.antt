use Rattle.std.proofs.Common.{rules, refl, sym}
use borrow.Author.Tests.{tests}
use Rattle.whole.proofs.Scans.{some_from_any}
use Rattle.whole.specs.Bound.{back}
use Rattle.geometry.specs.Grid.{at}
use Rattle.geometry.specs.Plane.{vector-near, grid-near, cross-in}
use Rattle.chart.specs.Seen.{seen}
use Rattle.delaunay.proofs.Sides.{past-side}
use Rattle.delaunay.specs.Delaunay.{lies_left}
use Rattle.delaunay.proofs.some_left.Goals as goal

pub returns : goal.returns
returns c =
    let a = c.args.a in
    let b = c.args.b in
    let place = (seen c.args.chart.now).place in
    some_from_any (lies_left place (at a) (at b)) _ _ _ _ c.any.ensures.ran refl (search rules)
    (λ x r q k.
    rw (sym (past-side (at a) (at b) (place x)), sym (back (cross-in (vector-near a.on_grid b.on_grid) (grid-near a.on_grid)) tt), sym c.vector-u.ensures, sym c.into.ensures, sym c.cross-k.ensures)
    (search (rules, tests)))
