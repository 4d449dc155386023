use Rattle.std.proofs.Common.{arith, refl, sym, ◌∙◌, ◌*◌, ◌<◌}
use Rattle.whole.specs.Bound.{back}
use Rattle.geometry.specs.Plane.{side-in}
use Rattle.geometry.specs.Grid.{at}
use Rattle.chart.specs.Seen.{seen}
use Rattle.lines.specs.Lines.{from_in, to_in}
use Rattle.locate.specs.Sides.{sides-more, odd-left}
use Rattle.locate.proofs.Scan.{edge-miss}
use Rattle.locate.proofs.find_edge.Goals as goal

pub loop-k-preserved : goal.loop-k-preserved
loop-k-preserved c =
    let d = seen c.args.lines.now.chart in
    let q = at c.args.q in
    let k = c.loop-k.k in
    let r = c.args.lines.now.chart.in_range in
    let l : 2 * k < d.half_edges = omega arith in
    record {
      found = edge-miss d q k d.half_edges (omega arith) c.loop-k.invariant.found (sym c.is_on_edge.ensures ∙ c.if-is_on_edge.false);
      sides =
          simp (c.side-s.ensures, back (side-in (from_in r _ l) (to_in r _ l) c.args.q.on_grid) tt)
          (sides-more d q c.loop-k.left k c.loop-k.invariant.sides (omega arith) _ _ refl (sym (odd-left d q k)));
    }
