use Rattle.std.proofs.Common.{arith, sym, ◌*◌, ◌<◌}
use Rattle.whole.specs.Bound.{back, fits, sub_in}
use Rattle.geometry.specs.Plane.{grid-near, cross-in}
use Rattle.geometry.specs.Laws.{side-line}
use Rattle.chart.specs.Seen.{seen}
use Rattle.lines.specs.Lines.{vector-in, offset-in}
use Rattle.lines.proofs.drawn.Lines.side.Goals as goal

pub overflow_sub-result : goal.overflow_sub-result
overflow_sub-result c =
    let r = c.args.self.now.chart.in_range in
    let l : 2 * c.args.k < (seen c.args.self.now.chart).half_edges = omega arith in
    let o = offset-in r _ l in
    let x = cross-in (vector-in r _ l) (grid-near c.args.q.on_grid) in
    simp (c.cross.ensures, c.into.ensures, c.args.self.now.drawn.each c.args.k c.requires, back o tt, back x tt) (fits (sub_in x o) tt)

pub returns : goal.returns
returns c =
    let r = c.args.self.now.chart.in_range in
    let l : 2 * c.args.k < (seen c.args.self.now.chart).half_edges = omega arith in
    let o = offset-in r _ l in
    let x = cross-in (vector-in r _ l) (grid-near c.args.q.on_grid) in
    simp (c.cross.ensures, c.into.ensures, c.args.self.now.drawn.each c.args.k c.requires, back o tt, back x tt, back (sub_in x o) tt) (sym (side-line _ _ _))
