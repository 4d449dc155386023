use Rattle.std.proofs.Common.{◌≡◌, ◌<◌, ◌∙◌, sym, length, take, arith, take_all}
use Rattle.chart.specs.Seen.{seen}
use Rattle.natural.specs.Laws.{shares-on, shares-end}
use Rattle.natural.specs.Arrays.{corner_x, holds-past, corner-back, area-next}
use Rattle.natural.proofs.turn_all.Goals as goal

pub loop-i-preserved : goal.loop-i-preserved
loop-i-preserved c =
    let l = c.loop-i in
    let g = seen c.args.list.now.chart in
    let list = c.args.list.now.edges.now in
    let area = c.turn_about-area.result in
    let h : l.i < length list = omega arith in
    let hx : l.i < length l.xs = omega arith in
    let p = corner-back g c.args.q list l.i (length list) l.xs c.args.ys.now l.invariant.corners c.requires.ys l.i (omega arith) h in
    record {
      edge_in = c.args.list.now.listed.below l.i h;
      corners = holds-past (corner_x g c.args.q list) l.i (length list) l.xs area l.invariant.corners;
      rest = rw (area-next l.xs l.i area hx) (l.invariant.rest ∙ shares-on g c.args.q list l.i l.edge l.last (take l.i l.xs) l.total area h _ p c.turn_about-area.ensures);
    }

pub returns : goal.returns
returns c =
    let l = c.loop-i in
    let a : take l.i l.xs ≡ l.xs = take_all _ _ (omega arith) in
    c.divide_all.ensures
    ∙ sym ((rw a at l.invariant.rest) ∙ shares-end (seen c.args.list.now.chart) c.args.q c.args.list.now.edges.now l.i l.edge l.last l.xs l.total (omega arith))
