-- The loop's invariant: the definition's answer is that of the listed edges that are left, whose corners still stand. Assumes nothing.
use Rattle.std.proofs.Common.{◌≡◌, ◌<◌, length, take, drop}
use Rattle.chart.specs.Seen.{seen}
use Rattle.natural.specs.Natural.{shares_from, cell_shares}
use Rattle.natural.specs.Arrays.{corner_x, Holds}
use Rattle.natural.proofs.turn_all.Given as goal

abbrev pub invariant-loop-i : goal.invariant-loop-i
invariant-loop-i l =
    let c = seen l.list.chart in
    let list = l.list.edges.now in
    record {
      edge_in : l.edge < c.half_edges;
      corners : Holds (corner_x c l.q list) l.i (length list) l.xs;
      rest : cell_shares c l.q list ≡ shares_from c l.q (drop l.i list) l.edge l.last (take l.i l.xs) l.total;
    }
