-- The loop's invariant: the first i elements hold the corners. Assumes nothing.
use Rattle.chart.specs.Seen.{seen}
use Rattle.natural.specs.Arrays.{corner_x, corner_y, Holds}
use Rattle.natural.proofs.insertion_cell.Given as goal

abbrev pub invariant-loop-i : goal.invariant-loop-i
invariant-loop-i l =
    record {
      xs : Holds (corner_x (seen l.list.chart) l.q l.list.edges.now) 0 l.i l.xs;
      ys : Holds (corner_y (seen l.list.chart) l.q l.list.edges.now) 0 l.i l.ys;
    }
