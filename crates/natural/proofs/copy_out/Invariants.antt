-- The loop's invariant: the first starts and shares are written, the others not yet. Assumes nothing.
use Rattle.std.proofs.Common.{◌≡◌, ◌++◌, map, take, drop}
use Rattle.chart.specs.Seen.{seen}
use Rattle.natural.proofs.copy_out.Given as goal

abbrev pub invariant-loop-i : goal.invariant-loop-i
invariant-loop-i l =
    record {
      owners : l.owners ≡ map (seen l.list.chart).origin (take l.i l.list.edges.now) ++ drop l.i l.initial.owners;
      weights : l.weights ≡ take l.i l.shares ++ drop l.i l.initial.weights;
    }
