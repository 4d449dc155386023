-- The loop's invariant: the set has the vertices that an outer half-edge passed so far leaves, and none was left twice.
use Rattle.chart.specs.Seen.{seen}
use Rattle.links.proofs.Origins.{Met}
use Rattle.links.proofs.some_leaves_again.Given as goal

abbrev pub invariant-loop-h : goal.invariant-loop-h
invariant-loop-h l = Met (seen l.chart) l.met l.h
