-- `gradient::estimate_gradients` meets its contract. The loop's invariant: the gradients of the vertices passed stand in the table. Assumes nothing.
use Rattle.chart.specs.Seen.{seen}
use Rattle.gradient.specs.Estimated.{Estimated}
use Rattle.gradient.proofs.estimate_gradients.Given as goal

abbrev pub invariant-loop-v : goal.invariant-loop-v
invariant-loop-v l = Estimated (seen l.valued.chart) l.gradient-items l.v
