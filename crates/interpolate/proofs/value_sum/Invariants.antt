-- The loop's invariant: the sum so far, continued by the rest, is the whole sum. Assumes nothing.
use Rattle.std.proofs.Common.{◌≡◌}
use Rattle.std.specs.Iterator.Adapters.{zip_first, zip_second}
use Rattle.std.specs.Slice.Iter.{iter_rest}
use Rattle.chart.specs.Seen.{seen}
use Rattle.interpolate.specs.Values.{value_sum, sum_from}
use Rattle.interpolate.proofs.value_sum.Given as goal

abbrev pub invariant-loop-v : goal.invariant-loop-v
invariant-loop-v l = value_sum (seen l.valued.chart) l.owners l.weights ≡ sum_from (seen l.valued.chart) l.total (iter_rest (zip_first l.v-iterator)) (iter_rest (zip_second l.v-iterator))
