-- The loop's invariant: the sums so far, continued by the rest, give the whole. Assumes nothing.
use Rattle.std.proofs.Common.{◌≡◌}
use Rattle.std.specs.Iterator.Adapters.{zip_first, zip_second}
use Rattle.std.specs.Slice.Iter.{iter_rest}
use Rattle.geometry.specs.Grid.{at}
use Rattle.chart.specs.Seen.{seen}
use Rattle.interpolate.specs.Values.{value_blend, blend_from}
use Rattle.interpolate.proofs.value_blend.Given as goal

abbrev pub invariant-loop-v : goal.invariant-loop-v
invariant-loop-v l = value_blend (seen l.valued.chart) (at l.q) l.owners l.weights ≡ blend_from (seen l.valued.chart) (at l.q) l.sums (iter_rest (zip_first l.v-iterator)) (iter_rest (zip_second l.v-iterator))
