-- The loop's invariant: the buckets of the vertices passed are met, and none of them shares its place.
use Rattle.chart.specs.Seen.{seen}
use Rattle.delaunay.proofs.Places.{Met}
use Rattle.delaunay.proofs.some_share_place.Given as goal

abbrev pub invariant-loop-v : goal.invariant-loop-v
invariant-loop-v l = Met (seen l.chart).place l.met l.v
