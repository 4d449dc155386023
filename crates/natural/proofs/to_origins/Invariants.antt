-- The loop's invariant: the first elements are starts, the others not yet. Assumes nothing.
use Rattle.std.proofs.Common.{◌≡◌, ◌++◌, map, take, drop}
use Rattle.chart.specs.Tables.{origin_of}
use Rattle.natural.proofs.to_origins.Given as goal

abbrev pub invariant-loop-h : goal.invariant-loop-h
invariant-loop-h l = l.list ≡ map (origin_of l.edges) (take l.h-index l.initial.list) ++ drop l.h-index l.initial.list
