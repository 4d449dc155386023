-- The loop's invariant: the first areas are divided, the others not yet. Assumes nothing.
use Rattle.std.proofs.Common.{◌≡◌, ◌++◌, map, take, drop}
use Rattle.points.specs.Floats.{◌/f◌}
use Rattle.natural.proofs.divide_all.Given as goal

abbrev pub invariant-loop-area : goal.invariant-loop-area
invariant-loop-area l = l.areas ≡ map (λ area. area /f l.total) (take l.area-index l.initial.areas) ++ drop l.area-index l.initial.areas
