-- The loop's invariant: what is left of the turn gives the definition's sum. Assumes nothing.
use Rattle.std.proofs.Common.{◌≡◌, ◌-◌, ◌<◌}
use Rattle.chart.specs.Seen.{seen}
use Rattle.gradient.specs.Gradient.{final_normal}
use Rattle.gradient.proofs.Steps.{summed}
use Rattle.gradient.proofs.final_normal.Given as goal

abbrev pub invariant-loop : goal.invariant-loop
invariant-loop l =
    record {
      inside : l.h < (seen l.chart).half_edges;
      rest : final_normal (seen l.chart) l.v ≡ summed (seen l.chart) l.spot l.first l.start l.sum l.last l.h ((seen l.chart).half_edges - l.counter);
    }
