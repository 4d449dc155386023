-- The loop's invariant: what is left of the turn gives the definition's answer. Assumes nothing.
use Rattle.std.proofs.Common.{◌≡◌, ◌-◌, ◌<◌}
use Rattle.chart.specs.Seen.{seen}
use Rattle.turns.specs.Turn.{turn_from, turn_of}
use Rattle.turns.proofs.turn_about.Given as goal

abbrev pub invariant-loop : goal.invariant-loop
invariant-loop l =
    record {
      inside : l.edge < (seen l.chart).half_edges;
      rest : turn_of (seen l.chart) l.q l.stop l.first l.fn.start l.fn.before ≡ turn_from (seen l.chart) l.q l.stop l.first ((seen l.chart).half_edges - l.counter) l.edge l.last l.sides;
    }
