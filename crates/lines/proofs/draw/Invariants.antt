-- The loop's invariant: the lines of the edges passed stand in the table.
use Rattle.chart.specs.Seen.{seen}
use Rattle.lines.specs.Lines.{Drawn}
use Rattle.lines.proofs.draw.Given as goal

abbrev pub invariant-loop-k : goal.invariant-loop-k
invariant-loop-k l = Drawn (seen l.chart) l.line-items l.k
