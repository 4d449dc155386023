-- The loop's invariant: the numbers passed are taken over.
use Rattle.std.proofs.Common.{◌≡◌, ℕ, ◌<◌, get_or, pos}
use Rattle.chart.specs.Tables.{unsigned}
use Rattle.checks.proofs.take_over.Given as goal

abbrev pub invariant-loop-i : goal.invariant-loop-i
invariant-loop-i l = (k : ℕ) → k < l.i → get_or l.table k 0 ≡ unsigned (get_or l.signed k (pos 0))
