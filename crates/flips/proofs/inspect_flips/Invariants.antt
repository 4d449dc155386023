-- The loop's invariant is `Held`; the measure counts each face that is not opened twice.
use Rattle.std.specs.Prelude.{reverse, length, ◌+◌, ◌*◌}
use Rattle.faceset.specs.Set.{has}
use Rattle.geometry.specs.Grid.{at}
use Rattle.chart.specs.Seen.{seen}
use Rattle.flips.specs.Search.{found, inspect_all, free}
use Rattle.flips.proofs.Steps.{Held}
use Rattle.flips.proofs.inspect_flips.Given as goal

abbrev pub invariant-loop-h : goal.invariant-loop-h
invariant-loop-h l =
    let c = seen l.chart in
    Held c (at l.q) (inspect_all c (at l.q) (reverse l.initial.waiting.items) (found (has l.initial.opened.words) l.initial.out.items)) (has l.opened.words) l.out.items (reverse l.waiting.items)

abbrev pub decreases-loop-h : goal.decreases-loop-h
decreases-loop-h l = 2 * free (seen l.chart) (has l.opened.words) + length l.waiting.items
