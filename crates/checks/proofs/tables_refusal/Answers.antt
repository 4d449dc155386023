-- What 6 lets pass is in range, so 7 to 11 can be tested.
use Rattle.std.proofs.Common.{sym, ◌∙◌}
use Rattle.ranges.specs.Passed.{in-range}
use Rattle.checks.proofs.tables_refusal.Goals as goal

pub invariant_of-chart_refusal : goal.invariant_of-chart_refusal
invariant_of-chart_refusal c =
    rw (c.take_over.ensures, c.take_over-2.ensures)
    (record { in_range = in-range _ _ _ (sym c.out_of_range.ensures ∙ c.if-out_of_range.false) c.requires.pairs })
