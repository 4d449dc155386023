use Rattle.std.proofs.Common.{sym, ◌∙◌}
use Rattle.interpolate.proofs.Laws.{sum-end}
use Rattle.interpolate.proofs.value_sum.Goals as goal

pub returns : goal.returns
returns c = sym (c.loop-v.invariant ∙ sum-end _ _ _ _ _ _ c.in-None.ensures.steps)
