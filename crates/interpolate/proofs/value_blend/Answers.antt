use Rattle.std.proofs.Common.{sym, ◌∙◌}
use Rattle.interpolate.proofs.Laws.{blend-end}
use Rattle.interpolate.proofs.value_blend.Goals as goal

pub returns : goal.returns
returns c = c.result.ensures ∙ sym (c.loop-v.invariant ∙ blend-end _ _ _ _ _ _ _ c.in-None.ensures.steps)
