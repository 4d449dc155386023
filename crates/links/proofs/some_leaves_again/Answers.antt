use Rattle.std.proofs.Common.{sym, subst, ◌+◌, Bool, List, rules}
use Rattle.whole.specs.First.{some_at, some-none}
use Rattle.chart.specs.Seen.{seen}
use Rattle.links.proofs.Origins.{Met, met-none, met-inner, read_again, read-outer}
use Rattle.links.proofs.some_leaves_again.Goals as goal
use Rattle.links.proofs.some_leaves_again.Goals.{then-face-eq0+else-met-v, else-face-eq0}

pub loop-h-init : goal.loop-h-init
loop-h-init c = rw c.no_vertex-met.ensures (met-none _)

pub returns-then-met-v : goal.returns-then-met-v
returns-then-met-v c = sym (some_at _ _ _ (search rules) (read_again _ _ _ _ c.loop-h.invariant (search rules) c.origin-v.ensures.value (search rules) c.if-met-v.true))

pub loop-h-preserved : goal.loop-h-preserved
loop-h-preserved c =
    let l = c.loop-h in
    let at = λ (m : List Bool). Met (seen c.args.chart.now) m (l.h + 1) in
    elim c.if-face-eq0.branch [
      | then-face-eq0+else-met-v w ↦
          subst at (sym w.met-is) (read-outer _ l.met l.h _ l.invariant (search rules) w.origin-v.ensures.value (search rules) w.if-met-v.false)
      | else-face-eq0 w ↦ subst at (sym w.met-is) (met-inner _ l.met l.h l.invariant (search rules))
    ]

pub returns : goal.returns
returns c = sym (some-none _ _ (λ k l. c.loop-h.invariant.none k (search rules)))
