use Rattle.std.proofs.Common.{rules, sym, false, ◌≡◌}
use Rattle.whole.specs.First.{some, some_at, some-none}
use Rattle.chart.specs.Seen.{seen}
use Rattle.delaunay.specs.Delaunay.{stands_at, shares_place}
use Rattle.delaunay.proofs.Places.{met-first, met-more}
use Rattle.delaunay.proofs.some_share_place.Goals as goal
use Rattle.delaunay.proofs.some_share_place.Goals.{else-met-b-via-then-met-b+else-some_below_at, else-met-b-via-else-met-b}

pub returns-then-some_below_at : goal.returns-then-some_below_at
returns-then-some_below_at c = sym (some_at (shares_place (seen c.args.chart.now)) _ c.loop-v.v (search rules) (search rules))

pub loop-v-preserved : goal.loop-v-preserved
loop-v-preserved c =
    let place = (seen c.args.chart.now).place in
    let l = c.loop-v in
    let none : some (stands_at place (place l.v)) l.v ≡ false =
    elim c.else-met-b.branch [
      | else-met-b-via-then-met-b+else-some_below_at w ↦ search rules
      | else-met-b-via-else-met-b w ↦ met-first place l.met l.v c.bucket_of-b.result l.invariant (search rules) (search rules)
    ] in
    met-more place l.met l.v c.bucket_of-b.result l.invariant (search rules) (search rules) none

pub returns : goal.returns
returns c = sym (some-none _ _ (λ k l. c.loop-v.invariant.none k (search rules)))
