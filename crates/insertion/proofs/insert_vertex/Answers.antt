use Rattle.std.proofs.Common.{◌∙◌}
use Rattle.std.proofs.lemmas.Result.{err_from_is_err_and}
use mir.Facts.{to_z-of_z}
use Rattle.rewire.specs.Front.{shown}
use Rattle.insertion.specs.Outcome.{joined_at}
use Rattle.insertion.proofs.Outcome.{stands, joined-range, joined-growing, joined-legal, shown-vertices, seen-site, site-refusal}
use Rattle.insertion.proofs.insert_vertex.Goals as goal

pub returns-in_err-site-clause-refusal : goal.returns-in_err-site-clause-refusal
returns-in_err-site-clause-refusal c =
    let p = err_from_is_err_and c.from_residual.result c.from_residual.ensures.1 in
    rw (p.1, p.2) (site-refusal _ _ (seen-site _ _ _ _ _ c.chart.ensures.shown c.site_at.ensures c.in_err-site.was))

pub join-requires-clause-stands : goal.join-requires-clause-stands
join-requires-clause-stands c = stands _ c.requires.accepted _ _ (seen-site _ _ _ _ _ c.chart.ensures.shown c.site_at.ensures c.in_ok-site.was)

pub legalize-requires-clause-in_range : goal.legalize-requires-clause-in_range
legalize-requires-clause-in_range c =
    joined-range _ c.requires.accepted _ _ c.requires.askable _ _ (shown-vertices c.args.tables.now) _ (seen-site _ _ _ _ _ c.chart.ensures.shown c.site_at.ensures c.in_ok-site.was)
    (c.join.ensures.joined ∙ (λ i. joined_at (shown c.args.tables.now) c.in_ok-site.site (c.into.ensures i) (to_z-of_z c.ranges.value i)))

pub legalize-requires-clause-growing : goal.legalize-requires-clause-growing
legalize-requires-clause-growing c =
    joined-growing _ c.requires.accepted _ _ c.requires.askable _ _ (shown-vertices c.args.tables.now) _ (seen-site _ _ _ _ _ c.chart.ensures.shown c.site_at.ensures c.in_ok-site.was)
    (c.join.ensures.joined ∙ (λ i. joined_at (shown c.args.tables.now) c.in_ok-site.site (c.into.ensures i) (to_z-of_z c.ranges.value i)))

pub returns-clause-refusal : goal.returns-clause-refusal
returns-clause-refusal c = site-refusal _ _ (seen-site _ _ _ _ _ c.chart.ensures.shown c.site_at.ensures c.in_ok-site.was)

pub returns-clause-joined : goal.returns-clause-joined
returns-clause-joined c =
    joined-legal _ c.requires.accepted _ _ c.requires.askable _ _ (shown-vertices c.args.tables.now) _ (seen-site _ _ _ _ _ c.chart.ensures.shown c.site_at.ensures c.in_ok-site.was)
    (c.join.ensures.joined ∙ (λ i. joined_at (shown c.args.tables.now) c.in_ok-site.site (c.into.ensures i) (to_z-of_z c.ranges.value i))) _ c.legalize.ensures.legal

pub returns-clause-outs : goal.returns-clause-outs
returns-clause-outs c = λ u o. c.legalize.ensures.outs u (c.join.ensures.outs.keeps u o)

pub returns-clause-new_out : goal.returns-clause-new_out
returns-clause-new_out c = c.legalize.ensures.outs _ c.join.ensures.outs.new
