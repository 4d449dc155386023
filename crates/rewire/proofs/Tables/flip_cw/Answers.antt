use Rattle.std.proofs.Common.{ap, ◌∙◌}
use Rattle.chart.specs.Chart.{Chart}
use Rattle.patches.specs.Flip.{flip_row}
use Rattle.rewire.specs.Tables.{out-outed}
use Rattle.rewire.proofs.Flip.{flip_done}
use Rattle.rewire.proofs.Tables.flip_cw.Goals as goal

pub returns-clause-flipped : goal.returns-clause-flipped
returns-clause-flipped c =
    let t = c.partner-t in
    let e = c.args.e in
    flip_done _ _ _ _ _ _ c.requires.in_range e c.requires.e_below _ _ t.result t.ensures.value
    (c.flip_row-first.ensures ∙ ap (λ (b : Chart). flip_row b e t.result) c.chart-chart.ensures.shown)
    (c.flip_row-second.ensures ∙ ap (λ (b : Chart). flip_row b t.result e) c.chart-chart.ensures.shown)
    _ _ _ _ c.put_triangles.ensures.edges c.put_triangles.ensures.faces c.set_out.ensures c.set_out-2.ensures

pub returns-clause-outs : goal.returns-clause-outs
returns-clause-outs c = λ u o. out-outed _ _ _ _ c.set_out-2.ensures u (out-outed _ _ _ _ c.set_out.ensures u o)
