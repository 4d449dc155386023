use Rattle.std.proofs.Common.{subst, ℤ, Ok}
use mir.Facts.{to_z-of_z}
use Rattle.reading.specs.Reading.{load_of}
use Rattle.insertion.specs.Outcome.{Extends}
use Rattle.inserting.specs.Laws.{new-range, insert-written}
use Rattle.inserting.proofs.insert_in.Goals as goal

pub chart-requires : goal.chart-requires
chart-requires c = new-range _ _ _ _ _ _ c.args.text.now _ c.in_ok-tables.ensures.extends

pub returns : goal.returns
returns c =
    let h = c.chart.ensures in
    let l = load_of c.args.counts.vertices c.args.counts.half_edges c.args.counts.faces c.args.chart.now in
    let x = subst (λ (z : ℤ). Extends l c.args.q z (Ok c.in_ok-tables.tables)) (to_z-of_z c.ranges.value) c.in_ok-tables.ensures.extends in
    insert-written _ _ _ _ _ _ c.args.text.now _ x _ _ _ h.shown h.front h.vertex_rows h.edge_rows _ c.put_text.ensures
