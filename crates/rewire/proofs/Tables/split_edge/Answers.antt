use Rattle.std.proofs.Common.{rules, sym, subst, ◌∙◌, ap, ℕ, ◌<◌}
use mir.Facts.{to_z-of_z}
use Rattle.chart.specs.Tables.{rows, next_of, prev_of}
use Rattle.chart.specs.Chart.{partner}
use Rattle.patches.specs.Split.{split}
use Rattle.rewire.specs.Tables.{row-outed, out-outed, new_then}
use Rattle.rewire.specs.Front.{shown}
use Rattle.rewire.proofs.Grown.{row-asks, split-fits, split-end, split_done}
use Rattle.rewire.proofs.Tables.split_edge.Goals as goal

pub row-r-requires : goal.row-r-requires
row-r-requires c = row-asks c.requires.room c.requires.wired c.args.e c.requires.inner.0

pub row-s-requires : goal.row-s-requires
row-s-requires c =
    let es = c.args.self.now.edges.now in
    subst (λ (k : ℕ). (k < rows es) × (next_of es k < rows es) × (prev_of es k < rows es)) (sym c.partner_of-t.ensures)
    (row-asks c.requires.room c.requires.wired (partner c.args.e) c.requires.beyond.0)

pub put_triangles-requires : goal.put_triangles-requires
put_triangles-requires c =
    split-fits c.requires.room c.requires.wired c.args.e c.requires.inner _ c.row-r.ensures _ c.partner_of-t.ensures c.requires.beyond _ c.row-s.ensures
    _ c.split_rows-rows.ensures

pub set_out-requires : goal.set_out-requires
set_out-requires c =
    let l = split-end c.requires.room c.requires.wired c.args.e c.requires.inner _ c.row-r.ensures _ c.partner_of-t.ensures c.requires.beyond _ c.row-s.ensures in
    (search (rules, l), search rules)

pub returns-clause-split : goal.returns-clause-split
returns-clause-split c =
    (split_done c.requires.room c.requires.wired c.args.e c.requires.inner _ c.row-r.ensures _ c.partner_of-t.ensures c.requires.beyond _ c.row-s.ensures
    _ c.split_rows-rows.ensures
    c.args.q _ _ _ _ _ c.put_triangles.ensures.edges c.put_triangles.ensures.faces c.put_vertex.ensures c.set_out.ensures
    ∙ ap (split (shown c.args.self.now) c.args.e c.args.q) (to_z-of_z c.ranges.value))

pub returns-clause-outs : goal.returns-clause-outs
returns-clause-outs c = new_then _ _ _ _ (row-outed _ _ _ _ _ _ _ (search rules) c.put_vertex.ensures) (out-outed _ _ _ _ c.set_out.ensures)
