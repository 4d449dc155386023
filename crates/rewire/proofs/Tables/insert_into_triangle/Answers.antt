use Rattle.std.proofs.Common.{rules, ◌∙◌, ap}
use mir.Facts.{to_z-of_z}
use Rattle.patches.specs.Insert.{inserted}
use Rattle.rewire.specs.Tables.{row-outed}
use Rattle.rewire.specs.Front.{shown}
use Rattle.rewire.proofs.Grown.{row-asks, insert-fits, insert-done}
use Rattle.rewire.proofs.Tables.insert_into_triangle.Goals as goal

pub row-requires : goal.row-requires
row-requires c = row-asks c.requires.room c.requires.wired c.args.e c.requires.inner.0

pub put_triangles-requires : goal.put_triangles-requires
put_triangles-requires c = insert-fits c.requires.room c.requires.wired c.args.e c.requires.inner _ c.row.ensures _ c.insert_rows-rows.ensures

pub returns-clause-inserted : goal.returns-clause-inserted
returns-clause-inserted c =
    (insert-done c.requires.room c.requires.wired c.args.e c.requires.inner _ c.row.ensures _ c.insert_rows-rows.ensures
    c.args.q _ _ _ _ c.put_triangles.ensures.edges c.put_triangles.ensures.faces c.put_vertex.ensures
    ∙ ap (inserted (shown c.args.self.now) c.args.e c.args.q) (to_z-of_z c.ranges.value))

pub returns-clause-outs : goal.returns-clause-outs
returns-clause-outs c = row-outed _ _ _ _ _ _ _ (search rules) c.put_vertex.ensures
