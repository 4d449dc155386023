-- Each of 7 to 10 is needed for a load's one home (specs/Needed). Assumes nothing.
use Rattle.nearby.specs.Needed.{chart, sheets, copies, sheets-row, copies-row, lone_row, ranged}
use Rattle.home.specs.Needed.{Needed, two-faces, place, sheets-twice, copies-twice, flat, flat-row, flat_rows, nested, nested-row, nested-twice}

pub needed : Needed
needed =
    record {
      seven = λ f. two-faces sheets (place 4 1) sheets-twice (f (chart sheets) (ranged sheets-row) (lone_row.linked-each, lone_row.out-each, lone_row.adjacent-each) sheets-row.places sheets-row.turns sheets-row.rim);
      eight = λ f. two-faces copies (place 4 1) copies-twice (f (chart copies) (ranged copies-row) copies-row.links copies-row.turns copies-row.rim);
      nine = λ f.
          (f (chart flat) (ranged flat-row) flat-row.links flat-row.places flat_rows.none_right flat-row.rim (place 5 0) flat_rows.inside
          ).vertex-edge 3 0 flat_rows.vertices flat_rows.half_edges flat_rows.vertex flat_rows.edge;
      ten = λ f. two-faces nested (place 3 3) nested-twice (f (chart nested) (ranged nested-row) nested-row.links nested-row.places nested-row.turns);
    }
