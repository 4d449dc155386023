use Rattle.std.proofs.Common.{◌≡◌, ap, ◌∙◌, List, ◌*◌, ◌≤◌, ℤ, length, arith}
use Rattle.std.proofs.lemmas.Result.{err_from_is_err_and}
use mir.Facts.{to_z-of_z}
use Rattle.chart.specs.Limits.{most_vertices}
use Rattle.ranges.specs.declared.counts.Counts.{Counts}
use Rattle.sites.specs.Askable.{ask_refusal}
use Rattle.insertion.proofs.Read.{load-not, ask-not, site-not, read-accepted, read-askable, room-of, extended}
use Rattle.insertion.proofs.extend.Goals as goal

-- the counts of a chart fit slices for the largest one
long : (n : Counts) (vs us : List ℤ) → length us ≡ length vs → 4 * most_vertices ≤ length vs → 4 * n.vertices ≤ length us
long n vs us e l = omega (arith, n.counted.v-most)

pub returns-in_err-load-clause-extends : goal.returns-in_err-load-clause-extends
returns-in_err-load-clause-extends c =
    let p = err_from_is_err_and c.from_residual.result c.from_residual.ensures.1 in
    rw (p.1, p.2) (load-not _ _ _ _ _ _ _ c.in_err-load.ensures)

pub returns-in_err-place-clause-extends : goal.returns-in_err-place-clause-extends
returns-in_err-place-clause-extends c =
    let p = err_from_is_err_and c.from_residual-in_err-place.result c.from_residual-in_err-place.ensures.1 in
    rw (p.1, p.2)
    (ask-not _ _ _ c.load.new.vertices c.load.new.edges c.load.new.faces c.args.counts.counted (long c.args.counts _ _ c.load.auto.vertices c.requires.room.0) _ _ _ c.in_ok-load.ensures _
    (c.in_err-place.ensures.refusal ∙ ap (λ (z : ℤ). ask_refusal c.args.q z c.args.counts.vertices) (to_z-of_z c.ranges.value)))

pub insert_vertex-requires-clause-accepted : goal.insert_vertex-requires-clause-accepted
insert_vertex-requires-clause-accepted c =
    read-accepted _ _ _ c.load.new.vertices c.load.new.edges c.load.new.faces c.args.counts.counted (long c.args.counts _ _ c.load.auto.vertices c.requires.room.0) _ c.args.q c.args.value c.in_ok-load.ensures

pub insert_vertex-requires-clause-room : goal.insert_vertex-requires-clause-room
insert_vertex-requires-clause-room c =
    let l = c.load.auto in
    let r = c.requires.room in
    let k = c.in_ok-place.ensures in
    room-of _ _ _ c.load.new.vertices c.load.new.edges c.load.new.faces c.args.counts.counted (long c.args.counts _ _ c.load.auto.vertices c.requires.room.0) _ c.args.q c.args.value c.in_ok-load.ensures
    (omega (arith, l.vertices, r.0)) (omega (arith, l.edges, r.1)) (omega (arith, l.faces, r.2))
    (read-askable _ _ _ c.load.new.vertices c.load.new.edges c.load.new.faces c.args.counts.counted (long c.args.counts _ _ c.load.auto.vertices c.requires.room.0) _ _ _ c.in_ok-load.ensures _ _ k.place (to_z-of_z c.ranges.value) k.refusal).few

pub returns-in_err-insert_vertex-clause-extends : goal.returns-in_err-insert_vertex-clause-extends
returns-in_err-insert_vertex-clause-extends c =
    let p = err_from_is_err_and c.from_residual-in_err-insert_vertex.result c.from_residual-in_err-insert_vertex.ensures.1 in
    let k = c.in_ok-place.ensures in
    rw (p.1, p.2)
    (site-not _ _ _ c.load.new.vertices c.load.new.edges c.load.new.faces c.args.counts.counted (long c.args.counts _ _ c.load.auto.vertices c.requires.room.0) _ _ _ c.in_ok-load.ensures _ _ k.place (to_z-of_z c.ranges.value) k.refusal
    _ c.in_err-insert_vertex.ensures.refusal)

pub returns-clause-extends : goal.returns-clause-extends
returns-clause-extends c =
    let k = c.in_ok-place.ensures in
    let n = c.in_ok-insert_vertex.ensures in
    extended _ _ _ c.load.new.vertices c.load.new.edges c.load.new.faces c.args.counts.counted (long c.args.counts _ _ c.load.auto.vertices c.requires.room.0) _ _ _ c.in_ok-load.ensures _ _ k.place (to_z-of_z c.ranges.value) k.refusal
    c.insert_vertex.new.tables n.refusal n.joined n.outs n.new_out
