-- `batch::ruling` meets its contract: 12, a splice, or 13 and what the load's value costs. Assumes nothing.
use Rattle.std.proofs.Common.{ap, ◌∙◌, Ok, SFits, to_z-of_z, w64, rules}
use Rattle.std.proofs.lemmas.Result.{err_from_is_err_and}
use Rattle.chart.specs.Seen.{seen}
use Rattle.values.specs.Method.{number_of}
use Rattle.values.specs.Value.{located_value}
use Rattle.batch.specs.Laws.{refused-off, kept-on, from-known, from_off, from-turned, from-charge}
use Rattle.batch.proofs.ruling.Goals as goal

pub returns-in_err-section : goal.returns-in_err-section
returns-in_err-section c =
    let a = c.args in
    let p = err_from_is_err_and c.from_residual.result c.from_residual.ensures.1 in
    rw (p.1, p.2) (from-known (seen a.prepared.now.accepted.chart) a.sections a.e _ c.known.ensures _ c.in_err-section.was)

pub returns-in-Splice : goal.returns-in-Splice
returns-in-Splice c =
    let a = c.args in
    from-known (seen a.prepared.now.accepted.chart) a.sections a.e _ c.known.ensures _ (c.in_ok-section.was ∙ ap Ok c.in-Splice.is)

pub returns-in_err-q-in-Bend : goal.returns-in_err-q-in-Bend
returns-in_err-q-in-Bend c =
    let a = c.args in
    let r = c.from_residual-in_err-q-in-Bend in
    let p = err_from_is_err_and r.result r.ensures.1 in
    let fx : SFits w64 c.in-Bend.place.x = search rules in
    let fy : SFits w64 c.in-Bend.place.y = search rules in
    let o = refused-off _ _ c.in-Bend.place _ c.ok_or.ensures.value c.in_err-q-in-Bend.was (simp (to_z-of_z fx, to_z-of_z fy) at c.new.ensures) in
    rw (p.1, p.2, o.0) (from_off (seen a.prepared.now.accepted.chart) a.sections a.e _ c.known.ensures _ _ _ (c.in_ok-section.was ∙ ap Ok c.in-Bend.is) o.1)

pub returns-in_err-value-in-Bend : goal.returns-in_err-value-in-Bend
returns-in_err-value-in-Bend c =
    let a = c.args in
    let r = c.from_residual-in_err-value-in-Bend in
    let p = err_from_is_err_and r.result r.ensures.1 in
    let fx : SFits w64 c.in-Bend.place.x = search rules in
    let fy : SFits w64 c.in-Bend.place.y = search rules in
    let k = kept-on _ _ c.in-Bend.place _ c.ok_or.ensures.value c.in_ok-q-in-Bend.was (simp (to_z-of_z fx, to_z-of_z fy) at c.new.ensures) in
    let v = c.located_value.ensures ∙ ap (located_value (number_of c.in-Bend.method) (seen a.prepared.now.accepted.chart)) k.1 in
    rw (p.1, p.2) (from-turned (seen a.prepared.now.accepted.chart) a.sections a.e _ c.known.ensures _ _ _ (c.in_ok-section.was ∙ ap Ok c.in-Bend.is) k.0 _ v _ c.in_err-value-in-Bend.was)

pub returns-in_err-n-in-Bend : goal.returns-in_err-n-in-Bend
returns-in_err-n-in-Bend c =
    let a = c.args in
    let r = c.from_residual-in_err-n-in-Bend in
    let p = err_from_is_err_and r.result r.ensures.1 in
    let fx : SFits w64 c.in-Bend.place.x = search rules in
    let fy : SFits w64 c.in-Bend.place.y = search rules in
    let k = kept-on _ _ c.in-Bend.place _ c.ok_or.ensures.value c.in_ok-q-in-Bend.was (simp (to_z-of_z fx, to_z-of_z fy) at c.new.ensures) in
    let v = c.located_value.ensures ∙ ap (located_value (number_of c.in-Bend.method) (seen a.prepared.now.accepted.chart)) k.1 in
    rw (p.1, p.2) (from-charge (seen a.prepared.now.accepted.chart) a.sections a.e _ c.known.ensures _ _ _ (c.in_ok-section.was ∙ ap Ok c.in-Bend.is) k.0 _ v _ c.in_ok-value-in-Bend.was _ _ c.charge.ensures c.in_err-n-in-Bend.was)

pub returns-in_ok-n-in-Bend : goal.returns-in_ok-n-in-Bend
returns-in_ok-n-in-Bend c =
    let a = c.args in
    let fx : SFits w64 c.in-Bend.place.x = search rules in
    let fy : SFits w64 c.in-Bend.place.y = search rules in
    let k = kept-on _ _ c.in-Bend.place _ c.ok_or.ensures.value c.in_ok-q-in-Bend.was (simp (to_z-of_z fx, to_z-of_z fy) at c.new.ensures) in
    let v = c.located_value.ensures ∙ ap (located_value (number_of c.in-Bend.method) (seen a.prepared.now.accepted.chart)) k.1 in
    from-charge (seen a.prepared.now.accepted.chart) a.sections a.e _ c.known.ensures _ _ _ (c.in_ok-section.was ∙ ap Ok c.in-Bend.is) k.0 _ v _ c.in_ok-value-in-Bend.was _ _ c.charge.ensures c.in_ok-n-in-Bend.was
