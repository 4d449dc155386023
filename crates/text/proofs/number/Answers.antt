use Rattle.std.proofs.Common.{◌≡◌, get_or, true, refl, ◌∙◌, add-one, arith, rules}
use Rattle.text.specs.Natural.{is_figure}
use Rattle.text.proofs.Laws.{passes, value-more, figures-more, figure-range, value_grows, value-fits}
use Rattle.text.proofs.number.Goals as goal

pub loop-b-preserved : goal.loop-b-preserved
loop-b-preserved c =
    let l = c.loop-b in
    let i = l.b-index in
    let d = c.args.d.now in
    let t : is_figure (get_or d i 0) ≡ true = search rules in
    record {
      small = value_grows i l.v c.figure.result l.invariant.small (omega (arith, figure-range (get_or d i 0) t));
      value = rw (add-one i, c.figure.ensures) (l.invariant.value ∙ value-more d i l.v (omega arith));
      digits = rw (add-one i) (l.invariant.digits ∙ figures-more d i (omega arith) ∙ rw t refl);
    }

pub returns : goal.returns
returns c = grind (arith, passes, value-fits c.loop-b.b-index c.loop-b.v (omega arith) c.loop-b.invariant.small)
