use Rattle.std.proofs.Common.{rules}
use Rattle.legal.proofs.Legal.{found-one, found-none, flip-reached, flip-less, ended}
use Rattle.legal.proofs.legalize.Goals as goal

pub loop-h-smaller : goal.loop-h-smaller
loop-h-smaller c =
    let l = c.loop-h in
    let t = found-one _ _ c.args.n c.in-Some.h _ c.chart.ensures.shown c.find_flip.ensures c.in-Some.is in
    flip-less _ _ _ c.args.n c.in-Some.h l.invariant.reached t.0 t.1 c.flip_cw.ensures.flipped

pub loop-h-preserved : goal.loop-h-preserved
loop-h-preserved c =
    let l = c.loop-h in
    let t = found-one _ _ c.args.n c.in-Some.h _ c.chart.ensures.shown c.find_flip.ensures c.in-Some.is in
    record { reached = flip-reached _ _ _ c.args.n c.in-Some.h l.invariant.reached t.0 t.1 c.flip_cw.ensures.flipped; outs = λ u o. c.flip_cw.ensures.outs u (l.invariant.outs u o); lent = search (rules, l.invariant.lent, c.flip_cw.ensures.lent) }

pub returns-clause-legal : goal.returns-clause-legal
returns-clause-legal c = ended _ _ c.args.n c.loop-h.invariant.reached (found-none _ _ c.args.n _ c.chart.ensures.shown c.find_flip.ensures c.in_default.is)
