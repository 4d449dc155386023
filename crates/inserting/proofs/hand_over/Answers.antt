use Rattle.std.proofs.Common.{sym, ◌∙◌, pos, arith}
use Rattle.std.proofs.lemmas.List.{ext_get_or, length-map, get_or-map}
use Rattle.inserting.proofs.hand_over.Goals as goal

pub returns : goal.returns
returns c =
    ext_get_or (pos 0) _ _ (omega (arith, length-map c.args.table.now pos))
    (λ k h. c.loop-i.invariant k (omega arith) ∙ sym (get_or-map pos c.args.table.now k 0 (pos 0) (omega arith)))
