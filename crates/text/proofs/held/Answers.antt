use Prim.Native.Nat.{ℕ}
use mathlib.Core.List.{List}
use mathlib.Core.Path.{ap, sym, ◌∙◌}
use lib.Dec.{eqb}
use lib.ListN.{drop, get_or}
use Rattle.text.specs.Natural.{plain, number_if, below_zero}
use Rattle.text.proofs.Laws.{part-all, field-minus}
use Rattle.text.proofs.held.Goals as goal

pub returns-then-has_minus : goal.returns-then-has_minus
returns-then-has_minus c = λ s h e.
    let m = sym c.has_minus.ensures ∙ c.if-has_minus.true in
    c.below_zero.ensures
    ∙ ap below_zero (c.natural.ensures ∙ ap (λ (l : List ℕ). number_if (plain l) l) (part-all c.args.d.now 1 ∙ ap (drop 1) (sym e)))
    ∙ sym (field-minus s h (ap (λ (l : List ℕ). eqb (get_or l 0 0) 45) e ∙ m))
