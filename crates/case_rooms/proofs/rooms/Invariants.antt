-- Of an empty text no line is left, and nothing is written.
use Rattle.std.proofs.Common.{◌≡◌, []}
use Rattle.case_rooms.proofs.rooms.Given as goal

abbrev pub invariant-loop-line : goal.invariant-loop-line
invariant-loop-line g l =
    (goal.iterator-loop-line g).can_next l.line-iterator ×
    (goal.iterator-loop-line g).is_finite l.line-iterator ×
    (l.fn.text ≡ [] → (l.line-iterator.0.now ≡ []) × (g.W.Write.contents l.out ≡ g.W.Write.contents l.initial.out))
