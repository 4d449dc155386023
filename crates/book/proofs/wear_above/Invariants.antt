-- `book::wear_above` meets its contract. The loop's invariant: what is left, the retired wear and the wear passed make the limit. Assumes nothing.
use Rattle.std.proofs.Common.{◌≡◌, ◌+◌, take}
use Rattle.book.specs.Books.{account_max, sum_of}
use Rattle.book.proofs.wear_above.Given as goal

abbrev pub invariant-loop-w : goal.invariant-loop-w
invariant-loop-w l = l.left + (l.retired + sum_of (take l.w-index l.wear)) ≡ account_max
