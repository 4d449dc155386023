-- `book::Book::total_wear` meets its contract. The loop's invariant: the total is the retired wear and the wear passed. Assumes nothing.
use Rattle.std.proofs.Common.{◌≡◌, ◌+◌, take}
use Rattle.book.specs.Books.{sum_of}
use Rattle.book.proofs.Book.total_wear.Given as goal

abbrev pub invariant-loop-wear : goal.invariant-loop-wear
invariant-loop-wear l = l.total ≡ l.self.retired + sum_of (take l.wear-index l.self.wear)
