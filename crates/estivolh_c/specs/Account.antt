-- The calls `estivolh_charge`, `estivolh_fresh` and `estivolh_batch`: each one's number, and what its lent slices hold as it returns. A slice shorter
-- than its stated length gets 2 before all else.
use Rattle.std.specs.Prelude.{List, cond, ℕ, ltb, Float, ℤ, length}
use Rattle.book.specs.Books.{fresh_book}
use Rattle.accounts.specs.Batch.{Outcome, batch_of}
use Rattle.charge.specs.Charging.{charge_of}
use Rattle.estivolh.specs.Account.{queries}
use Rattle.slices.specs.Lent.{kept, Left}
use Rattle.slices.specs.Books.{book_numbers, book_at, numbers_of}
use Rattle.slices.specs.Answers.{cost_left, returned_left}

-- ---- charge: 1 number
abbrev pub charge_called : Float → List ℕ → Left ℕ
charge_called v lent = cond (ltb (length lent) 1) (record { answer = 2; slice = lent }) (cost_left (charge_of v) lent)

-- ---- fresh: a book's numbers
abbrev pub fresh_called : ℕ → List ℕ → Left ℕ
fresh_called s lent = cond (ltb (length lent) book_numbers) (record { answer = 2; slice = lent }) (returned_left (fresh_book s) lent)

-- ---- batch: its number, the book's slice and the answer slice
pub record BatchLeft : Type 0 where
  pub answer : ℕ
  pub book : List ℕ
  pub answers : List ℕ

-- for the contracts alone
abbrev pub batch_left : ℕ → List ℕ → List ℕ → BatchLeft
batch_left n b l = record { answer = n; book = b; answers = l }

-- the book that comes back, in the slice that it came from
abbrev pub worked_left : Outcome → List ℕ → BatchLeft
worked_left o b = record { answer = o.refusal; book = kept o.refusal (numbers_of o.book) b; answers = o.answers }

abbrev pub batch_called : List ℕ → List ℕ → List ℤ → List ℕ → BatchLeft
batch_called b chart es lent =
    cond (ltb (length b) book_numbers) (record { answer = 2; book = b; answers = lent }) (worked_left (batch_of queries (book_at b) chart es lent) b)
