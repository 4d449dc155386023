-- 01, "Charge, entry, book", on a chart's tables: what the queries say, one entry, and what a batch leaves.
use Rattle.std.specs.Prelude.{List, ℕ, ℤ}
use Rattle.chart.specs.Chart.{Chart}
use Rattle.values.specs.Value.{method_of, value_on}
use Rattle.book.specs.declared.Book.{Book}
use Rattle.book.specs.Books.{ChargeFits, SpliceFits}
use Rattle.entries.specs.declared.Entry.{Entry}
use Rattle.entries.specs.Ruling.{Ruling}
use Rattle.entries.specs.Ruling.Ruling.{Bend, Splice, Refused}
use Rattle.entries.specs.Entry.{entries_of}
use Rattle.entries.specs.Ruling.{answer_of}
use Rattle.accounts.specs.Rulings.{Queries}
use Rattle.accounts.specs.Batch.{book_verdict, book_change, book_after, answers_from, overlay}

-- the value of a load by a method, whatever the bytes from which the tables were read
abbrev pub on_tables : Chart → Queries
on_tables c bytes method place = value_on (method_of method) c place

-- what the changed book's sums ask
abbrev pub Changeable : Book → Ruling → Type 0
Changeable b (Bend i n) = ChargeFits b i n
Changeable b (Splice i) = SpliceFits b i
Changeable b (Refused k) = Unit {0}

-- an entry's answer and the book after it
pub record Step : Type 0 where
  pub answer : ℕ
  pub book : Book

abbrev pub step : ℕ → Book → Step
step n b = record { answer = n; book = b }

abbrev pub step_of : Queries → List ℕ → Book → Entry → Step
step_of Q bytes b e = record { answer = answer_of (book_verdict Q bytes b e); book = book_change b (book_verdict Q bytes b e) }

-- the book and the answer slice that a batch leaves
pub record Worked : Type 0 where
  pub book : Book
  pub answers : List ℕ

abbrev pub worked : Book → List ℕ → Worked
worked b left = record { book = b; answers = left }

-- every entry in order; elements past the last answer are unchanged
abbrev pub worked_of : Queries → List ℕ → Book → List ℤ → List ℕ → Worked
worked_of Q bytes b es lent = worked (book_after Q bytes b (entries_of es)) (overlay (answers_from Q bytes b (entries_of es)) lent)
