-- The book agrees with the tally, the tally's numbers with the sums over its history, and one entry more keeps both so. Assumes nothing.
use Rattle.std.specs.Prelude.{◌≡◌, List, ◌++◌, map, ℕ}
use Rattle.book.specs.declared.Book.{Book}
use Rattle.book.specs.Books.{wear_of, count_of, total_wear, ValidBook}
use Rattle.entries.specs.declared.Entry.{Entry}
use Rattle.entries.specs.Ruling.{answer_of}
use Rattle.accounts.specs.Rulings.{Queries}
use Rattle.accounts.specs.Batch.{book_after, answers_from}
use Rattle.accounts.specs.Tally.{charges, wear_sum, bend_count, Tally, tally_from}

pub record Agree (s : ℕ) (b : Book) (t : Tally) : Type 0 where
  pub valid : ValidBook b
  pub sections : b.sections ≡ s
  -- the book's numbers are the tally's
  pub wears : (i : ℕ) → wear_of b i ≡ t.wear i
  pub counts : (i : ℕ) → count_of b i ≡ t.count i
  pub retired : b.retired ≡ t.retired
  -- the tally's are those of its history
  pub sums : (i : ℕ) → t.wear i ≡ wear_sum i t.history
  pub numbers : (i : ℕ) → t.count i ≡ bend_count i t.history
  pub total : total_wear b ≡ charges t.history

pub record Ran (Q : Queries) (s : ℕ) (chart : List ℕ) (b : Book) (t : Tally) (es : List Entry) : Type 0 where
  pub agrees : Agree s (book_after Q chart b es) (tally_from Q s chart t es)
  pub answers : map answer_of t.history ++ answers_from Q chart b es ≡ map answer_of (tally_from Q s chart t es).history
