-- Laws in the words in which the check takes them. Assumes nothing.
use Rattle.std.proofs.Common.{◌≡◌, sym, subst, refl, ℕ, true, false, List, ℤ, length}
use Rattle.std.proofs.lemmas.Bool.{false≢true}
use Rattle.whole.specs.Among.{among}
use Rattle.reading.specs.Reading.{chart_in}
use Rattle.reading.specs.Laws.{of_chart, chart-among}
use Rattle.book.specs.declared.Book.{Book}
use Rattle.book.specs.Books.{bad_book}
use Rattle.book.specs.Laws.{refusal-none}
use Rattle.accounts.specs.Batch.{bad_slices, batch_of}
use Rattle.inserting.specs.Laws.{chart-inserts}
use Rattle.estivolh.specs.Account.{queries, batch_in, batch-by-chart}

-- A batch that neither 1 nor 2 meets is what the chart makes of it.
pub batch-under : (b : Book) (bytes : List ℕ) (es : List ℤ) (lent : List ℕ) → bad_book b ≡ false → bad_slices (length es) (length lent) ≡ false
    → batch_of queries b bytes es lent ≡ batch_in (chart_in bytes) b es lent
batch-under b bytes es lent e f =
    sym (batch-by-chart b bytes es lent e f (chart_in bytes) refl (λ n q z. false≢true (subst (λ (m : ℕ). among of_chart m ≡ true) z (chart-among bytes n q))))

pub ruleset batches = (batch-under, refusal-none)

pub ruleset insertions = (chart-inserts)
