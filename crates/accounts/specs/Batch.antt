-- 01, "Where a call can be turned down" and "Charge, entry, book": a batch of entries on a book.
use Rattle.std.specs.Prelude.{List, [], ◌∷◌, ◌++◌, Bool, not, cond, ◌||◌, ℕ, zero, suc, ◌/◌, ◌%◌, ltb, eqb, ℤ, length, drop}
use Rattle.book.specs.declared.Book.{Book}
use Rattle.book.specs.Returned.{Returned}
use Rattle.book.specs.Books.{total_wear, count_of, charge_book, splice_book, bad_book}
use Rattle.reading.specs.Reading.{chart_refusal_of}
use Rattle.entries.specs.declared.Entry.{Entry}
use Rattle.entries.specs.Ruling.{Ruling}
use Rattle.entries.specs.Ruling.Ruling.{Bend, Splice, Refused}
use Rattle.entries.specs.Entry.{entry_width, entries_of}
use Rattle.entries.specs.Ruling.{with17, answer_of}
use Rattle.accounts.specs.Rulings.{Queries, entry_ruling}

-- an accepted entry changes the book by its kind, after a refused one the book is as before it
abbrev pub book_change : Book → Ruling → Book
book_change b (Bend i n) = charge_book b i n
book_change b (Splice i) = splice_book b i
book_change b (Refused k) = b

-- what becomes of an entry that meets the book b
abbrev pub book_verdict : Queries → List ℕ → Book → Entry → Ruling
book_verdict Q chart b e = with17 (total_wear b) (count_of b) (entry_ruling Q b.sections chart e)

-- the book after a list of entries
abbrev pub book_after : Queries → List ℕ → Book → List Entry → Book
book_after Q chart b [] = b
book_after Q chart b (e ∷ es) = book_after Q chart (book_change b (book_verdict Q chart b e)) es

-- their answers
abbrev pub answers_from : Queries → List ℕ → Book → List Entry → List ℕ
answers_from Q chart b [] = []
answers_from Q chart b (e ∷ es) =
    answer_of (book_verdict Q chart b e) ∷ answers_from Q chart (book_change b (book_verdict Q chart b e)) es

-- elements past the last answer are unchanged
abbrev pub overlay : {A : Type 0} → List A → List A → List A
overlay new lent = new ++ drop (length new) lent

-- 2: entry slice no multiple of five, or answer slice shorter than the number of entries
abbrev pub bad_slices : ℕ → ℕ → Bool
bad_slices numbers room = not (eqb (numbers % entry_width) 0) || ltb room (numbers / entry_width)

-- 2 to 11, 0 for none: by the chart's bytes and the lengths of the entry slice and the answer slice
abbrev pub call_refusal : List ℕ → ℕ → ℕ → ℕ
call_refusal chart numbers room = cond (bad_slices numbers room) 2 (chart_refusal_of chart)

-- 1 to 11
abbrev pub batch_refusal : Book → List ℕ → ℕ → ℕ → ℕ
batch_refusal b chart numbers room = cond (bad_book b) 1 (call_refusal chart numbers room)

-- what a batch leaves: its refusal, 0 for none, the book, and the lent answers
pub record Outcome : Type 0 where
  pub refusal : ℕ
  pub book : Book
  pub answers : List ℕ

-- the same, of what a call returned and what stands in the slice as it returns
abbrev pub outcome : Returned → List ℕ → Outcome
outcome r left = record { refusal = r.refusal; book = r.book; answers = left }

-- 1 to 11 refuse the call: the number comes back, book and slices are untouched
abbrev pub by_refusal : Queries → ℕ → Book → List ℕ → List ℤ → List ℕ → Outcome
by_refusal Q zero b chart es lent =
    record { refusal = 0; book = book_after Q chart b (entries_of es); answers = overlay (answers_from Q chart b (entries_of es)) lent }
by_refusal Q (suc k) b chart es lent = record { refusal = suc k; book = b; answers = lent }

-- the whole batch
abbrev pub batch_of : Queries → Book → List ℕ → List ℤ → List ℕ → Outcome
batch_of Q b chart es lent = by_refusal Q (batch_refusal b chart (length es) (length lent)) b chart es lent
