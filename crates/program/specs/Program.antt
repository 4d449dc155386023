-- 01, "Program": what the program prints.
use Rattle.std.specs.Prelude.{ℕ, zero, suc, ◌+◌, ◌*◌, ◌/◌, ◌%◌, ◌≤◌, List, ◌≡◌, ℤ, length}
use Rattle.io.specs.Counts.{IsPrefixLen}
use Rattle.book.specs.declared.Book.{Book}
use Rattle.book.specs.Books.{fresh_book}
use Rattle.reading.specs.Reading.{chart_refusal_of}
use Rattle.entries.specs.Entry.{entry_width, entries_of}
use Rattle.accounts.specs.Batch.{book_after, answers_from}
use Rattle.estivolh.specs.Account.{queries}
use Rattle.log_text.specs.Log.{Log, entries_max, log_of}
use Rattle.log_text.specs.Log.Log.{entries, refused}
use Rattle.report.specs.Lines.{answer_bytes, book_bytes, program_sections, refusal_line, output_of}
use Rattle.columns.specs.Laid.{laid}

-- 01 "Program": "The book has 2 sections"
abbrev pub program_book : Book
program_book = (fresh_book program_sections).book

-- 01 "Program": "entry number and answer", then the book, as the batch has them
unfoldable pub ran_of : List ℕ → List ℤ → List ℕ
ran_of chart es = output_of (answers_from queries chart program_book (entries_of es)) (book_after queries chart program_book (entries_of es))

-- 01 "Program": "A refusal prints its number in 8 columns and stops"; "chart first"
abbrev pub after_chart : ℕ → List ℕ → Log → List ℕ
after_chart zero chart (entries es) = ran_of chart es
after_chart zero chart (refused k) = refusal_line k
after_chart (suc k) chart log = refusal_line (suc k)

-- what is printed for a chart and a log's entries
abbrev pub entries_printed : List ℕ → List ℤ → List ℕ
entries_printed chart es = after_chart (chart_refusal_of chart) chart (entries es)

-- and for a chart and a log that is refused
abbrev pub refusal_printed : List ℕ → ℕ → List ℕ
refusal_printed chart k = after_chart (chart_refusal_of chart) chart (refused k)

-- 01 "Program": all that is printed for a chart and a log of so many bytes, of which the first that an accepted log can have are enough
unfoldable pub printed_of : List ℕ → ℕ → List ℕ → List ℕ
printed_of chart size log = after_chart (chart_refusal_of chart) chart (log_of size log)

-- 01 "Program": all that is printed for a whole chart and a whole log
abbrev pub program_of : List ℕ → List ℕ → List ℕ
program_of chart log = printed_of chart (length log) log

-- room for all that can be printed
abbrev pub output_max : ℕ
output_max = answer_bytes * entries_max + book_bytes

-- the text stands in the first bytes, as many as are said, and every other byte is as it was
pub record Printed (old text new : List ℕ) (size : ℕ) : Type 0 where
  pub within : IsPrefixLen size new
  pub ends : size ≡ length text
  pub bytes : new ≡ laid old 0 text

-- the numbers of at most as many entries as a log has
pub record WholeEntries (es : List ℤ) : Type 0 where
  pub whole : length es % entry_width ≡ 0
  pub few : length es / entry_width ≤ entries_max
