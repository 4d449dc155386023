-- The batch of a log's entries on the program's fresh book, and what is printed.
use Prim.Native.Nat.{ℕ, zero, suc, ◌/◌, ◌%◌, ◌≤◌, ◌<◌}
use mathlib.Core.List.{List}
use mathlib.Core.Bool.{false}
use mathlib.Core.Path.{◌≡◌, refl, ap, sym, ◌∙◌}
use native.Mathlib.Omega.{arith}
use borrow.Author.Tests.{eq-eqb, le-ltb}
use lib.IntN.{ℤ}
use lib.ListN.{length, take, drop}
use lib.Seq.{take_at, length-take-le}
use Rattle.refusal.specs.Number.{number-positive}
use Rattle.book.specs.declared.Book.{Book}
use Rattle.book.specs.Returned.{Returned}
use Rattle.book.specs.Books.{bad_book}
use Rattle.book.specs.Laws.{fresh-valid, valid-book}
use Rattle.reading.specs.Reading.{chart_refusal_of}
use Rattle.entries.specs.Entry.{entry_width, entries_of}
use Rattle.accounts.specs.Batch.{Outcome, outcome, book_after, answers_from, batch_refusal, batch_of, by_refusal}
use Rattle.accounts.proofs.Demand3.{entries-count, answers-length}
use Rattle.log_text.specs.Log.{Log, entries_max, log_of}
use Rattle.log_text.specs.Log.Log.{entries, refused}
use Rattle.report.specs.Lines.{refusal_line, program_sections}
use Rattle.estivolh.specs.Account.{queries}
use Rattle.columns.specs.Laid.{laid}
use Rattle.program.specs.Program.{program_book, after_chart, entries_printed, refusal_printed, ran_of, printed_of, Printed, WholeEntries}

-- ---- only the chart's refusals meet the batch

fresh-good : bad_book program_book ≡ false
fresh-good = valid-book program_book (fresh-valid program_sections refl)

by-chart : (chart : List ℕ) (es : List ℤ) (room : ℕ) → WholeEntries es → entries_max ≤ room
    → batch_refusal program_book chart (length es) room ≡ chart_refusal_of chart
by-chart chart es room w l =
    let few : length es / entry_width ≤ room = omega arith in
    rw (fresh-good, eq-eqb (length es % entry_width) 0 w.whole, le-ltb room (length es / entry_width) few) refl

told-refusal : (k : ℕ) (b : Book) (chart : List ℕ) (es : List ℤ) (lent : List ℕ) → (by_refusal queries k b chart es lent).refusal ≡ k
told-refusal zero b chart es lent = refl
told-refusal (suc k) b chart es lent = refl

-- What the batch leaves.
module _ (chart : List ℕ) (es : List ℤ) (lent left : List ℕ) (r : Returned) (w : WholeEntries es) (l : entries_max ≤ length lent)
    (e : outcome r left ≡ batch_of queries program_book chart es lent) where
  settled : outcome r left ≡ by_refusal queries (chart_refusal_of chart) program_book chart es lent
  settled = e ∙ ap (λ (k : ℕ). by_refusal queries k program_book chart es lent) (by-chart chart es (length lent) w l)

  pub refusal-left : r.refusal ≡ chart_refusal_of chart
  refusal-left = ap (λ (o : Outcome). o.refusal) settled ∙ told-refusal (chart_refusal_of chart) program_book chart es lent

-- What a batch that is not refused leaves.
module _ (chart : List ℕ) (es : List ℤ) (lent left : List ℕ) (b : Book) (w : WholeEntries es) (l : entries_max ≤ length lent)
    (e : outcome (record { refusal = 0; book = b }) left ≡ batch_of queries program_book chart es lent) where
  pub accepted : chart_refusal_of chart ≡ 0
  accepted = sym (refusal-left chart es lent left (record { refusal = 0; book = b }) w l e)

  done : outcome (record { refusal = 0; book = b }) left ≡ by_refusal queries 0 program_book chart es lent
  done = settled chart es lent left (record { refusal = 0; book = b }) w l e ∙ ap (λ (k : ℕ). by_refusal queries k program_book chart es lent) accepted

  pub book-left : b ≡ book_after queries chart program_book (entries_of es)
  book-left = ap (λ (o : Outcome). o.book) done

  pub answers-left : take (length es / entry_width) left ≡ answers_from queries chart program_book (entries_of es)
  answers-left =
      let new = answers_from queries chart program_book (entries_of es) in
      ap (λ (o : Outcome). take (length es / entry_width) o.answers) done
      ∙ take_at new (drop (length new) lent) (length es / entry_width)
      (answers-length queries chart (entries_of es) program_book ∙ entries-count es (length es / entry_width) 0)

-- ---- what is printed, in the order of the refusals

pub chart-first : (n : ℕ) (chart : List ℕ) (g : Log) → 0 < n → after_chart n chart g ≡ refusal_line n
chart-first zero chart g h = absurd (omega arith)
chart-first (suc n) chart g h = refl

pub log-next : (n k : ℕ) (chart : List ℕ) → n ≡ 0 → after_chart n chart (refused k) ≡ refusal_line k
log-next n k chart e = ap (λ (x : ℕ). after_chart x chart (refused k)) e

pub ruleset refusals = (chart-first, log-next, number-positive)

pub chart-refused : (chart : List ℕ) (es : List ℤ) (k : ℕ) → chart_refusal_of chart ≡ k → (k ≡ 0 → ⊥) → entries_printed chart es ≡ refusal_line k
chart-refused chart es zero e h = absurd (h refl)
chart-refused chart es (suc k) e h = ap (λ (r : ℕ). after_chart r chart (entries es)) e

pub chart-accepted : (chart : List ℕ) (es : List ℤ) → chart_refusal_of chart ≡ 0 → entries_printed chart es ≡ ran_of chart es
chart-accepted chart es e = ap (λ (r : ℕ). after_chart r chart (entries es)) e

pub printed-log : (chart : List ℕ) (size : ℕ) (log : List ℕ) (k : ℕ) → log_of size log ≡ refused k → printed_of chart size log ≡ refusal_printed chart k
unfolding printed_of
printed-log chart size log k e = ap (after_chart (chart_refusal_of chart) chart) e

pub printed-entries : (chart : List ℕ) (size : ℕ) (log : List ℕ) (es : List ℤ) → log_of size log ≡ entries es → printed_of chart size log ≡ entries_printed chart es
unfolding printed_of
printed-entries chart size log es e = ap (after_chart (chart_refusal_of chart) chart) e

-- ---- what was put is what is printed

pub put-printed : (old text new : List ℕ) (n r : ℕ) → length text ≡ n → n ≤ length old → length new ≡ length old → r ≡ n → new ≡ laid old 0 text → Printed old text new r
put-printed old text new n r l h k e p =
    let w : r ≤ length new = omega arith in
    record { within = (w, sym (length-take-le r new w)); ends = e ∙ sym l; bytes = p }
