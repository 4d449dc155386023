-- `batch::work_entry` meets its contract: what 17 lets pass fits the book and keeps it valid. Assumes nothing.
use Rattle.std.proofs.Common.{◌≡◌, sym, ap, subst, ◌∙◌, [], Ok}
use Rattle.chart.specs.Seen.{seen}
use Rattle.book.specs.Books.{ValidBook}
use Rattle.entries.specs.Ruling.{Ruling, ruling_says}
use Rattle.accounts.specs.Batch.{book_change, book_verdict}
use Rattle.batch.specs.Tables.{on_tables, Changeable}
use Rattle.batch.specs.Laws.{verdict-fits, verdict-valid}
use Rattle.batch.proofs.work_entry.Goals as goal
use Rattle.batch.proofs.work_entry.Goals.{In-Ok}

-- the accepted entry's verdict
accepted : (c : In-Ok) → book_verdict (on_tables (seen c.args.prepared.now.accepted.chart)) [] c.args.book.now.book c.args.e ≡ ruling_says (Ok c.in-Ok.change)
accepted c = sym c.verdict-last.ensures ∙ ap ruling_says c.in-Ok.is

pub changed-requires-clause-fits : goal.changed-requires-clause-fits
changed-requires-clause-fits c =
    let a = c.args in
    let b = a.book.now in
    subst (Changeable b.book) (accepted (goal.at.changed-requires-clause-fits c).In-Ok) (verdict-fits (on_tables (seen a.prepared.now.accepted.chart)) [] b.book b.valid a.e)

pub changed-requires-clause-valid : goal.changed-requires-clause-valid
changed-requires-clause-valid c =
    let a = c.args in
    let b = a.book.now in
    subst (λ (r : Ruling). ValidBook (book_change b.book r)) (accepted (goal.at.changed-requires-clause-valid c).In-Ok) (verdict-valid (on_tables (seen a.prepared.now.accepted.chart)) [] b.book b.valid a.e)
