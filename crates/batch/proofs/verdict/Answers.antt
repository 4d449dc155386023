-- `batch::verdict` meets its contract: the section is known, and no sum of the account wraps. Assumes nothing.
use Rattle.std.proofs.Common.{◌<◌, ◌≤◌, sym, ap, subst, ◌∙◌, [], Ok, arith}
use Rattle.chart.specs.Seen.{seen}
use Rattle.charge.specs.Charging.{charge_max}
use Rattle.entries.specs.Ruling.{ruling_says}
use Rattle.accounts.specs.Rulings.{Known, known}
use Rattle.batch.specs.Tables.{on_tables}
use Rattle.batch.proofs.verdict.Goals as goal
use Rattle.batch.proofs.verdict.Goals.{In-Bend}

-- what 12 and 16 leave of a bend
bend-known : (c : In-Bend) → (c.in-Bend.section < c.args.book.now.book.sections) × (c.in-Bend.n ≤ charge_max)
bend-known c =
    let a = c.args in
    let d = seen a.prepared.now.accepted.chart in
    let r = ap ruling_says c.in_ok-change.was ∙ ap (λ x. ruling_says (Ok x)) c.in-Bend.is in
    subst (Known a.book.now.book.sections) (sym c.ruling-first.ensures ∙ r) (known (on_tables d) a.book.now.book.sections [] a.e)

pub offset_bounds-book-section : goal.offset_bounds-book-section
offset_bounds-book-section c =
    let k = bend-known (goal.at.offset_bounds-book-section c).In-Bend in
    record { fits = omega (arith, k.0, c.args.book.now.valid.few-sections) }

pub bounds-book-section : goal.bounds-book-section
bounds-book-section c =
    let k = bend-known (goal.at.bounds-book-section c).In-Bend in
    omega (arith, k.0, c.args.book.now.valid.few-sections)

pub is_full-requires : goal.is_full-requires
is_full-requires c =
    let k = bend-known (goal.at.is_full-requires c).In-Bend in
    omega (arith, k.1, c.total_wear.ensures, c.args.book.now.valid.total-within)
