use Rattle.std.proofs.Common.{◌≡◌, sym, ◌∙◌, rules, length}
use Rattle.book.specs.Books.{section_max}
use Rattle.book.specs.Laws.{book-valid}
use Rattle.book.proofs.checked.CheckedBook.new.Goals as goal

pub invariant_of-result : goal.invariant_of-result
invariant_of-result c =
    let b = c.args.book in
    let wear-long : length b.wear ≡ section_max = search rules in
    let bends-long : length b.bends ≡ section_max = search rules in
    record { valid = book-valid b wear-long bends-long (sym c.is_bad.ensures ∙ c.if-is_bad.false) }
