use Rattle.std.proofs.Common.{rules, refl}
use borrow.Author.Tests.{tests}
use Rattle.whole.proofs.Scans.{some_from_any}
use Rattle.book.specs.Books.{stray_at}
use Rattle.book.proofs.some_stray.Goals as goal

pub returns : goal.returns
returns c = some_from_any (stray_at c.args.book.now.sections c.args.book.now.wear c.args.book.now.bends) _ _ _ _ c.any.ensures.ran refl refl (λ x b q k. search (rules, tests))
