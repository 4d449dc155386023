use Rattle.std.proofs.Common.{rules, refl}
use borrow.Author.Tests.{tests}
use Rattle.whole.proofs.Scans.{found_from_find}
use Rattle.chart.specs.Seen.{seen}
use Rattle.legal.specs.Legal.{wants_flip}
use Rattle.legal.proofs.find_flip.Goals as goal

pub returns : goal.returns
returns c = found_from_find (wants_flip (seen c.args.chart.now) c.args.n) _ _ _ _ c.find.ensures.ran refl (search rules) (λ x b q k. search (rules, tests))
