use Rattle.std.proofs.Common.{rules, refl}
use borrow.Author.Tests.{tests}
use Rattle.whole.proofs.Scans.{some_from_any}
use Rattle.chart.specs.Seen.{seen}
use Rattle.delaunay.specs.Delaunay.{not_left}
use Rattle.delaunay.proofs.some_not_left.Goals as goal

pub returns : goal.returns
returns c = some_from_any (not_left (seen c.args.chart.now)) _ _ _ _ c.any.ensures.ran refl (search rules) (λ x b q k. search (rules, tests))
