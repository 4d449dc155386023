use Rattle.std.proofs.Common.{rules, refl}
use borrow.Author.Tests.{tests}
use Rattle.whole.proofs.Scans.{found_from_find}
use Rattle.geometry.specs.Grid.{at}
use Rattle.chart.specs.Seen.{seen}
use Rattle.locate.specs.Location.{at_vertex}
use Rattle.locate.proofs.find_vertex.Goals as goal

pub returns : goal.returns
returns c = found_from_find (at_vertex (seen c.args.chart.now) (at c.args.q)) _ _ _ _ c.find.ensures.ran refl (search rules) (λ x b q k. search (rules, tests))
