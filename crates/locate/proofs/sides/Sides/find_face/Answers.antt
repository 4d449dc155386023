use Rattle.std.proofs.Common.{rules, refl}
use borrow.Author.Tests.{tests}
use Rattle.whole.proofs.Scans.{found_from_find}
use Rattle.geometry.specs.Grid.{at}
use Rattle.chart.specs.Seen.{seen}
use Rattle.locate.specs.Location.{in_face}
use Rattle.locate.proofs.sides.Sides.find_face.Goals as goal

pub returns : goal.returns
returns c = found_from_find (in_face (seen c.args.self.now.chart) (at c.args.self.now.q)) _ _ _ _ c.find.ensures.ran refl (search rules) (λ x b q k. search (rules, tests))
