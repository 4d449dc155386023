use Rattle.std.proofs.Common.{rules, refl}
use borrow.Author.Tests.{tests}
use Rattle.whole.proofs.Scans.{found_from_find}
use Rattle.geometry.specs.Grid.{at}
use Rattle.chart.specs.Seen.{seen}
use Rattle.locate.specs.Location.{left_of_outer}
use Rattle.locate.proofs.Scan.{first-unwrapped}
use Rattle.locate.proofs.sides.Sides.find_outer.Goals as goal

pub returns : goal.returns
returns c =
    let p = left_of_outer (seen c.args.self.now.chart) (at c.args.self.now.q) in
    let e = found_from_find p (seen c.args.self.now.chart).half_edges _ _ _ c.find.ensures.ran refl (search rules) (λ x b q k. search (rules, tests)) in
    rw (c.unwrap_or.ensures, c.half_edge_count-n.ensures, e) (first-unwrapped p _)
