-- The loop's invariant: from 2k on the scan finds what it finds from the front, and of the half-edges before it is kept whether q is strictly left of them.
use Rattle.std.proofs.Common.{◌≡◌, ◌*◌, ◌-◌}
use Rattle.geometry.specs.Grid.{at}
use Rattle.whole.specs.First.{first, from}
use Rattle.chart.specs.Seen.{seen}
use Rattle.locate.specs.Location.{on_even_edge}
use Rattle.locate.specs.Sides.{SidesOf}
use Rattle.locate.proofs.find_edge.Given as goal

abbrev pub invariant-loop-k : goal.invariant-loop-k
invariant-loop-k l =
    let c = seen l.lines.chart in
    let q = at l.q in
    record {
      found : first (on_even_edge c q) c.half_edges ≡ from (on_even_edge c q) (2 * l.k) (c.half_edges - 2 * l.k);
      sides : SidesOf c q l.left (2 * l.k);
    }
