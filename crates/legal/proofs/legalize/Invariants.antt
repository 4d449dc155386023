-- What the flips so far leave; each adds a half-edge that leaves the vertex.
use Rattle.std.specs.Prelude.{◌-◌}
use Rattle.rewire.specs.Tables.{KeepsOuts}
use Rattle.rewire.specs.Front.{shown, SameLent}
use Rattle.legal.specs.Legal.{degree, Reached}
use Rattle.legal.proofs.legalize.Given as goal

abbrev pub invariant-loop-h : goal.invariant-loop-h
invariant-loop-h l = record { reached : Reached (shown l.initial.tables) l.n (shown l.tables); outs : KeepsOuts l.initial.tables.vertices.now l.tables.vertices.now; lent : SameLent l.initial.tables l.tables }

abbrev pub decreases-loop-h : goal.decreases-loop-h
decreases-loop-h l = (shown l.tables).half_edges - degree (shown l.tables) l.n
