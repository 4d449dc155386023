-- What came so far and what is left are all that is passed over, and the loop ends: each turn reads some of what is left.
use Rattle.std.proofs.Common.{◌≡◌, ◌+◌, ℕ, List, length}
use Rattle.std.specs.Io.KnownBytes.{Consumes}
use Rattle.case_files.proofs.read.skip.Given as goal

abbrev pub invariant-loop-left : goal.invariant-loop-left
invariant-loop-left g l = (moved : List ℕ) × (length moved + l.left ≡ l.fn.size) × Consumes (g.R.Read.remaining l.fn.input) (g.R.Read.remaining l.input) moved

abbrev pub decreases-loop-left : goal.decreases-loop-left
decreases-loop-left g l = l.left
