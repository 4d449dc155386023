-- What came so far is counted, and the loop ends: each turn counts on.
use Rattle.std.proofs.Common.{◌≡◌, ℕ, ◌-◌, ◌^◌, List, length}
use Rattle.std.specs.Io.Iter.{u64_saturate}
use Rattle.std.specs.Io.KnownBytes.{Consumes}
use Rattle.bends.proofs.input.count.Given as goal

abbrev pub invariant-loop-size : goal.invariant-loop-size
invariant-loop-size g l = (moved : List ℕ) × (l.size ≡ u64_saturate (length moved)) × Consumes (g.R.Read.remaining l.fn.input) (g.R.Read.remaining l.input) moved

abbrev pub decreases-loop-size : goal.decreases-loop-size
decreases-loop-size g l = 2 ^ 64 - 1 - l.size
