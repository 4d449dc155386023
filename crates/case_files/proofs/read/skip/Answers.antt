-- What a read gave is passed over too.
use Rattle.std.proofs.Common.{rules, ◌≡◌, ◌≤◌, ◌+◌, ℕ, List, ◌++◌, length, take, arith, length-append}
use Rattle.std.proofs.KnownBytes.{Consumes-trans}
use Rattle.case_files.proofs.read.skip.Goals as goal

pub loop-left-preserved : goal.loop-left-preserved
loop-left-preserved g c =
    let (moved, sum, read) = c.loop-left.invariant in
    let more : List ℕ = take c.in-Ok.n c.read.new.buf in
    let room : length c.read.new.buf ≡ c.min-space.result = search rules in
    let below : c.in-Ok.n ≤ length c.read.new.buf = c.in-Ok.ensures.bound.0 in
    let came : c.in-Ok.n ≡ length more = c.in-Ok.ensures.bound.1 in
    let long : length (moved ++ more) ≡ length moved + length more = length-append moved more in
    (moved ++ more, omega arith, Consumes-trans _ _ _ _ _ read c.in-Ok.ensures.bytes.0)
