-- What a read gave is counted on.
use Rattle.std.proofs.Common.{◌≡◌, ◌+◌, ℕ, List, ◌++◌, length, take, arith, length-append}
use Rattle.std.proofs.KnownBytes.{Consumes-trans}
use Rattle.bends.proofs.input.count.Goals as goal

pub loop-size-preserved : goal.loop-size-preserved
loop-size-preserved g c =
    let (moved, counted, read) = c.loop-size.invariant in
    let more : List ℕ = take c.in_ok-n.n c.read.new.buf in
    let came : c.in_ok-n.n ≡ length more = c.in_ok-n.ensures.bound.1 in
    let long : length (moved ++ more) ≡ length moved + length more = length-append moved more in
    (moved ++ more, omega arith, Consumes-trans _ _ _ _ _ read c.in_ok-n.ensures.bytes.0)
