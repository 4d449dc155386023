-- What is handed on is the whole log, or its first bytes with all of them counted.
use Rattle.std.proofs.Common.{◌≡◌, ◌+◌, ◌<◌, length, arith}
use Rattle.std.specs.Io.Iter.{u64_saturate}
use Rattle.bends.proofs.Taken.{all-read, all-counted}
use Rattle.bends.proofs.input.fill.Goals as goal

pub returns-then-n-lt-LIMIT-clause-known : goal.returns-then-n-lt-LIMIT-clause-known
returns-then-n-lt-LIMIT-clause-known g c =
    let front = c.in_ok-front.ensures in
    let less : length c.front.new.text.items < 65536 = omega arith in
    all-read _ _ _ _ less front.bytes front.whole c.len-n.ensures.value

pub returns-clause-known : goal.returns-clause-known
returns-clause-known g c =
    let front = c.in_ok-front.ensures in
    let full : length c.front.new.text.items ≡ 65536 = omega arith in
    let size : c.saturating_add.result ≡ u64_saturate (65536 + c.in_ok-rest.rest) = omega arith in
    all-counted _ _ _ _ _ full front.bytes c.in_ok-rest.ensures size
