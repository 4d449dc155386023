-- What is kept of a text and what is passed over are all of its bytes.
use Rattle.std.proofs.Common.{rules, ◌≡◌, ◌+◌, ◌++◌, length, arith, length-append, IsTrue}
use Rattle.std.proofs.KnownBytes.{Consumes-trans}
use Rattle.case_files.proofs.packed.read_text.Goals as goal

pub returns-clause-taken : goal.returns-clause-taken
returns-clause-taken g c =
    let skipped : IsTrue c.skip.result = search rules in
    let (rest, long, passed) = c.skip.ensures skipped in
    let text = c.fill-failed.new.text.items in
    let sum : length (text ++ rest) ≡ length text + length rest = length-append text rest in
    (text ++ rest, omega arith, Consumes-trans _ _ _ _ _ c.fill-failed.ensures.bytes passed)
