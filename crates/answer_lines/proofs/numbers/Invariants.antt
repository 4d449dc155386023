-- What has been written: the numbers so far, each after a space.
use Rattle.std.proofs.Common.{take}
use Rattle.std.specs.Io.KnownBytes.{Appends}
use Rattle.answer_lines.specs.Lines.{spaced}
use Rattle.answer_lines.proofs.numbers.Given as goal

abbrev pub invariant-loop-n : goal.invariant-loop-n
invariant-loop-n g l = Appends (g.W.Write.contents l.initial.out) (g.W.Write.contents l.out) (spaced (take l.n-index l.n-items))
