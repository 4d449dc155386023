-- `report::put_answers` meets its contract. The invariant: the lines of the answers passed are put.
use Rattle.std.proofs.Common.{◌≡◌, ◌*◌, take}
use Rattle.report.specs.Lines.{answer_bytes, answer_lines}
use Rattle.columns.specs.Laid.{laid}
use Rattle.report.proofs.put_answers.Given as goal

abbrev pub invariant-loop-i : goal.invariant-loop-i
invariant-loop-i l = record { place : l.at ≡ answer_bytes * l.i; lines : l.out ≡ laid l.initial.out 0 (answer_lines 1 (take l.i l.answers)) }
