-- `report::put_sections` meets its contract. The invariant: the lines of the sections passed are put.
use Rattle.std.proofs.Common.{◌≡◌, ◌+◌, ◌*◌}
use Rattle.report.specs.Lines.{section_bytes, section_lines}
use Rattle.columns.specs.Laid.{laid}
use Rattle.report.proofs.put_sections.Given as goal

abbrev pub invariant-loop-s : goal.invariant-loop-s
invariant-loop-s l =
    record { place : l.at ≡ l.from + section_bytes * l.s; lines : l.out ≡ laid l.initial.out l.from (section_lines l.fn.book.wear l.fn.book.bends l.s) }
