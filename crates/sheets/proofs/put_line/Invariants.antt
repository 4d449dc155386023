-- The invariant: the fields still to put, from where the last one ends, make the line whole.
use Rattle.std.proofs.Common.{◌≡◌, ◌+◌, ◌*◌, drop}
use Rattle.text.specs.Field.{field_width}
use Rattle.tables.specs.Text.{line_text}
use Rattle.columns.specs.Laid.{laid}
use Rattle.sheets.proofs.put_line.Given as goal

abbrev pub invariant-loop-j : goal.invariant-loop-j
invariant-loop-j l = laid l.out (l.at + field_width * l.j) (line_text (drop l.j l.row)) ≡ laid l.initial.out l.at (line_text l.row)
