-- `tables::fields` meets its contract. The invariant: what the line holds is the numbers read, before what the rest of the line holds.
use Rattle.std.proofs.Common.{◌≡◌, ◌+◌, ◌-◌, ◌*◌, length, take, drop}
use Rattle.text.specs.Field.{field_width}
use Rattle.tables.specs.Table.{line_of, before}
use Rattle.tables.proofs.fields.Given as goal

abbrev pub invariant-loop-j : goal.invariant-loop-j
invariant-loop-j l =
    line_of (length l.initial.row) (drop l.at l.text) ≡ before (take l.j l.row) (line_of (length l.initial.row - l.j) (drop (l.at + field_width * l.j) l.text))
