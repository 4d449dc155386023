-- `tables::table` meets its contract. The invariant: what the table holds is the numbers of the lines read, before what the rest of the table holds.
use Rattle.std.proofs.Common.{◌≡◌, ◌+◌, ◌-◌, ◌*◌, take, drop}
use Rattle.tables.specs.Table.{table_of, line_bytes, before}
use Rattle.tables.proofs.table.Given as goal

abbrev pub invariant-loop-i : goal.invariant-loop-i
invariant-loop-i l =
    table_of l.w l.n (drop l.at l.text) ≡ before (take (l.w * l.i) l.cells) (table_of l.w (l.n - l.i) (drop (l.at + line_bytes l.w * l.i) l.text))
