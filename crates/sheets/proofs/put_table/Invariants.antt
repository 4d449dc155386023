-- The invariant: the lines still to put, from where the last one ends, make the table whole.
use Rattle.std.proofs.Common.{◌≡◌, ◌-◌, ◌+◌, ◌*◌, drop}
use Rattle.tables.specs.Table.{line_bytes}
use Rattle.tables.specs.Text.{table_text}
use Rattle.columns.specs.Laid.{laid}
use Rattle.sheets.proofs.put_table.Given as goal

abbrev pub invariant-loop-i : goal.invariant-loop-i
invariant-loop-i l =
    laid l.out (l.at + line_bytes l.w * l.i) (table_text l.w (l.n - l.i) (drop (l.w * l.i) l.cells)) ≡ laid l.initial.out l.at (table_text l.w l.n l.cells)
