-- `columns::put_digits` meets its contract. The invariant: the columns still to write, before those that are written, are the field.
use Rattle.std.proofs.Common.{◌≡◌, ◌/◌, ◌++◌, length, drop}
use Rattle.text.specs.Field.{columns, last_digit}
use Rattle.columns.proofs.put_digits.Given as goal

abbrev pub invariant-loop-k : goal.invariant-loop-k
invariant-loop-k l = last_digit (length l.fn.field) l.fn.sign l.fn.n ≡ columns l.k l.sign (l.n / 10) ++ drop l.k l.field
