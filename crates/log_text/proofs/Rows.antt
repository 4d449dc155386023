-- 01, "Program": the refusals of a log, computed. Assumes nothing.
use Rattle.std.specs.Prelude.{refl}
use Rattle.text.specs.Bytes.{eqs}
use Rattle.text.specs.Field.{spaces_of, digits_of, columns, last_digit, field_text, value_of, candidate, field_of}
use Rattle.tables.specs.Table.{line_of, table_of}
use Rattle.log_text.specs.Log.{log_of}
use Rattle.log_text.specs.Rows.{LogRows}

pub log-rows : LogRows
unfolding eqs spaces_of digits_of columns last_digit field_text value_of candidate field_of line_of table_of log_of
log-rows =
    record {
      one_entry = refl;
      two-entries = refl;
      no-entry = refl;
      cut_off = refl;
      one_more = refl;
      line-end = refl;
      most = refl;
      more = refl;
      length-first = refl;
    }
