-- 01, "Program": the log, what it holds, and the first refusal that meets it.
use Rattle.std.specs.Prelude.{ℕ, ◌*◌, ◌/◌, ◌%◌, List, ◌++◌, not, cond, eqb, ltb, ℤ, length, drop, Result, Ok, Err}
use Rattle.tables.specs.Table.{Cells, line_bytes, table_of}
use Rattle.tables.specs.Table.Cells.{cells, bad}
use Rattle.entries.specs.Entry.{entry_width}
use Rattle.refusal.specs.declared.Refusal.{Refusal}
use Rattle.refusal.specs.Number.{number}

-- 01 "Program": "per entry five fields and LF, 41 bytes"
abbrev pub entry_bytes : ℕ
entry_bytes = line_bytes entry_width

-- 01 "Program": "at most 512"
abbrev pub entries_max : ℕ
entries_max = 512

-- so many bytes has the longest log that is not refused
abbrev pub log_max : ℕ
log_max = entry_bytes * entries_max

-- the numbers of a log's entries, five for each, or its refusal
pub data Log : Type 0 where
  entries : List ℤ → Log
  refused : ℕ → Log

-- 01 "Program": "5 if malformed"
abbrev pub log_fields : Cells → Log
log_fields (cells l) = entries l
log_fields bad = refused 5

-- 01 "Program": "4 if more; 3 if no multiple of 41; 5 if malformed; length, count, then fields": what a log of so many bytes holds
unfoldable pub log_of : ℕ → List ℕ → Log
log_of size bytes =
    cond (not (eqb (size % entry_bytes) 0)) (refused 3)
    (cond (ltb entries_max (size / entry_bytes)) (refused 4)
    (log_fields (table_of entry_width (size / entry_bytes) bytes)))

-- what a whole log holds
abbrev pub whole_log : List ℕ → Log
whole_log log = log_of (length log) log

-- what reading leaves: the refusal, 0 for none, the number of entries, and the lent slice
pub record LogOutcome : Type 0 where
  pub refusal : ℕ
  pub count : ℕ
  pub numbers : List ℤ

-- the same, of what a call returned and what stands in the slice as it returns
abbrev pub said_log : Result ℕ Refusal → List ℤ → LogOutcome
said_log (Ok n) left = record { refusal = 0; count = n; numbers = left }
said_log (Err r) left = record { refusal = number r; count = 0; numbers = left }

-- a refusal leaves the lent slice as it was; else its first elements are the entries' numbers
abbrev pub log_left : Log → List ℤ → LogOutcome
log_left (entries l) lent = record { refusal = 0; count = length l / entry_width; numbers = l ++ drop (length l) lent }
log_left (refused k) lent = record { refusal = k; count = 0; numbers = lent }
