-- The header line of a packed case (oracle/README.md): five fields of 8 columns and the line end, the sizes of the case's texts.
use Rattle.std.specs.Prelude.{ℕ, List, cond, length, get_or, eqb, ℤ, pos, negsuc, Option, Some, None}
use Rattle.std.specs.Option.{option_and_then}
use Rattle.tables.specs.Table.{Cells, line_of}
use Rattle.tables.specs.Table.Cells.{cells, bad}
use Rattle.case_text.specs.declared.headers.Sizes.{Sizes}

-- A negative number is no size.
abbrev pub size_of : ℤ → Option ℕ
size_of (pos n) = Some n
size_of (negsuc n) = None

-- Where each of the five is a size.
abbrev pub sizes_of : Option ℕ → Option ℕ → Option ℕ → Option ℕ → Option ℕ → Option Sizes
sizes_of chart queries rooms batches log =
    option_and_then (λ c. option_and_then (λ q. option_and_then (λ r. option_and_then (λ b. option_and_then (λ l.
    Some (record { chart = c; queries = q; rooms = r; batches = b; log = l })) log) batches) rooms) queries) chart

abbrev pub header_line : Cells → Option Sizes
header_line (cells l) = sizes_of (size_of (get_or l 0 (pos 0))) (size_of (get_or l 1 (pos 0))) (size_of (get_or l 2 (pos 0))) (size_of (get_or l 3 (pos 0))) (size_of (get_or l 4 (pos 0)))
header_line bad = None

unfoldable pub header_of : List ℕ → Option Sizes
header_of s = cond (eqb (length s) 41) (header_line (line_of 5 s)) None
