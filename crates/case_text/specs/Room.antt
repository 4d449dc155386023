-- A line of a rooms text (oracle/README.md): the length of an answer slice.
use Rattle.std.specs.Prelude.{ℕ, List, ℤ, pos, negsuc, Option, Some, None}
use Rattle.std.specs.Option.{option_and_then}
use Rattle.case_text.specs.Decimal.{decimal_of}

-- A negative number is no length.
abbrev pub length_of : ℤ → Option ℕ
length_of (pos n) = Some n
length_of (negsuc n) = None

unfoldable pub room_of : List ℕ → Option ℕ
room_of s = option_and_then length_of (decimal_of s)
