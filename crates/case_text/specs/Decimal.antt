-- A whole number in decimal, as a queries text has it: an optional minus sign and 1 to 19 digits, of a number that an i64 holds.
use Rattle.std.specs.Prelude.{ℕ, ◌^◌, List, Bool, true, false, cond, length, drop, get_or, eqb, ltb, leb, ℤ, pos, neg_ℤ, Option, Some, None}
use Rattle.std.specs.Option.{option_and_then}
use Rattle.text.specs.Field.{value_of}
use Rattle.text.specs.Natural.{figures}

-- As many digits as any i64 has.
abbrev pub most_digits : ℕ
most_digits = 19

-- The number that digits make, where a u64 holds it.
abbrev pub whole_of : List ℕ → Option ℕ
whole_of d = cond (figures d) (cond (ltb (value_of 0 d) (2 ^ 64)) (Some (value_of 0 d)) None) None

-- The number of one digit or more with no sign, where a u64 holds it.
unfoldable pub natural_of : List ℕ → Option ℕ
natural_of d = cond (eqb (length d) 0) None (whole_of d)

-- The number that 1 to 19 digits make: a u64 holds each of them.
abbrev pub magnitude_of : List ℕ → Option ℕ
magnitude_of d = cond (leb (length d) most_digits) (natural_of d) None

-- A magnitude with no sign before it, where an i64 holds the number.
abbrev pub above_of : ℕ → Option ℤ
above_of n = cond (ltb n (2 ^ 63)) (Some (pos n)) None

-- A magnitude after a minus sign.
abbrev pub below_of : ℕ → Option ℤ
below_of n = cond (leb n (2 ^ 63)) (Some (neg_ℤ (pos n))) None

abbrev pub signed_of : Bool → List ℕ → Option ℤ
signed_of true s = option_and_then below_of (magnitude_of (drop 1 s))
signed_of false s = option_and_then above_of (magnitude_of s)

unfoldable pub decimal_of : List ℕ → Option ℤ
decimal_of s = signed_of (eqb (get_or s 0 0) 45) s
