-- A column at a time, as the function that writes a field goes: from the last to the first. Assumes nothing.
use Rattle.std.specs.Prelude.{ℕ, zero, suc, ◌+◌, ◌%◌, ℤ, pos, negsuc}

-- a column before the last: the last digit of n, or where n has none the sign g
abbrev pub column_byte : ℕ → ℕ → ℕ
column_byte g zero = g
column_byte g (suc m) = 48 + suc m % 10

-- the sign that is still to be written before it: a space once it is
abbrev pub sign_left : ℕ → ℕ → ℕ
sign_left g zero = 32
sign_left g (suc m) = g

-- the sign of a number: a minus below 0, else a space
abbrev pub sign_of : ℤ → ℕ
sign_of (pos n) = 32
sign_of (negsuc n) = 45
