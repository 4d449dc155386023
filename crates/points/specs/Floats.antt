-- f64 as lib.Ieee has it, under the Rust's signs: equal floats have equal bits, and there is one not-a-number (01, "Gradient and value").
use Rattle.std.specs.Prelude.{ℕ, ◌^◌, Bool, true, false, T, ℤ, pos, negsuc, nat_abs, Float}
use Rattle.std.proofs.Common.{le→leb, lt→ltb}
use Rattle.std.specs.Float.{binary64}
use Rattle.std.specs.Float.Ieee.{add, sub, mul, div, of_bits, of_int, in_float}
use Rattle.std.specs.Float.Ieee.Exact.{HasValue}
use Rattle.std.specs.Float.Ieee.Back.{round_whole}
use Rattle.whole.specs.Bound.{Within}

-- 0.0 and 1.0, by their bits
abbrev pub f0 : Float
f0 = of_bits binary64 0

abbrev pub f1 : Float
f1 = of_bits binary64 0x3ff0_0000_0000_0000

-- one rounded operation each, and as in the Rust `*` and `/` before `+` and `-`, from the left
infixl 20 ◌+f◌ ◌-f◌
infixl 30 ◌*f◌ ◌/f◌
abbrev pub ◌+f◌ : Float → Float → Float
a +f b = add binary64 a b

abbrev pub ◌-f◌ : Float → Float → Float
a -f b = sub binary64 a b

abbrev pub ◌*f◌ : Float → Float → Float
a *f b = mul binary64 a b

abbrev pub ◌/f◌ : Float → Float → Float
a /f b = div binary64 a b

-- a whole number taken as f64: the nearest one, and up to Exact the number itself (`real-exact`)
abbrev pub real_of : ℤ → Float
real_of z = of_int binary64 z

-- up to 2^53 either way every whole number is an f64
abbrev pub exact_max : ℕ
exact_max = 2 ^ 53

-- the sign, as a float has it
abbrev pub negative : ℤ → Bool
negative (pos n) = false
negative (negsuc n) = true

-- nothing is rounded: the float has z's sign and size, and 0 is +0
pub real-exact : (z : ℤ) → Within exact_max z → HasValue (real_of z) (negative z) (nat_abs z) 1
unfolding of_int
real-exact (pos n) h = round_whole binary64 false n h.abs
real-exact (negsuc n) h = round_whole binary64 true _ h.abs

-- what `as f64` asks of z
pub castable : (z : ℤ) → Within exact_max z → T (in_float binary64 z)
unfolding in_float
castable (pos n) h = le→leb n exact_max h.abs
castable (negsuc n) h = lt→ltb n exact_max h.abs
