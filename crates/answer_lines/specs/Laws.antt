-- Laws of numbers that a line shows. Assumes nothing.
use Rattle.std.specs.Prelude.{true, not, ◌≡◌, T, Float}
use Rattle.std.proofs.Common.{true≢false, sym}
use Rattle.std.specs.Float.{nan, inf, fin}
use Rattle.std.specs.Float.Ieee.{eq, is_nan}

-- A float that equals itself is a number.
pub equals_itself : (x : Float) → eq x x ≡ true → T (not (is_nan x))
unfolding eq is_nan
equals_itself nan e = absurd (true≢false (sym e))
equals_itself (inf s) e = tt
equals_itself (fin s m k) e = tt
