-- 01 and 02, "Where a call can be turned down": the number of each refusal. Assumes nothing.
use Rattle.std.specs.Prelude.{ℕ, ◌<◌, Result, Ok, Err}
use Rattle.std.proofs.Common.{arith}
use Rattle.refusal.specs.declared.Refusal.{Refusal}
use Rattle.refusal.specs.declared.Refusal.TheVariants.{Book, Slices, Length, Counts, Field, Range, Links, Places, Turn, Rim, Circle, Unknown, OffGrid, Outside, NoCharge, Full, TextRoom, ChartFull, NoSite}

abbrev pub number : Refusal → ℕ
number Book = 1
number Slices = 2
number Length = 3
number Counts = 4
number Field = 5
number Range = 6
number Links = 7
number Places = 8
number Turn = 9
number Rim = 10
number Circle = 11
number Unknown = 12
number OffGrid = 13
number Outside = 14
number NoCharge = 16
number Full = 17
number TextRoom = 18
number ChartFull = 25
number NoSite = 26

-- what a result says of its refusal: 0 where there is none
abbrev pub refusal_of : {T : Type 0} → Result T Refusal → ℕ
refusal_of (Ok _) = 0
refusal_of (Err r) = number r

-- no refusal has the number 0
pub number-positive : (r : Refusal) → 0 < number r
number-positive Book = omega arith
number-positive Slices = omega arith
number-positive Length = omega arith
number-positive Counts = omega arith
number-positive Field = omega arith
number-positive Range = omega arith
number-positive Links = omega arith
number-positive Places = omega arith
number-positive Turn = omega arith
number-positive Rim = omega arith
number-positive Circle = omega arith
number-positive Unknown = omega arith
number-positive OffGrid = omega arith
number-positive Outside = omega arith
number-positive NoCharge = omega arith
number-positive Full = omega arith
number-positive TextRoom = omega arith
number-positive ChartFull = omega arith
number-positive NoSite = omega arith
