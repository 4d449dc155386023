-- 01, "Where a call can be turned down" and "Charge, entry, book": what becomes of an entry, row 17, and the answer.
use Rattle.std.specs.Prelude.{Bool, cond, ◌||◌, ℕ, ◌+◌, ltb, eqb, Result, Ok, Err}
use Rattle.refusal.specs.declared.Refusal.{Refusal}
use Rattle.refusal.specs.Number.{number}
use Rattle.book.specs.Books.{account_max}
use Rattle.entries.specs.declared.Change.{Change}
use Rattle.entries.specs.declared.Change.TheVariants as C

-- a bend of a section with its charge, a splice of a section, or the number that refuses the entry
pub data Ruling : Type 0 where
  Bend : ℕ → ℕ → Ruling
  Splice : ℕ → Ruling
  Refused : ℕ → Ruling

-- what each case of the code's answer says, in 01's numbers
abbrev pub ruling_says : Result Change Refusal → Ruling
ruling_says (Ok (C.Bend i n)) = Bend i n
ruling_says (Ok (C.Splice i)) = Splice i
ruling_says (Err r) = Refused (number r)

-- 17: the charge would take the total above 10^12, or the section's count is 10^12
abbrev pub meets17 : ℕ → ℕ → ℕ → Bool
meets17 total count n = ltb account_max (total + n) || eqb count account_max

-- 12 to 17, in this order, by the total and the sections' counts
abbrev pub with17 : ℕ → (ℕ → ℕ) → Ruling → Ruling
with17 total count (Bend i n) = cond (meets17 total (count i) n) (Refused 17) (Bend i n)
with17 total count (Splice i) = Splice i
with17 total count (Refused k) = Refused k

-- a refused entry's answer is 2,000,000 plus the number
abbrev pub refused_entry : ℕ
refused_entry = 2000000

-- an accepted bend answers n, a splice 0
abbrev pub answer_of : Ruling → ℕ
answer_of (Bend i n) = n
answer_of (Splice i) = 0
answer_of (Refused k) = refused_entry + k
