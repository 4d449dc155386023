-- 02, CR 1: "A writer puts an accepted chart's tables into a lent buffer as chart text."
use Rattle.std.specs.Prelude.{Result, Ok, Err, Bool, not, cond, ◌||◌, List, ◌++◌, ℕ, zero, suc, ◌%◌, ltb, eqb, ℤ, pos, length, drop}
use Rattle.refusal.specs.declared.Refusal.{Refusal}
use Rattle.refusal.specs.Number.{number}
use Rattle.chart.specs.Tables.{rows}
use Rattle.ranges.specs.Ranges.{counts_refused}
use Rattle.checks.specs.Checks.{tables_refusal}
use Rattle.reading.specs.Text.{chart_text}

-- 02 CR 1: "a call that fills a slice with a text or a list returns its length"; or the number of the refusal
pub data Written : Type 0 where
  wrote : ℕ → Written
  turned_down : ℕ → Written

-- what each case of the call's answer says, in 02's numbers
abbrev pub written_says : Result ℕ Refusal → Written
written_says (Ok n) = wrote n
written_says (Err r) = turned_down (number r)

-- the call's answer, and the lent buffer as it returns
pub record Saved : Type 0 where
  pub answer : Written
  pub buffer : List ℕ

-- what a call said and left: for the contracts alone, so that no answer is stated in its terms
abbrev pub saved_left : Result ℕ Refusal → List ℕ → Saved
saved_left r s = record { answer = written_says r; buffer = s }

-- ---- the refusals
-- 02 CR 1: "2, when the vertex or half-edge slice is no multiple of four"
abbrev pub uneven : List ℤ → List ℤ → Bool
uneven vs es = not (eqb (length vs % 4) 0) || not (eqb (length es % 4) 0)

-- 02 CR 1: "it checks 4 and 6 to 11 on them, and before that 2"; 0 where none meets the tables
unfoldable pub numbers_refusal : List ℤ → List ℤ → List ℤ → ℕ
numbers_refusal vs es fs =
    cond (uneven vs es) 2
    (cond (counts_refused (pos (rows vs)) (pos (rows es)) (pos (length fs))) 4 (tables_refusal vs es fs))

-- 02 CR 1: "18 when the buffer is shorter than the text, checked after 11"
abbrev pub room_refusal : ℕ → List ℕ → List ℕ → ℕ
room_refusal zero text lent = cond (ltb (length lent) (length text)) 18 0
room_refusal (suc n) text lent = suc n

-- 2, 4, 6 to 11, 18: the first that meets the call, or 0
unfoldable pub write_refusal : List ℤ → List ℤ → List ℤ → List ℕ → ℕ
write_refusal vs es fs lent = room_refusal (numbers_refusal vs es fs) (chart_text vs es fs) lent

-- ---- the call
-- the text in front and every byte past it unchanged; of a refused call "nothing is written"
abbrev pub saved_by : ℕ → List ℕ → List ℕ → Saved
saved_by zero text lent = record { answer = wrote (length text); buffer = text ++ drop (length text) lent }
saved_by (suc n) text lent = record { answer = turned_down (suc n); buffer = lent }

unfoldable pub write_of : List ℤ → List ℤ → List ℤ → List ℕ → Saved
write_of vs es fs lent = saved_by (write_refusal vs es fs lent) (chart_text vs es fs) lent
