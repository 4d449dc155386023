-- What callers need of the definitions of Writing. Assumes nothing.
use Rattle.std.specs.Prelude.{Bool, true, false, not, cond, List, ◌++◌, ◌≡◌, ℕ, suc, ◌*◌, ◌/◌, ◌%◌, ◌≤◌, eqb, ℤ, length, drop}
use Rattle.std.proofs.Math.Path.{refl}
use Rattle.std.proofs.Common.{arith}
use borrow.Author.Tests.{eqb-true, not-false, eq-eqb}
use Rattle.whole.specs.Bools.{or-false}
use Rattle.chart.specs.Tables.{rows}
use Rattle.ranges.specs.Ranges.{out_of_range}
use Rattle.checks.specs.Checks.{tables_refusal}
use Rattle.reading.specs.Text.{chart_text}
use Rattle.writing.specs.Writing.{uneven, numbers_refusal, write_of}

-- 2 does not meet slices that are multiples of four
pub even-slices : (vs es : List ℤ) → length vs % 4 ≡ 0 → length es % 4 ≡ 0 → uneven vs es ≡ false
even-slices vs es e d = rw (eq-eqb (length vs % 4) 0 e, eq-eqb (length es % 4) 0 d) refl

-- ---- tables that none of 2, 4 and 6 to 11 meets
-- a choice that is 0 where its first number is not 0 is its second
pub past : (b : Bool) (m n : ℕ) → cond b (suc m) n ≡ 0 → (b ≡ false) × (n ≡ 0)
past true m n e = let o : ⊥ = omega arith in absurd o
past false m n e = (refl, e)

-- 6 does not
pub range_none : (vs es fs : List ℤ) → tables_refusal vs es fs ≡ 0 → out_of_range vs es fs ≡ false
unfolding tables_refusal
range_none vs es fs h = (past (out_of_range vs es fs) 5 _ h).0

-- ---- a multiple of four
-- a number of numbers that is a multiple of four is four a row
whole-rows : (n : ℕ) → n % 4 ≡ 0 → n ≡ 4 * (n / 4)
whole-rows n h = omega arith

module _ (vs es : List ℤ) (h : uneven vs es ≡ false) where
  parts : (not (eqb (length vs % 4) 0) ≡ false) × (not (eqb (length es % 4) 0) ≡ false)
  parts = or-false (not (eqb (length vs % 4) 0)) (not (eqb (length es % 4) 0)) h

  -- the vertices are whole rows
  pub vertex-rows : length vs ≡ 4 * rows vs
  vertex-rows = whole-rows (length vs) (eqb-true (length vs % 4) 0 (not-false (eqb (length vs % 4) 0) parts.0))

  -- and so are the half-edges
  pub edge-rows : length es ≡ 4 * rows es
  edge-rows = whole-rows (length es) (eqb-true (length es % 4) 0 (not-false (eqb (length es % 4) 0) parts.1))

-- and slices of whole rows are multiples of four
pub even-rows : (vs es : List ℤ) → length vs ≡ 4 * rows vs → length es ≡ 4 * rows es → uneven vs es ≡ false
even-rows vs es a b = even-slices vs es (omega arith) (omega arith)

-- what a call that was not refused had been lent, and what it left
pub record Done (vs es fs : List ℤ) (lent : List ℕ) (n : ℕ) : Type 0 where
  pub none : numbers_refusal vs es fs ≡ 0
  pub room : length (chart_text vs es fs) ≤ length lent
  pub long : length (chart_text vs es fs) ≡ n
  pub left : (write_of vs es fs lent).buffer ≡ chart_text vs es fs ++ drop (length (chart_text vs es fs)) lent
