-- What 6 leaves of the numbers of a table: none is negative. Assumes nothing.
use Rattle.std.specs.Prelude.{◌≡◌, false, List, ℕ, zero, suc, ◌+◌, ◌*◌, ◌/◌, ◌%◌, ◌<◌, T, ℤ, pos, negsuc, length, get_or}
use Rattle.std.proofs.Common.{sym, subst, arith}
use Rattle.std.proofs.lemmas.Bool.{false≢true}
use Rattle.std.specs.Int.Signed.{non_neg}
use Rattle.chart.specs.Tables.{rows}
use Rattle.ranges.specs.Ranges.{not_below, cell, out_of_range}
use Rattle.ranges.specs.Passed.{edge, face}

pub record Unsigned (t : List ℤ) : Type 0 where
  pub at : (i : ℕ) → i < length t → T (non_neg (get_or t i (pos 0)))

-- a number that is below a count is not negative
passed : (n : ℕ) (z : ℤ) → not_below n z ≡ false → T (non_neg z)
unfolding not_below
passed n (pos m) e = tt
passed n (negsuc m) e = absurd (false≢true (sym e))

module _ (vs es fs : List ℤ) (h : out_of_range vs es fs ≡ false) where
  -- those of half-edges, in whole rows
  pub edges-unsigned : length es ≡ 4 * rows es → Unsigned es
  edges-unsigned w =
      record {
        at = λ i l.
            let e : i / 4 * 4 + i % 4 ≡ i = omega arith in
            subst (λ (k : ℕ). T (non_neg (get_or es k (pos 0)))) e (column (i / 4) (omega arith) (i % 4) (omega arith));
      }
    where
      column : (k : ℕ) → k < rows es → (j : ℕ) → j < 4 → T (non_neg (cell es k j))
      column k l zero m = passed (rows vs) (cell es k 0) (edge vs es fs h k l).0
      column k l (suc zero) m = passed (rows es) (cell es k 1) (edge vs es fs h k l).1.0
      column k l (suc (suc zero)) m = passed (rows es) (cell es k 2) (edge vs es fs h k l).1.1.0
      column k l (suc (suc (suc zero))) m = passed (length fs) (cell es k 3) (edge vs es fs h k l).1.1.1
      column k l (suc (suc (suc (suc j)))) m = absurd (omega arith)

  -- those of faces
  pub faces-unsigned : Unsigned fs
  faces-unsigned = record { at = λ i l. passed (rows es) (get_or fs i (pos 0)) (face vs es fs h i l) }

pub ruleset taken = (edges-unsigned, faces-unsigned)
