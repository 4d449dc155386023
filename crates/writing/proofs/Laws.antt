-- What callers need of the definitions of Writing. Assumes nothing.
use Rattle.std.specs.Prelude.{Err, true, false, cond, List, ◌++◌, ◌≡◌, ℕ, zero, suc, ◌%◌, ◌≤◌, ◌<◌, ltb, ℤ, pos, length, drop}
use Rattle.std.proofs.Math.Path.{refl}
use Rattle.std.proofs.Common.{arith, sym, ap, ◌∙◌}
use borrow.Author.Tests.{ne_eqb, lt-ltb, ltb-false, le-ltb, eq-eqb}
use Rattle.whole.specs.Bools.{never}
use Rattle.refusal.specs.declared.Refusal.{Refusal}
use Rattle.refusal.specs.Number.{number, number-positive}
use Rattle.chart.specs.Tables.{rows}
use Rattle.ranges.specs.Ranges.{counts_refused}
use Rattle.ranges.specs.Passed.{Counted, counted}
use Rattle.checks.specs.Checks.{tables_refusal}
use Rattle.reading.specs.Text.{chart_text}
use Rattle.writing.specs.Writing.{saved_left, uneven, numbers_refusal, room_refusal, write_refusal, saved_by, write_of}
use Rattle.writing.specs.Writing.Written.{wrote, turned_down}
use Rattle.writing.specs.Laws.{past, Done}

-- ---- the refusals of the tables, one after the other
module _ (vs es fs : List ℤ) where
  -- 2, by the vertices and by the half-edges
  pub vertices-two : (length vs % 4 ≡ 0 → ⊥) → 2 ≡ numbers_refusal vs es fs
  unfolding numbers_refusal
  vertices-two n = rw (ne_eqb (length vs % 4) 0 n) refl

  pub edges-two : length vs % 4 ≡ 0 → (length es % 4 ≡ 0 → ⊥) → 2 ≡ numbers_refusal vs es fs
  unfolding numbers_refusal
  edges-two e n = rw (eq-eqb (length vs % 4) 0 e, ne_eqb (length es % 4) 0 n) refl

  -- 4
  pub counts-four : uneven vs es ≡ false → counts_refused (pos (rows vs)) (pos (rows es)) (pos (length fs)) ≡ true → 4 ≡ numbers_refusal vs es fs
  unfolding numbers_refusal
  counts-four e h = rw (e, h) refl

  -- 6 to 11
  pub later-refusal : uneven vs es ≡ false → counts_refused (pos (rows vs)) (pos (rows es)) (pos (length fs)) ≡ false → tables_refusal vs es fs ≡ numbers_refusal vs es fs
  unfolding numbers_refusal
  later-refusal e h = rw (e, h) refl

module _ (vs es fs : List ℤ) (h : numbers_refusal vs es fs ≡ 0) where
  -- 2 does not meet them
  pub uneven-none : uneven vs es ≡ false
  unfolding numbers_refusal
  uneven-none = (past (uneven vs es) 1 _ h).0

  -- 4 and the rest
  later : cond (counts_refused (pos (rows vs)) (pos (rows es)) (pos (length fs))) 4 (tables_refusal vs es fs) ≡ 0
  unfolding numbers_refusal
  later = (past (uneven vs es) 1 _ h).1

  -- 4 does not
  pub counts-none : counts_refused (pos (rows vs)) (pos (rows es)) (pos (length fs)) ≡ false
  counts-none = (past (counts_refused (pos (rows vs)) (pos (rows es)) (pos (length fs))) 3 (tables_refusal vs es fs) later).0

  -- so their counts are in range
  pub counts-in : Counted (rows vs) (rows es) (length fs)
  counts-in = counted (rows vs) (rows es) (length fs) counts-none

  -- 6 to 11 do not
  pub tables-none : tables_refusal vs es fs ≡ 0
  tables-none = (past (counts_refused (pos (rows vs)) (pos (rows es)) (pos (length fs))) 3 (tables_refusal vs es fs) later).1

-- ---- the call
-- a refusal of the tables comes before the room
pub refused-by : (r : ℕ) (text lent : List ℕ) → (r ≡ 0 → ⊥) → saved_by (room_refusal r text lent) text lent ≡ record { answer = turned_down r; buffer = lent }
refused-by zero text lent n = absurd (n refl)
refused-by (suc r) text lent n = refl

-- tables that something meets
pub written-refused : (vs es fs : List ℤ) (lent : List ℕ) → (numbers_refusal vs es fs ≡ 0 → ⊥) → write_of vs es fs lent ≡ record { answer = turned_down (numbers_refusal vs es fs); buffer = lent }
unfolding write_of write_refusal
written-refused vs es fs lent n = refused-by (numbers_refusal vs es fs) (chart_text vs es fs) lent n

pub refused_first : (vs es fs : List ℤ) (lent : List ℕ) (r : Refusal) → number r ≡ numbers_refusal vs es fs → write_of vs es fs lent ≡ saved_left (Err r) lent
refused_first vs es fs lent r e = let p = number-positive r in written-refused vs es fs lent (λ o. omega (arith, p, e, o)) ∙ ap (λ (n : ℕ). record { answer = turned_down n; buffer = lent }) (sym e)

-- of tables that nothing meets only 18 is left
pub written-by : (vs es fs : List ℤ) (lent : List ℕ) → numbers_refusal vs es fs ≡ 0 → write_of vs es fs lent ≡ saved_by (room_refusal 0 (chart_text vs es fs) lent) (chart_text vs es fs) lent
unfolding write_of write_refusal
written-by vs es fs lent h = rw h refl

-- 18 meets no call with room
room_by : (r : ℕ) (text lent : List ℕ) → room_refusal r text lent ≡ 0 → (r ≡ 0) × (length text ≤ length lent)
room_by zero text lent e = (refl, ltb-false (length lent) (length text) (past (ltb (length lent) (length text)) 17 0 e).0)
room_by (suc r) text lent e = let o : ⊥ = omega arith in absurd o

saved-by : (r : ℕ) (text lent : List ℕ) (n : ℕ) → (saved_by r text lent).answer ≡ wrote n → (r ≡ 0) × ((length text ≡ n) × ((saved_by r text lent).buffer ≡ text ++ drop (length text) lent))
saved-by zero text lent n e = (refl, (cc, refl))
saved-by (suc r) text lent n e = never (cc)

-- a call that answered with a length
pub wrote-done : (vs es fs : List ℤ) (lent : List ℕ) (n : ℕ) → (write_of vs es fs lent).answer ≡ wrote n → Done vs es fs lent n
unfolding write_of write_refusal
wrote-done vs es fs lent n e =
    let s = saved-by (write_refusal vs es fs lent) (chart_text vs es fs) lent n e in
    let r = room_by (numbers_refusal vs es fs) (chart_text vs es fs) lent s.0 in
    record { none = r.0; room = r.1; long = s.1.0; left = s.1.1 }

-- tables that nothing meets, and room for them
pub written-room : (vs es fs : List ℤ) (lent : List ℕ) → numbers_refusal vs es fs ≡ 0 → length (chart_text vs es fs) ≤ length lent → write_of vs es fs lent ≡ record { answer = wrote (length (chart_text vs es fs)); buffer = chart_text vs es fs ++ drop (length (chart_text vs es fs)) lent }
unfolding write_of write_refusal
written-room vs es fs lent h l = rw (h, le-ltb (length lent) (length (chart_text vs es fs)) l)

-- no room for them
pub written-short : (vs es fs : List ℤ) (lent : List ℕ) → numbers_refusal vs es fs ≡ 0 → length lent < length (chart_text vs es fs) → write_of vs es fs lent ≡ record { answer = turned_down 18; buffer = lent }
unfolding write_of write_refusal
written-short vs es fs lent h l = rw (h, lt-ltb (length lent) (length (chart_text vs es fs)) l)

-- a refused call changes no byte
pub refused-nothing : (vs es fs : List ℤ) (lent : List ℕ) (n : ℕ) → (write_of vs es fs lent).answer ≡ turned_down n → (write_of vs es fs lent).buffer ≡ lent
unfolding write_of
refused-nothing vs es fs lent n e = by-refusal (write_refusal vs es fs lent) (chart_text vs es fs) e
  where
    by-refusal : (r : ℕ) (text : List ℕ) → (saved_by r text lent).answer ≡ turned_down n → (saved_by r text lent).buffer ≡ lent
    by-refusal zero text e = never (cc)
    by-refusal (suc r) text e = refl
