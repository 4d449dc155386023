-- 02, CR 2 and CR 11, of the batch's answers: what stands in the answer slice for an entry of any kind is below 2,000,000, or 2,000,000 plus 12, 13, 14, 16 or 17.
-- Assumes nothing.
use Rattle.std.specs.Prelude.{◌≡◌, refl, ◌⊎◌, Bool, true, false, cond, List, ℕ, zero, suc, ◌+◌, ◌*◌, ◌/◌, ◌<◌, ℤ, length, get_or, Result, Ok}
use Rattle.std.proofs.Common.{sym, subst, ap, ◌∙◌, inl, inr, arith}
use Rattle.std.proofs.Math.ListN.{get_or-append}
use Rattle.whole.specs.Among.{among}
use Rattle.whole.specs.Bools.{never}
use Rattle.refusal.specs.declared.Refusal.{Refusal}
use Rattle.reading.specs.Reading.{chart_refusal_of}
use Rattle.accepted.proofs.Bytes.{bytes-accepted}
use Rattle.book.specs.declared.Book.{Book}
use Rattle.book.specs.Returned.{Returned, returned_of}
use Rattle.book.specs.Books.{total_wear, count_of, bad_book}
use Rattle.entries.specs.Ruling.{Ruling}
use Rattle.entries.specs.Ruling.Ruling.{Bend, Splice, Refused}
use Rattle.entries.specs.Entry.{entry_width, entry_at, entries_from, entries_of}
use Rattle.entries.specs.Ruling.{refused_entry, answer_of}
use Rattle.accounts.specs.Batch.{book_change, book_verdict, answers_from, overlay, bad_slices, batch_refusal, Outcome, outcome, by_refusal, batch_of}
use Rattle.accounts.proofs.Demand3.{entries-count, answers-length}
use Rattle.estivolh.specs.Account.{queries}
use Rattle.refusals.specs.Entries.{of_entry, OnlyBy}
use Rattle.refusals.proofs.Refusals.{entry-refused}

-- accepted, or refused with one of the five
abbrev pub AcceptedOrOneOf : ℕ → Type 0
AcceptedOrOneOf n = (n < refused_entry) ⊎ ((k : ℕ) × (among of_entry k ≡ true) × (n ≡ refused_entry + k))

by-ruling : (r : Ruling) → OnlyBy of_entry r → AcceptedOrOneOf (answer_of r)
by-ruling (Bend i n) h = inl (omega arith)
by-ruling (Splice i) h = inl (omega arith)
by-ruling (Refused k) h = inr (k, h, refl)

-- ---- the answer to an entry is that of a verdict on it
module _ (chart : List ℕ) (es : List ℤ) (P : ℕ → Type 0) where
  answer_at : (n at k : ℕ) (b : Book) → k < n → ((d : Book) → P (answer_of (book_verdict queries chart d (entry_at es (at + k * entry_width))))) → P (get_or (answers_from queries chart b (entries_from es at n)) k 0)
  answer_at zero at k b l h = absurd (omega arith)
  answer_at (suc n) at zero b l h =
      let z : at + 0 * entry_width ≡ at = omega arith in
      subst (λ (j : ℕ). P (answer_of (book_verdict queries chart b (entry_at es j)))) z (h b)
  answer_at (suc n) at (suc k) b l h =
      let z : at + suc k * entry_width ≡ at + entry_width + k * entry_width = omega arith in
      answer_at n (at + entry_width) k (book_change b (book_verdict queries chart b (entry_at es at))) (omega arith)
      (λ d. subst (λ (j : ℕ). P (answer_of (book_verdict queries chart d (entry_at es j)))) z (h d))

-- ---- a batch that was not refused
pick : (x y : Bool) (n : ℕ) → cond x 1 (cond y 2 n) ≡ 0 → n ≡ 0
pick true y n e = never (sym e)
pick false true n e = let z : ⊥ = omega arith in absurd z
pick false false n e = e

worked : (n : ℕ) (b : Book) (chart : List ℕ) (es : List ℤ) (lent left : List ℕ) (r : Returned) → outcome r left ≡ by_refusal queries n b chart es lent → r.refusal ≡ 0 → (n ≡ 0) × (left ≡ overlay (answers_from queries chart b (entries_of es)) lent)
worked zero b chart es lent left r m z = (refl, ap (λ (o : Outcome). o.answers) m)
worked (suc n) b chart es lent left r m z = let e : suc n ≡ 0 = sym (ap (λ (o : Outcome). o.refusal) m) ∙ z in let o : ⊥ = omega arith in absurd o

-- of every batch that was made: `made` is the contract of `estivolh::batch`, word for word. Entry k stands at 5 k
pub answers-only : (b : Book) (chart : List ℕ) (es : List ℤ) (lent : List ℕ) (r : Result Book Refusal) (left : List ℕ) (made : outcome (returned_of r b) left ≡ batch_of queries b chart es lent) (after : Book) → r ≡ Ok after
    → (k : ℕ) → k < length es / entry_width → AcceptedOrOneOf (get_or left k 0)
answers-only b chart es lent r left made after done k l =
    let z : (returned_of r b).refusal ≡ 0 = ap (λ (a : Result Book Refusal). (returned_of a b).refusal) done in
    let w = worked (batch_refusal b chart (length es) (length lent)) b chart es lent left (returned_of r b) made z in
    let a = bytes-accepted chart (pick (bad_book b) (bad_slices (length es) (length lent)) (chart_refusal_of chart) w.0) in
    let n = length es / entry_width in
    let given = answers_from queries chart b (entries_of es) in
    let m : k < length given = subst (λ (j : ℕ). k < j) (sym (answers-length queries chart (entries_of es) b ∙ entries-count es n 0)) l in
    subst AcceptedOrOneOf (sym (ap (λ (s : List ℕ). get_or s k 0) w.1 ∙ get_or-append given _ 0 k m))
    (answer_at chart es AcceptedOrOneOf n 0 k b l
    (λ d. by-ruling (book_verdict queries chart d (entry_at es (0 + k * entry_width))) (entry-refused chart a.vs a.es a.fs a.tables d.sections (entry_at es (0 + k * entry_width)) (total_wear d) (count_of d))))
