-- The book agrees with the tally, the tally's numbers with the sums over its history, and one entry more keeps both so. Assumes nothing.
use Rattle.std.specs.Prelude.{◌≡◌, refl, List, [], ◌∷◌, ◌++◌, map, Bool, true, false, cond, ℕ, ◌+◌, ◌<◌, ltb, eqb, length}
use Rattle.std.proofs.Common.{sym, ◌∙◌, ap, subst, append-nil, arith, ltb-false, eq-eqb, ne_eqb}
use Rattle.std.proofs.Math.Decide.{ℕ_discrete}
use Rattle.std.proofs.Math.Seq.{append_snoc}
use Rattle.std.proofs.lemmas.Bool.{eqb-false}
use Rattle.whole.specs.Bools.{or-false}
use Rattle.book.specs.declared.Book.{Book}
use Rattle.book.specs.Books.{account_max, wear_of, count_of, total_wear, charge_book, splice_book, ValidBook}
use Rattle.book.specs.Laws.{Room, charge-wear, charge-count, charge-other-wear, charge-other-count, charge-total, charge-valid, splice-wear, splice-count, splice-other-wear, splice-other-count, splice-total, splice-valid}
use Rattle.entries.specs.declared.Entry.{Entry}
use Rattle.entries.specs.Ruling.{Ruling}
use Rattle.entries.specs.Ruling.Ruling.{Bend, Splice, Refused}
use Rattle.entries.specs.Ruling.{meets17, with17, answer_of}
use Rattle.accounts.specs.Rulings.{Queries, Known, entry_ruling, known}
use Rattle.accounts.specs.Batch.{book_change, book_verdict, book_after, answers_from}
use Rattle.accounts.specs.Tally.{charges, wear_sum, bend_count, Tally, put, noted, verdict}
use Rattle.accounts.specs.History.{sum-append, wear-bend, count-bend, live-bend-other, live-splice-same, live-splice-other, live-refused}
use Rattle.accounts.specs.Agree.{Agree, Ran}

-- ---- two columns that agree at s and at every other section
pointwise : (f g : ℕ → ℕ) (s : ℕ) → f s ≡ g s → ((i : ℕ) → (i ≡ s → ⊥) → f i ≡ g i) → (i : ℕ) → f i ≡ g i
pointwise f g s e d i =
    elim (ℕ_discrete i s) [ yes q ↦ subst (λ (k : ℕ). f k ≡ g k) (sym q) e | no q ↦ d i q ]

put_same : (s x : ℕ) (f : ℕ → ℕ) → put s x f s ≡ x
put_same s x f = rw (eq-eqb s s refl)

put_other : (s x : ℕ) (f : ℕ → ℕ) (i : ℕ) → (i ≡ s → ⊥) → put s x f i ≡ f i
put_other s x f i d = rw (ne_eqb i s d)

-- ---- what 17 leaves
pub room : {b : Book} → ValidBook b → (j n : ℕ) → meets17 (total_wear b) (count_of b j) n ≡ false → Room b j n
room {b} v j n e =
    let q = or-false (ltb account_max (total_wear b + n)) (eqb (count_of b j) account_max) e in
    let d = eqb-false (count_of b j) account_max q.1 in
    let c = v.counts-within j in
    record { total-room = ltb-false account_max (total_wear b + n) q.0; count_room = omega arith }

-- a valid book stays one, whatever the ruling
ruled-valid : {b : Book} → ValidBook b → (r : Ruling) → Known b.sections r → ValidBook (book_change b (with17 (total_wear b) (count_of b) r))
ruled-valid {b} v (Bend j n) k = go (meets17 (total_wear b) (count_of b j) n) refl
  where
    go : (m : Bool) → meets17 (total_wear b) (count_of b j) n ≡ m → ValidBook (book_change b (cond m (Refused 17) (Bend j n)))
    go true e = v
    go false e = charge-valid v j k.0 n (room v j n e)
ruled-valid v (Splice j) k = splice-valid v j k
ruled-valid v (Refused i) k = v

-- and after a list of entries
pub entries-valid : (Q : Queries) (chart : List ℕ) (es : List Entry) (b : Book) → ValidBook b → ValidBook (book_after Q chart b es)
entries-valid Q chart [] b v = v
entries-valid Q chart (e ∷ es) b v =
    entries-valid Q chart es (book_change b (book_verdict Q chart b e)) (ruled-valid v (entry_ruling Q b.sections chart e) (known Q b.sections chart e))

-- ---- one verdict more
module _ {s : ℕ} {b : Book} {t : Tally} (a : Agree s b t) where
  refused-agrees : (k : ℕ) → Agree s b (noted t (Refused k))
  refused-agrees k = record {
    valid = a.valid;
    sections = a.sections;
    wears = a.wears;
    counts = a.counts;
    retired = a.retired;
    sums = λ i. a.sums i ∙ ap charges (sym (live-refused i k t.history));
    numbers = λ i. a.numbers i ∙ ap length (sym (live-refused i k t.history));
    total = a.total ∙ omega (arith, sum-append t.history (Refused k ∷ []));
  }

  module _ (j : ℕ) (known : j < s) where
    in-book : j < b.sections
    in-book = omega (arith, a.sections)

    bend-agrees : (n : ℕ) → Room b j n → Agree s (charge_book b j n) (noted t (Bend j n))
    bend-agrees n r =
        let v = a.valid in
        let h = t.history in
        record {
          valid = charge-valid v j in-book n r;
          sections = a.sections;
          wears = pointwise (wear_of (charge_book b j n)) (put j (t.wear j + n) t.wear) j
              (charge-wear v j in-book n ∙ ap (λ (k : ℕ). k + n) (a.wears j) ∙ sym (put_same j (t.wear j + n) t.wear))
              (λ i d. charge-other-wear v j in-book n i d ∙ a.wears i ∙ sym (put_other j (t.wear j + n) t.wear i d));
          counts = pointwise (count_of (charge_book b j n)) (put j (t.count j + 1) t.count) j
              (charge-count v j in-book n ∙ ap (λ (k : ℕ). k + 1) (a.counts j) ∙ sym (put_same j (t.count j + 1) t.count))
              (λ i d. charge-other-count v j in-book n i d ∙ a.counts i ∙ sym (put_other j (t.count j + 1) t.count i d));
          retired = a.retired;
          sums = pointwise (put j (t.wear j + n) t.wear) (λ i. wear_sum i (h ++ (Bend j n ∷ []))) j
              (put_same j (t.wear j + n) t.wear ∙ ap (λ (k : ℕ). k + n) (a.sums j) ∙ sym (wear-bend j h n))
              (λ i d. put_other j (t.wear j + n) t.wear i d ∙ a.sums i ∙ ap charges (sym (live-bend-other i j h n d)));
          numbers = pointwise (put j (t.count j + 1) t.count) (λ i. bend_count i (h ++ (Bend j n ∷ []))) j
              (put_same j (t.count j + 1) t.count ∙ ap (λ (k : ℕ). k + 1) (a.numbers j) ∙ sym (count-bend j h n))
              (λ i d. put_other j (t.count j + 1) t.count i d ∙ a.numbers i ∙ ap length (sym (live-bend-other i j h n d)));
          total = charge-total v j in-book n ∙ ap (λ (k : ℕ). k + n) a.total ∙ omega (arith, sum-append h (Bend j n ∷ []));
        }

    splice-agrees : Agree s (splice_book b j) (noted t (Splice j))
    splice-agrees =
        let v = a.valid in
        let h = t.history in
        record {
          valid = splice-valid v j in-book;
          sections = a.sections;
          wears = pointwise (wear_of (splice_book b j)) (put j 0 t.wear) j
              (splice-wear v j in-book ∙ sym (put_same j 0 t.wear))
              (λ i d. splice-other-wear v j in-book i d ∙ a.wears i ∙ sym (put_other j 0 t.wear i d));
          counts = pointwise (count_of (splice_book b j)) (put j 0 t.count) j
              (splice-count v j in-book ∙ sym (put_same j 0 t.count))
              (λ i d. splice-other-count v j in-book i d ∙ a.counts i ∙ sym (put_other j 0 t.count i d));
          retired = ap (λ (k : ℕ). k + wear_of b j) a.retired ∙ ap (λ (k : ℕ). t.retired + k) (a.wears j);
          sums = pointwise (put j 0 t.wear) (λ i. wear_sum i (h ++ (Splice j ∷ []))) j
              (put_same j 0 t.wear ∙ ap charges (sym (live-splice-same j h)))
              (λ i d. put_other j 0 t.wear i d ∙ a.sums i ∙ ap charges (sym (live-splice-other i j h d)));
          numbers = pointwise (put j 0 t.count) (λ i. bend_count i (h ++ (Splice j ∷ []))) j
              (put_same j 0 t.count ∙ ap length (sym (live-splice-same j h)))
              (λ i d. put_other j 0 t.count i d ∙ a.numbers i ∙ ap length (sym (live-splice-other i j h d)));
          total = splice-total v j in-book ∙ a.total ∙ omega (arith, sum-append h (Splice j ∷ []));
        }

  -- a ruling that 12 to 16 have left, with 17 by the book
  ruled : (r : Ruling) → Known s r → Agree s (book_change b (with17 (total_wear b) (count_of b) r)) (noted t (with17 (total_wear b) (count_of b) r))
  ruled (Bend j n) k = go (meets17 (total_wear b) (count_of b j) n) refl
    where
      go : (m : Bool) → meets17 (total_wear b) (count_of b j) n ≡ m
          → Agree s (book_change b (cond m (Refused 17) (Bend j n))) (noted t (cond m (Refused 17) (Bend j n)))
      go true e = refused-agrees 17
      go false e = bend-agrees j k.0 n (room a.valid j n e)
  ruled (Splice j) k = splice-agrees j k
  ruled (Refused i) k = refused-agrees i

  -- 17 by the book is 17 by the history
  same-17 : (r : Ruling) → with17 (total_wear b) (count_of b) r ≡ with17 (charges t.history) (λ i. bend_count i t.history) r
  same-17 (Bend j n) =
      ap (λ (k : ℕ). cond (meets17 k (count_of b j) n) (Refused 17) (Bend j n)) a.total
      ∙ ap (λ (k : ℕ). cond (meets17 (charges t.history) k n) (Refused 17) (Bend j n)) (a.counts j ∙ a.numbers j)
  same-17 (Splice j) = refl
  same-17 (Refused k) = refl

  -- the batch's verdict on an entry is the tally's
  pub same-verdict : (Q : Queries) (chart : List ℕ) (e : Entry) → book_verdict Q chart b e ≡ verdict Q s chart t.history e
  same-verdict Q chart e =
      ap (λ (k : ℕ). with17 (total_wear b) (count_of b) (entry_ruling Q k chart e)) a.sections ∙ same-17 (entry_ruling Q s chart e)

  -- and both change alike
  pub next-agrees : (Q : Queries) (chart : List ℕ) (e : Entry)
      → Agree s (book_change b (book_verdict Q chart b e)) (noted t (verdict Q s chart t.history e))
  next-agrees Q chart e =
      let r = entry_ruling Q s chart e in
      let x : book_verdict Q chart b e ≡ with17 (total_wear b) (count_of b) r =
      ap (λ (k : ℕ). with17 (total_wear b) (count_of b) (entry_ruling Q k chart e)) a.sections
      in
      subst (λ (w : Ruling). Agree s (book_change b w) (noted t (verdict Q s chart t.history e))) (sym x)
      (subst (λ (w : Ruling). Agree s (book_change b (with17 (total_wear b) (count_of b) r)) (noted t w)) (same-17 r) (ruled r (known Q s chart e)))

-- ---- a list of entries
-- the history grows by one verdict an entry
noted-history : (t : Tally) (v : Ruling) → (noted t v).history ≡ t.history ++ (v ∷ [])
noted-history t (Bend j n) = refl
noted-history t (Splice j) = refl
noted-history t (Refused k) = refl

answers-snoc : (h : List Ruling) (v : Ruling) → map answer_of (h ++ (v ∷ [])) ≡ map answer_of h ++ (answer_of v ∷ [])
answers-snoc [] v = refl
answers-snoc (r ∷ h) v = ap (λ (l : List ℕ). answer_of r ∷ l) (answers-snoc h v)

pub ran : (Q : Queries) (s : ℕ) (chart : List ℕ) (es : List Entry) (b : Book) (t : Tally) → Agree s b t → Ran Q s chart b t es
ran Q s chart [] b t a = record { agrees = a; answers = append-nil (map answer_of t.history) }
ran Q s chart (e ∷ es) b t a =
    let w = book_verdict Q chart b e in
    let v = verdict Q s chart t.history e in
    let r : Ran Q s chart (book_change b w) (noted t v) es = ran Q s chart es (book_change b w) (noted t v) (next-agrees a Q chart e) in
    let rest = answers_from Q chart (book_change b w) es in
    let past = map answer_of t.history in
    record {
      agrees = r.agrees;
      answers =
          ap (λ (x : Ruling). past ++ (answer_of x ∷ rest)) (same-verdict a Q chart e)
          ∙ sym (append_snoc past (answer_of v) rest)
          ∙ ap (λ (l : List ℕ). l ++ rest) (sym (ap (map answer_of) (noted-history t v) ∙ answers-snoc t.history v))
          ∙ r.answers;
    }
