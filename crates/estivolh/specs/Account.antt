-- The public call `batch`: 01, "Charge, entry, book", behind the refusals of a call.
use Rattle.std.specs.Prelude.{◌≡◌, refl, List, [], ◌∷◌, Bool, true, false, ℕ, zero, suc, length}
use Rattle.std.proofs.Common.{sym, ◌∙◌}
use Rattle.std.proofs.Math.Path.{ap}
use Rattle.std.proofs.Math.Bool.{cond}
use Rattle.std.proofs.Math.IntN.{ℤ}
use Rattle.geometry.specs.declared.Place.{Place}
use Rattle.geometry.specs.Plane.{off_grid}
use Rattle.chart.specs.Chart.{chart_of}
use Rattle.chart.specs.Tables.{unsigned}
use Rattle.checks.specs.Checks.{Loaded}
use Rattle.checks.specs.Checks.Loaded.{loaded, refused}
use Rattle.reading.specs.Reading.{refusal_of, chart_in, chart_refusal_of}
use Rattle.values.specs.Value.{Answer, method_of}
use Rattle.book.specs.declared.Book.{Book}
use Rattle.book.specs.Books.{total_wear, count_of, bad_book}
use Rattle.entries.specs.declared.Entry.{Entry}
use Rattle.entries.specs.Ruling.{Ruling}
use Rattle.entries.specs.Ruling.{Ruling as R}
use Rattle.entries.specs.Entry.{entries_of, is_splice, unknown, place_in}
use Rattle.entries.specs.Ruling.{with17, answer_of}
use Rattle.accounts.specs.Rulings.{Queries, bend_ruling, entry_ruling}
use Rattle.accounts.specs.Batch.{book_verdict, book_change, book_after, answers_from, overlay, bad_slices, Outcome, by_refusal, batch_of}
use Rattle.batch.specs.Tables.{on_tables}
use Rattle.query.specs.Value.{value_in, interpolate_of}

-- a bend's value is the one that `interpolate` answers
abbrev pub queries : Queries
queries bytes method place = interpolate_of bytes method place.x place.y

-- what a batch leaves that neither 1 nor 2 meets, by what the chart's bytes hold
abbrev pub batch_in : Loaded → Book → List ℤ → List ℕ → Outcome
batch_in (loaded vs es fs) b entries lent =
    record {
      refusal = 0;
      book = book_after (on_tables (chart_of vs es fs)) [] b (entries_of entries);
      answers = overlay (answers_from (on_tables (chart_of vs es fs)) [] b (entries_of entries)) lent;
    }
batch_in (refused n) b entries lent = record { refusal = n; book = b; answers = lent }

-- ---- laws: queries that say the same of a chart
module _ (P Q : Queries) (x y : List ℕ) (same : P x ≡ Q y) where
  same-ruling : (s : ℕ) (e : Entry) → entry_ruling P s x e ≡ entry_ruling Q s y e
  unfolding entry_ruling
  same-ruling s e =
      ap (λ (g : ℤ → Place → Answer). cond (unknown s e) (R.Refused 12)
      (cond (off_grid (place_in e)) (R.Refused 13)
      (cond (is_splice e.kind) (R.Splice (unsigned e.section)) (bend_ruling (unsigned e.section) (g e.method (place_in e)))))) same

  same-verdict : (b : Book) (e : Entry) → book_verdict P x b e ≡ book_verdict Q y b e
  same-verdict b e = ap (with17 (total_wear b) (count_of b)) (same-ruling b.sections e)

  same-book : (es : List Entry) (b : Book) → book_after P x b es ≡ book_after Q y b es
  same-book [] b = refl
  same-book (e ∷ es) b =
      same-book es (book_change b (book_verdict P x b e)) ∙ ap (λ (v : Ruling). book_after Q y (book_change b v) es) (same-verdict b e)

  same-answers : (es : List Entry) (b : Book) → answers_from P x b es ≡ answers_from Q y b es
  same-answers [] b = refl
  same-answers (e ∷ es) b =
      let w = book_verdict P x b e in
      ap (λ (l : List ℕ). answer_of w ∷ l) (same-answers es (book_change b w))
      ∙ ap (λ (v : Ruling). answer_of v ∷ answers_from Q y (book_change b v) es) (same-verdict b e)

-- ---- laws: the batch at each test
module _ (b : Book) (bytes : List ℕ) (es : List ℤ) (lent : List ℕ) where
  pub batch-bad-book : bad_book b ≡ true → record { refusal = 1; book = b; answers = lent } ≡ batch_of queries b bytes es lent
  batch-bad-book e =
      sym (ap (λ (t : Bool). by_refusal queries (cond t 1 (cond (bad_slices (length es) (length lent)) 2 (chart_refusal_of bytes))) b bytes es lent) e)

  pub batch-bad-slices : bad_book b ≡ false → bad_slices (length es) (length lent) ≡ true
      → record { refusal = 2; book = b; answers = lent } ≡ batch_of queries b bytes es lent
  batch-bad-slices e f =
      sym (ap (λ (t : Bool). by_refusal queries (cond t 1 (cond (bad_slices (length es) (length lent)) 2 (chart_refusal_of bytes))) b bytes es lent) e
      ∙ ap (λ (t : Bool). by_refusal queries (cond t 2 (chart_refusal_of bytes)) b bytes es lent) f)

  loaded-batch : (l : Loaded) → chart_in bytes ≡ l → ((n : ℕ) → l ≡ refused n → n ≡ 0 → ⊥) → by_refusal queries (refusal_of l) b bytes es lent ≡ batch_in l b es lent
  loaded-batch (loaded vs hs fs) q z =
      let c = chart_of vs hs fs in
      let h : queries bytes ≡ on_tables c [] = ap (λ (l : Loaded). λ (m : ℤ) (p : Place). value_in l (method_of m) p) q in
      let g : Book → List ℕ → Outcome = λ k a. record { refusal = 0; book = k; answers = overlay a lent } in
      ap (λ (k : Book). g k (answers_from queries bytes b (entries_of es))) (same-book queries (on_tables c) bytes [] h (entries_of es) b)
      ∙ ap (g (book_after (on_tables c) [] b (entries_of es))) (same-answers queries (on_tables c) bytes [] h (entries_of es) b)
  loaded-batch (refused zero) q z = absurd (z 0 refl refl)
  loaded-batch (refused (suc n)) q z = refl

  pub batch-by-chart : bad_book b ≡ false → bad_slices (length es) (length lent) ≡ false → (l : Loaded) → chart_in bytes ≡ l
      → ((n : ℕ) → l ≡ refused n → n ≡ 0 → ⊥) → batch_in l b es lent ≡ batch_of queries b bytes es lent
  batch-by-chart e f l q z =
      sym (ap (λ (t : Bool). by_refusal queries (cond t 1 (cond (bad_slices (length es) (length lent)) 2 (chart_refusal_of bytes))) b bytes es lent) e
      ∙ (ap (λ (t : Bool). by_refusal queries (cond t 2 (chart_refusal_of bytes)) b bytes es lent) f
      ∙ (ap (λ (k : Loaded). by_refusal queries (refusal_of k) b bytes es lent) q ∙ loaded-batch l q z)))
