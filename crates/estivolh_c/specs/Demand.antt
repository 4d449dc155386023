-- Demand 3 of the exported calls: the book that `estivolh_fresh` and `estivolh_batch` keep in a lent slice is the book of the public calls (`batch-kept`), so
-- that the demand holds of calls that were made on a slice (`demand-kept`). Assumes nothing.
use Rattle.std.specs.Prelude.{◌≡◌, refl, Bool, false, cond, ltb, List, [], ◌∷◌, ℕ, zero, suc, ◌≤◌, ℤ, length, drop}
use Rattle.std.proofs.Common.{sym, ap, ◌∙◌, subst, arith, length-set, length-drop, length-append, length-take-le, le-ltb, ltb-false}
use Rattle.book.specs.declared.Book.{Book}
use Rattle.book.specs.Returned.{Returned}
use Rattle.book.specs.Books.{section_max, bad_sections, zero_book, fresh_book}
use Rattle.entries.specs.declared.Entry.{Entry}
use Rattle.entries.specs.Ruling.{Ruling}
use Rattle.entries.specs.Ruling.Ruling.{Bend, Splice, Refused}
use Rattle.entries.specs.Entry.{entries_of}
use Rattle.accounts.specs.Batch.{book_change, book_verdict, book_after, batch_refusal, Outcome, by_refusal, batch_of}
use Rattle.accounts.specs.Tally.{tally}
use Rattle.accounts.specs.Demand.{Call, fresh, joined, OneChart, MadeCall, Made, calls_of, last_book, last_answers, Demand3Made}
use Rattle.accounts.proofs.Demand3.{demand3-made}
use Rattle.estivolh.specs.Account.{queries}
use Rattle.slices.specs.Lent.{kept, Left, left, enough}
use Rattle.slices.specs.Books.{book_numbers, book_at, numbers_of, numbers-long, read_back}
use Rattle.slices.specs.Answers.{returned_left}
use Rattle.estivolh_c.specs.Account.{fresh_called, BatchLeft, batch_left, worked_left, batch_called}

-- ---- the arrays of a book have 16 elements
abbrev Long : Book → Type 0
Long b = (length b.wear ≡ section_max) × (length b.bends ≡ section_max)

read-long : (l : List ℕ) → book_numbers ≤ length l → Long (book_at l)
read-long l h =
    (length-take-le section_max (drop 1 l) (simp length-drop (omega arith)), length-take-le section_max (drop 17 l) (simp length-drop (omega arith)))

change-long : (b : Book) (r : Ruling) → Long b → Long (book_change b r)
change-long b (Bend i n) h = (length-set b.wear i _ ∙ h.0, length-set b.bends i _ ∙ h.1)
change-long b (Splice i) h = (length-set b.wear i 0 ∙ h.0, length-set b.bends i 0 ∙ h.1)
change-long b (Refused k) h = h

after-long : (chart : List ℕ) (es : List Entry) (b : Book) → Long b → Long (book_after queries chart b es)
after-long chart [] b h = h
after-long chart (e ∷ es) b h = after-long chart es (book_change b (book_verdict queries chart b e)) (change-long b (book_verdict queries chart b e) h)

-- ---- a book that was written
module _ (b : Book) (h : Long b) (l : List ℕ) (long : book_numbers ≤ length l) where
  pub over-read : book_at (kept 0 (numbers_of b) l) ≡ b
  over-read = read_back b h.0 h.1 (drop (length (numbers_of b)) l)

  over-long : length (kept 0 (numbers_of b) l) ≡ length l
  over-long =
      let n = numbers-long b h.0 h.1 in
      length-append (numbers_of b) (drop (length (numbers_of b)) l) ∙ omega (arith, n, length-drop (length (numbers_of b)) l)

-- what a batch leaves in the book's slice is the book that it hands back
module _ (l : List ℕ) (long : book_numbers ≤ length l) (chart : List ℕ) (es : List ℤ) (lent : List ℕ) where
  by-refusal : (k : ℕ) → book_at (worked_left (by_refusal queries k (book_at l) chart es lent) l).book ≡ (by_refusal queries k (book_at l) chart es lent).book
  by-refusal zero = over-read (book_after queries chart (book_at l) (entries_of es)) (after-long chart (entries_of es) (book_at l) (read-long l long)) l long
  by-refusal (suc k) = refl

  long-by-refusal : (k : ℕ) → length (worked_left (by_refusal queries k (book_at l) chart es lent) l).book ≡ length l
  long-by-refusal zero = over-long (book_after queries chart (book_at l) (entries_of es)) (after-long chart (entries_of es) (book_at l) (read-long l long)) l long
  long-by-refusal (suc k) = refl

  abbrev outcome_in : Outcome
  outcome_in = batch_of queries (book_at l) chart es lent

  abbrev refusal_in : ℕ
  refusal_in = batch_refusal (book_at l) chart (length es) (length lent)

  called-long : batch_called l chart es lent ≡ worked_left outcome_in l
  called-long = sym (enough _ _ _ _ long)

  pub batch-kept : book_at (batch_called l chart es lent).book ≡ outcome_in.book
  batch-kept = ap (λ (w : BatchLeft). book_at w.book) called-long ∙ by-refusal refusal_in

  pub batch-long : length (batch_called l chart es lent).book ≡ length l
  batch-long = ap (λ (w : BatchLeft). length w.book) called-long ∙ long-by-refusal refusal_in

-- ---- calls that were made on slices: the slice that each was handed, its number, and the book's slice and the answer slice that it left
pub record KeptCall : Type 0 where
  pub call : Call
  pub held : List ℕ
  pub answer : ℕ
  pub book : List ℕ
  pub answers : List ℕ

-- each on a slice that holds the book which the one before it left: the same slice, or any other into which its 34 numbers were copied. The fact of each is
-- the contract of `estivolh_batch`, word for word
abbrev pub MadeOn : Book → List KeptCall → Type 0
MadeOn b [] = Unit {0}
MadeOn b (t ∷ ts) =
    ((book_numbers ≤ length t.held) × (book_at t.held ≡ b))
    × ((batch_left t.answer t.book t.answers ≡ batch_called t.held t.call.chart t.call.entries t.call.lent) × MadeOn (book_at t.book) ts)

-- the same calls with the book that stands in the slice
abbrev pub made_call : KeptCall → MadeCall
made_call t = record { call = t.call; result = record { refusal = t.answer; book = book_at t.book }; left = t.answers }

abbrev pub made_calls : List KeptCall → List MadeCall
made_calls [] = []
made_calls (t ∷ ts) = made_call t ∷ made_calls ts

-- what a call left, with the book that stands in the slice
abbrev read : BatchLeft → Outcome
read w = record { refusal = w.answer; book = book_at w.book; answers = w.answers }

made : (ts : List KeptCall) (b : Book) → MadeOn b ts → Made queries b (made_calls ts)
made [] b m = tt
made (t ∷ ts) b m =
    let c = t.call in
    let l = t.held in
    let long = m.0.0 in
    let o : Outcome = batch_of queries (book_at l) c.chart c.entries c.lent in
    let f = m.1.0 in (
      ap read (f ∙ called-long l long c.chart c.entries c.lent)
          ∙ (ap (λ (k : Book). record { refusal = o.refusal; book = k; answers = o.answers }) (by-refusal l long c.chart c.entries c.lent (batch_refusal (book_at l) c.chart (length c.entries) (length c.lent)))
          ∙ ap (λ (k : Book). batch_of queries k c.chart c.entries c.lent) m.0.1),
      made ts (book_at t.book) m.1.1,
    )

-- the fresh book's slice
module _ (s : ℕ) (h : 1 ≤ s) (k : s ≤ section_max) (lent : List ℕ) (long : book_numbers ≤ length lent) where
  fresh-accepted : fresh_book s ≡ record { refusal = 0; book = zero_book s }
  fresh-accepted =
      let g : bad_sections s ≡ false = rw (le-ltb s 1 h, le-ltb section_max s k) in
      ap (λ (t : Bool). cond t (record { refusal = 1; book = zero_book 0 }) (record { refusal = 0; book = zero_book s })) g

  -- a slice that holds a book is long enough for every shorter bound too
  met : (m : ℕ) → ltb book_numbers m ≡ false → m ≤ length lent
  met m e = omega (arith, long, ltb-false book_numbers m e)

  fresh-written : fresh_called s lent ≡ left 0 (kept 0 (numbers_of (fresh s)) lent)
  fresh-written =
      let e : returned_left (fresh_book s) lent ≡ fresh_called s lent = enough _ _ _ _ (met _ refl) in
      sym e
      ∙ (ap (λ (r : Returned). returned_left r lent) fresh-accepted ∙ sym (ap (λ (r : Returned). left 0 (kept 0 (numbers_of r.book) lent)) fresh-accepted))

  fresh-long : Long (fresh s)
  fresh-long = subst Long (sym (ap (λ (r : Returned). r.book) fresh-accepted)) (refl, refl)

-- demand 3 of a book in a slice that `estivolh_fresh` wrote and every list of calls of `estivolh_batch` after it kept
pub demand-kept : (s : ℕ) → 1 ≤ s → s ≤ section_max → (lent : List ℕ) → book_numbers ≤ length lent
    → (r : ℕ) (l : List ℕ) → left r l ≡ fresh_called s lent → (chart : List ℕ) (ts : List KeptCall) → MadeOn (book_at l) ts → OneChart chart (calls_of (made_calls ts))
    → Demand3Made queries s chart (made_calls ts) (tally queries s chart (joined (calls_of (made_calls ts))))
demand-kept s h k lent long r l f chart ts m o =
    let w = fresh-written s h k lent long in
    let e : l ≡ kept 0 (numbers_of (fresh s)) lent = ap (λ (x : Left ℕ). x.slice) (f ∙ w) in
    let b : book_at l ≡ fresh s = ap book_at e ∙ over-read (fresh s) (fresh-long s h k lent long) lent long in
    demand3-made queries s h k chart (made_calls ts) (made ts (fresh s) (subst (λ (x : Book). MadeOn x ts) b m)) o

-- and of two lists of them alike in section count, chart and joined entries: the same answers, and the same book in the last slice
pub division-kept : (s : ℕ) → 1 ≤ s → s ≤ section_max → (chart : List ℕ) (ts us : List KeptCall) → MadeOn (fresh s) ts → MadeOn (fresh s) us
    → OneChart chart (calls_of (made_calls ts)) → OneChart chart (calls_of (made_calls us)) → joined (calls_of (made_calls us)) ≡ joined (calls_of (made_calls ts))
    → (last_answers (made_calls us) ≡ last_answers (made_calls ts)) × (last_book (fresh s) (made_calls us) ≡ last_book (fresh s) (made_calls ts))
division-kept s h k chart ts us m n o p same =
    (demand3-made queries s h k chart (made_calls ts) (made ts (fresh s) m) o).division-does-not-matter (made_calls us) (made us (fresh s) n) p same
