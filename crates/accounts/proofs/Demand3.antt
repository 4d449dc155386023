-- Demand 3, whole: `demand3`; and of calls that were made, `demand3-made`. Assumes nothing.
use Rattle.std.specs.Prelude.{◌≡◌, refl, ◌↔◌, List, [], ◌∷◌, ◌++◌, map, Bool, true, false, cond, ℕ, zero, suc, ◌+◌, ◌≤◌, ◌<◌, eqb, ℤ, length, get_or, take, drop}
use Rattle.std.proofs.Common.{sym, ◌∙◌, ap, subst, arith, take_at, le-ltb, ne_eqb}
use Rattle.std.proofs.Math.ListN.{get_or-map}
use Rattle.book.specs.declared.Book.{Book}
use Rattle.book.specs.Returned.{Returned}
use Rattle.book.specs.Books.{section_max, bad_sections, ValidBook, zero_book}
use Rattle.book.specs.Laws.{fresh-wear, fresh-count, fresh-valid, valid-book}
use Rattle.entries.specs.declared.Entry.{Entry}
use Rattle.entries.specs.Ruling.{Ruling}
use Rattle.entries.specs.Ruling.Ruling.{Bend, Splice, Refused}
use Rattle.entries.specs.Entry.{entry_width, entries_from, entries_of}
use Rattle.entries.specs.Ruling.{refused_entry, meets17, with17, answer_of}
use Rattle.accounts.specs.Rulings.{Queries, Known, entry_ruling, known}
use Rattle.accounts.specs.Batch.{book_change, book_verdict, book_after, answers_from, batch_refusal, Outcome, outcome, by_refusal}
use Rattle.accounts.specs.Tally.{charges, bend_count, Tally, start, noted, verdict, tally_from, tally, IsAccepted}
use Rattle.accounts.specs.Demand.{Call, does, refusal_in, fresh, after, answers, joined, OneChart, Accounted, Demand3, MadeCall, Made, calls_of, last_book, last_answers, Demand3Made}
use Rattle.accounts.specs.Agree.{Agree, Ran}
use Rattle.accounts.proofs.Agree.{ran, entries-valid}

-- ---- the fresh book
fresh-sections : (s : ℕ) → 1 ≤ s → s ≤ section_max → bad_sections s ≡ false
fresh-sections s h k = rw (le-ltb s 1 h, le-ltb section_max s k)

abbrev picked : ℕ → Bool → Returned
picked s t = cond t (record { refusal = 1; book = zero_book 0 }) (record { refusal = 0; book = zero_book s })

fresh-is : (s : ℕ) → 1 ≤ s → s ≤ section_max → zero_book s ≡ fresh s
fresh-is s h k = sym (ap (λ (t : Bool). (picked s t).book) (fresh-sections s h k))

zero-agrees : (s : ℕ) → 1 ≤ s → s ≤ section_max → Agree s (zero_book s) start
zero-agrees s h k = record {
  valid = fresh-valid s (fresh-sections s h k);
  sections = refl;
  wears = fresh-wear s;
  counts = fresh-count s;
  retired = refl;
  sums = λ i. refl;
  numbers = λ i. refl;
  total = refl;
}

fresh-agrees : (s : ℕ) → 1 ≤ s → s ≤ section_max → Agree s (fresh s) start
fresh-agrees s h k = subst (λ (b : Book). Agree s b start) (fresh-is s h k) (zero-agrees s h k)

-- ---- accepted or refused, by the answer
abbrev AllKnown : ℕ → List Ruling → Type 0
AllKnown s [] = Unit {0}
AllKnown s (r ∷ h) = Known s r × AllKnown s h

known-snoc : (s : ℕ) (h : List Ruling) (v : Ruling) → AllKnown s h → Known s v → AllKnown s (h ++ (v ∷ []))
known-snoc s [] v a k = (k, tt)
known-snoc s (r ∷ h) v a k = (a.0, known-snoc s h v a.1 k)

known_at : (s : ℕ) → 1 ≤ s → (h : List Ruling) → AllKnown s h → (k : ℕ) → Known s (get_or h k (Splice 0))
known_at s p [] a k = p
known_at s p (r ∷ h) a zero = a.0
known_at s p (r ∷ h) a (suc k) = known_at s p h a.1 k

with-known : (s total : ℕ) (count : ℕ → ℕ) (r : Ruling) → Known s r → Known s (with17 total count r)
with-known s total count (Bend i n) k = go (meets17 total (count i) n)
  where
    go : (t : Bool) → Known s (cond t (Refused 17) (Bend i n))
    go true = tt
    go false = k
with-known s total count (Splice i) k = k
with-known s total count (Refused i) k = k

noted-known : (s : ℕ) (t : Tally) (v : Ruling) → AllKnown s t.history → Known s v → AllKnown s (noted t v).history
noted-known s t (Bend i n) a k = known-snoc s t.history (Bend i n) a k
noted-known s t (Splice i) a k = known-snoc s t.history (Splice i) a k
noted-known s t (Refused i) a k = known-snoc s t.history (Refused i) a k

by_answer : (s : ℕ) (r : Ruling) → Known s r → (answer_of r < refused_entry) ↔ IsAccepted r
by_answer s (Bend i n) k = (λ h. tt, λ u. omega (arith, k.1))
by_answer s (Splice i) k = (λ h. tt, λ u. omega arith)
by_answer s (Refused i) k = (λ h. omega arith, λ u. absurd u)

-- ---- so many entries from a place on
pub entries-count : (es : List ℤ) (k at : ℕ) → length (entries_from es at k) ≡ k
entries-count es zero at = refl
entries-count es (suc k) at = ap suc (entries-count es k (at + entry_width))

module _ (Q : Queries) where
  -- ---- a call on a book that 1 does not meet
  by-refused : (r : ℕ) (b : Book) (chart : List ℕ) (es : List ℤ) (lent : List ℕ) → (r ≡ 0 → ⊥)
      → by_refusal Q r b chart es lent ≡ record { refusal = r; book = b; answers = lent }
  by-refused zero b chart es lent h = absurd (h refl)
  by-refused (suc k) b chart es lent h = refl

  by_number : (r : ℕ) (b : Book) (chart : List ℕ) (es : List ℤ) (lent : List ℕ) → (by_refusal Q r b chart es lent).refusal ≡ r
  by_number zero b chart es lent = refl
  by_number (suc k) b chart es lent = refl

  module _ (b : Book) (c : Call) (v : ValidBook b) where
    does-is : does Q b c ≡ by_refusal Q (refusal_in c) b c.chart c.entries c.lent
    does-is = ap (λ (t : Bool). by_refusal Q (cond t 1 (refusal_in c)) b c.chart c.entries c.lent) (valid-book b v)

    does-refusal : (does Q b c).refusal ≡ refusal_in c
    does-refusal = ap (λ (o : Outcome). o.refusal) does-is ∙ by_number (refusal_in c) b c.chart c.entries c.lent

    does-refused : (r : ℕ) → refusal_in c ≡ r → (r ≡ 0 → ⊥) → does Q b c ≡ record { refusal = r; book = b; answers = c.lent }
    does-refused r e h =
        does-is ∙ ap (λ (k : ℕ). by_refusal Q k b c.chart c.entries c.lent) e ∙ by-refused r b c.chart c.entries c.lent h

    does-worked : refusal_in c ≡ 0 → does Q b c ≡ by_refusal Q 0 b c.chart c.entries c.lent
    does-worked e = does-is ∙ ap (λ (k : ℕ). by_refusal Q k b c.chart c.entries c.lent) e

  -- ---- a list of calls is its joined entries
  book-append : (chart : List ℕ) (xs ys : List Entry) (b : Book) → book_after Q chart b (xs ++ ys) ≡ book_after Q chart (book_after Q chart b xs) ys
  book-append chart [] ys b = refl
  book-append chart (e ∷ xs) ys b = book-append chart xs ys (book_change b (book_verdict Q chart b e))

  answers-append : (chart : List ℕ) (xs ys : List Entry) (b : Book)
      → answers_from Q chart b (xs ++ ys) ≡ answers_from Q chart b xs ++ answers_from Q chart (book_after Q chart b xs) ys
  answers-append chart [] ys b = refl
  answers-append chart (e ∷ xs) ys b =
      ap (λ (l : List ℕ). answer_of (book_verdict Q chart b e) ∷ l) (answers-append chart xs ys (book_change b (book_verdict Q chart b e)))

  pub answers-length : (chart : List ℕ) (es : List Entry) (b : Book) → length (answers_from Q chart b es) ≡ length es
  answers-length chart [] b = refl
  answers-length chart (e ∷ es) b = ap suc (answers-length chart es (book_change b (book_verdict Q chart b e)))

  record Flat (chart : List ℕ) (cs : List Call) (b : Book) : Type 0 where
    book : after Q b cs ≡ book_after Q chart b (joined cs)
    given : answers Q b cs ≡ answers_from Q chart b (joined cs)

  module _ (chart : List ℕ) (c : Call) (cs : List Call) (b : Book) (v : ValidBook b) (one : refusal_in c ≡ 0 → c.chart ≡ chart)
      (ih : (d : Book) → ValidBook d → Flat chart cs d) where
    abbrev es : List Entry
    es = entries_of c.entries

    abbrev told : Outcome → List ℕ
    told o = cond (eqb o.refusal 0) (take (length es) o.answers) [] ++ answers Q o.book cs

    -- a call that is not refused works its entries
    cons-worked : refusal_in c ≡ 0 → Flat chart (c ∷ cs) b
    cons-worked e =
        let w : does Q b c ≡ by_refusal Q 0 b chart c.entries c.lent =
        does-worked b c v e ∙ ap (λ (x : List ℕ). by_refusal Q 0 b x c.entries c.lent) (one e)
        in
        let f : Flat chart cs (book_after Q chart b es) = ih (book_after Q chart b es) (entries-valid Q chart es b v) in
        let new = answers_from Q chart b es in
        let j : joined (c ∷ cs) ≡ es ++ joined cs = ap (λ (k : ℕ). cond (eqb k 0) es [] ++ joined cs) e in
        record {
          book =
              ap (λ (o : Outcome). after Q o.book cs) w ∙ f.book ∙ sym (book-append chart es (joined cs) b)
              ∙ ap (book_after Q chart b) (sym j);
          given =
              ap told w
              ∙ ap (λ (l : List ℕ). l ++ answers Q (book_after Q chart b es) cs) (take_at new (drop (length new) c.lent) (length es) (answers-length chart es b))
              ∙ ap (λ (l : List ℕ). new ++ l) f.given
              ∙ sym (answers-append chart es (joined cs) b)
              ∙ ap (answers_from Q chart b) (sym j);
        }

    -- a refused one leaves no trace
    cons-refused : (r : ℕ) → refusal_in c ≡ r → (r ≡ 0 → ⊥) → Flat chart (c ∷ cs) b
    cons-refused r e n =
        let w : does Q b c ≡ record { refusal = r; book = b; answers = c.lent } = does-refused b c v r e n in
        let f : Flat chart cs b = ih b v in
        let z : eqb r 0 ≡ false = ne_eqb r 0 n in
        let j : joined (c ∷ cs) ≡ joined cs =
        ap (λ (k : ℕ). cond (eqb k 0) es [] ++ joined cs) e ∙ ap (λ (t : Bool). cond t es [] ++ joined cs) z
        in
        record {
          book = ap (λ (o : Outcome). after Q o.book cs) w ∙ f.book ∙ ap (book_after Q chart b) (sym j);
          given =
              ap told w ∙ ap (λ (t : Bool). cond t (take (length es) c.lent) [] ++ answers Q b cs) z
              ∙ f.given ∙ ap (answers_from Q chart b) (sym j);
        }

    cons-flat : (r : ℕ) → refusal_in c ≡ r → Flat chart (c ∷ cs) b
    cons-flat zero e = cons-worked e
    cons-flat (suc r) e = cons-refused (suc r) e (λ z. omega arith)

  flat : (chart : List ℕ) (cs : List Call) → OneChart chart cs → (b : Book) → ValidBook b → Flat chart cs b
  flat chart [] one b v = record { book = refl; given = refl }
  flat chart (c ∷ cs) one b v = cons-flat chart c cs b v one.0 (flat chart cs one.1) (refusal_in c) refl

  -- ---- 1 never meets a book on the way
  by-valid : (r : ℕ) (b : Book) (c : Call) → ValidBook b → ValidBook (by_refusal Q r b c.chart c.entries c.lent).book
  by-valid zero b c v = entries-valid Q c.chart (entries_of c.entries) b v
  by-valid (suc k) b c v = v

  after-valid : (cs : List Call) (b : Book) → ValidBook b → ValidBook (after Q b cs)
  after-valid [] b v = v
  after-valid (c ∷ cs) b v =
      after-valid cs (does Q b c).book (by-valid (batch_refusal b c.chart (length c.entries) (length c.lent)) b c v)

  -- ---- every verdict of the tally is known
  tally-known : (s : ℕ) (chart : List ℕ) (es : List Entry) (t : Tally) → AllKnown s t.history → AllKnown s (tally_from Q s chart t es).history
  tally-known s chart [] t a = a
  tally-known s chart (e ∷ es) t a =
      let v = verdict Q s chart t.history e in
      let k : Known s v = with-known s (charges t.history) (λ i. bend_count i t.history) (entry_ruling Q s chart e) (known Q s chart e) in
      tally-known s chart es (noted t v) (noted-known s t v a k)

  -- ---- the demand
  pub demand3 : (s : ℕ) → 1 ≤ s → s ≤ section_max → (chart : List ℕ) (cs : List Call) → OneChart chart cs
      → Demand3 Q s chart cs (tally Q s chart (joined cs))
  demand3 s h k chart cs one =
      let a : Agree s (fresh s) start = fresh-agrees s h k in
      let t = tally Q s chart (joined cs) in
      let f : Flat chart cs (fresh s) = flat chart cs one (fresh s) a.valid in
      let r : Ran Q s chart (fresh s) start (joined cs) = ran Q s chart (joined cs) (fresh s) start a in
      let e : Agree s (after Q (fresh s) cs) t = subst (λ (b : Book). Agree s b t) (sym f.book) r.agrees in
      let g : answers Q (fresh s) cs ≡ map answer_of t.history = f.given ∙ r.answers in
      record {
        never-one = λ p q w. valid-book (after Q (fresh s) p) (after-valid p (fresh s) a.valid);
        refused-exactly = λ p c q w. does-refusal (after Q (fresh s) p) c (after-valid p (fresh s) a.valid);
        unchanged-when-refused = λ p c q w n.
            let d = does-refused (after Q (fresh s) p) c (after-valid p (fresh s) a.valid) (refusal_in c) refl n in
            (ap (λ (o : Outcome). o.book) d, ap (λ (o : Outcome). o.answers) d);
        accounted = record {
          wear-is-sum = λ i q. e.wears i ∙ e.sums i;
          count-is-number = λ i q. e.counts i ∙ e.numbers i;
          one-answer-each = ap length f.given ∙ answers-length chart (joined cs) (fresh s);
          accepted-exactly = λ j q.
              subst (λ (x : ℕ). (x < refused_entry) ↔ IsAccepted (get_or t.history j (Splice 0)))
              (sym (ap (λ (l : List ℕ). get_or l j 0) g ∙ get_or-map answer_of t.history j (Splice 0)))
              (by_answer s (get_or t.history j (Splice 0)) (known_at s h t.history (tally-known s chart (joined cs) start tt) j));
          answers-are-tallys = g;
          wear-is-tallys = λ i q. e.wears i;
          count-is-tallys = λ i q. e.counts i;
          retired-is-tallys = e.retired;
          sections-kept = e.sections;
          wear-plus-retired = e.total;
        };
        division-does-not-matter = λ ds two same.
            let d : Flat chart ds (fresh s) = flat chart ds two (fresh s) a.valid in
            (d.given ∙ ap (answers_from Q chart (fresh s)) same ∙ sym f.given, d.book ∙ ap (book_after Q chart (fresh s)) same ∙ sym f.book);
      }

  -- ---- what was returned and left, call by call, is what `after` and `answers` say: so demand 3 is about the code
  made-book : (ts : List MadeCall) (b : Book) → Made Q b ts → last_book b ts ≡ after Q b (calls_of ts)
  made-book [] b m = refl
  made-book (t ∷ ts) b m = made-book ts t.result.book m.1 ∙ ap (λ (o : Outcome). after Q o.book (calls_of ts)) m.0

  made-answers : (ts : List MadeCall) (b : Book) → Made Q b ts → last_answers ts ≡ answers Q b (calls_of ts)
  made-answers [] b m = refl
  made-answers (t ∷ ts) b m =
      let n = length (entries_of t.call.entries) in
      ap (λ (l : List ℕ). cond (eqb t.result.refusal 0) (take n t.left) [] ++ l) (made-answers ts t.result.book m.1)
      ∙ ap (λ (o : Outcome). cond (eqb o.refusal 0) (take n o.answers) [] ++ answers Q o.book (calls_of ts)) m.0

  -- a call among those made: what it returned and left is what the batch does on the book before it
  made_at : (p : List MadeCall) (u : MadeCall) (q : List MadeCall) (b : Book) → Made Q b (p ++ (u ∷ q))
      → outcome u.result u.left ≡ does Q (last_book b p) u.call
  made_at [] u q b m = m.0
  made_at (t ∷ p) u q b m = made_at p u q t.result.book m.1

  made-front : (p : List MadeCall) (q : List MadeCall) (b : Book) → Made Q b (p ++ q) → Made Q b p
  made-front [] q b m = tt
  made-front (t ∷ p) q b m = (m.0, made-front p q t.result.book m.1)

  pub demand3-made : (s : ℕ) → 1 ≤ s → s ≤ section_max → (chart : List ℕ) (ts : List MadeCall) → Made Q (fresh s) ts → OneChart chart (calls_of ts)
      → Demand3Made Q s chart ts (tally Q s chart (joined (calls_of ts)))
  demand3-made s h k chart ts m one =
      let d : Demand3 Q s chart (calls_of ts) (tally Q s chart (joined (calls_of ts))) = demand3 s h k chart (calls_of ts) one in
      let front : (p q : List MadeCall) → ts ≡ p ++ q → Made Q (fresh s) p =
      λ p q w. made-front p q (fresh s) (subst (λ (l : List MadeCall). Made Q (fresh s) l) w m)
      in
      let valid : (p q : List MadeCall) → ts ≡ p ++ q → ValidBook (last_book (fresh s) p) =
      λ p q w. subst ValidBook (sym (made-book p (fresh s) (front p q w))) (after-valid (calls_of p) (fresh s) (fresh-agrees s h k).valid)
      in
      let at : (p : List MadeCall) (u : MadeCall) (q : List MadeCall) → ts ≡ p ++ (u ∷ q) → outcome u.result u.left ≡ does Q (last_book (fresh s) p) u.call =
      λ p u q w. made_at p u q (fresh s) (subst (λ (l : List MadeCall). Made Q (fresh s) l) w m)
      in
      record {
        never-one = λ p q w. valid-book (last_book (fresh s) p) (valid p q w);
        refused-exactly = λ p u q w.
            ap (λ (o : Outcome). o.refusal) (at p u q w) ∙ does-refusal (last_book (fresh s) p) u.call (valid p (u ∷ q) w);
        unchanged-when-refused = λ p u q w n.
            let o = at p u q w ∙ does-refused (last_book (fresh s) p) u.call (valid p (u ∷ q) w) (refusal_in u.call) refl n in
            (ap (λ (x : Outcome). x.book) o, ap (λ (x : Outcome). x.answers) o);
        accounted =
            subst (λ (b : Book). Accounted s (joined (calls_of ts)) (tally Q s chart (joined (calls_of ts))) b (last_answers ts)) (sym (made-book ts (fresh s) m))
            (subst (λ (l : List ℕ). Accounted s (joined (calls_of ts)) (tally Q s chart (joined (calls_of ts))) (after Q (fresh s) (calls_of ts)) l) (sym (made-answers ts (fresh s) m)) d.accounted);
        division-does-not-matter = λ us n two same.
            let v = d.division-does-not-matter (calls_of us) two same in
            (made-answers us (fresh s) n ∙ v.0 ∙ sym (made-answers ts (fresh s) m), made-book us (fresh s) n ∙ v.1 ∙ sym (made-book ts (fresh s) m));
      }
