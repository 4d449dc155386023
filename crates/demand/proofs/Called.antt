-- Demand 3 of the Results that the public calls `fresh` and `batch` hand out: `demand-called`, from `demand-made`. Assumes nothing.
use Rattle.std.specs.Prelude.{◌≡◌, refl, List, [], ◌∷◌, ◌++◌, Bool, false, cond, ℕ, ◌≤◌, eqb, length, take, Result, Ok, Err}
use Rattle.std.proofs.Common.{sym, ◌∙◌, ap, subst, arith, ne_eqb, le-ltb}
use Rattle.refusal.specs.declared.Refusal.{Refusal}
use Rattle.refusal.specs.Number.{number, refusal_of, number-positive}
use Rattle.book.specs.declared.Book.{Book}
use Rattle.book.specs.Returned.{Returned, returned_of}
use Rattle.book.specs.Books.{section_max, bad_sections, bad_book, zero_book, fresh_book}
use Rattle.entries.specs.Entry.{entries_of}
use Rattle.accounts.specs.Rulings.{Queries}
use Rattle.accounts.specs.Tally.{Tally, tally}
use Rattle.accounts.specs.Demand.{Call, refusal_in, fresh, joined, OneChart, Accounted, MadeCall, Made, calls_of, last_book, last_answers, Demand3Made}
use Rattle.estivolh.specs.Account.{queries}
use Rattle.demand.specs.Demand.{demand-made}
use Rattle.demand.specs.Called.{CalledBatch, Called, calls_in, book_left, answers_in, answers_left, ErrBy, Demand3Called}

-- ---- laws: the same calls with the book that stands after each
abbrev made_call : Book → CalledBatch → MadeCall
made_call b t = record { call = t.call; result = returned_of t.result b; left = t.left }

abbrev made_calls : Book → List CalledBatch → List MadeCall
made_calls b [] = []
made_calls b (t ∷ ts) = made_call b t ∷ made_calls (returned_of t.result b).book ts

made : (Q : Queries) (ts : List CalledBatch) (b : Book) → Called Q b ts → Made Q b (made_calls b ts)
made Q [] b m = tt
made Q (t ∷ ts) b m = (m.0, made Q ts (returned_of t.result b).book m.1)

same-calls : (ts : List CalledBatch) (b : Book) → calls_of (made_calls b ts) ≡ calls_in ts
same-calls [] b = refl
same-calls (t ∷ ts) b = ap (λ (l : List Call). t.call ∷ l) (same-calls ts (returned_of t.result b).book)

same-book : (ts : List CalledBatch) (b : Book) → last_book b (made_calls b ts) ≡ book_left b ts
same-book [] b = refl
same-book (t ∷ ts) b = same-book ts (returned_of t.result b).book

given : (r : Result Book Refusal) (b : Book) (l : List ℕ) → cond (eqb (returned_of r b).refusal 0) l [] ≡ answers_in r l
given (Ok _) b l = refl
given (Err k) b l = let p = number-positive k in rw (ne_eqb (number k) 0 (λ e. omega (arith, p))) refl

same-answers : (ts : List CalledBatch) (b : Book) → last_answers (made_calls b ts) ≡ answers_left ts
same-answers [] b = refl
same-answers (t ∷ ts) b =
    let l = take (length (entries_of t.call.entries)) t.left in
    ap (λ (g : List ℕ). g ++ last_answers (made_calls (returned_of t.result b).book ts)) (given t.result b l)
    ∙ ap (λ (m : List ℕ). answers_in t.result l ++ m) (same-answers ts (returned_of t.result b).book)

parted : (p q : List CalledBatch) (b : Book) → made_calls b (p ++ q) ≡ made_calls b p ++ made_calls (book_left b p) q
parted [] q b = refl
parted (t ∷ p) q b = ap (λ (l : List MadeCall). made_call b t ∷ l) (parted p q (returned_of t.result b).book)

-- one more
further : (p : List CalledBatch) (u : CalledBatch) (b : Book) → book_left b (p ++ (u ∷ [])) ≡ (returned_of u.result (book_left b p)).book
further [] u b = refl
further (t ∷ p) u b = further p u (returned_of t.result b).book

-- ---- laws: a Result by its number
numbered : (r : Result Book Refusal) (b : Book) → (returned_of r b).refusal ≡ refusal_of r
numbered (Ok _) b = refl
numbered (Err k) b = refl

err-by : (r : Result Book Refusal) (n : ℕ) → refusal_of r ≡ n → (n ≡ 0 → ⊥) → ErrBy r n
err-by (Ok _) n e h = absurd (h (sym e))
err-by (Err k) n e h = (k, refl, e)

ok-by : (r : Result Book Refusal) (b : Book) → refusal_of r ≡ 0 → r ≡ Ok (returned_of r b).book
ok-by (Ok _) b e = refl
ok-by (Err k) b e = let p = number-positive k in let z : ⊥ = omega (arith, p, e) in absurd z

refused_by : (r : Result Book Refusal) (k : Refusal) (n : ℕ) → r ≡ Err k → refusal_of r ≡ n → n ≡ 0 → ⊥
refused_by r k n e f z = let p = number-positive k in let g : number k ≡ n = sym (ap refusal_of e) ∙ f in omega (arith, p, g, z)

-- a book of s sections is not refused
abbrev picked : ℕ → Bool → Returned
picked s t = cond t (record { refusal = 1; book = zero_book 0 }) (record { refusal = 0; book = zero_book s })

fresh-passes : (s : ℕ) → 1 ≤ s → s ≤ section_max → (fresh_book s).refusal ≡ 0
fresh-passes s h k =
    let g : bad_sections s ≡ false = rw (le-ltb s 1 h, le-ltb section_max s k) in
    ap (λ (t : Bool). (picked s t).refusal) g

module _ (s : ℕ) (some-section : 1 ≤ s) (few-sections : s ≤ section_max) (chart : List ℕ) (ts : List CalledBatch)
    (m : Called queries (fresh s) ts) (one : OneChart chart (calls_in ts)) where
  told : Demand3Made queries s chart (made_calls (fresh s) ts) (tally queries s chart (joined (calls_of (made_calls (fresh s) ts))))
  told =
      demand-made s some-section few-sections chart (made_calls (fresh s) ts) (made queries ts (fresh s) m)
      (subst (OneChart chart) (sym (same-calls ts (fresh s))) one)

  module _ (p : List CalledBatch) (u : CalledBatch) (q : List CalledBatch) (w : ts ≡ p ++ (u ∷ q)) where
    at : made_calls (fresh s) ts ≡ made_calls (fresh s) p ++ (made_call (book_left (fresh s) p) u ∷ made_calls (returned_of u.result (book_left (fresh s) p)).book q)
    at = ap (made_calls (fresh s)) w ∙ parted p (u ∷ q) (fresh s)

    exactly : refusal_of u.result ≡ refusal_in u.call
    exactly = sym (numbered u.result (book_left (fresh s) p)) ∙ told.refused-exactly (made_calls (fresh s) p) (made_call (book_left (fresh s) p) u) _ at

    unchanged : (k : Refusal) → u.result ≡ Err k → (book_left (fresh s) (p ++ (u ∷ [])) ≡ book_left (fresh s) p) × (u.left ≡ u.call.lent)
    unchanged k e =
        let v = told.unchanged-when-refused (made_calls (fresh s) p) (made_call (book_left (fresh s) p) u) _ at (refused_by u.result k (refusal_in u.call) e exactly) in
        (further p u (fresh s) ∙ (v.0 ∙ same-book p (fresh s)), v.1)

    ok : refusal_in u.call ≡ 0 → u.result ≡ Ok (book_left (fresh s) (p ++ (u ∷ [])))
    ok z = ok-by u.result (book_left (fresh s) p) (exactly ∙ z) ∙ ap (λ (b : Book). Ok b) (sym (further p u (fresh s)))

  module _ (begun : Result Book Refusal) (begins : begun ≡ Ok (fresh s)) where
    of-called : Demand3Called queries s chart begun ts (tally queries s chart (joined (calls_in ts)))
    of-called =
        let t : List Call → Tally = λ (cs : List Call). tally queries s chart (joined cs) in
        record {
          begins = begins;
          never-one = λ p q w.
              subst (λ (b : Book). bad_book b ≡ false) (same-book p (fresh s))
              (told.never-one (made_calls (fresh s) p) (made_calls (book_left (fresh s) p) q) (ap (made_calls (fresh s)) w ∙ parted p q (fresh s)));
          refused-exactly = exactly;
          err-when-refused = λ p u q w h. err-by u.result (refusal_in u.call) (exactly p u q w) h;
          unchanged-when-refused = unchanged;
          ok-when-not = ok;
          accounted =
              subst (λ (l : List ℕ). Accounted s (joined (calls_in ts)) (t (calls_in ts)) (book_left (fresh s) ts) l) (same-answers ts (fresh s))
              (subst (λ (b : Book). Accounted s (joined (calls_in ts)) (t (calls_in ts)) b (last_answers (made_calls (fresh s) ts))) (same-book ts (fresh s))
              (subst (λ (cs : List Call). Accounted s (joined cs) (t cs) (last_book (fresh s) (made_calls (fresh s) ts)) (last_answers (made_calls (fresh s) ts))) (same-calls ts (fresh s)) told.accounted));
          division-does-not-matter = λ us n two same.
              let v =
              told.division-does-not-matter (made_calls (fresh s) us) (made queries us (fresh s) n) (subst (OneChart chart) (sym (same-calls us (fresh s))) two)
              (ap joined (same-calls us (fresh s)) ∙ (same ∙ ap joined (sym (same-calls ts (fresh s)))))
              in
              (sym (same-answers us (fresh s)) ∙ (v.0 ∙ same-answers ts (fresh s)), sym (same-book us (fresh s)) ∙ (v.1 ∙ same-book ts (fresh s)));
        }

-- for every s from 1 to 16, the Result of `estivolh::fresh`, by its contract, and every list of batches that were called from its book on, all that aren't
-- refused under one chart
pub demand-called : (s : ℕ) → 1 ≤ s → s ≤ section_max → (begun : Result Book Refusal) → returned_of begun (zero_book 0) ≡ fresh_book s
    → (chart : List ℕ) (ts : List CalledBatch) → Called queries (returned_of begun (zero_book 0)).book ts → OneChart chart (calls_in ts)
    → Demand3Called queries s chart begun ts (tally queries s chart (joined (calls_in ts)))
demand-called s h k begun f chart ts m one =
    let e : (returned_of begun (zero_book 0)).book ≡ fresh s = ap (λ (r : Returned). r.book) f in
    let z : refusal_of begun ≡ 0 = sym (numbered begun (zero_book 0)) ∙ (ap (λ (r : Returned). r.refusal) f ∙ fresh-passes s h k) in
    of-called s h k chart ts (subst (λ (b : Book). Called queries b ts) e m) one begun (ok-by begun (zero_book 0) z ∙ ap (λ (b : Book). Ok b) e)
