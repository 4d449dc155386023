-- Demand 3 of the Results that the public calls `fresh` and `batch` hand out: what the theorem `demand-called` says (proofs/Called). Assumes nothing.
use Rattle.std.specs.Prelude.{◌≡◌, List, [], ◌∷◌, ◌++◌, false, ℕ, length, take, Result, Ok, Err}
use Rattle.refusal.specs.declared.Refusal.{Refusal}
use Rattle.refusal.specs.Number.{number, refusal_of}
use Rattle.book.specs.declared.Book.{Book}
use Rattle.book.specs.Returned.{returned_of}
use Rattle.book.specs.Books.{bad_book}
use Rattle.entries.specs.Entry.{entries_of}
use Rattle.accounts.specs.Rulings.{Queries}
use Rattle.accounts.specs.Batch.{outcome, batch_of}
use Rattle.accounts.specs.Tally.{Tally}
use Rattle.accounts.specs.Demand.{Call, refusal_in, fresh, joined, OneChart, Accounted}

-- ---- a batch that was called, with the Result that it handed out and what it left in the answer slice
pub record CalledBatch : Type 0 where
  pub call : Call
  pub result : Result Book Refusal
  pub left : List ℕ

-- batches that were called, each handed the book that the one before it returned; where that one was refused, the book that it was handed, which its caller
-- still has. The fact of each is the contract of `estivolh::batch`, word for word
abbrev pub Called : Queries → Book → List CalledBatch → Type 0
Called Q b [] = Unit {0}
Called Q b (t ∷ ts) = (outcome (returned_of t.result b) t.left ≡ batch_of Q b t.call.chart t.call.entries t.call.lent) × Called Q (returned_of t.result b).book ts

-- their calls alone
abbrev pub calls_in : List CalledBatch → List Call
calls_in [] = []
calls_in (t ∷ ts) = t.call ∷ calls_in ts

-- the book that stands after them
abbrev pub book_left : Book → List CalledBatch → Book
book_left b [] = b
book_left b (t ∷ ts) = book_left (returned_of t.result b).book ts

-- the answers of one that is `Ok`; one that is `Err` has none
abbrev pub answers_in : Result Book Refusal → List ℕ → List ℕ
answers_in (Ok _) given = given
answers_in (Err _) given = []

-- the answers of all
abbrev pub answers_left : List CalledBatch → List ℕ
answers_left [] = []
answers_left (t ∷ ts) = answers_in t.result (take (length (entries_of t.call.entries)) t.left) ++ answers_left ts

-- a Result that is refused by the number n
abbrev pub ErrBy : Result Book Refusal → ℕ → Type 0
ErrBy r n = (k : Refusal) × (r ≡ Err k) × (number k ≡ n)

-- the sentences of demand 3, of the Result of a fresh book and of the batches that were called; t is the tally of their joined entries
pub record Demand3Called (Q : Queries) (s : ℕ) (chart : List ℕ) (begun : Result Book Refusal) (ts : List CalledBatch) (t : Tally) : Type 0 where
  pub begins : begun ≡ Ok (fresh s)
  pub never-one : (p : List CalledBatch) (q : List CalledBatch) → ts ≡ p ++ q → bad_book (book_left (fresh s) p) ≡ false
  -- a batch is refused exactly when 01 refuses its call: its Result is then `Err` with 01's number
  pub refused-exactly : (p : List CalledBatch) (u : CalledBatch) (q : List CalledBatch) → ts ≡ p ++ (u ∷ q) → refusal_of u.result ≡ refusal_in u.call
  pub err-when-refused :
      (p : List CalledBatch) (u : CalledBatch) (q : List CalledBatch) → ts ≡ p ++ (u ∷ q) → (refusal_in u.call ≡ 0 → ⊥) → ErrBy u.result (refusal_in u.call)
  -- and then it changes nothing: the book that it was handed stands, and the answer slice is as it was lent
  pub unchanged-when-refused :
      (p : List CalledBatch) (u : CalledBatch) (q : List CalledBatch) → ts ≡ p ++ (u ∷ q) → (k : Refusal) → u.result ≡ Err k
      → (book_left (fresh s) (p ++ (u ∷ [])) ≡ book_left (fresh s) p) × (u.left ≡ u.call.lent)
  -- else it hands out the book that stands after it
  pub ok-when-not :
      (p : List CalledBatch) (u : CalledBatch) (q : List CalledBatch) → ts ≡ p ++ (u ∷ q) → refusal_in u.call ≡ 0
      → u.result ≡ Ok (book_left (fresh s) (p ++ (u ∷ [])))
  pub accounted : Accounted s (joined (calls_in ts)) t (book_left (fresh s) ts) (answers_left ts)
  pub division-does-not-matter :
      (us : List CalledBatch) → Called Q (fresh s) us → OneChart chart (calls_in us) → joined (calls_in us) ≡ joined (calls_in ts)
      → (answers_left us ≡ answers_left ts) × (book_left (fresh s) us ≡ book_left (fresh s) ts)
