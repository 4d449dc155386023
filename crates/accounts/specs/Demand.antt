-- Demand 3: one claim about every list of batches from a fresh book.
use Rattle.std.specs.Prelude.{◌≡◌, ◌↔◌, List, [], ◌∷◌, ◌++◌, map, false, cond, ℕ, ◌<◌, eqb, ℤ, length, get_or, take}
use Rattle.book.specs.declared.Book.{Book}
use Rattle.book.specs.Returned.{Returned}
use Rattle.book.specs.Books.{wear_of, count_of, total_wear, bad_book, fresh_book}
use Rattle.entries.specs.declared.Entry.{Entry}
use Rattle.entries.specs.Ruling.Ruling.{Splice}
use Rattle.entries.specs.Entry.{entries_of}
use Rattle.entries.specs.Ruling.{refused_entry, answer_of}
use Rattle.accounts.specs.Rulings.{Queries}
use Rattle.accounts.specs.Batch.{Outcome, outcome, call_refusal, batch_of}
use Rattle.accounts.specs.Tally.{charges, wear_sum, bend_count, Tally, IsAccepted}

-- a call of the batch: its arguments but the book
pub record Call : Type 0 where
  pub chart : List ℕ
  pub entries : List ℤ
  pub lent : List ℕ

-- what the batch does on a book
abbrev pub does : Queries → Book → Call → Outcome
does Q b c = batch_of Q b c.chart c.entries c.lent

-- the refusal of a call by its arguments but the book, 0 for none
abbrev pub refusal_in : Call → ℕ
refusal_in c = call_refusal c.chart (length c.entries) (length c.lent)

-- the list begins with the fresh book of s
abbrev pub fresh : ℕ → Book
fresh s = (fresh_book s).book

-- each batch is handed the book that the one before it returned
abbrev pub after : Queries → Book → List Call → Book
after Q b [] = b
after Q b (c ∷ cs) = after Q (does Q b c).book cs

-- a batch's answers are the first elements of its answer slice as it returns, one per entry; a refused batch has none
abbrev pub answers : Queries → Book → List Call → List ℕ
answers Q b [] = []
answers Q b (c ∷ cs) =
    cond (eqb (does Q b c).refusal 0) (take (length (entries_of c.entries)) (does Q b c).answers) []
    ++ answers Q (does Q b c).book cs

-- the entries of the batches not refused, joined in order
abbrev pub joined : List Call → List Entry
joined [] = []
joined (c ∷ cs) = cond (eqb (refusal_in c) 0) (entries_of c.entries) [] ++ joined cs

-- all that aren't refused are under one chart
abbrev pub OneChart : List ℕ → List Call → Type 0
OneChart chart [] = Unit {0}
OneChart chart (c ∷ cs) = (refusal_in c ≡ 0 → c.chart ≡ chart) × OneChart chart cs

-- what the demand says of the book b and the answers at the end, t the tally of the entries es
pub record Accounted (s : ℕ) (es : List Entry) (t : Tally) (b : Book) (given : List ℕ) : Type 0 where
  -- a section's wear equals the sum of the charges for its accepted bends after its last accepted splice
  pub wear-is-sum : (i : ℕ) → i < s → wear_of b i ≡ wear_sum i t.history
  -- and its bend count is the number of these bends
  pub count-is-number : (i : ℕ) → i < s → count_of b i ≡ bend_count i t.history
  -- each entry has one answer
  pub one-answer-each : length given ≡ length es
  -- it is accepted exactly when the tally accepts it
  pub accepted-exactly : (k : ℕ) → k < length es → (get_or given k 0 < refused_entry) ↔ IsAccepted (get_or t.history k (Splice 0))
  -- and gets the tally's answer
  pub answers-are-tallys : given ≡ map answer_of t.history
  -- the book's numbers are the tally's, retired wear included
  pub wear-is-tallys : (i : ℕ) → i < s → wear_of b i ≡ t.wear i
  pub count-is-tallys : (i : ℕ) → i < s → count_of b i ≡ t.count i
  pub retired-is-tallys : b.retired ≡ t.retired
  pub sections-kept : b.sections ≡ s
  -- wear of all sections plus retired wear equals the sum of all accepted charges
  pub wear-plus-retired : total_wear b ≡ charges t.history

-- the sentences of demand 3, of the list cs; t is the tally of its joined entries
pub record Demand3 (Q : Queries) (s : ℕ) (chart : List ℕ) (cs : List Call) (t : Tally) : Type 0 where
  -- 1 never meets a book on the way
  pub never-one : (p : List Call) (q : List Call) → cs ≡ p ++ q → bad_book (after Q (fresh s) p) ≡ false
  -- a batch is refused exactly when 01 refuses its call, and then changes nothing
  pub refused-exactly : (p : List Call) (c : Call) (q : List Call) → cs ≡ p ++ (c ∷ q) → (does Q (after Q (fresh s) p) c).refusal ≡ refusal_in c
  pub unchanged-when-refused :
      (p : List Call) (c : Call) (q : List Call) → cs ≡ p ++ (c ∷ q) → (refusal_in c ≡ 0 → ⊥)
      → ((does Q (after Q (fresh s) p) c).book ≡ after Q (fresh s) p) × ((does Q (after Q (fresh s) p) c).answers ≡ c.lent)
  -- the entries of the others, joined in order, are what counts
  pub accounted : Accounted s (joined cs) t (after Q (fresh s) cs) (answers Q (fresh s) cs)
  -- two such lists alike in section count, chart and joined entries give the same answers and the same book
  pub division-does-not-matter :
      (ds : List Call) → OneChart chart ds → joined ds ≡ joined cs
      → (answers Q (fresh s) ds ≡ answers Q (fresh s) cs) × (after Q (fresh s) ds ≡ after Q (fresh s) cs)

-- ---- the tie to the code: a call that was made, with its number and the book after it, as `returned_of` reads them off the Result that it handed out, and
-- what it left in the answer slice. Of the Results themselves: crate `demand`, specs/Called
pub record MadeCall : Type 0 where
  pub call : Call
  pub result : Returned
  pub left : List ℕ

-- calls that were made, each handed the book that the one before it returned; the fact of each is the batch's contract, its Result read so
abbrev pub Made : Queries → Book → List MadeCall → Type 0
Made Q b [] = Unit {0}
Made Q b (t ∷ ts) = (outcome t.result t.left ≡ batch_of Q b t.call.chart t.call.entries t.call.lent) × Made Q t.result.book ts

-- the calls alone
abbrev pub calls_of : List MadeCall → List Call
calls_of [] = []
calls_of (t ∷ ts) = t.call ∷ calls_of ts

-- the book at the end
abbrev pub last_book : Book → List MadeCall → Book
last_book b [] = b
last_book b (t ∷ ts) = last_book t.result.book ts

-- the answers of those not refused
abbrev pub last_answers : List MadeCall → List ℕ
last_answers [] = []
last_answers (t ∷ ts) =
    cond (eqb t.result.refusal 0) (take (length (entries_of t.call.entries)) t.left) [] ++ last_answers ts

-- the same sentences of calls that were made
pub record Demand3Made (Q : Queries) (s : ℕ) (chart : List ℕ) (ts : List MadeCall) (t : Tally) : Type 0 where
  pub never-one : (p : List MadeCall) (q : List MadeCall) → ts ≡ p ++ q → bad_book (last_book (fresh s) p) ≡ false
  pub refused-exactly : (p : List MadeCall) (u : MadeCall) (q : List MadeCall) → ts ≡ p ++ (u ∷ q) → u.result.refusal ≡ refusal_in u.call
  pub unchanged-when-refused :
      (p : List MadeCall) (u : MadeCall) (q : List MadeCall) → ts ≡ p ++ (u ∷ q) → (refusal_in u.call ≡ 0 → ⊥)
      → (u.result.book ≡ last_book (fresh s) p) × (u.left ≡ u.call.lent)
  pub accounted : Accounted s (joined (calls_of ts)) t (last_book (fresh s) ts) (last_answers ts)
  pub division-does-not-matter :
      (us : List MadeCall) → Made Q (fresh s) us → OneChart chart (calls_of us) → joined (calls_of us) ≡ joined (calls_of ts)
      → (last_answers us ≡ last_answers ts) × (last_book (fresh s) us ≡ last_book (fresh s) ts)
