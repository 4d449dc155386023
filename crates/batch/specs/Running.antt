-- The loop over a batch's entries: what holds after i of n of them, one entry more, and the end. Assumes nothing.
use Rattle.std.specs.Prelude.{◌≡◌, refl, ℕ, suc, ◌+◌, ◌-◌, ◌*◌, ◌≤◌, ◌<◌, ℤ, length, drop, set}
use Rattle.std.proofs.Common.{sym, ◌∙◌, arith, add-one, take-append-drop, take-suc-set, length-take-le}
use Rattle.std.proofs.Math.Path.{ap}
use mathlib.Core.List.{List, [], ◌∷◌, ◌++◌, append-nil}
use Rattle.std.proofs.Math.ListN.{take, length-set}
use Rattle.std.proofs.Math.Seq.{append_snoc, drop-set-lt, drop-drop}
use Rattle.book.specs.declared.Book.{Book}
use Rattle.book.specs.Books.{ValidBook}
use Rattle.entries.specs.declared.Entry.{Entry}
use Rattle.entries.specs.Entry.{entry_width, entry_at, entries_from}
use Rattle.accounts.specs.Rulings.{Queries}
use Rattle.accounts.specs.Batch.{book_after, answers_from, overlay}
use Rattle.accounts.proofs.Agree.{entries-valid}
use Rattle.batch.specs.Tables.{step_of, worked}

module _ (Q : Queries) (bytes : List ℕ) (es : List ℤ) (lent : List ℕ) (n : ℕ) (b₀ : Book) where
  -- the entries from the i-th on
  abbrev pub rest : ℕ → List Entry
  rest i = entries_from es (i * entry_width) (n - i)

  pub record Running (left : List ℕ) (b : Book) (i : ℕ) : Type 0 where
    pub within : i ≤ n
    pub valid : ValidBook b
    pub long : length left ≡ length lent
    pub books : book_after Q bytes b₀ (entries_from es 0 n) ≡ book_after Q bytes b (rest i)
    pub given : take i left ++ answers_from Q bytes b (rest i) ≡ answers_from Q bytes b₀ (entries_from es 0 n)
    pub past : drop i left ≡ drop i lent

  pub running-start : ValidBook b₀ → Running lent b₀ 0
  running-start v =
      let p : n ≡ n - 0 = omega arith in
      record {
        within = omega arith;
        valid = v;
        long = refl;
        books = ap (λ (k : ℕ). book_after Q bytes b₀ (entries_from es 0 k)) p;
        given = ap (λ (k : ℕ). answers_from Q bytes b₀ (entries_from es 0 k)) (sym p);
        past = refl;
      }

  next : (i : ℕ) → i < n → rest i ≡ entry_at es (i * entry_width) ∷ rest (i + 1)
  next i h =
      let p : n - i ≡ suc (n - (i + 1)) = omega arith in
      let q : i * entry_width + entry_width ≡ (i + 1) * entry_width = omega arith in
      ap (entries_from es (i * entry_width)) p ∙ ap (λ (k : ℕ). entry_at es (i * entry_width) ∷ entries_from es k (n - (i + 1))) q

  module _ (left : List ℕ) (b : Book) (i : ℕ) (r : Running left b i) (h : i < n) (room : n ≤ length lent) where
    abbrev entry : Entry
    entry = entry_at es (i * entry_width)

    after : Book
    after = (step_of Q bytes b entry).book

    answer : ℕ
    answer = (step_of Q bytes b entry).answer

    in_left : i < length left
    in_left = omega (arith, r.long)

    given-next : take i left ++ (answer ∷ answers_from Q bytes after (rest (i + 1))) ≡ answers_from Q bytes b₀ (entries_from es 0 n)
    unfolding after answer
    given-next = ap (λ (l : List Entry). take i left ++ answers_from Q bytes b l) (sym (next i h)) ∙ r.given

    take_next : take (i + 1) (set left i answer) ≡ take i left ++ (answer ∷ [])
    take_next = rw add-one (take-suc-set left i answer in_left)

    pub running-next : Running (set left i (step_of Q bytes b (entry_at es (i * entry_width))).answer) (step_of Q bytes b (entry_at es (i * entry_width))).book (i + 1)
    unfolding after answer
    running-next = record {
      within = omega arith;
      valid = entries-valid Q bytes (entry ∷ []) b r.valid;
      long = length-set left i answer ∙ r.long;
      books = r.books ∙ ap (book_after Q bytes b) (next i h);
      given = ap (λ (l : List ℕ). l ++ answers_from Q bytes after (rest (i + 1))) take_next
          ∙ (append_snoc (take i left) answer (answers_from Q bytes after (rest (i + 1))) ∙ given-next);
      past = drop-set-lt (i + 1) left i answer (omega arith) ∙ (sym (drop-drop 1 i left) ∙ (ap (drop 1) r.past ∙ drop-drop 1 i lent));
    }

  module _ (left : List ℕ) (b : Book) (i : ℕ) (r : Running left b i) (h : n ≤ i) (room : n ≤ length lent) where
    at-end : i ≡ n
    at-end = omega (arith, r.within)

    none : rest i ≡ []
    none = let p : n - i ≡ 0 = omega arith in ap (entries_from es (i * entry_width)) p

    all-given : take i left ≡ answers_from Q bytes b₀ (entries_from es 0 n)
    all-given = sym (append-nil (take i left)) ∙ (ap (λ (l : List Entry). take i left ++ answers_from Q bytes b l) (sym none) ∙ r.given)

    count : length (answers_from Q bytes b₀ (entries_from es 0 n)) ≡ i
    count = sym (ap length all-given) ∙ length-take-le i left (omega (arith, r.long, at-end))

    end-book : b ≡ book_after Q bytes b₀ (entries_from es 0 n)
    end-book = sym (r.books ∙ ap (book_after Q bytes b) none)

    end-answers : left ≡ overlay (answers_from Q bytes b₀ (entries_from es 0 n)) lent
    end-answers =
        sym (take-append-drop i left)
        ∙ (ap (λ (l : List ℕ). l ++ drop i left) all-given
        ∙ (ap (λ (l : List ℕ). answers_from Q bytes b₀ (entries_from es 0 n) ++ l) r.past
        ∙ ap (λ (k : ℕ). answers_from Q bytes b₀ (entries_from es 0 n) ++ drop k lent) (sym count)))

    pub running-end : worked b left ≡ worked (book_after Q bytes b₀ (entries_from es 0 n)) (overlay (answers_from Q bytes b₀ (entries_from es 0 n)) lent)
    running-end = ap (λ (x : Book). worked x left) end-book ∙ ap (worked (book_after Q bytes b₀ (entries_from es 0 n))) end-answers
