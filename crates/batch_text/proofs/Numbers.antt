-- The numbers of a line, by its first space.
use Rattle.std.specs.Prelude.{◌≡◌, refl, ℕ, suc, ◌+◌, ◌==◌, ◌≤◌, ◌<◌, List, [], ◌∷◌, ◌++◌, Bool, true, false, not, cond, length, nat_lt, leb, take, drop, position, ℤ, Option, Some, None, option_map}
use Rattle.std.specs.List.{prefix_len}
use native.Mathlib.Numerals.{unary_clauses}
use Rattle.std.proofs.Common.{sym, ◌∙◌, ap, arith, append-nil, length-append}
use Rattle.std.proofs.lemmas.List.{append_assoc}
use Rattle.std.proofs.lemmas.Bool.Decides.{nat_tests}
use Rattle.std.proofs.lemmas.Option.{none-some}
use Rattle.case_text.specs.Decimal.{decimal_of}
use Rattle.case_text.specs.Query.{split_of}
use Rattle.batch_text.specs.Batch.{before, numbers_of, within}

abbrev space : ℕ → Bool
space x = x == 32

none-before : (k : ℕ) → nat_lt 0 (suc k) ≡ true
none-before k = grind (arith, nat_tests)

same-test : (m k : ℕ) → nat_lt (1 + m) (suc k) ≡ nat_lt m k
same-test m k = grind (arith, nat_tests)

one-more : (b : Bool) (m : ℕ) → cond b (Some (1 + m)) None ≡ option_map suc (cond b (Some m) None)
one-more true m = ap (λ n. Some n) (omega arith)
one-more false m = refl

later : (m k : ℕ) → cond (nat_lt (1 + m) (suc k)) (Some (1 + m)) None ≡ option_map suc (cond (nat_lt m k) (Some m) None)
later m k = ap (λ t. cond t (Some (1 + m)) None) (same-test m k) ∙ one-more (nat_lt m k) m

position-at : (b : Bool) (x : ℕ) (xs : List ℕ) → space x ≡ b → position space (x ∷ xs) ≡ cond b (Some 0) (option_map suc (position space xs))
position-at true x xs e = rw e (ap (λ t. cond t (Some 0) None) (none-before (length xs)))
position-at false x xs e = rw e (later (prefix_len (λ y. not (space y)) xs) (length xs))

-- the first number, and those after its space
abbrev by_space : List ℕ → List ℕ → Option ℕ → Option (List ℤ)
by_space part s None = before (decimal_of (part ++ s)) (Some [])
by_space part s (Some n) = before (decimal_of (part ++ take n s)) (numbers_of [] (drop (n + 1) s))

further : (part s : List ℕ) (b : ℕ) (n : Option ℕ) → by_space (part ++ (b ∷ [])) s n ≡ by_space part (b ∷ s) (option_map suc n)
further part s b None = ap (λ l. before (decimal_of l) (Some [])) (append_assoc part (b ∷ []) s)
further part s b (Some n) = simp unary_clauses (ap (λ l. before (decimal_of l) (numbers_of [] (drop (suc n) s))) (append_assoc part (b ∷ []) (take n s)))

first-space : (part s : List ℕ) → numbers_of part s ≡ by_space part s (position space s)
unfolding numbers_of
first-space part [] = ap (λ l. before (decimal_of l) (Some [])) (sym (append-nil part))
first-space part (b ∷ s) = by-byte (space b) refl (first-space (part ++ (b ∷ [])) s)
  where
    by-byte : (t : Bool) → space b ≡ t → numbers_of (part ++ (b ∷ [])) s ≡ by_space (part ++ (b ∷ [])) s (position space s) → numbers_of part (b ∷ s) ≡ by_space part (b ∷ s) (position space (b ∷ s))
    by-byte true e h =
        ap (λ t. cond t (before (decimal_of part) (numbers_of [] s)) (numbers_of (part ++ (b ∷ [])) s)) e
        ∙ ap (λ l. before (decimal_of l) (numbers_of [] s)) (sym (append-nil part))
        ∙ ap (by_space part (b ∷ s)) (sym (position-at true b s e))
    by-byte false e h =
        ap (λ t. cond t (before (decimal_of part) (numbers_of [] s)) (numbers_of (part ++ (b ∷ [])) s)) e
        ∙ h ∙ further part s b (position space s) ∙ ap (by_space part (b ∷ s)) (sym (position-at false b s e))

-- ---- the same, as a line is parted
abbrev cut : List ℕ → ℕ → List ℕ × List ℕ
cut s n = (take n s, drop (n + 1) s)

abbrev pub both : List ℕ → List ℕ → Option (List ℕ × List ℕ)
both f r = Some (f, r)

abbrev picked : List ℕ × List ℕ → Option (List ℕ × List ℕ) → List ℕ × List ℕ
picked p None = p
picked p (Some q) = q

by-place : (s f r : List ℕ) (n : Option ℕ) → both f r ≡ option_map (cut s) n → by_space [] s n ≡ before (decimal_of f) (numbers_of [] r)
by-place s f r None e = absurd (none-some _ (sym e))
by-place s f r (Some n) e =
    let same : ◌≡◌ {A = List ℕ × List ℕ} (f, r) (cut s n) = ap (picked (f, r)) e in
    ap (λ (p : List ℕ × List ℕ). before (decimal_of p.0) (numbers_of [] p.1)) (sym same)

by-end : (s : List ℕ) (n : Option ℕ) → None ≡ option_map (cut s) n → by_space [] s n ≡ before (decimal_of s) (Some [])
by-end s None e = refl
by-end s (Some n) e = absurd (none-some _ e)

parted : (s f r : List ℕ) → both f r ≡ split_of 32 s → numbers_of [] s ≡ before (decimal_of f) (numbers_of [] r)
parted s f r e = first-space [] s ∙ by-place s f r (position space s) e

last-part : (s : List ℕ) → None ≡ split_of 32 s → numbers_of [] s ≡ before (decimal_of s) (Some [])
last-part s e = first-space [] s ∙ by-end s (position space s) e

-- ---- those that are read, and those that are left
abbrev pub after : List ℤ → Option (List ℤ) → Option (List ℤ)
after done left = option_map (λ l. done ++ l) left

one-read : (done : List ℤ) (z : ℤ) (left : Option (List ℤ)) → after done (before (Some z) left) ≡ after (done ++ (z ∷ [])) left
one-read done z None = refl
one-read done z (Some l) = ap (λ m. Some m) (sym (append_assoc done (z ∷ []) l))

-- there is no room for one more
no-room : (room : ℕ) (done : List ℤ) (x : Option ℤ) (y : Option (List ℤ)) → room ≤ length done → within room (after done (before x y)) ≡ None
no-room room done None y h = refl
no-room room done (Some z) None h = refl
no-room room done (Some z) (Some l) h =
    let long : length (done ++ (z ∷ l)) ≡ length done + suc (length l) = length-append done (z ∷ l) in
    let more : leb (length (done ++ (z ∷ l))) room ≡ false = grind (arith, nat_tests) in
    rw more refl

-- all are read
all-read : (room : ℕ) (done : List ℤ) (z : ℤ) → length done < room → within room (after done (before (Some z) (Some []))) ≡ Some (done ++ (z ∷ []))
all-read room done z h =
    let long : length (done ++ (z ∷ [])) ≡ length done + 1 = length-append done (z ∷ []) in
    let fits : leb (length (done ++ (z ∷ []))) room ≡ true = grind (arith, nat_tests) in
    rw fits refl

-- ---- the loop's ways on and out: w says what is read and what is left
module _ (k : ℕ) (whole : Option (List ℤ)) (done : List ℤ) (rest : List ℕ) (w : whole ≡ after done (numbers_of [] rest)) where
  module _ (part more : List ℕ) (e : both part more ≡ split_of 32 rest) where
    left : whole ≡ after done (before (decimal_of part) (numbers_of [] more))
    left = w ∙ ap (after done) (parted rest part more e)

    pub broken : decimal_of part ≡ None → within k whole ≡ None
    broken d = ap (within k) (left ∙ ap (λ x. after done (before x (numbers_of [] more))) d)

    pub full : k ≤ length done → within k whole ≡ None
    full h = ap (within k) left ∙ no-room k done (decimal_of part) (numbers_of [] more) h

    pub read-on : (z : ℤ) → decimal_of part ≡ Some z → whole ≡ after (done ++ (z ∷ [])) (numbers_of [] more)
    read-on z d = left ∙ ap (λ x. after done (before x (numbers_of [] more))) d ∙ one-read done z (numbers_of [] more)

  module _ (e : None ≡ split_of 32 rest) where
    left-last : whole ≡ after done (before (decimal_of rest) (Some []))
    left-last = w ∙ ap (after done) (last-part rest e)

    pub broken-last : decimal_of rest ≡ None → within k whole ≡ None
    broken-last d = ap (within k) (left-last ∙ ap (λ x. after done (before x (Some []))) d)

    pub full-last : k ≤ length done → within k whole ≡ None
    full-last h = ap (within k) left-last ∙ no-room k done (decimal_of rest) (Some []) h

    pub read-last : (z : ℤ) → decimal_of rest ≡ Some z → length done < k → within k whole ≡ Some (done ++ (z ∷ []))
    read-last z d h = ap (within k) (left-last ∙ ap (λ x. after done (before x (Some []))) d) ∙ all-read k done z h
