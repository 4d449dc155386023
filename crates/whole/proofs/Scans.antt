-- What the iterators' methods find on a range, in the words of First.
use Rattle.std.specs.Prelude.{cond, ◌≡◌, refl, ◌⊎◌, Bool, true, false, ℕ, zero, ◌≤◌, ◌<◌, List, length, get_or, replicate, Option, None, Some}
use Rattle.std.proofs.Common.{sym, ap, ap₂, subst, ◌∙◌, zero-add, zero-le, inl, inr, ⊎_elim, ltb-true, arith}
use Rattle.std.proofs.lemmas.Bool.{cases_order, true≢false}
use Rattle.std.specs.List.{range_with_len}
use Rattle.std.specs.Bool.{MatchBool, ⊤}
use Rattle.std.specs.Option.{MatchOption}
use Rattle.std.specs.Fn.{Called, CalledAt}
use Rattle.std.specs.Iterator.{YieldsThen}
use Rattle.std.specs.List.{FoldsTo, AllWithin, HoldsAt}
use Rattle.std.proofs.iter.Yields.{nat_range_steps}
use Rattle.std.proofs.iter.runs.Sources.{range_listed}
use lib.ListN.{get_or-replicate}
use Rattle.std.proofs.lemmas.Iterator.{YieldsList-from_range, cases_from_any, first_from_Range}
use Rattle.std.proofs.lemmas.List.FromFn.{length-range_with_len, get_or-range_with_len}
use Rattle.std.specs.declared.ops.Range.{Range}
use denote.Param.Members.{Mut}
use denote.Ref.{Bor}
use Rattle.whole.specs.First.{found, first, from, first-before, first_found, some, some_at, some-none, none-at}

bounds : (s : Range ℕ) {n : ℕ} → s.start ≡ 0 → s.end ≡ n → s ≡ record { start = 0; end = n }
bounds s start end = ap₂ (λ (a b : ℕ). record { start = a; end = b }) start end

is_some : (p : ℕ → Bool) (n : ℕ) (r : Bool) → MatchBool r ((k : ℕ) × (k < n) × (p k ≡ true)) ((k : ℕ) → k < n → p k ≡ false) → r ≡ some p n
is_some p n true (k, l, e) = sym (some_at p n k l e)
is_some p n false h = sym (some-none p n h)

-- `(0..n).any(..)`, whose closure computes p: whether p holds of some number below n
pub some_from_any : {F : Type 0} {g : Mut F (ℕ × Unit {0}) Bool} {s : Range ℕ} (p : ℕ → Bool) (n : ℕ) (u : Range ℕ) (f : F) (r : Bool)
    → (xs : List ℕ) × (o : Option ℕ) × (j : F) × YieldsThen nat_range_steps s xs o u × FoldsTo (λ q x t. Called g q (x, tt) false t) f xs j × MatchOption o (r ≡ false) (λ x. (r ≡ true) × ((h : F) × Called g j (x, tt) true h))
    → s.start ≡ 0
    → s.end ≡ n
    → ((x : ℕ) (b : Bool) (q : F) → Called g f (x, tt) b q → (q ≡ f) × (b ≡ p x))
    → r ≡ some p n
some_from_any {s = s} p n u f r ran start end computes =
    is_some p n r
    (places r (cases_from_any u f r (λ x. p x ≡ true) (λ x. p x ≡ false) ran (YieldsList-from_range 0 n n (bounds s start end) (omega arith)) (λ x q c. sym (computes x true q c).1) (λ x q c. ((computes x false q c).0, sym (computes x false q c).1))))
  where
    places : (b : Bool) → MatchBool b ((k : ℕ) × (k < length (range_with_len 0 n)) × HoldsAt (λ x. p x ≡ true) (range_with_len 0 n) k) (AllWithin (λ x. p x ≡ false) (range_with_len 0 n) 0 (length (range_with_len 0 n))) → MatchBool b ((k : ℕ) × (k < n) × (p k ≡ true)) ((k : ℕ) → k < n → p k ≡ false)
    places true (k, l, h) = let m = subst (λ (x : ℕ). k < x) (length-range_with_len 0 n) l in (k, m, subst (λ (x : ℕ). p x ≡ true) (get_or-range_with_len 0 n k 0 m ∙ zero-add k) (h 0))
    places false h = λ k m. subst (λ (x : ℕ). p x ≡ false) (get_or-range_with_len 0 n k 0 m ∙ zero-add k) (h k 0 (omega arith) (subst (λ (x : ℕ). k < x) (sym (length-range_with_len 0 n)) m))

-- where p holds of i and of none before it
first_is : (p : ℕ → Bool) (n i : ℕ) → i < n → p i ≡ true → ((k : ℕ) → k < i → p k ≡ false) → first p n ≡ i
first_is p n i l e before =
    ⊎_elim (λ (q : first p n ≡ i). q)
    (⊎_elim (λ (q : first p n < i). absurd (true≢false (sym (first_found p n (omega arith)) ∙ before (first p n) q)))
    (λ (q : i < first p n). absurd (true≢false (sym e ∙ first-before p n i q))))
    (cases_order (first p n) i)

is_found : (p : ℕ → Bool) (n : ℕ) (r : Option ℕ) → MatchOption r ((k : ℕ) → 0 ≤ k → k < n → p k ≡ false) (λ i. (0 ≤ i) × (i < n) × (p i ≡ true) × ((k : ℕ) → 0 ≤ k → k < i → p k ≡ false)) → r ≡ found p n
is_found p n None h = ap (λ (b : Bool). cond b (Some (first p n)) None) (sym (some-none p n (λ k l. h k zero-le l)))
is_found p n (Some i) (z, l, e, before) = ap Some (sym (first_is p n i l e (λ k. before k zero-le))) ∙ ap (λ (b : Bool). cond b (Some (first p n)) None) (sym (some_at p n i l e))

-- `(0..n).find(..)`, whose closure computes p
pub found_from_find : {F : Type 0} {g : Mut F (Bor ℕ × Unit {0}) Bool} {s : Range ℕ} (p : ℕ → Bool) (n : ℕ) (u : Range ℕ) (f : F) (r : Option ℕ)
    → (xs : List ℕ) × (j : F) × YieldsThen nat_range_steps s xs r u × FoldsTo (λ q x t. CalledAt g q x false t) f xs j × MatchOption r ⊤ (λ x. (h : F) × CalledAt g j x true h)
    → s.start ≡ 0
    → s.end ≡ n
    → ((x : ℕ) (b : Bool) (q : F) → CalledAt g f x b q → (q ≡ f) × (b ≡ p x))
    → r ≡ found p n
found_from_find {s = s} p n u f r ran start end computes =
    is_found p n r (subst (λ (q : Range ℕ). MatchOption r ((k : ℕ) → q.start ≤ k → k < q.end → p k ≡ false) (λ i. (q.start ≤ i) × (i < q.end) × (p i ≡ true) × ((k : ℕ) → q.start ≤ k → k < i → p k ≡ false))) (bounds s start end)
    (first_from_Range s u f r (λ x. p x ≡ true) (λ x. p x ≡ false) ran (λ x q c. sym (computes x true q c).1) (λ x q c. ((computes x false q c).0, sym (computes x false q c).1))))

-- What `first p n` is, for the search: a number that passes, or else none does. The search takes what a range gave at a place where a list is read there,
-- and so one is.
abbrev Looked : (ℕ → Bool) → ℕ → Type 0
Looked p n = (from p 0 n ≡ from p 0 n) × (((first p n < n) × (p (first p n) ≡ true) × (get_or (replicate n zero) (first p n) zero ≡ zero)) ⊎ ((some p n ≡ false) × ((k : ℕ) → k < n → p k ≡ false)))

looked_by : (p : ℕ → Bool) (n : ℕ) (t : Bool) → some p n ≡ t → Looked p n
looked_by p n true e = let l : first p n < n = ltb-true _ _ e in (refl, inl (l, first_found p n l, get_or-replicate n (first p n) zero zero l))
looked_by p n false e = (refl, inr (e, λ k l. none-at p n e k l))

pub looked : (p : ℕ → Bool) (n : ℕ) → Looked p n
looked p n = looked_by p n (some p n) refl

-- with it the search finds that `(0..n).any(..)` is `some p n`
pub ruleset scans = (looked, range_listed)
