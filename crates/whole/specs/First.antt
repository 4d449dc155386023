-- The lowest number below n of which a test holds, or n where there is none: what a scan from the front finds.
-- A scan's invariant is that no number before i passes (`some_at` at a hit, `some-none` at the end), or, where the number found is wanted, that the rest
-- of the scan finds it. Assumes nothing.
use Rattle.std.specs.Prelude.{cond, Option, None, Some, ◌≡◌, refl, Bool, true, false, ℕ, zero, suc, ◌+◌, ◌-◌, ◌≤◌, ◌<◌, ◌⊎◌, ltb}
use Rattle.std.proofs.Common.{sym, ap, subst, ◌∙◌, zero-le, lt_of_lt_of_le, lt_irrefl, not-le_of_lt, eq-or-lt_of_le, add-suc, suc-add, add-zero, zero-add, inl, inr, ⊎_elim, ltb-true, ltb-false, below_more, add-one, arith}
use Rattle.std.proofs.lemmas.Bool.{false≢true}
use Rattle.std.proofs.Math.Nat.{sub-zero}
use Rattle.whole.specs.Bools.{is_false}

-- from i on, among the next k numbers
unfoldable pub from : (ℕ → Bool) → ℕ → ℕ → ℕ
from p i zero = i
from p i (suc k) = elim (p i) [ true ↦ i | false ↦ from p (suc i) k ]

-- from 0 on, among the numbers below n
abbrev pub first : (ℕ → Bool) → ℕ → ℕ
first p n = from p 0 n

-- a hit at i
from-true : (p : ℕ → Bool) (i k : ℕ) → p i ≡ true → from p i (suc k) ≡ i
unfolding from
from-true p i k e = rw (e, from) refl

-- a miss at i
from_false : (p : ℕ → Bool) (i k : ℕ) → p i ≡ false → from p i (suc k) ≡ from p (suc i) k
unfolding from
from_false p i k e = rw (e, from) refl

-- no number left
from-nil : (p : ℕ → Bool) (i : ℕ) → from p i zero ≡ i
unfolding from
from-nil p i = refl

-- ---- a scan whose invariant is `first p n ≡ from p i (n - i)`: it begins so
pub first-from : (p : ℕ → Bool) (n : ℕ) → first p n ≡ from p 0 (n - 0)
first-from p n = rw sub-zero

-- it finds i
pub from-hit : (p : ℕ → Bool) (i n : ℕ) → i < n → p i ≡ true → from p i (n - i) ≡ i
from-hit p i n h e =
    let s : n - i ≡ suc (n - suc i) = omega arith in ap (λ (k : ℕ). from p i k) s ∙ from-true p i (n - suc i) e

-- it goes on
pub from-miss : (p : ℕ → Bool) (i n : ℕ) → i < n → p i ≡ false → from p i (n - i) ≡ from p (i + 1) (n - (i + 1))
from-miss p i n h e =
    let s : n - i ≡ suc (n - suc i) = omega arith in
    ap (λ (k : ℕ). from p i k) s ∙ from_false p i (n - suc i) e ∙ ap (λ (j : ℕ). from p j (n - j)) (sym (add-one i))

-- it ends
pub from_end : (p : ℕ → Bool) (i n : ℕ) → n ≤ i → from p i (n - i) ≡ i
from_end p i n h = let z : n - i ≡ zero = omega arith in ap (λ (k : ℕ). from p i k) z ∙ from-nil p i

-- ---- what the number found says
from-split : (p : ℕ → Bool) (i k : ℕ) (b : Bool) → p i ≡ b → (P : ℕ → Type 0) → (b ≡ true → P i) → (b ≡ false → P (from p (suc i) k)) → P (from p i (suc k))
from-split p i k true e P hit miss = subst P (sym (from-true p i k e)) (hit refl)
from-split p i k false e P hit miss = subst P (sym (from_false p i k e)) (miss refl)

-- nothing before it passes
from-before : (p : ℕ → Bool) (i m k : ℕ) → i ≤ k → k < from p i m → p k ≡ false
from-before p i zero k l h = absurd (not-le_of_lt h (subst (λ (r : ℕ). r ≤ k) (sym (from-nil p i)) l))
from-before p i (suc m) k l h =
    from-split p i m (p i) refl (λ (r : ℕ). k < r → p k ≡ false) (λ e g. absurd (not-le_of_lt g l))
    (λ e g.
    ⊎_elim (λ (q : i ≡ k). subst (λ (x : ℕ). p x ≡ false) q e) (λ (q : i < k). from-before p (suc i) m k q g) (eq-or-lt_of_le l))
    h

-- one that is below the end passes
from_found : (p : ℕ → Bool) (i m : ℕ) → from p i m < i + m → p (from p i m) ≡ true
from_found p i zero h = absurd (lt_irrefl i (subst (λ (r : ℕ). r < i) (from-nil p i) (subst (λ (n : ℕ). from p i zero < n) (add-zero i) h)))
from_found p i (suc m) h =
    from-split p i m (p i) refl (λ (r : ℕ). r < i + suc m → p r ≡ true) (λ e g. e)
    (λ e g. from_found p (suc i) m (subst (λ (n : ℕ). from p (suc i) m < n) (add-suc i m ∙ sym (suc-add i m)) g)) h

-- nothing before what is found passes
pub first-before : (p : ℕ → Bool) (n k : ℕ) → k < first p n → p k ≡ false
first-before p n k h = from-before p 0 n k zero-le h

-- what is found below n passes
pub first_found : (p : ℕ → Bool) (n : ℕ) → first p n < n → p (first p n) ≡ true
first_found p n h = from_found p 0 n (subst (λ (k : ℕ). first p n < k) (sym (zero-add n)) h)

-- ---- whether there is one
abbrev pub some : (ℕ → Bool) → ℕ → Bool
some p n = ltb (first p n) n

-- none below n passes
pub none-at : (p : ℕ → Bool) (n : ℕ) → some p n ≡ false → (k : ℕ) → k < n → p k ≡ false
none-at p n e k h = first-before p n k (lt_of_lt_of_le h (ltb-false (first p n) n e))

-- one below n that passes
pub some_at : (p : ℕ → Bool) (n i : ℕ) → i < n → p i ≡ true → some p n ≡ true
some_at p n i l e = choose (some p n) refl
  where
    choose : (b : Bool) → some p n ≡ b → some p n ≡ true
    choose true h = h
    choose false h = absurd (false≢true (sym (none-at p n h i l) ∙ e))

-- where none below n passes, nothing is found
pub some-none : (p : ℕ → Bool) (n : ℕ) → ((k : ℕ) → k < n → p k ≡ false) → some p n ≡ false
some-none p n h = is_false (some p n) (λ e. let l = ltb-true (first p n) n e in false≢true (sym (h (first p n) l) ∙ first_found p n l))

-- there is one below n that passes, or none does
pub some_or_none : (p : ℕ → Bool) (n : ℕ) → ((i : ℕ) × (i < n) × (p i ≡ true)) ⊎ ((i : ℕ) → i < n → p i ≡ false)
some_or_none p n = choose (some p n) refl
  where
    choose : (b : Bool) → some p n ≡ b → ((i : ℕ) × (i < n) × (p i ≡ true)) ⊎ ((i : ℕ) → i < n → p i ≡ false)
    choose true e = let l = ltb-true (first p n) n e in inl (first p n, l, first_found p n l)
    choose false e = inr (none-at p n e)

-- one more that does not pass
pub some-skip : (p : ℕ → Bool) (n : ℕ) → p n ≡ false → some p (n + 1) ≡ some p n
some-skip p n e = choose (some p n) refl
  where
    choose : (b : Bool) → some p n ≡ b → some p (n + 1) ≡ some p n
    choose true h =
        let l = ltb-true (first p n) n h in
        some_at p (n + 1) (first p n) (omega arith) (first_found p n l) ∙ sym h
    choose false h = some-none p (n + 1) (below_more _ _ (none-at p n h) e) ∙ sym h

-- the number found, if there is one
abbrev pub found : (ℕ → Bool) → ℕ → Option ℕ
found p n = cond (some p n) (Some (first p n)) None
