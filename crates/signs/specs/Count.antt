-- How many numbers below n pass a test: a measure. Assumes nothing.
use Rattle.std.specs.Prelude.{◌≡◌, refl, Bool, true, false, ℕ, zero, suc, ◌+◌, ◌<◌, ◌≤◌}
use Rattle.std.proofs.Common.{subst, sym, arith}
use Rattle.std.proofs.lemmas.Bool.{false≢true}
use Rattle.std.proofs.Math.Decide.{ℕ_discrete}

unfoldable pub one : Bool → ℕ
one true = 1
one false = 0

unfoldable pub count : (ℕ → Bool) → ℕ → ℕ
count p zero = 0
count p (suc n) = count p n + one (p n)

one-most : (b : Bool) → one b ≤ 1
unfolding one
one-most true = omega arith
one-most false = omega arith

pub count_most : (p : ℕ → Bool) (n : ℕ) → count p n ≤ n
unfolding count
count_most p zero = omega arith
count_most p (suc n) = omega (arith, count_most p n, one-most (p n))

one-sub : (a b : Bool) → (a ≡ true → b ≡ true) → one a ≤ one b
unfolding one
one-sub true true h = omega arith
one-sub true false h = absurd (false≢true (h refl))
one-sub false b h = zero-least (one b)
  where
    zero-least : (m : ℕ) → 0 ≤ m
    zero-least m = omega arith

pub count-sub : (p r : ℕ → Bool) (n : ℕ) → ((k : ℕ) → p k ≡ true → r k ≡ true) → count p n ≤ count r n
unfolding count
count-sub p r zero h = omega arith
count-sub p r (suc n) h = omega (arith, count-sub p r n h, one-sub (p n) (r n) (h n))

-- a set within another that has one more number
pub count_less : (p r : ℕ → Bool) (n d : ℕ) → d < n → p d ≡ false → r d ≡ true → ((k : ℕ) → p k ≡ true → r k ≡ true) → count p n < count r n
unfolding count one
count_less p r zero d l m e h = absurd (omega arith)
count_less p r (suc n) d l m e h = pick (ℕ_discrete d n) (count_less p r n d)
  where
    at : (a b : Bool) → a ≡ false → b ≡ true → count p n ≤ count r n → count p n + one a < count r n + one b
    at true b x y s = absurd (false≢true (sym x))
    at false true x y s = omega arith
    at false false x y s = absurd (false≢true y)

    pick : Dec (d ≡ n) → (d < n → p d ≡ false → r d ≡ true → ((k : ℕ) → p k ≡ true → r k ≡ true) → count p n < count r n) → count p n + one (p n) < count r n + one (r n)
    pick (yes f) ih = at (p n) (r n) (subst (λ (k : ℕ). p k ≡ false) f m) (subst (λ (k : ℕ). r k ≡ true) f e) (count-sub p r n h)
    pick (no f) ih = let s : count p n < count r n = ih (omega arith) m e h in omega (arith, s, one-sub (p n) (r n) (h n))
