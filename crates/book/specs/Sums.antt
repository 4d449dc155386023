-- Sums over a list: of its first elements, and after a store. Assumes nothing.
use Rattle.std.specs.Prelude.{◌≡◌, List, [], ◌∷◌, ℕ, zero, suc, ◌+◌, ◌≤◌, ◌<◌, length, get_or, set, take}
use Rattle.std.proofs.Common.{ap, ◌∙◌, zero-le, not-suc-le-zero, le_of_suc-le-suc, add-one, arith, take_all}
use Rattle.book.specs.Books.{sum_of}

-- one element more
sum-suc : (l : List ℕ) (i : ℕ) → i < length l → sum_of (take (suc i) l) ≡ sum_of (take i l) + get_or l i 0
sum-suc [] i h = absurd (not-suc-le-zero h)
sum-suc (x ∷ l) zero h = omega arith
sum-suc (x ∷ l) (suc i) h = omega (arith, sum-suc l i (le_of_suc-le-suc h))

pub sum-next : (l : List ℕ) (i : ℕ) → i < length l → sum_of (take (i + 1) l) ≡ sum_of (take i l) + get_or l i 0
sum-next l i h = ap (λ (k : ℕ). sum_of (take k l)) (add-one i) ∙ sum-suc l i h

-- the first elements and the next one are a part of the sum
pub sum-part : (l : List ℕ) (i : ℕ) → sum_of (take i l) + get_or l i 0 ≤ sum_of l
sum-part [] zero = zero-le
sum-part [] (suc i) = zero-le
sum-part (x ∷ l) zero = omega arith
sum-part (x ∷ l) (suc i) = omega (arith, sum-part l i)

-- all elements
pub sum-all : (l : List ℕ) (i : ℕ) → length l ≤ i → sum_of (take i l) ≡ sum_of l
sum-all l i h = ap sum_of (take_all i l h)

-- an element is at most the sum
pub at-le-sum : (l : List ℕ) (i : ℕ) → get_or l i 0 ≤ sum_of l
at-le-sum l i = omega (arith, sum-part l i)

-- after a store the sum has the new element for the old one
pub sum-set : (l : List ℕ) (i v : ℕ) → i < length l → sum_of (set l i v) + get_or l i 0 ≡ sum_of l + v
sum-set [] i v h = absurd (not-suc-le-zero h)
sum-set (x ∷ l) zero v h = omega arith
sum-set (x ∷ l) (suc i) v h = omega (arith, sum-set l i v (le_of_suc-le-suc h))

pub ruleset sum_steps = (sum-next, sum-part)
