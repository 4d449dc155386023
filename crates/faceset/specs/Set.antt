-- Sets of numbers as predicates, their counts, and the set that a list of 64-bit words holds.
use Rattle.std.specs.Prelude.{◌≡◌, ℕ, zero, suc, ◌+◌, ◌/◌, ◌%◌, ◌^◌, ◌≤◌, Bool, true, false, ◌||◌, List, get_or, eqb}

-- no number
unfoldable pub none : ℕ → Bool
none g = false

-- p, and f
unfoldable pub add : ℕ → (ℕ → Bool) → ℕ → Bool
add f p g = eqb g f || p g

-- 1 for true
abbrev pub one : Bool → ℕ
one true = 1
one false = 0

-- how many numbers below n are in p
unfoldable pub count_below : ℕ → (ℕ → Bool) → ℕ
count_below zero p = 0
count_below (suc n) p = one (p n) + count_below n p

-- digit k of w is set
unfoldable pub bit : ℕ → ℕ → Bool
bit w k = eqb (w / 2 ^ k % 2) 1

-- g is in the set that the words ws hold: digit g % 64 of word g / 64
unfoldable pub has : List ℕ → ℕ → Bool
unfolding bit
has ws g = bit (get_or ws (g / 64) 0) (g % 64)

-- nothing from n on is in p
abbrev pub Below : ℕ → (ℕ → Bool) → Type 0
Below n p = (g : ℕ) → n ≤ g → p g ≡ false
