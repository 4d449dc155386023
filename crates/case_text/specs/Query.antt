-- A line of a queries text (oracle/README.md): two numbers with a space between them.
use Rattle.std.specs.Prelude.{ℕ, ◌+◌, ◌==◌, List, take, drop, ℤ, Option, option_map, position}
use Rattle.std.specs.Option.{option_and_then}
use Rattle.case_text.specs.Decimal.{decimal_of}

-- The bytes before the first b and those after it, where there is one.
abbrev pub split_of : ℕ → List ℕ → Option (List ℕ × List ℕ)
split_of b s = option_map (λ n. (take n s, drop (n + 1) s)) (position (λ x. x == b) s)

-- Both of two values.
abbrev pub pair_of : {A B : Type 0} → Option A → Option B → Option (A × B)
pair_of x y = option_and_then (λ a. option_map (λ b. (a, b)) y) x

-- The numbers before and after the first space.
unfoldable pub query_of : List ℕ → Option (ℤ × ℤ)
query_of s = option_and_then (λ p. pair_of (decimal_of p.0) (decimal_of p.1)) (split_of 32 s)
