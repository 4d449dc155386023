-- Lines of a batch text (oracle/README.md): two or three numbers with a space between any two.
use Rattle.std.specs.Prelude.{ℕ, ◌==◌, List, [], ◌∷◌, ◌++◌, cond, length, leb, ℤ, Option, Some, None, option_map}
use Rattle.std.specs.Option.{option_and_then}
use Rattle.case_text.specs.Decimal.{natural_of, decimal_of}
use Rattle.case_text.specs.Query.{split_of, pair_of}
use Rattle.batch_text.specs.declared.Opening.{Opening}

-- The numbers before and after the first space.
unfoldable pub two_of : List ℕ → Option (ℕ × ℕ)
two_of s = option_and_then (λ p. pair_of (natural_of p.0) (natural_of p.1)) (split_of 32 s)

-- The number before the first space, and the two after it.
unfoldable pub opening_of : List ℕ → Option Opening
opening_of s =
    option_and_then (λ p. option_map (λ t. record { sections = t.0; retired = t.1.0; room = t.1.1 }) (pair_of (natural_of p.0) (two_of p.1))) (split_of 32 s)

-- A number before others.
abbrev pub before : Option ℤ → Option (List ℤ) → Option (List ℤ)
before x y = option_and_then (λ z. option_map (λ l. z ∷ l) y) x

-- The numbers of what is left of a line, after `part` of the first: a space ends a number, and so does the line's end.
unfoldable pub numbers_of : List ℕ → List ℕ → Option (List ℤ)
numbers_of part [] = before (decimal_of part) (Some [])
numbers_of part (b ∷ s) = cond (b == 32) (before (decimal_of part) (numbers_of [] s)) (numbers_of (part ++ (b ∷ [])) s)

-- The numbers of an entry slice; an empty line has none.
abbrev pub slice_of : List ℕ → Option (List ℤ)
slice_of [] = Some []
slice_of (b ∷ s) = numbers_of [] (b ∷ s)

-- The same where there are no more of them than there is room for.
abbrev pub within : ℕ → Option (List ℤ) → Option (List ℤ)
within room None = None
within room (Some l) = cond (leb (length l) room) (Some l) None
