-- The lines that `answers` prints (oracle/README.md), as far as contracts name them. Assumes nothing.
use Rattle.std.specs.Prelude.{ℕ, List, ◌++◌, cond, is_nan, to_bits, codes}
use Rattle.std.specs.List.{flat_map}
use Rattle.std.specs.Float.{Float, binary64}
use Rattle.std.specs.Fmt.{decimal}

-- a float as its 64 bits; a not-a-number has no bits of its own
abbrev pub bits_text : Float → List ℕ
bits_text x = cond (is_nan x) (codes "nan") (decimal (to_bits binary64 x))

-- numbers, each after a space
abbrev pub spaced : List ℕ → List ℕ
spaced ns = flat_map (λ n. codes " " ++ decimal n) ns

-- the rest of a line that ends in numbers
abbrev pub numbers_line : List ℕ → List ℕ
numbers_line ns = spaced ns ++ codes "\n"

-- the answers to a batch
abbrev pub answers_line : List ℕ → List ℕ
answers_line ns = codes "answers" ++ numbers_line ns

-- a batch that is refused as a whole
abbrev pub refused_line : ℕ → List ℕ
refused_line n = codes "refused " ++ (decimal n ++ codes "\n")
