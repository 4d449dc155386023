-- The lines of a text (oracle/README.md), one after another.
use Rattle.std.specs.Prelude.{ℕ, List, [], ◌∷◌, Option, Some, None, option_map}
use Rattle.case_text.specs.Query.{split_of}
use denote.Ref.{Bor}

-- what an answer of the code says: a line's bytes, or that the last line has no end
abbrev pub line_says : Option (Option (Bor (List ℕ))) → Option (Option (List ℕ))
line_says r = option_map (option_map (λ l. l.now)) r

-- the first line without its end, `Some None` where it has no end; none where nothing is left
abbrev pub line_of : List ℕ → Option (Option (List ℕ))
line_of [] = None
line_of (b ∷ s) = Some (option_map (λ p. p.0) (split_of 10 (b ∷ s)))

abbrev pub second_of : Option (List ℕ × List ℕ) → List ℕ
second_of None = []
second_of (Some p) = p.1

-- what stands after it; nothing where it has no end
abbrev pub after_line : List ℕ → List ℕ
after_line s = second_of (split_of 10 s)
