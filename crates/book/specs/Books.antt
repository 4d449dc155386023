-- 01, "Charge, entry, book": the book's numbers, what a bend and a splice make of them, and row 1.
use Rattle.std.specs.Prelude.{◌≡◌, List, [], ◌∷◌, Bool, not, cond, ◌&&◌, ◌||◌, ℕ, ◌+◌, ◌^◌, ◌≤◌, ◌<◌, ltb, leb, eqb, length, get_or, set, replicate}
use Rattle.whole.specs.First.{some}
use Rattle.book.specs.declared.Book.{Book}
use Rattle.book.specs.Returned.{Returned}

-- the account's limit, 10^12 (rows 1 and 17)
abbrev pub account_max : ℕ
account_max = 1000000000000

-- the most sections that a book has
abbrev pub section_max : ℕ
section_max = 16

-- the sum of a list
abbrev pub sum_of : List ℕ → ℕ
sum_of [] = 0
sum_of (x ∷ xs) = x + sum_of xs

-- a section's wear
abbrev pub wear_of : Book → ℕ → ℕ
wear_of b s = get_or b.wear s 0

-- a section's bend count
abbrev pub count_of : Book → ℕ → ℕ
count_of b s = get_or b.bends s 0

-- wear of all sections plus retired wear
abbrev pub total_wear : Book → ℕ
total_wear b = b.retired + sum_of b.wear

-- ---- the book's changes
-- an accepted bend adds n to the section's wear and 1 to its bend count
abbrev pub charge_book : Book → ℕ → ℕ → Book
charge_book b s n =
    record { sections = b.sections; wear = set b.wear s (wear_of b s + n); bends = set b.bends s (count_of b s + 1); retired = b.retired }

-- a splice moves the wear to retired wear, sets wear and count to 0
abbrev pub splice_book : Book → ℕ → Book
splice_book b s =
    record { sections = b.sections; wear = set b.wear s 0; bends = set b.bends s 0; retired = b.retired + wear_of b s }

-- what a bend's sums ask of the book
pub record ChargeFits (b : Book) (s n : ℕ) : Type 0 where
  pub section-fits : s < section_max
  pub wear-fits : wear_of b s + n < 2 ^ 64
  pub count_fits : count_of b s + 1 < 2 ^ 64

-- what a splice's sum asks of the book
pub record SpliceFits (b : Book) (s : ℕ) : Type 0 where
  pub section-fits : s < section_max
  pub retired-fits : b.retired + wear_of b s < 2 ^ 64

-- ---- row 1
-- sections not 1 to 16
abbrev pub bad_sections : ℕ → Bool
bad_sections s = ltb s 1 || ltb section_max s

-- wear of all sections plus retired wear above 10^12
abbrev pub wear_above : List ℕ → ℕ → Bool
wear_above wear retired = ltb account_max (retired + sum_of wear)

-- a bend count above 10^12
abbrev pub count_above : List ℕ → ℕ → Bool
count_above bends i = ltb account_max (get_or bends i 0)

-- a section at or past the section count not all zero
abbrev pub stray_numbers : ℕ → ℕ → ℕ → ℕ → Bool
stray_numbers sections i w c = leb sections i && (not (eqb w 0) || not (eqb c 0))

-- the same of place i of the arrays
abbrev pub stray_at : ℕ → List ℕ → List ℕ → ℕ → Bool
stray_at sections wear bends i = stray_numbers sections i (get_or wear i 0) (get_or bends i 0)

-- 1 meets the book
unfoldable pub bad_book : Book → Bool
bad_book b =
    bad_sections b.sections
    || (wear_above b.wear b.retired
    || (some (count_above b.bends) section_max || some (stray_at b.sections b.wear b.bends) section_max))

-- its number, 0 for none
abbrev pub book_refusal : Book → ℕ
book_refusal b = cond (bad_book b) 1 0

-- the same as plain facts, with the lengths that the arrays have
pub record ValidBook (b : Book) : Type 0 where
  pub some-section : 1 ≤ b.sections
  pub few-sections : b.sections ≤ section_max
  pub total-within : total_wear b ≤ account_max
  pub counts-within : (s : ℕ) → count_of b s ≤ account_max
  pub wear-past : (s : ℕ) → b.sections ≤ s → wear_of b s ≡ 0
  pub count_past : (s : ℕ) → b.sections ≤ s → count_of b s ≡ 0
  pub wear-long : length b.wear ≡ section_max
  pub bends-long : length b.bends ≡ section_max

-- ---- the fresh book
-- s sections, all zero
abbrev pub zero_book : ℕ → Book
zero_book s = record { sections = s; wear = replicate section_max 0; bends = replicate section_max 0; retired = 0 }

-- a fresh book has s sections, all zero; an s not 1 to 16 gets refusal 1 beside a book of 0 sections, all zero
abbrev pub fresh_book : ℕ → Returned
fresh_book s = cond (bad_sections s) (record { refusal = 1; book = zero_book 0 }) (record { refusal = 0; book = zero_book s })
