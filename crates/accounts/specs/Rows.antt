-- Worked examples, computed from the definitions, with 01's numbers written out: 12, 13 and 17 of an entry, the sums over a history, two ropes, and 1 and 2 of a
-- call. Assumes nothing.
use Rattle.std.specs.Prelude.{◌≡◌, refl, List, [], ◌∷◌, ◌++◌, true, false, cond, ℕ, ◌+◌, eqb, replicate, ℤ, pos, negsuc}
use Rattle.std.specs.Float.{binary64}
use Rattle.std.specs.Float.Ieee.{of_bits}
use Rattle.whole.specs.First.{from}
use Rattle.geometry.specs.Plane.{off_grid}
use Rattle.ranges.specs.Ranges.{not_below}
use Rattle.reading.specs.Reading.{head_of, chart_in}
use Rattle.book.specs.declared.Book.{Book}
use Rattle.book.specs.Returned.{Returned}
use Rattle.book.specs.Books.{bad_book, fresh_book}
use Rattle.entries.specs.declared.Entry.{Entry}
use Rattle.entries.specs.Ruling.{Ruling}
use Rattle.entries.specs.Ruling.Ruling.{Bend, Splice, Refused}
use Rattle.entries.specs.Ruling.{meets17, with17, answer_of}
use Rattle.values.specs.Value.{Answer}
use Rattle.accounts.specs.Rulings.{Queries, entry_ruling}
use Rattle.accounts.specs.Batch.{book_verdict, book_after, bad_slices, batch_refusal}
use Rattle.accounts.specs.Tally.{charges, wear_sum, bend_count}
use Rattle.accounts.specs.Demand.{fresh}

-- a history with a splice of section 0, and an entry that 14 refuses
unfoldable pub history : List Ruling
history = Bend 0 5 ∷ Bend 1 9 ∷ Splice 0 ∷ Bend 0 7 ∷ Refused 14 ∷ Bend 0 3 ∷ []

-- a value of 100.0 for every load
abbrev pub hundred : Queries
hundred chart method place = Answer.value (of_bits binary64 0x4059_0000_0000_0000)

-- outside for every load
abbrev pub outside : Queries
outside chart method place = Answer.turned_down 14

-- a bend and a splice of section 0
abbrev pub bend : Entry
bend = record { kind = pos 1; section = pos 0; x = pos 2; y = pos 3; method = pos 1 }

abbrev pub splice : Entry
splice = record { kind = pos 2; section = pos 0; x = pos 0; y = pos 0; method = pos 0 }

-- the ruling on an entry of these five numbers, in a book of two sections
abbrev rule : ℤ → ℤ → ℤ → ℤ → ℤ → Ruling
rule kind section x y method = entry_ruling hundred 2 [] (record { kind = kind; section = section; x = x; y = y; method = method })

-- the ropes' books: two bends, a splice, a bend in two batches
abbrev pub rope_one : Book
rope_one = book_after hundred [] (book_after hundred [] (fresh 2) (bend ∷ bend ∷ splice ∷ [])) (bend ∷ [])

abbrev pub rope_two : Book
rope_two = book_after hundred [] (book_after hundred [] (fresh 2) (bend ∷ [])) (bend ∷ splice ∷ bend ∷ [])

pub record AccountRows : Type 0 where
  -- 17: "above 10^12": so much may the charges come to, and one more not
  pub last-unit : meets17 999999999999 0 1 ≡ false
  pub unit-too-many : meets17 999999999999 0 2 ≡ true
  pub last-units : meets17 999999000000 0 1000000 ≡ false
  -- 17: "or the section's count is 10^12"
  pub last-bend : meets17 0 999999999999 1000000 ≡ false
  pub bend-too-many : meets17 0 1000000000000 0 ≡ true
  -- 17: "the charge would take wear .. above 10^12": on a full account a bend that costs nothing is accepted
  pub free-when-full : with17 1000000000000 (λ i. 0) (Bend 1 0) ≡ Bend 1 0
  -- "or the section's count": that of the bend's own section
  pub other-section-full : with17 0 (λ i. cond (eqb i 0) 1000000000000 0) (Bend 1 5) ≡ Bend 1 5
  pub own-section-full : with17 0 (λ i. cond (eqb i 1) 1000000000000 0) (Bend 1 5) ≡ Refused 17
  -- "14 to 17 meet bends only": a splice is accepted however full the account is
  pub splice-when-full : with17 1000000000000 (λ i. 1000000000000) (Splice 3) ≡ Splice 3
  -- "first hit answers": an entry that is refused keeps its number
  pub refused-when-full : with17 1000000000000 (λ i. 1000000000000) (Refused 14) ≡ Refused 14
  -- "its answer is 2,000,000 plus the number"; "An accepted bend answers n"; "A splice answers 0"
  pub answer-refused : answer_of (Refused 12) ≡ 2000012
  pub answer-bend : answer_of (Bend 3 77) ≡ 77
  pub answer-splice : answer_of (Splice 3) ≡ 0
  -- "kind 1 bend, 2 splice": 100.0 costs 100, and a splice is of its own section
  pub bend-plain : rule (pos 1) (pos 0) (pos 2) (pos 3) (pos 1) ≡ Bend 0 100
  pub splice-plain : rule (pos 2) (pos 1) (pos 0) (pos 0) (pos 0) ≡ Splice 1
  -- 12: "kind .. unknown"
  pub kind-none : rule (pos 0) (pos 0) (pos 2) (pos 3) (pos 1) ≡ Refused 12
  pub kind-three : rule (pos 3) (pos 0) (pos 2) (pos 3) (pos 1) ≡ Refused 12
  pub kind-negative : rule (negsuc 0) (pos 0) (pos 2) (pos 3) (pos 1) ≡ Refused 12
  -- 12: "section .. unknown": sections of two are 0 and 1
  pub section-last : rule (pos 1) (pos 1) (pos 2) (pos 3) (pos 1) ≡ Bend 1 100
  pub section-unknown : rule (pos 1) (pos 2) (pos 2) (pos 3) (pos 1) ≡ Refused 12
  pub section-negative : rule (pos 1) (negsuc 0) (pos 2) (pos 3) (pos 1) ≡ Refused 12
  pub splice-section : rule (pos 2) (pos 2) (pos 0) (pos 0) (pos 0) ≡ Refused 12
  -- 12: "(save a splice's) method unknown"
  pub method-none : rule (pos 1) (pos 0) (pos 2) (pos 3) (pos 0) ≡ Refused 12
  pub method-last : rule (pos 1) (pos 0) (pos 2) (pos 3) (pos 3) ≡ Bend 0 100
  pub method-four : rule (pos 1) (pos 0) (pos 2) (pos 3) (pos 4) ≡ Refused 12
  -- 12: "a splice whose x, y or method isn't 0"
  pub splice-x : rule (pos 2) (pos 0) (pos 1) (pos 0) (pos 0) ≡ Refused 12
  pub splice-y : rule (pos 2) (pos 0) (pos 0) (negsuc 0) (pos 0) ≡ Refused 12
  pub splice-method : rule (pos 2) (pos 0) (pos 0) (pos 0) (pos 1) ≡ Refused 12
  -- "first hit answers": 12 before 13
  pub first-hit : rule (pos 1) (pos 0) (pos 10001) (pos 3) (pos 4) ≡ Refused 12
  -- 13: "x or y not -10,000 to 10,000"
  pub off-grid : rule (pos 1) (pos 0) (pos 10001) (pos 3) (pos 3) ≡ Refused 13
  pub off-below : rule (pos 1) (pos 0) (pos 2) (negsuc 10000) (pos 3) ≡ Refused 13
  pub grid-ends : rule (pos 1) (pos 0) (pos 10000) (negsuc 9999) (pos 3) ≡ Bend 0 100
  -- 14: "outside the hull"; a splice is not located
  pub bend-outside : entry_ruling outside 2 [] bend ≡ Refused 14
  pub splice-outside : entry_ruling outside 2 [] splice ≡ Splice 0
  -- of a history: section 0 since its splice, section 1 from the start, all charges
  pub since-splice : wear_sum 0 history ≡ 7 + 3
  pub bends-since : bend_count 0 history ≡ 1 + 1
  pub from_start : wear_sum 1 history ≡ 9 + 0
  pub all-charges : charges history ≡ 5 + 9 + 7 + 3
  -- two ropes, the same bends: spliced as the last entry of a batch, and halfway through one. `rim` has them whole, on triangle A's bytes; here the
  -- edit `acts_at_the_end` rests on them
  pub same-book : rope_one ≡ rope_two

pub account-rows : AccountRows
unfolding history entry_ruling not_below off_grid of_bits
account-rows =
    record {
      last-unit = refl;
      unit-too-many = refl;
      last-units = refl;
      last-bend = refl;
      bend-too-many = refl;
      free-when-full = refl;
      other-section-full = refl;
      own-section-full = refl;
      splice-when-full = refl;
      refused-when-full = refl;
      answer-refused = refl;
      answer-bend = refl;
      answer-splice = refl;
      bend-plain = refl;
      splice-plain = refl;
      kind-none = refl;
      kind-three = refl;
      kind-negative = refl;
      section-last = refl;
      section-unknown = refl;
      section-negative = refl;
      splice-section = refl;
      method-none = refl;
      method-last = refl;
      method-four = refl;
      splice-x = refl;
      splice-y = refl;
      splice-method = refl;
      first-hit = refl;
      off-grid = refl;
      off-below = refl;
      grid-ends = refl;
      bend-outside = refl;
      splice-outside = refl;
      since-splice = refl;
      bends-since = refl;
      from_start = refl;
      all-charges = refl;
      same-book = refl;
    }

-- ---- rows 1 and 2
-- a book of so many sections
abbrev book_of : ℕ → List ℕ → List ℕ → ℕ → Book
book_of s wear bends retired = record { sections = s; wear = wear; bends = bends; retired = retired }

-- 16 numbers, all 0; the first, the second or the last of them n
abbrev zeros : List ℕ
zeros = 0 ∷ 0 ∷ 0 ∷ 0 ∷ 0 ∷ 0 ∷ 0 ∷ 0 ∷ 0 ∷ 0 ∷ 0 ∷ 0 ∷ 0 ∷ 0 ∷ 0 ∷ 0 ∷ []

abbrev at_first : ℕ → List ℕ
at_first n = n ∷ replicate 15 0

abbrev at_second : ℕ → List ℕ
at_second n = 0 ∷ n ∷ replicate 14 0

abbrev at_last : ℕ → List ℕ
at_last n = replicate 15 0 ++ (n ∷ [])

abbrev returned : ℕ → ℕ → Returned
returned r s = record { refusal = r; book = book_of s zeros zeros 0 }

pub record BookRows : Type 0 where
  -- "A fresh book has s sections, all zero"
  pub fresh-one : fresh_book 1 ≡ returned 0 1
  pub fresh-sixteen : fresh_book 16 ≡ returned 0 16
  -- "an s not 1 to 16 gets refusal 1 beside a book of 0 sections, all zero"
  pub fresh-none : fresh_book 0 ≡ returned 1 0
  pub fresh-seventeen : fresh_book 17 ≡ returned 1 0
  -- 1: "sections not 1 to 16"
  pub no-section : bad_book (book_of 0 zeros zeros 0) ≡ true
  pub one-section : bad_book (book_of 1 zeros zeros 0) ≡ false
  pub sixteen : bad_book (book_of 16 zeros zeros 0) ≡ false
  pub seventeen : bad_book (book_of 17 zeros zeros 0) ≡ true
  -- 1: "wear of all sections plus retired wear above 10^12"
  pub full-wear : bad_book (book_of 16 (at_last 999999999999) zeros 1) ≡ false
  pub wear-above : bad_book (book_of 16 (at_last 999999999999) zeros 2) ≡ true
  pub retired-above : bad_book (book_of 1 zeros zeros 1000000000001) ≡ true
  -- 1: "a bend count above 10^12"
  pub full-count : bad_book (book_of 16 zeros (at_last 1000000000000) 0) ≡ false
  pub count-above : bad_book (book_of 16 zeros (at_last 1000000000001) 0) ≡ true
  pub first-count-above : bad_book (book_of 1 zeros (at_first 1000000000001) 0) ≡ true
  -- 1: "a section at or past the section count not all zero"
  pub stray-wear : bad_book (book_of 1 (at_second 1) zeros 0) ≡ true
  pub stray-count : bad_book (book_of 1 zeros (at_second 1) 0) ≡ true
  pub stray-last : bad_book (book_of 15 zeros (at_last 1) 0) ≡ true
  pub none-stray : bad_book (book_of 2 (at_second 1) (at_second 1) 0) ≡ false
  -- 17: "wear of all sections plus retired wear above 10^12": with the bend's 100 it is 10^12, and one more; "or the section's count is 10^12"
  pub wear-and-retired : book_verdict hundred [] (book_of 2 (at_second 5) zeros 999999999895) bend ≡ Bend 0 100
  pub wear-and-retired-above : book_verdict hundred [] (book_of 2 (at_second 5) zeros 999999999896) bend ≡ Refused 17
  pub bends-full : book_verdict hundred [] (book_of 2 zeros (at_first 1000000000000) 0) bend ≡ Refused 17
  pub others-full : book_verdict hundred [] (book_of 2 zeros (at_second 1000000000000) 0) bend ≡ Bend 0 100
  -- 2: "entry slice no multiple of five"
  pub four-numbers : bad_slices 4 9 ≡ true
  pub five-numbers : bad_slices 5 1 ≡ false
  pub six-numbers : bad_slices 6 9 ≡ true
  pub no-entry : bad_slices 0 0 ≡ false
  -- 2: "or answer slice shorter than the number of entries"
  pub room-short : bad_slices 10 1 ≡ true
  pub room-enough : bad_slices 10 2 ≡ false
  -- "first hit answers": 1, 2, then the chart's (no bytes: 3)
  pub book-first : batch_refusal (book_of 0 zeros zeros 0) [] 4 0 ≡ 1
  pub slices-next : batch_refusal (book_of 1 zeros zeros 0) [] 4 0 ≡ 2
  pub chart-last : batch_refusal (book_of 1 zeros zeros 0) [] 5 1 ≡ 3

pub book-rows : BookRows
unfolding bad_book from chart_in head_of entry_ruling not_below off_grid of_bits
book-rows =
    record {
      fresh-one = refl;
      fresh-sixteen = refl;
      fresh-none = refl;
      fresh-seventeen = refl;
      no-section = refl;
      one-section = refl;
      sixteen = refl;
      seventeen = refl;
      full-wear = refl;
      wear-above = refl;
      retired-above = refl;
      full-count = refl;
      count-above = refl;
      first-count-above = refl;
      stray-wear = refl;
      stray-count = refl;
      stray-last = refl;
      none-stray = refl;
      wear-and-retired = refl;
      wear-and-retired-above = refl;
      bends-full = refl;
      others-full = refl;
      four-numbers = refl;
      five-numbers = refl;
      six-numbers = refl;
      no-entry = refl;
      room-short = refl;
      room-enough = refl;
      book-first = refl;
      slices-next = refl;
      chart-last = refl;
    }
