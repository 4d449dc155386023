-- How many bytes the program's lines have. Assumes nothing.
use Rattle.std.specs.Prelude.{ℕ, zero, suc, ◌+◌, ◌*◌, List, [], ◌∷◌, ◌≡◌, refl, length}
use Rattle.std.proofs.Common.{arith, length-append}
use Rattle.text.specs.RoundTrip.{field-length}
use Rattle.book.specs.declared.Book.{Book}
use Rattle.report.specs.Lines.{answer_bytes, section_bytes, retired_bytes, refusal_bytes, book_bytes, answer_line, section_line, retired_line, refusal_line, answer_lines, section_lines, book_lines, output_of}

pub answer-length : (i a : ℕ) → length (answer_line i a) ≡ answer_bytes
unfolding answer_line
answer-length i a = simp (length-append, field-length)

pub section-length : (s w c : ℕ) → length (section_line s w c) ≡ section_bytes
unfolding section_line
section-length s w c = simp (length-append, field-length)

pub retired-length : (w : ℕ) → length (retired_line w) ≡ retired_bytes
unfolding retired_line
retired-length w = simp (length-append, field-length)

pub refusal-length : (n : ℕ) → length (refusal_line n) ≡ refusal_bytes
unfolding refusal_line
refusal-length n = simp (length-append, field-length)

pub answers-length : (i : ℕ) (s : List ℕ) → length (answer_lines i s) ≡ answer_bytes * length s
unfolding answer_lines
answers-length i [] = refl
answers-length i (a ∷ s) = simp (length-append, answer-length, answers-length (suc i) s) (omega arith)

pub sections-length : (wear bends : List ℕ) (k : ℕ) → length (section_lines wear bends k) ≡ section_bytes * k
unfolding section_lines
sections-length wear bends zero = refl
sections-length wear bends (suc k) = simp (length-append, sections-length wear bends k, section-length) (omega arith)

pub book-length : (b : Book) → length (book_lines b) ≡ book_bytes
unfolding book_lines
book-length b = simp (length-append, sections-length, retired-length)

pub output-length : (s : List ℕ) (b : Book) → length (output_of s b) ≡ answer_bytes * length s + book_bytes
unfolding output_of
output-length s b = simp (length-append, answers-length, book-length) (omega arith)
