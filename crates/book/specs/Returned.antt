-- What a call on the book hands back.
use Rattle.std.specs.Prelude.{ℕ, Result, Ok, Err}
use Rattle.refusal.specs.declared.Refusal.{Refusal}
use Rattle.refusal.specs.Number.{number}
use Rattle.book.specs.declared.Book.{Book}

-- its refusal, 0 for none, and the book
pub record Returned : Type 0 where
  pub refusal : ℕ
  pub book : Book

-- the book that its result holds; beside a refusal stands another
abbrev pub returned_of : Result Book Refusal → Book → Returned
returned_of (Ok b) beside = record { refusal = 0; book = b }
returned_of (Err r) beside = record { refusal = number r; book = beside }
