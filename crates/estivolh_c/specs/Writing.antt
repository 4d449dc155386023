-- 02, CR 1 and CR 13: the calls that write a chart's text: their number, and what text and length hold as they return. A slice for the length shorter than 1
-- gets 2 before all else.
use Rattle.std.specs.Prelude.{List, cond, ◌≡◌, ℕ, ◌≤◌, ltb, ℤ, length}
use Rattle.writing.specs.Writing.{Saved, write_of}
use Rattle.inserting.specs.Inserting.{InsertOf}
use Rattle.slices.specs.Answers.{length_left}

pub record TextLeft : Type 0 where
  pub answer : ℕ
  pub text : List ℕ
  pub found : List ℕ

-- for the contracts alone
abbrev pub text_left : ℕ → List ℕ → List ℕ → TextLeft
text_left n t c = record { answer = n; text = t; found = c }

-- the buffer as the public call leaves it, and the text's length
abbrev pub text_told : Saved → List ℕ → TextLeft
text_told s c = record { answer = (length_left s.answer c).answer; text = s.buffer; found = (length_left s.answer c).slice }

abbrev pub write_called : List ℤ → List ℤ → List ℤ → List ℕ → List ℕ → TextLeft
write_called vs es fs text c = cond (ltb (length c) 1) (record { answer = 2; text = text; found = c }) (text_told (write_of vs es fs text) c)

-- what the public call leaves, told in the same way
pub record InsertCalled (s : List ℕ) (x y z : ℤ) (text c : List ℕ) (t : TextLeft) : Type 0 where
  pub done : Saved
  pub inserts : 1 ≤ length c → InsertOf s x y z text done
  pub told : t ≡ cond (ltb (length c) 1) (record { answer = 2; text = text; found = c }) (text_told done c)
