-- 01, "Program": the refusals of a log, computed, with its numbers written out. Assumes nothing.
use Rattle.std.specs.Prelude.{◌≡◌, List, [], ◌∷◌, ◌++◌, ℕ, ◌+◌, pos, negsuc, replicate}
use Rattle.log_text.specs.Log.{log_of, whole_log}
use Rattle.log_text.specs.Log.Log.{entries, refused}

-- a digit in 8 columns
abbrev digit : ℕ → List ℕ
digit d = replicate 7 32 ++ ((48 + d) ∷ [])

-- five fields, of which the fourth is -1, and a byte at the end
abbrev line : ℕ → List ℕ
line end = digit 1 ++ digit 2 ++ digit 3 ++ (replicate 6 32 ++ (45 ∷ 49 ∷ [])) ++ digit 5 ++ (end ∷ [])

pub record LogRows : Type 0 where
  -- "per entry five fields and LF, 41 bytes"
  pub one_entry : whole_log (line 10) ≡ entries (pos 1 ∷ pos 2 ∷ pos 3 ∷ negsuc 0 ∷ pos 5 ∷ [])
  pub two-entries : whole_log (line 10 ++ line 10) ≡ entries (pos 1 ∷ pos 2 ∷ pos 3 ∷ negsuc 0 ∷ pos 5 ∷ pos 1 ∷ pos 2 ∷ pos 3 ∷ negsuc 0 ∷ pos 5 ∷ [])
  pub no-entry : whole_log [] ≡ entries []
  -- "3 if no multiple of 41"
  pub cut_off : log_of 40 (line 10) ≡ refused 3
  pub one_more : log_of 42 (line 10) ≡ refused 3
  -- "5 if malformed"
  pub line-end : whole_log (line 13) ≡ refused 5
  -- "at most 512 (4 if more": of 512 entries the fields are looked at, of 513 they are not
  pub most : log_of 20992 [] ≡ refused 5
  pub more : log_of 21033 [] ≡ refused 4
  -- "length, count, then fields"
  pub length-first : log_of 21034 [] ≡ refused 3
