-- What a caller of the reader knows of a log. Assumes nothing.
use Rattle.std.specs.Prelude.{ℕ, ◌*◌, ◌/◌, ◌%◌, ◌≤◌, List, ◌≡◌, ℤ, length, take}
use Rattle.entries.specs.Entry.{entry_width}
use Rattle.log_text.specs.Log.{entries_max, Log}
use Rattle.log_text.specs.Log.Log.{entries, refused}

-- a refusal has a number above 0; entries are whole, and at most as many as 01 allows
abbrev pub Held : Log → Type 0
Held (entries l) = (length l % entry_width ≡ 0) × (length l / entry_width ≤ entries_max)
Held (refused k) = k ≡ 0 → ⊥

-- the log is not refused: the reader's count and the first elements of the slice are its entries
pub record Entered (count : ℕ) (left : List ℤ) (g : Log) : Type 0 where
  pub numbers : g ≡ entries (take (entry_width * count) left)
  pub few : count ≤ entries_max
  pub room : entry_width * count ≤ length left
