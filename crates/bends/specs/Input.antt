-- 01, "Program": what is handed on of the log. Assumes nothing.
use Rattle.std.specs.Prelude.{ℕ, ◌-◌, ◌^◌, ◌≤◌, ◌<◌, min, List, [], take, length, ◌⊎◌, ◌≡◌, refl}
use Rattle.log_text.specs.Log.{log_of}
use Rattle.program.specs.Program.{printed_of, refusal_printed}

-- the size of a log whose reading failed
abbrev pub broken_size : ℕ
broken_size = 1

-- so many bytes are kept of a log of some size: all of it, where they leave room; or the first, with its size counted on
abbrev pub Counted : ℕ → ℕ → ℕ → Type 0
Counted room kept size = (kept ≤ size) × (kept < room → size ≡ kept)

-- the same; or none of a log whose reading failed
abbrev pub Handed : ℕ → ℕ → ℕ → Type 0
Handed room kept size = Counted room kept size ⊎ ((kept ≡ 0) × (size ≡ broken_size))

-- of known bytes: the first of a chart, as many as there is room for; or none, where a read failed
abbrev pub Front : ℕ → List ℕ → List ℕ → Type 0
Front room bytes kept = (kept ≡ take room bytes) ⊎ (kept ≡ [])

-- of known bytes: the first of a log, as many as there is room for, and how many there are, up to a number that no log reaches
abbrev pub Whole : ℕ → List ℕ → List ℕ → ℕ → Type 0
Whole room bytes kept size = (kept ≡ take room bytes) × (size ≡ min (length bytes) (2 ^ 64 - 1))

-- the same; or none of a log whose reading failed
abbrev pub Known : ℕ → List ℕ → List ℕ → ℕ → Type 0
Known room bytes kept size = Whole room bytes kept size ⊎ ((kept ≡ []) × (size ≡ broken_size))

-- a log whose reading failed is refused as one of a wrong length, chart first
pub broken-refused : (chart : List ℕ) → printed_of chart broken_size [] ≡ refusal_printed chart 3
unfolding printed_of log_of
broken-refused chart = refl
