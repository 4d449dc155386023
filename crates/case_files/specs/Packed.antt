-- The texts of a packed case, and the header line before them (oracle/README.md).
use Rattle.std.specs.Prelude.{ℕ, List, ◌≡◌, ◌≤◌, min, Some}
use Rattle.arrayvec.specs.ArrayVec.{array_vec_len}
use Rattle.std.specs.Io.{StartsWith}
use Rattle.case_text.specs.declared.headers.Sizes.{Sizes}
use Rattle.case_text.specs.Header.{header_of}
use Rattle.case_files.specs.declared.texts.Texts.{Texts}

-- So many bytes of a text are kept at most.
abbrev pub kept : ℕ → ℕ
kept size = min size 65536

-- Each text is whole, up to what is kept of it.
pub record Whole (s : Sizes) (t : Texts) : Type 0 where
  pub chart : kept s.chart ≤ array_vec_len t.chart
  pub queries : kept s.queries ≤ array_vec_len t.queries
  pub rooms : kept s.rooms ≤ array_vec_len t.rooms
  pub batches : kept s.batches ≤ array_vec_len t.batches
  pub log : kept s.log ≤ array_vec_len t.log

-- There was a header, and each text is as long as it says: of an input whose bytes no clause knows, as of any.
pub record Announced (t : Texts) : Type 0 where
  pub line : List ℕ
  pub sizes : Sizes
  pub header : header_of line ≡ Some sizes
  pub whole : Whole sizes t

-- The input began with a header, and each text is as long as the header says.
pub record Headed (bytes : List ℕ) (t : Texts) : Type 0 where
  pub line : List ℕ
  pub sizes : Sizes
  pub front : StartsWith bytes line
  pub header : header_of line ≡ Some sizes
  pub whole : Whole sizes t
