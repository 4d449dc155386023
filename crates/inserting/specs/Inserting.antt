-- 02, CR 13: "The old chart and the new one are two lent buffers of chart text". What a call with a new bench test says and leaves.
use Rattle.std.specs.Prelude.{List, ◌≡◌, ℕ, ◌+◌, ℤ, length}
use Rattle.geometry.specs.declared.Place.{Place}
use Rattle.chart.specs.Tables.{rows}
use Rattle.chart.specs.Chart.{chart_of}
use Rattle.checks.specs.Checks.{Loaded}
use Rattle.checks.specs.Checks.Loaded.{loaded}
use Rattle.reading.specs.Reading.{file_length, chart_in, chart_refusal_of}
use Rattle.writing.specs.Writing.{Saved, room_refusal, saved_by}
use Rattle.sites.specs.Insertion.{insert_refusal, Extended}

-- what the new chart's text is to the old chart: it may be any that is this
pub record Inserted (old : Loaded) (q : Place) (z : ℤ) (new : List ℕ) : Type 0 where
  -- 02 CR 13: "The outcome passes the chart check"
  pub passes : chart_refusal_of new ≡ 0
  -- "keeps all earlier vertices .., and has the new one last"
  pub extends :
      (vs us : List ℤ) (es fs gs hs : List ℕ) → old ≡ loaded vs es fs → chart_in new ≡ loaded us gs hs
      → Extended (chart_of vs es fs) q z (chart_of us gs hs)
  -- so that its length is the same for every such text
  pub long :
      (vs : List ℤ) (es fs : List ℕ) → old ≡ loaded vs es fs
      → length new ≡ file_length (rows vs + 1) (rows es + 6) (length fs + 2)

-- the call: a text of the new chart stands in front of the lent buffer, as CR 1 leaves one: "a new buffer that is too short gets 18, here checked last of all,
-- and its bytes past the text are unchanged"
pub record Inserts (old : Loaded) (q : Place) (z : ℤ) (lent : List ℕ) (s : Saved) : Type 0 where
  pub text : List ℕ
  pub inserted : insert_refusal old q z ≡ 0 → Inserted old q z text
  pub left : s ≡ saved_by (room_refusal (insert_refusal old q z) text lent) text lent

-- of a file
abbrev pub InsertOf : List ℕ → ℤ → ℤ → ℤ → List ℕ → Saved → Type 0
InsertOf s x y z lent done = Inserts (chart_in s) (record { x = x; y = y }) z lent done
