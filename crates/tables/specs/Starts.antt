-- 01 "Chart text": the fields' "starts 0, 8, 16, 24, 32 from a table": entry k of it is where field k starts.
use Rattle.std.specs.Prelude.{◌≡◌, List, ℕ, ◌*◌, ◌<◌, get_or}
use Rattle.text.specs.Field.{field_width}
use Rattle.tables.specs.Table.{fields_max}

pub record Starts (l : List ℕ) : Type 0 where
  pub at : (k : ℕ) → k < fields_max → get_or l k 0 ≡ field_width * k
