-- The buckets by which the scan of refusal 8 tells most places apart. No answer depends on which bucket a place has.
use Rattle.std.specs.Prelude.{ℕ, ◌*◌, ◌+◌, ◌%◌, pos, ◌+ℤ◌, ◌*ℤ◌}
use Rattle.geometry.specs.declared.Place.{Place}
use Rattle.geometry.specs.Plane.{grid_max}
use Rattle.chart.specs.Tables.{unsigned}

abbrev pub bucket_count : ℕ
bucket_count = 509

abbrev pub spread_by : ℕ
spread_by = 32

abbrev pub lift_by : ℕ
lift_by = (spread_by + 1) * grid_max

abbrev pub bucket_of : Place → ℕ
bucket_of p = unsigned (p.x +ℤ p.y *ℤ pos spread_by +ℤ pos lift_by) % bucket_count
