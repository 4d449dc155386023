-- The gradients of a chart's first vertices in a table (01, "Gradient and value": `estimate_gradients`). Assumes nothing.
use Rattle.std.specs.Prelude.{◌≡◌, List, ℕ, ◌≤◌, ◌<◌, length, get_or}
use Rattle.chart.specs.Chart.{Chart}
use Rattle.points.specs.Floats.{f0}
use Rattle.gradient.specs.declared.Gradient.{Gradient}
use Rattle.gradient.specs.Gradient.{gradient_of}

-- what stands past a table's end: nothing reads it
abbrev pub level : Gradient
level = record { x = f0; y = f0 }

pub record Estimated (c : Chart) (table : List Gradient) (n : ℕ) : Type 0 where
  pub room : n ≤ length table
  pub at : (v : ℕ) → v < n → get_or table v level ≡ gradient_of c v
