-- The calls about a load or a vertex of a chart: each one's number, and what its lent slices hold as it returns. A slice shorter than its stated length
-- gets 2 before all else.
use Rattle.std.specs.Prelude.{List, cond, ◌||◌, ℕ, ltb, Float, ℤ, length}
use Rattle.query.specs.Location as L
use Rattle.query.specs.Weights.{barycentric_of}
use Rattle.query.specs.Gradient as G
use Rattle.query.specs.Natural as N
use Rattle.query.specs.Value.{interpolate_of}
use Rattle.slices.specs.Lent.{Left}
use Rattle.slices.specs.Answers.{located_left, WeightsLeft, barycentric_left, tally_left, slope_left, value_left}

-- ---- locate: kind and number
abbrev pub locate_called : List ℕ → ℤ → ℤ → List ℕ → Left ℕ
locate_called chart x y lent = cond (ltb (length lent) 2) (record { answer = 2; slice = lent }) (located_left (L.locate_of chart x y) lent)

-- ---- weights: vertices, their weights, and one or two counts
-- barycentric: 3 vertices, 3 weights, how many there are
abbrev pub barycentric_called : List ℕ → ℤ → ℤ → List ℕ → List Float → List ℕ → WeightsLeft
barycentric_called chart x y vs ws c =
    cond (ltb (length vs) 3 || (ltb (length ws) 3 || ltb (length c) 1)) (record { answer = 2; vertices = vs; weights = ws; found = c }) (barycentric_left (barycentric_of chart x y) vs ws c)

-- ---- natural: how many were written, and how many faces were opened
pub record EdgesLeft : Type 0 where
  pub answer : ℕ
  pub edges : List ℕ
  pub found : List ℕ

-- for the contracts alone
abbrev pub edges_left : ℕ → List ℕ → List ℕ → EdgesLeft
edges_left n es c = record { answer = n; edges = es; found = c }

abbrev pub edges_told : N.Edges → List ℕ → EdgesLeft
edges_told e c = record { answer = (tally_left e.answer c).answer; edges = e.slice; found = (tally_left e.answer c).slice }

abbrev pub edges_called : List ℕ → ℤ → ℤ → List ℕ → List ℕ → EdgesLeft
edges_called chart x y es c = cond (ltb (length c) 2) (record { answer = 2; edges = es; found = c }) (edges_told (N.natural_edges_of chart x y es) c)

abbrev pub shares_told : N.Shares → List ℕ → WeightsLeft
shares_told s c = record { answer = (tally_left s.answer c).answer; vertices = s.owners; weights = s.weights; found = (tally_left s.answer c).slice }

abbrev pub shares_called : List ℕ → ℤ → ℤ → List ℕ → List Float → List ℕ → WeightsLeft
shares_called chart x y vs ws c = cond (ltb (length c) 2) (record { answer = 2; vertices = vs; weights = ws; found = c }) (shares_told (N.natural_shares_of chart x y vs ws) c)

-- ---- gradient: 2 components
abbrev pub gradient_called : List ℕ → ℕ → List Float → Left Float
gradient_called chart v lent = cond (ltb (length lent) 2) (record { answer = 2; slice = lent }) (slope_left (G.estimate_of chart v) lent)

-- ---- interpolate: 1 value
abbrev pub interpolate_called : List ℕ → ℤ → ℤ → ℤ → List Float → Left Float
interpolate_called chart m x y lent = cond (ltb (length lent) 1) (record { answer = 2; slice = lent }) (value_left (interpolate_of chart m x y) lent)
