-- 01, "Weights": natural, `get_natural_neighbor_weights` from the list of natural neighbour edges, the same operations on f64 in the same order.
use Rattle.std.specs.Prelude.{cond, List, [], ◌∷◌, ◌++◌, map, ℕ, ◌-◌, ◌≤◌, ◌<◌, eqb, length, drop, get_or, Float}
use Rattle.geometry.specs.declared.Place.{Place}
use Rattle.chart.specs.Chart.{Chart, from_of}
use Rattle.points.specs.declared.Point2.{Point2}
use Rattle.points.specs.Floats.{f0, f1, ◌+f◌, ◌/f◌}
use Rattle.points.specs.Points.{point_of}
use Rattle.weights.specs.Barycentric.{two_point_interpolation}
use Rattle.turns.specs.Turn.{cell_corner, turn_of}

-- the outer loop over the listed edges that are left, with the areas so far and their sum; at its end each area is divided by the sum
unfoldable pub shares_from : Chart → Point2 → List ℕ → (edge : ℕ) (last : Point2) (areas : List Float) (total : Float) → List Float
shares_from c q [] edge last areas total = map (λ area. area /f total) areas
shares_from c q (stop ∷ rest) edge last areas total =
    let first = cell_corner c q stop in
    let area = turn_of c q stop first edge last in
    shares_from c q rest stop first (areas ++ area ∷ []) (total +f area)

-- it begins at the last listed edge and its corner, with no area and the sum 0
abbrev pub last_of : List ℕ → ℕ
last_of list = get_or list (length list - 1) 0

abbrev pub cell_shares : Chart → Point2 → List ℕ → List Float
cell_shares c q list = shares_from c q list (last_of list) (cell_corner c q (last_of list)) [] f0

-- two listed edges: the two points where they start
abbrev pub two_shares : Chart → Point2 → List ℕ → List Float
two_shares c q list =
    let w = two_point_interpolation (point_of (from_of c (get_or list 0 0))) (point_of (from_of c (get_or list 1 0))) q in
    w.0 ∷ w.1 ∷ []

-- a weight for each listed edge, by the length of the list: none, one (the load is on a vertex), two (on a hull edge), more
unfoldable pub shares_of : Chart → Place → List ℕ → List Float
shares_of c q list =
    cond (eqb (length list) 0) []
    (cond (eqb (length list) 1) (f1 ∷ [])
    (cond (eqb (length list) 2) (two_shares c (point_of q) list) (cell_shares c (point_of q) list)))

-- a call's outcome: the two lent slices as it returns
pub record Outcome : Type 0 where
  pub owners : List ℕ
  pub weights : List Float

-- for the contract alone
abbrev pub outcome : List ℕ → List Float → Outcome
outcome owners weights = record { owners = owners; weights = weights }

-- the vertices and the weights, and what stood past the last
unfoldable pub settled : List ℕ → List Float → List ℕ → List Float → Outcome
settled vs ws owners weights = record { owners = vs ++ drop (length vs) owners; weights = ws ++ drop (length ws) weights }

-- each weight belongs to the vertex where the listed edge starts
abbrev pub natural_weights_of : Chart → Place → List ℕ → List ℕ → List Float → Outcome
natural_weights_of c q list owners weights = settled (map c.origin list) (shares_of c q list) owners weights

-- what a list of half-edges is asked: numbers below the count, and no more of them than a chart has half-edges (row 4)
pub record Listed (c : Chart) (list : List ℕ) : Type 0 where
  pub below : (k : ℕ) → k < length list → get_or list k 0 < c.half_edges
  pub few : length list ≤ 756
