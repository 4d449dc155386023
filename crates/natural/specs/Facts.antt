-- Facts about the definitions: how many weights there are, and the cases with one and two listed edges. Assumes nothing.
use Rattle.std.specs.Prelude.{◌≡◌, refl, List, [], ◌∷◌, ◌++◌, map, ℕ, ◌+◌, ◌≤◌, length, Float}
use Rattle.std.proofs.Common.{sym, ap, ◌∙◌, add-zero, zero-add, arith, ne_eqb, length-append}
use Rattle.std.proofs.lemmas.List.{length-map}
use Rattle.geometry.specs.declared.Place.{Place}
use Rattle.chart.specs.Chart.{Chart, partner}
use Rattle.points.specs.declared.Point2.{Point2}
use Rattle.points.specs.Floats.{f0, ◌+f◌, ◌/f◌}
use Rattle.points.specs.Points.{point_of}
use Rattle.weights.specs.Barycentric.{Weights, vertices_of, weights_of, weigh_two, vertex_weights, edge_weights}
use Rattle.weights.specs.Barycentric.Weights.{weights, turned_down}
use Rattle.turns.specs.Turn.{cell_corner, turn_of}
use Rattle.natural.specs.Natural.{shares_from, last_of, cell_shares, shares_of}

-- ---- as many weights as listed edges
from-count : (c : Chart) (q : Point2) (list : List ℕ) (edge : ℕ) (last : Point2) (areas : List Float) (total : Float)
    → length (shares_from c q list edge last areas total) ≡ length areas + length list
unfolding shares_from
from-count c q [] edge last areas total = length-map areas (λ area. area /f total) ∙ sym (add-zero (length areas))
from-count c q (stop ∷ rest) edge last areas total =
    let area = turn_of c q stop (cell_corner c q stop) edge last in
    omega (arith, from-count c q rest stop (cell_corner c q stop) (areas ++ area ∷ []) (total +f area), length-append areas (area ∷ []))

-- three listed edges or more: the insertion cell
cell-case : (c : Chart) (q : Place) (list : List ℕ) → 3 ≤ length list → shares_of c q list ≡ cell_shares c (point_of q) list
unfolding shares_of
cell-case c q list h =
    rw (ne_eqb (length list) 0 (λ e. omega arith), ne_eqb (length list) 1 (λ e. omega arith), ne_eqb (length list) 2 (λ e. omega arith))

pub share-count : (c : Chart) (q : Place) (list : List ℕ) → length (shares_of c q list) ≡ length list
unfolding shares_of
share-count c q [] = refl
share-count c q (h ∷ []) = refl
share-count c q (h ∷ (k ∷ [])) = refl
share-count c q (h ∷ (k ∷ (m ∷ rest))) =
    let list = h ∷ (k ∷ (m ∷ rest)) in
    ap length (cell-case c q list (omega arith)) ∙ from-count c (point_of q) list (last_of list) (cell_corner c (point_of q) (last_of list)) [] f0 ∙ zero-add (length list)

-- ---- one and two listed edges: the weights that the barycentric answer of a vertex or an edge carries
abbrev pub shares_in : Weights → List Float
shares_in (weights l) = weights_of l
shares_in (turned_down n) = []

abbrev pub vertices_in : Weights → List ℕ
vertices_in (weights l) = vertices_of l
vertices_in (turned_down n) = []

-- on a vertex: a half-edge h that leaves it, and one weight 1 by both methods
pub on-vertex : (c : Chart) (q : Place) (h : ℕ)
    → (shares_of c q (h ∷ []) ≡ shares_in (vertex_weights (c.origin h))) × (map c.origin (h ∷ []) ≡ vertices_in (vertex_weights (c.origin h)))
unfolding shares_of
on-vertex c q h = (refl, refl)

-- on a hull edge: the edge and its partner in this order, and the same two weights by both methods
pub on-hull-edge : (c : Chart) (q : Place) (h : ℕ)
    → (shares_of c q (h ∷ partner h ∷ []) ≡ shares_in (edge_weights c q h)) × (map c.origin (h ∷ partner h ∷ []) ≡ vertices_in (edge_weights c q h))
unfolding shares_of weigh_two
on-hull-edge c q h = (refl, refl)
