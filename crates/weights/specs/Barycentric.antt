-- 01, "Weights": barycentric, `Barycentric::get_weights` by the kind of location, the same operations on f64 in the same order.
use Rattle.std.specs.Prelude.{List, [], ◌∷◌, map, ℕ, Float, Result, Ok, Err}
use Rattle.geometry.specs.declared.Place.{Place}
use Rattle.refusal.specs.declared.Refusal.{Refusal}
use Rattle.refusal.specs.Number.{number}
use Rattle.chart.specs.Chart.{Chart, partner, corner₀, corner₁, corner₂}
use Rattle.points.specs.declared.Point2.{Point2}
use Rattle.points.specs.Floats.{f1, ◌+f◌, ◌-f◌, ◌*f◌, ◌/f◌}
use Rattle.points.specs.Points.{point_of, project_point, relative_position}
pub use Rattle.weights.specs.declared.Weighted.{Weighted}
use Rattle.weights.specs.declared.BarycentricWeights.{BarycentricWeights}
use Rattle.weights.specs.declared.BarycentricWeights.TheVariants.{OneVertex, TwoWeights, ThreeWeights}

-- `two_point_interpolation`: [one - rel, rel], so that the end v1 gets the relative position and the start v0 the rest
unfoldable pub two_point_interpolation : Point2 → Point2 → Point2 → Float × Float
two_point_interpolation v0 v1 q =
    let rel = relative_position (project_point v0 v1 q) in
    (f1 -f rel, rel)

-- `barycentric_interpolation`: two quotients by one determinant, and one - lambda1 - lambda2, taken off one after the other
unfoldable pub barycentric_interpolation : Point2 → Point2 → Point2 → Point2 → Float × Float × Float
barycentric_interpolation v1 v2 v3 q =
    let det = (v2.y -f v3.y) *f (v1.x -f v3.x) +f (v3.x -f v2.x) *f (v1.y -f v3.y) in
    let lambda1 = ((v2.y -f v3.y) *f (q.x -f v3.x) +f (v3.x -f v2.x) *f (q.y -f v3.y)) /f det in
    let lambda2 = ((v3.y -f v1.y) *f (q.x -f v3.x) +f (v1.x -f v3.x) *f (q.y -f v3.y)) /f det in
    (lambda1, lambda2, f1 -f lambda1 -f lambda2)

-- a vertex and its weight
abbrev weigh : ℕ → Float → Weighted
weigh v w = record { vertex = v; weight = w }

-- of several: the vertices, the weights
abbrev pub vertices_of : List Weighted → List ℕ
vertices_of l = map (λ (w : Weighted). w.vertex) l

abbrev pub weights_of : List Weighted → List Float
weights_of l = map (λ (w : Weighted). w.weight) l

-- the vertices with their weights, or the number of the refusal
pub data Weights : Type 0 where
  weights : List Weighted → Weights
  turned_down : ℕ → Weights

-- what each case of the call's answer says, in 01's numbers and values
abbrev pub weights_say : Result BarycentricWeights Refusal → Weights
weights_say (Ok (OneVertex u)) = weights (u ∷ [])
weights_say (Ok (TwoWeights u v)) = weights (u ∷ v ∷ [])
weights_say (Ok (ThreeWeights u v w)) = weights (u ∷ v ∷ w ∷ [])
weights_say (Err r) = turned_down (number r)

-- two vertices of the chart with their weights at q
unfoldable pub weigh_two : Chart → Place → ℕ → ℕ → Weights
weigh_two c q v0 v1 =
    let w = two_point_interpolation (point_of (c.place v0)) (point_of (c.place v1)) (point_of q) in
    weights (weigh v0 w.0 ∷ weigh v1 w.1 ∷ [])

-- three vertices of the chart with their weights at q
unfoldable pub weigh_three : Chart → Place → ℕ → ℕ → ℕ → Weights
weigh_three c q v0 v1 v2 =
    let w = barycentric_interpolation (point_of (c.place v0)) (point_of (c.place v1)) (point_of (c.place v2)) (point_of q) in
    weights (weigh v0 w.0 ∷ weigh v1 w.1 ∷ weigh v2 w.2 ∷ [])

-- OnVertex(vertex): (vertex, 1.0)
abbrev pub vertex_weights : ℕ → Weights
vertex_weights v = weights (weigh v f1 ∷ [])

-- OnEdge(edge): the edge's `vertices()`, its `from()` and its `to()`
abbrev pub edge_weights : Chart → Place → ℕ → Weights
edge_weights c q h = weigh_two c q (c.origin h) (c.origin (partner h))

-- OnFace(face): the face's `vertices()`, the previous edge's origin first
abbrev pub face_weights : Chart → Place → ℕ → Weights
face_weights c q f = weigh_three c q (corner₀ c f) (corner₁ c f) (corner₂ c f)
