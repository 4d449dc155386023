-- 01, row 14, and "Weights": what a location refuses, and the barycentric weights there.
use Rattle.std.specs.Prelude.{ℕ}
use Rattle.geometry.specs.declared.Place.{Place}
use Rattle.chart.specs.Chart.{Chart}
use Rattle.locate.specs.declared.Location.{Location}
use Rattle.locate.specs.declared.Location.TheVariants.{OnVertex, OnEdge, OnFace, OutsideOfConvexHull}
use Rattle.weights.specs.Barycentric.{Weights, vertex_weights, edge_weights, face_weights}
use Rattle.weights.specs.Barycentric.Weights.{turned_down}

-- 14: outside the hull
abbrev pub place_refusal : Location → ℕ
place_refusal (OnVertex v) = 0
place_refusal (OnEdge h) = 0
place_refusal (OnFace f) = 0
place_refusal (OutsideOfConvexHull h) = 14

-- by the location; 14: outside the hull
abbrev pub barycentric_at : Chart → Place → Location → Weights
barycentric_at c q (OnVertex v) = vertex_weights v
barycentric_at c q (OnEdge h) = edge_weights c q h
barycentric_at c q (OnFace f) = face_weights c q f
barycentric_at c q (OutsideOfConvexHull h) = turned_down 14
