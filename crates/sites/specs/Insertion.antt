-- 02, CR 13: a new bench test. What refuses it, and what the chart with it is to the chart before.
use Rattle.std.specs.Prelude.{Bool, true, false, cond, ◌||◌, ◌≡◌, ℕ, ◌+◌, ◌<◌, eqb, ℤ, pos}
use Rattle.whole.specs.Bound.{outside}
use Rattle.geometry.specs.declared.Place.{Place}
use Rattle.geometry.specs.Plane.{off_grid}
use Rattle.chart.specs.Limits.{most_vertices}
use Rattle.chart.specs.Chart.{Chart, chart_of}
use Rattle.ranges.specs.Ranges.{value_max}
use Rattle.checks.specs.Checks.{Loaded}
use Rattle.checks.specs.Checks.Loaded.{loaded, refused}
use Rattle.locate.specs.declared.Location.{Location}
use Rattle.locate.specs.declared.Location.TheVariants.{OnVertex, OnEdge, OnFace, OutsideOfConvexHull}
use Rattle.locate.specs.Location.{location_of}
use Rattle.neighbors.specs.Neighbors.{part_of_convex_hull}

-- 02 CR 13: "when the point is on a vertex, on a hull edge or outside"
abbrev pub no_site : Chart → Location → Bool
no_site c (OnVertex v) = true
no_site c (OnEdge h) = part_of_convex_hull c h
no_site c (OnFace f) = false
no_site c (OutsideOfConvexHull h) = true

-- 01's row 13, and 02 CR 13: "A value outside its range gets 13"
abbrev pub out_of_bounds : Place → ℤ → Bool
out_of_bounds q z = off_grid q || outside (pos 0) (pos value_max) z

-- 02 CR 13: "25 when the chart has 128 vertices, after 13 and before location. 26 .. after 25 and here in place of 14"; 0 where none meets the new vertex
unfoldable pub vertex_refusal : Chart → Place → ℤ → ℕ
vertex_refusal c q z =
    cond (out_of_bounds q z) 13
    (cond (eqb c.vertices most_vertices) 25
    (cond (no_site c (location_of c q)) 26 0))

-- the old chart's refusals, 3 to 11, come first
unfoldable pub insert_refusal : Loaded → Place → ℤ → ℕ
unfolding vertex_refusal
insert_refusal (loaded vs es fs) q z = vertex_refusal (chart_of vs es fs) q z
insert_refusal (refused n) q z = n

-- 02 CR 13: "keeps all earlier vertices with their numbers, places and values, and has the new one last; its links beyond that are free". Its counts are not:
-- with a vertex more inside the hull a triangulation has six half-edges and two faces more (Euler)
pub record Extended (c : Chart) (q : Place) (z : ℤ) (d : Chart) : Type 0 where
  pub vertices-more : d.vertices ≡ c.vertices + 1
  pub half-edges-more : d.half_edges ≡ c.half_edges + 6
  pub faces-more : d.faces ≡ c.faces + 2
  pub places-kept : (v : ℕ) → v < c.vertices → d.place v ≡ c.place v
  pub values-kept : (v : ℕ) → v < c.vertices → d.value v ≡ c.value v
  pub place-last : d.place c.vertices ≡ q
  pub value-last : d.value c.vertices ≡ z
