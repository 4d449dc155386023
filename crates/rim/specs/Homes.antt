-- Rows on 02's CR 2: which loads are strictly left of an outer half-edge, and which lie on the rim, on triangle A and on a chart with a vertex in the middle of a
-- hull side. Each is computed. Assumes nothing.
use Rattle.std.specs.Prelude.{◌≡◌, refl, true, false, [], ◌∷◌, pos, negsuc}
use Rattle.whole.specs.First.{from}
use Rattle.geometry.specs.Plane.{cross_of, dot_of, norm2_of, side, lifted, circle, on_open_segment}
use Rattle.chart.specs.Chart.{Chart, chart_of}
use Rattle.checks.specs.Checks.{chart_refusal}
use Rattle.links.specs.Links.{linked, links_broken}
use Rattle.locate.specs.declared.Location.TheVariants.{OnVertex, OnEdge, OnFace, OutsideOfConvexHull}
use Rattle.locate.specs.Location.{on_edge, location_of}
use Rattle.home.specs.Located.{left_of_rim}
use Rattle.triangle.specs.TriangleA.{vertices_a, edges_a, faces_a}
use Rattle.rim.specs.Loads.{place, chart_a}

-- (0, 0), (10, 0), (0, 10) and (5, 0), a vertex in the middle of the lower side: faces 1 and 2 are left and right of the edge from (5, 0) to (0, 10)
unfoldable pub straight : Chart
straight =
    chart_of
    (pos 0 ∷ pos 0 ∷ pos 0 ∷ pos 0 ∷ pos 10 ∷ pos 0 ∷ pos 0 ∷ pos 6 ∷ pos 0 ∷ pos 10 ∷ pos 0 ∷ pos 4 ∷ pos 5 ∷ pos 0 ∷ pos 0 ∷ pos 2 ∷ [])
    (0 ∷ 2 ∷ 4 ∷ 1 ∷ 3 ∷ 5 ∷ 9 ∷ 0 ∷ 3 ∷ 4 ∷ 0 ∷ 1 ∷ 2 ∷ 8 ∷ 6 ∷ 2 ∷ 2 ∷ 0 ∷ 2 ∷ 1 ∷ 0 ∷ 7 ∷ 1 ∷ 0 ∷ 1 ∷ 3 ∷ 8 ∷ 2 ∷ 2 ∷ 9 ∷ 5 ∷ 0 ∷ 3 ∷ 6 ∷ 3 ∷ 2 ∷ 1 ∷ 1 ∷ 7 ∷ 0 ∷ [])
    (1 ∷ 0 ∷ 8 ∷ [])

pub record Rows : Type 0 where
  -- "strictly left of no outer half-edge": on a corner, on each side, within
  pub corner : left_of_rim chart_a (place (pos 0) (pos 0)) ≡ false
  pub last-corner : left_of_rim chart_a (place (pos 0) (pos 10)) ≡ false
  pub lower-side : left_of_rim chart_a (place (pos 5) (pos 0)) ≡ false
  pub long-side : left_of_rim chart_a (place (pos 5) (pos 5)) ≡ false
  pub left-side : left_of_rim chart_a (place (pos 0) (pos 5)) ≡ false
  pub within : left_of_rim chart_a (place (pos 2) (pos 3)) ≡ false
  -- a step off each side, on the lines beyond its ends, and off the grid
  pub below : left_of_rim chart_a (place (pos 5) (negsuc 0)) ≡ true
  pub above : left_of_rim chart_a (place (pos 6) (pos 5)) ≡ true
  pub left : left_of_rim chart_a (place (negsuc 0) (pos 5)) ≡ true
  pub past_the_end : left_of_rim chart_a (place (pos 11) (pos 0)) ≡ true
  pub before-the-start : left_of_rim chart_a (place (negsuc 0) (pos 0)) ≡ true
  pub off-the-grid : left_of_rim chart_a (place (pos 10001) (negsuc 10000)) ≡ true
  -- three vertices on one side: the middle one is no other home, the halves of the side are two edges, and the side's line goes on outside
  pub straight-accepted : chart_refusal straight ≡ 0
  pub middle : location_of straight (place (pos 5) (pos 0)) ≡ OnVertex 3
  pub first-half : location_of straight (place (pos 4) (pos 0)) ≡ OnEdge 0
  pub second-half : location_of straight (place (pos 6) (pos 0)) ≡ OnEdge 8
  pub not_first : on_edge straight (place (pos 6) (pos 0)) 0 ≡ false
  pub between-faces : location_of straight (place (pos 4) (pos 2)) ≡ OnEdge 2
  pub first-face : location_of straight (place (pos 3) (pos 2)) ≡ OnFace 1
  pub second-face : location_of straight (place (pos 5) (pos 2)) ≡ OnFace 2
  pub straight-rim : left_of_rim straight (place (pos 6) (pos 0)) ≡ false
  pub straight-beyond : left_of_rim straight (place (pos 11) (pos 0)) ≡ true
  pub straight-outside : location_of straight (place (pos 11) (pos 0)) ≡ OutsideOfConvexHull 7

pub rows : Rows
unfolding straight vertices_a edges_a faces_a from cross_of dot_of norm2_of side lifted circle on_open_segment linked links_broken chart_refusal location_of
rows =
    record {
      corner = refl;
      last-corner = refl;
      lower-side = refl;
      long-side = refl;
      left-side = refl;
      within = refl;
      below = refl;
      above = refl;
      left = refl;
      past_the_end = refl;
      before-the-start = refl;
      off-the-grid = refl;
      straight-accepted = refl;
      middle = refl;
      first-half = refl;
      second-half = refl;
      not_first = refl;
      between-faces = refl;
      first-face = refl;
      second-face = refl;
      straight-rim = refl;
      straight-beyond = refl;
      straight-outside = refl;
    }
