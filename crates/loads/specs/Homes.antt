-- 02, CR 2, of the chart that every call takes from an accepted file: a load strictly left of no outer half-edge has one home, and every other is outside. Of
-- every place, on the grid or off it. Assumes nothing.
use Rattle.std.specs.Prelude.{◌≡◌, ◌⊎◌, true, List, ℕ, ◌<◌, ℤ}
use Rattle.whole.specs.First.{first}
use Rattle.geometry.specs.declared.Place.{Place}
use Rattle.chart.specs.Chart.{Chart, chart_of}
use Rattle.checks.specs.Checks.Loaded.{loaded}
use Rattle.reading.specs.Reading.{chart_in}
use Rattle.accepted.proofs.Bytes.{chart-accepted}
use Rattle.locate.specs.declared.Location.TheVariants.{OnFace, OutsideOfConvexHull}
use Rattle.locate.specs.Location.{in_face, left_of_outer, location_of}
use Rattle.home.specs.Located.{left_of_rim, InsideRim, Housed, housed, homes-inside, outside-left, left-outside, face-location, OnSomeVertex, OnSomeEdge, InSomeFace}

pub record Homes (c : Chart) (q : Place) : Type 0 where
  -- a load strictly left of no outer half-edge is on exactly one of the three
  pub one-home : InsideRim c q → Housed c q
  -- a load on one of the three is strictly left of no outer half-edge
  pub inside : OnSomeVertex c q ⊎ (OnSomeEdge c q ⊎ InSomeFace c q) → InsideRim c q
  -- so every other load, and no more, is outside, with the lowest outer half-edge that it is strictly left of
  pub outside : left_of_rim c q ≡ true → location_of c q ≡ OutsideOfConvexHull (first (left_of_outer c q) c.half_edges)
  pub outside-only : (h : ℕ) → location_of c q ≡ OutsideOfConvexHull h → (h < c.half_edges) × (left_of_outer c q h ≡ true)
  -- and a face that strictly holds the load is its location
  pub on-face : (f : ℕ) → f < c.faces → in_face c q f ≡ true → location_of c q ≡ OnFace f

pub homes : (s : List ℕ) (vs : List ℤ) (es fs : List ℕ) → chart_in s ≡ loaded vs es fs → (q : Place) → Homes (chart_of vs es fs) q
homes s vs es fs e q =
    let c = chart_of vs es fs in
    let snd = (chart-accepted s vs es fs e).sound in
    record {
      one-home = housed c q snd;
      inside = homes-inside c q snd;
      outside = left-outside c q snd;
      outside-only = outside-left c q snd;
      on-face = face-location c q snd;
    }
