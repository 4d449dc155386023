-- The law of the location: an answer's number is in range and passes its test. Assumes nothing.
use Rattle.std.specs.Prelude.{◌≡◌, refl, Bool, true, false, ℕ, ◌<◌}
use Rattle.std.proofs.Common.{ltb-true}
use Rattle.whole.specs.First.{first, some, first_found}
use Rattle.geometry.specs.declared.Place.{Place}
use Rattle.chart.specs.Chart.{Chart}
use Rattle.locate.specs.declared.Location.{Location}
use Rattle.locate.specs.declared.Location.TheVariants.{OnVertex, OnEdge, OnFace, OutsideOfConvexHull}
use Rattle.locate.specs.Location.{at_vertex, on_even_edge, in_face, lowest}

-- ---- what an answer says of its number
abbrev pub Holds : Chart → Place → Location → Type 0
Holds c q (OnVertex v) = (v < c.vertices) × (at_vertex c q v ≡ true)
Holds c q (OnEdge h) = (h < c.half_edges) × (on_even_edge c q h ≡ true)
Holds c q (OnFace f) = (f < c.faces) × (in_face c q f ≡ true)
Holds c q (OutsideOfConvexHull h) = Unit {0}

pub lowest-is : (P : Location → Type 0) (p : ℕ → Bool) (n : ℕ) (answer : ℕ → Location) (others : Location) → ((k : ℕ) → (k < n) × (p k ≡ true) → P (answer k)) → P others → P (lowest p n answer others)
lowest-is P p n answer others hit miss = choose (some p n) refl
  where
    choose : (b : Bool) → some p n ≡ b → P (lowest p n answer others)
    choose true e = rw e (let l = ltb-true (first p n) n e in hit (first p n) (l, first_found p n l))
    choose false e = rw e miss
