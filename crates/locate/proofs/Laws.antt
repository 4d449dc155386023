-- The law of the location: an answer's number is in range and passes its test. Assumes nothing.
use Rattle.std.specs.Prelude.{◌≡◌}
use Rattle.std.proofs.Common.{sym, subst}
use Rattle.geometry.specs.declared.Place.{Place}
use Rattle.chart.specs.Chart.{Chart}
use Rattle.locate.specs.declared.Location.{Location}
use Rattle.locate.specs.declared.Location.TheVariants.{OnVertex, OnEdge, OnFace}
use Rattle.locate.specs.Location.{at_vertex, on_even_edge, in_face, location_of}
use Rattle.locate.specs.Laws.{Holds, lowest-is}

passes : (c : Chart) (q : Place) → Holds c q (location_of c q)
unfolding location_of
passes c q =
    lowest-is (Holds c q) (at_vertex c q) c.vertices OnVertex _ (λ v h. h)
    (lowest-is (Holds c q) (on_even_edge c q) c.half_edges OnEdge _ (λ e h. h)
    (lowest-is (Holds c q) (in_face c q) c.faces OnFace _ (λ f h. h) tt))

pub located : (c : Chart) (q : Place) (l : Location) → l ≡ location_of c q → Holds c q l
located c q l e = subst (Holds c q) (sym e) (passes c q)
