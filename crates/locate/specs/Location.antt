-- 01, "Location", without its "else 15" (02, CR 2): where a load q lies on a chart. First that holds: the vertex at q; the lowest even half-edge with q on its
-- open segment; the lowest inner face with q strictly left of its three half-edges; the lowest outer half-edge with q strictly left.
use Rattle.std.specs.Prelude.{Bool, cond, ◌&&◌, ℕ, ◌%◌, ltb, eqb, pos}
use Rattle.std.specs.Int.Signed.{lt_z}
use Rattle.whole.specs.First.{first, some}
use Rattle.geometry.specs.declared.Place.{Place}
use Rattle.geometry.specs.Plane.{side, on_open_segment}
use Rattle.chart.specs.Chart.{Chart, from_of, to_of, outer}
use Rattle.delaunay.specs.Delaunay.{same_place}
use Rattle.locate.specs.declared.Location.{Location}
use Rattle.locate.specs.declared.Location.TheVariants.{OnVertex, OnEdge, OnFace, OutsideOfConvexHull}

-- the vertex at q
abbrev pub at_vertex : Chart → Place → ℕ → Bool
at_vertex c q v = same_place (c.place v) q

-- an even half-edge with q on its open segment
abbrev pub even : ℕ → Bool
even h = eqb (h % 2) 0

abbrev pub on_edge : Chart → Place → ℕ → Bool
on_edge c q h = on_open_segment (from_of c h) (to_of c h) q

abbrev pub on_even_edge : Chart → Place → ℕ → Bool
on_even_edge c q h = even h && on_edge c q h

-- q strictly left of h
abbrev pub left_of : Chart → Place → ℕ → Bool
left_of c q h = lt_z (pos 0) (side (from_of c h) (to_of c h) q)

-- an inner face with q strictly left of its three half-edges: its adjacent one, that one's next and prev
abbrev pub left_of_three : Chart → Place → ℕ → Bool
left_of_three c q h = left_of c q h && (left_of c q (c.next h) && left_of c q (c.prev h))

abbrev pub in_face : Chart → Place → ℕ → Bool
in_face c q f = ltb 0 f && left_of_three c q (c.adjacent f)

-- an outer half-edge with q strictly left
abbrev pub left_of_outer : Chart → Place → ℕ → Bool
left_of_outer c q h = outer c h && left_of c q h

-- the answer of the lowest number below n that passes; the others where none does
abbrev pub lowest : (ℕ → Bool) → ℕ → (ℕ → Location) → Location → Location
lowest p n answer others = cond (some p n) (answer (first p n)) others

-- first that holds; on an accepted chart, where none of the first three does, the last does (`outside-only`, crate `loads`)
unfoldable pub location_of : Chart → Place → Location
location_of c q =
    lowest (at_vertex c q) c.vertices OnVertex
    (lowest (on_even_edge c q) c.half_edges OnEdge
    (lowest (in_face c q) c.faces OnFace (OutsideOfConvexHull (first (left_of_outer c q) c.half_edges))))
