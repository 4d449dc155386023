-- 01, "Gradient and value": the value of a load on a chart, behind the refusals of the query and the location.
use Rattle.std.specs.Prelude.{◌≡◌, refl, Bool, true, false, cond, List, [], ◌∷◌, map, ℕ, zero, suc, ◌≤◌, ◌<◌, eqb, ℤ, pos, Float, length, take, get_or, Result, Ok, Err}
use Rattle.std.proofs.Common.{not-suc-le-zero, le_of_suc-le-suc, arith}
use Rattle.whole.specs.Test.{eq_z}
use Rattle.geometry.specs.declared.Place.{Place}
use Rattle.geometry.specs.Plane.{off_grid}
use Rattle.refusal.specs.declared.Refusal.{Refusal}
use Rattle.refusal.specs.Number.{number}
use Rattle.chart.specs.Chart.{Chart, InRange, partner, partner-in}
use Rattle.locate.specs.declared.Location.{Location}
use Rattle.locate.specs.declared.Location.TheVariants.{OnVertex, OnEdge, OnFace, OutsideOfConvexHull}
use Rattle.locate.specs.Location.{location_of}
use Rattle.locate.specs.Laws.{Holds}
use Rattle.neighbors.specs.Neighbors.{neighbors_of}
use Rattle.weights.specs.Barycentric.{Weights, vertices_of, weights_of, weigh_two, weigh_three}
use Rattle.natural.specs.Natural.{shares_of}
use Rattle.natural.specs.Facts.{vertices_in}
use Rattle.interpolate.specs.Values.{Owners, value_sum, value_blend}
use Rattle.values.specs.Located.{place_refusal, barycentric_at}

-- methods: 1 barycentric, 2 natural, 3 with gradients; 0 stands for any other
abbrev pub method_of : ℤ → ℕ
method_of z = cond (eq_z z (pos 1)) 1 (cond (eq_z z (pos 2)) 2 (cond (eq_z z (pos 3)) 3 0))

-- the value, or the number of the refusal
pub data Answer : Type 0 where
  value : Float → Answer
  turned_down : ℕ → Answer

-- what each case of the call's answer says, in 01's numbers and values
abbrev pub value_says : Result Float Refusal → Answer
value_says (Ok v) = value v
value_says (Err r) = turned_down (number r)

-- method 1: the values by the barycentric weights
abbrev pub barycentric_value : Chart → Weights → Answer
barycentric_value c (Weights.weights l) = value (value_sum c (vertices_of l) (weights_of l))
barycentric_value c (Weights.turned_down n) = turned_down n

-- methods 2 and 3: the natural weights, the gradients too
abbrev pub by_method : ℕ → Chart → Place → List ℕ → List Float → Float
by_method m c q os ws = cond (eqb m 2) (value_sum c os ws) (value_blend c q os ws)

-- methods 2 and 3, from the list of natural neighbour edges
abbrev pub natural_value : ℕ → Chart → Place → List ℕ → Answer
natural_value m c q list = value (by_method m c q (map c.origin list) (shares_of c q list))

-- at a location that was found
abbrev pub value_at : ℕ → Chart → Place → Location → Answer
value_at m c q l = cond (eqb m 1) (barycentric_value c (barycentric_at c q l)) (natural_value m c q (neighbors_of c q l).edges)

-- 14: outside the hull
abbrev pub value_from : ℕ → ℕ → Chart → Place → Location → Answer
value_from zero m c q l = value_at m c q l
value_from (suc n) m c q l = turned_down (suc n)

-- where the load lies
unfoldable pub located_value : ℕ → Chart → Place → Answer
located_value m c q = value_from (place_refusal (location_of c q)) m c q (location_of c q)

-- 12: method unknown; 13: x or y not -10,000 to 10,000
unfoldable pub value_on : ℕ → Chart → Place → Answer
value_on m c q = cond (eqb m 0) (turned_down 12) (cond (off_grid q) (turned_down 13) (located_value m c q))

-- ---- laws: a location that was found, and one that was not
pub value_found : (n m : ℕ) (c : Chart) (q : Place) (l : Location) → n ≡ 0 → value_from n m c q l ≡ value_at m c q l
value_found zero m c q l e = refl
value_found (suc n) m c q l e = let o : ⊥ = omega arith in absurd o

pub value-turned : (n m : ℕ) (c : Chart) (q : Place) (l : Location) → (n ≡ 0 → ⊥) → value_from n m c q l ≡ turned_down n
value-turned zero m c q l e = absurd (e refl)
value-turned (suc n) m c q l e = refl

-- ---- laws: the refusals of a value are at most 14
abbrev pub UpTo14 : Answer → Type 0
UpTo14 (value v) = Unit {0}
UpTo14 (turned_down k) = k ≤ 14

cond-up-to-14 : (b : Bool) (x y : Answer) → UpTo14 x → UpTo14 y → UpTo14 (cond b x y)
cond-up-to-14 true x y f g = f
cond-up-to-14 false x y f g = g

barycentric-up-to-14 : (c : Chart) (q : Place) (l : Location) → UpTo14 (barycentric_value c (barycentric_at c q l))
unfolding weigh_two weigh_three
barycentric-up-to-14 c q (OnVertex v) = tt
barycentric-up-to-14 c q (OnEdge h) = tt
barycentric-up-to-14 c q (OnFace f) = tt
barycentric-up-to-14 c q (OutsideOfConvexHull h) = omega arith

at-up-to-14 : (m : ℕ) (c : Chart) (q : Place) (l : Location) → UpTo14 (value_at m c q l)
at-up-to-14 m c q l =
    cond-up-to-14 (eqb m 1) (barycentric_value c (barycentric_at c q l)) (natural_value m c q (neighbors_of c q l).edges) (barycentric-up-to-14 c q l) tt

from-up-to-14 : (m : ℕ) (c : Chart) (q : Place) (l : Location) → UpTo14 (value_from (place_refusal l) m c q l)
from-up-to-14 m c q (OnVertex v) = at-up-to-14 m c q (OnVertex v)
from-up-to-14 m c q (OnEdge h) = at-up-to-14 m c q (OnEdge h)
from-up-to-14 m c q (OnFace f) = at-up-to-14 m c q (OnFace f)
from-up-to-14 m c q (OutsideOfConvexHull h) = omega arith

pub value-up-to-14 : (m : ℕ) (c : Chart) (q : Place) → UpTo14 (value_on m c q)
unfolding value_on located_value
value-up-to-14 m c q =
    cond-up-to-14 (eqb m 0) (turned_down 12) (cond (off_grid q) (turned_down 13) (located_value m c q)) (omega arith)
    (cond-up-to-14 (off_grid q) (turned_down 13) (located_value m c q) (omega arith) (from-up-to-14 m c q (location_of c q)))

-- by a known method, on the grid, the value is that of the location
pub value-located : (m : ℕ) (c : Chart) (q : Place) → eqb m 0 ≡ false → off_grid q ≡ false → value_on m c q ≡ located_value m c q
unfolding value_on
value-located m c q d e = rw (d, e)

-- ---- laws: the vertices are vertices of the chart
in-none : (c : Chart) → Owners c []
in-none c k l = absurd (not-suc-le-zero l)

in-more : (c : Chart) (u : ℕ) (os : List ℕ) → u < c.vertices → Owners c os → Owners c (u ∷ os)
in-more c u os a b zero l = a
in-more c u os a b (suc k) l = b k (le_of_suc-le-suc l)

in_one : (c : Chart) (u : ℕ) → u < c.vertices → Owners c (u ∷ [])
in_one c u a = in-more c u [] a (in-none c)

pub barycentric-owners : (c : Chart) (q : Place) (l : Location) → InRange c → Holds c q l → Owners c (vertices_in (barycentric_at c q l))
unfolding weigh_two weigh_three
barycentric-owners c q (OnVertex v) r h = in_one c v h.0
barycentric-owners c q (OnEdge e) r h = in-more c _ (c.origin (partner e) ∷ []) (r.origins e h.0) (in_one c _ (r.origins _ (partner-in r e h.0)))
barycentric-owners c q (OnFace f) r h =
    let a = r.adjacents f h.0 in
    in-more c _ (c.origin (c.adjacent f) ∷ c.origin (c.next (c.adjacent f)) ∷ []) (r.origins _ (r.prevs _ a)) (in-more c _ (c.origin (c.next (c.adjacent f)) ∷ []) (r.origins _ a) (in_one c _ (r.origins _ (r.nexts _ a))))
barycentric-owners c q (OutsideOfConvexHull e) r h = in-none c

pub listed-owners : (c : Chart) → InRange c → (list : List ℕ) → ((k : ℕ) → k < length list → get_or list k 0 < c.half_edges) → Owners c (map c.origin list)
listed-owners c r [] b = in-none c
listed-owners c r (h ∷ list) b =
    in-more c _ (map c.origin list) (r.origins h (b 0 (omega arith))) (listed-owners c r list (λ k l. b (suc k) (omega arith)))

-- ---- laws: what `natural_shares` leaves of a list
pub shares_whole : (m : ℕ) (c : Chart) (q : Place) (list list' : List ℕ) → list' ≡ list → (xs : List Float) → take (length list') xs ≡ shares_of c q list'
    → (n : ℕ) (os : List ℕ) → length list' ≡ n → os ≡ map c.origin list' → natural_value m c q list ≡ value (by_method m c q os (take n xs))
shares_whole m c q list list' same xs e n os l o = rw (← same, o, ← l, e)
