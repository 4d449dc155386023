-- 02, CR 2 and CR 11: a load on the grid of an accepted chart is answered by every call, by every method, unless it is outside, where all but the location give
-- 14. Off the grid all give 13. Assumes nothing.
use Rattle.std.specs.Prelude.{◌≡◌, refl, Bool, true, false, cond, List, ℕ, eqb, Float}
use Rattle.std.proofs.Common.{sym, ◌∙◌}
use Rattle.std.proofs.Math.Path.{ap}
use Rattle.std.proofs.lemmas.Bool.{false≢true}
use Rattle.whole.specs.First.{none-at}
use Rattle.geometry.specs.declared.Place.{Place}
use Rattle.geometry.specs.Plane.{off_grid}
use Rattle.chart.specs.Chart.{Chart}
use Rattle.sound.specs.Sound.{Sound}
use Rattle.locate.specs.declared.Location.{Location}
use Rattle.locate.specs.declared.Location.TheVariants.{OnVertex, OnEdge, OnFace, OutsideOfConvexHull}
use Rattle.locate.specs.Location.{left_of_outer, location_of}
use Rattle.home.specs.Located.{left_of_rim, InsideRim, outside-left, left-outside}
use Rattle.weights.specs.declared.Weighted.{Weighted}
use Rattle.weights.specs.Barycentric.{Weights as W, weigh_two, weigh_three}
use Rattle.values.specs.Located.{place_refusal, barycentric_at}
use Rattle.neighbors.specs.Neighbors.{neighbors_of}
use Rattle.values.specs.Value.{Answer, barycentric_value, natural_value, value_at, value_from, located_value, value_on, value_found, value-located}
use Rattle.values.specs.Value.Answer.{value, turned_down}
use Rattle.query.specs.Location.{locate_on}
use Rattle.query.specs.Location.Located.{at}
use Rattle.query.specs.Weights.{barycentric_on}
use Rattle.query.specs.Natural.{edges_refused, edges_at, edges_from, edges_on, edges-found, shares_refused, shares_at, shares_from, shares_on, shares-found}

pub record Answered (c : Chart) (q : Place) : Type 0 where
  -- the location is never refused
  pub located : off_grid q ≡ false → locate_on c q ≡ at (location_of c q)
  -- for a load strictly left of no outer half-edge the others are not refused either
  pub weighed : off_grid q ≡ false → InsideRim c q → (l : List Weighted) × (barycentric_on c q ≡ W.weights l)
  pub listed : off_grid q ≡ false → InsideRim c q → (lent : List ℕ) → edges_on c q lent ≡ edges_at c q (location_of c q) lent
  pub shared : off_grid q ≡ false → InsideRim c q → (os : List ℕ) (ws : List Float) → shares_on c q os ws ≡ shares_at c q (location_of c q) os ws
  pub valued : off_grid q ≡ false → InsideRim c q → (m : ℕ) → eqb m 0 ≡ false → (v : Float) × (value_on m c q ≡ value v)
  -- for every other they are refused with 14
  pub weighed-outside : off_grid q ≡ false → left_of_rim c q ≡ true → barycentric_on c q ≡ W.turned_down 14
  pub listed-outside : off_grid q ≡ false → left_of_rim c q ≡ true → (lent : List ℕ) → edges_on c q lent ≡ edges_refused 14 lent
  pub shared-outside : off_grid q ≡ false → left_of_rim c q ≡ true → (os : List ℕ) (ws : List Float) → shares_on c q os ws ≡ shares_refused 14 os ws
  pub valued-outside : off_grid q ≡ false → left_of_rim c q ≡ true → (m : ℕ) → eqb m 0 ≡ false → value_on m c q ≡ turned_down 14

-- ---- an answer that is no refusal
abbrev IsValue : Answer → Type 0
IsValue (value v) = Unit {0}
IsValue (turned_down k) = ⊥

value_of : (a : Answer) → IsValue a → (v : Float) × (a ≡ value v)
value_of (value v) h = (v, refl)
value_of (turned_down k) h = absurd h

abbrev IsWeights : W → Type 0
IsWeights (W.weights l) = Unit {0}
IsWeights (W.turned_down k) = ⊥

weights-of : (w : W) → IsWeights w → (l : List Weighted) × (w ≡ W.weights l)
weights-of (W.weights l) h = (l, refl)
weights-of (W.turned_down k) h = absurd h

-- ---- at a location that is not outside
weighed-at : (c : Chart) (w : W) → IsWeights w → IsValue (barycentric_value c w)
weighed-at c (W.weights l) h = tt
weighed-at c (W.turned_down k) h = absurd h

value-at : (m : ℕ) (c : Chart) (q : Place) (l : Location) → IsWeights (barycentric_at c q l) → IsValue (value_at m c q l)
value-at m c q l h = choose (eqb m 1)
  where
    choose : (b : Bool) → IsValue (cond b (barycentric_value c (barycentric_at c q l)) (natural_value m c q (neighbors_of c q l).edges))
    choose true = weighed-at c (barycentric_at c q l) h
    choose false = tt

record Placed (c : Chart) (q : Place) (l : Location) : Type 0 where
  pub weighs : IsWeights (barycentric_at c q l)
  pub places : place_refusal l ≡ 0

found_at : (c : Chart) (q : Place) (l : Location) → ((n : ℕ) → l ≡ OutsideOfConvexHull n → ⊥) → Placed c q l
unfolding weigh_two weigh_three
found_at c q (OnVertex v) h = record { weighs = tt; places = refl }
found_at c q (OnEdge e) h = record { weighs = tt; places = refl }
found_at c q (OnFace f) h = record { weighs = tt; places = refl }
found_at c q (OutsideOfConvexHull n) h = absurd (h n refl)

module _ (c : Chart) (snd : Sound c) (q : Place) where
  module _ (inside : InsideRim c q) where
    found : Placed c q (location_of c q)
    found = found_at c q (location_of c q) bar
      where
        bar : (n : ℕ) → location_of c q ≡ OutsideOfConvexHull n → ⊥
        bar n w = let o = outside-left c q snd n w in false≢true (sym (none-at (left_of_outer c q) c.half_edges inside n o.0) ∙ o.1)

    pub value-inside : (m : ℕ) → (v : Float) × (located_value m c q ≡ value v)
    unfolding located_value
    value-inside m =
        let r = value_of (value_at m c q (location_of c q)) (value-at m c q (location_of c q) found.weighs) in
        (r.0, value_found (place_refusal (location_of c q)) m c q (location_of c q) found.places ∙ r.1)

  pub value-outside : (m : ℕ) → left_of_rim c q ≡ true → located_value m c q ≡ turned_down 14
  unfolding located_value
  value-outside m e = ap (λ (l : Location). value_from (place_refusal l) m c q l) (left-outside c q snd e)

  module _ (on : off_grid q ≡ false) where
    on-grid-location : locate_on c q ≡ at (location_of c q)
    unfolding locate_on
    on-grid-location = rw on

    on-grid-weights : barycentric_on c q ≡ barycentric_at c q (location_of c q)
    unfolding barycentric_on
    on-grid-weights = rw on

    on-grid-edges : (lent : List ℕ) → edges_on c q lent ≡ edges_from (place_refusal (location_of c q)) c q (location_of c q) lent
    unfolding edges_on
    on-grid-edges lent = rw on

    on-grid-shares : (os : List ℕ) (ws : List Float) → shares_on c q os ws ≡ shares_from (place_refusal (location_of c q)) c q (location_of c q) os ws
    unfolding shares_on
    on-grid-shares os ws = rw on

  pub all-answered : Answered c q
  all-answered =
      record {
        located = on-grid-location;
        weighed = λ on i. let r = weights-of (barycentric_at c q (location_of c q)) (found i).weighs in (r.0, on-grid-weights on ∙ r.1);
        listed = λ on i lent. on-grid-edges on lent ∙ edges-found (place_refusal (location_of c q)) c q (location_of c q) lent (found i).places;
        shared = λ on i os ws. on-grid-shares on os ws ∙ shares-found (place_refusal (location_of c q)) c q (location_of c q) os ws (found i).places;
        valued = λ on i m k. let r = value-inside i m in (r.0, value-located m c q k on ∙ r.1);
        weighed-outside = λ on o. on-grid-weights on ∙ ap (barycentric_at c q) (left-outside c q snd o);
        listed-outside = λ on o lent. on-grid-edges on lent ∙ ap (λ (l : Location). edges_from (place_refusal l) c q l lent) (left-outside c q snd o);
        shared-outside = λ on o os ws. on-grid-shares on os ws ∙ ap (λ (l : Location). shares_from (place_refusal l) c q l os ws) (left-outside c q snd o);
        valued-outside = λ on o m k. value-located m c q k on ∙ value-outside m o;
      }
