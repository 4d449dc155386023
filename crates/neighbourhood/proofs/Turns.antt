-- 02, CR 11, "With that no turn is broken": no turn about a natural neighbour meets its bound, or face 0. Assumes nothing.
use Rattle.std.specs.Prelude.{◌≡◌, Bool, true, false}
use Rattle.std.proofs.Common.{sym, ap, ◌∙◌, arith}
use Rattle.std.proofs.Math.Logic.{⊎_elim}
use Prim.Native.Nat.{ℕ, zero, suc, ◌≤◌, ◌<◌}
use Rattle.std.proofs.Math.Dec.{eqb}
use Rattle.std.proofs.lemmas.Bool.{eqb-false}
use Rattle.faceset.specs.Laws.{cases, count-le}
use Rattle.geometry.specs.declared.Place.{Place}
use Rattle.chart.specs.Chart.{Chart, partner}
use Rattle.accepted.specs.Accepted.{Accepted}
use Rattle.locate.specs.Location.{location_of}
use Rattle.neighbors.specs.Neighbors.{neighbors_of}
use Rattle.cavity.specs.Room.{more_edges}
use Rattle.points.specs.declared.Point2.{Point2}
use Rattle.turns.specs.declared.Sides.{Sides}
use Rattle.turns.specs.Turn.{face_center, add_side, first_side, turn_from, turn_of}
use Rattle.neighbourhood.proofs.Rings.{ring-map}
use Rattle.neighbourhood.specs.Turning.{Turn}
use Rattle.neighbourhood.specs.Neighbourhood.{holding, Amid}
use Rattle.neighbourhood.proofs.Neighbourhood.{neighbourhood}
use Rattle.neighbourhood.specs.Turns.{Unbroken}

-- steps that are allowed beyond the last one taken are never looked at
module _ (c : Chart) (o : ℕ → Bool) (q : Point2) (stop : ℕ) (first : Point2) where
  same_area : (n k edge : ℕ) (last : Point2) (s : Sides) → n ≤ k → Turn c o n edge stop → turn_from c q stop first k edge last s ≡ turn_from c q stop first n edge last s
  unfolding turn_from
  same_area zero k edge last s l t = absurd t
  same_area (suc n) zero edge last s l t = absurd (omega arith)
  same_area (suc n) (suc k) edge last s l (f, r) =
      ⊎_elim (λ (e : eqb (partner (c.next edge)) (partner stop) ≡ true). rw e)
      (λ (e : eqb (partner (c.next edge)) (partner stop) ≡ false).
      let t : Turn c o n (partner (c.next edge)) stop =
      ⊎_elim (λ (d : c.next edge ≡ stop). absurd (eqb-false (partner (c.next edge)) (partner stop) e (ap partner d))) (λ (u : Turn c o n (partner (c.next edge)) stop). u) r in
      rw e (same_area n k (partner (c.next edge)) (face_center c q (c.face edge)) (add_side s last (face_center c q (c.face edge))) (omega arith) t))
      (cases (eqb (partner (c.next edge)) (partner stop)))

module _ (c : Chart) (acc : Accepted c) (q : Place) where
  pub unbroken : Amid c q → Unbroken c (neighbors_of c q (location_of c q))
  unbroken here =
      let n = neighbors_of c q (location_of c q) in
      let w = neighbourhood c acc q here in
      let few : n.opened < c.half_edges = omega (arith, w.counted, count-le c.faces (holding c q), more_edges c acc) in
      record {
        few = few;
        areas = ring-map (λ x. x < c.half_edges) (Turn c (holding c q) n.opened) (λ x y. (p first last : Point2) (k : ℕ) → n.opened ≤ k → turn_from c p y first k x last (first_side first last) ≡ turn_of c p y first x last) n.edges
            (λ x y l t p first last k m.
            same_area c (holding c q) p y first n.opened k x last (first_side first last) m t
            ∙ sym (same_area c (holding c q) p y first n.opened c.half_edges x last (first_side first last) (omega arith) t))
            w.below w.turns;
      }
