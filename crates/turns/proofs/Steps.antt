-- One step of a turn, as its loop takes it: i of n steps are behind. Assumes nothing.
use Rattle.std.proofs.Common.{◌≡◌, ℕ, suc, ◌+◌, ◌-◌, ◌<◌, ◌≤◌, ◌∙◌, ap, arith, eq-eqb, ne_eqb}
use Rattle.chart.specs.Chart.{Chart, partner}
use Rattle.points.specs.declared.Point2.{Point2}
use Rattle.points.specs.Floats.{f0}
use Rattle.turns.specs.declared.Sides.{Sides}
use Rattle.turns.specs.Turn.{face_center, add_side, area_of, turn_from}

module _ (c : Chart) (q : Point2) (stop : ℕ) (first : Point2) (n i edge : ℕ) (last : Point2) (s : Sides) where
  -- with m + 1 steps left
  left : (m : ℕ) → n - i ≡ suc m → turn_from c q stop first (n - i) edge last s ≡ turn_from c q stop first (suc m) edge last s
  left m e = ap (λ (k : ℕ). turn_from c q stop first k edge last s) e

  -- it is at the stop edge's partner
  pub turn-there : i < n → partner (c.next edge) ≡ partner stop → turn_from c q stop first (n - i) edge last s ≡ area_of (add_side (add_side s last (face_center c q (c.face edge))) (face_center c q (c.face edge)) first)
  unfolding turn_from
  turn-there h e = left (n - (i + 1)) (omega arith) ∙ rw (eq-eqb _ _ e)

  -- it goes on
  pub turn_on : i < n → (partner (c.next edge) ≡ partner stop → ⊥) → turn_from c q stop first (n - i) edge last s ≡ turn_from c q stop first (n - (i + 1)) (partner (c.next edge)) (face_center c q (c.face edge)) (add_side s last (face_center c q (c.face edge)))
  unfolding turn_from
  turn_on h e = left (n - (i + 1)) (omega arith) ∙ rw (ne_eqb _ _ e)

  -- it has no steps left
  pub turn-over : n ≤ i → turn_from c q stop first (n - i) edge last s ≡ f0
  unfolding turn_from
  turn-over h = let e : n - i ≡ 0 = omega arith in rw e

pub ruleset steps = (turn-there, turn_on, turn-over)
