-- Laws of a turn by the steps it has left, whatever its loop counts. Assumes nothing.
use Rattle.std.specs.Prelude.{◌≡◌, refl, cond, eqb, Float}
use Prim.Native.Nat.{ℕ, zero, suc, ◌-◌}
use Rattle.std.proofs.Math.Numerals.{sub-one}
use Rattle.std.proofs.Common.{eq-eqb, ne_eqb}
use Rattle.chart.specs.Chart.{Chart, partner}
use Rattle.points.specs.declared.Point2.{Point2}
use Rattle.points.specs.Floats.{f0}
use Rattle.turns.specs.declared.Sides.{Sides}
use Rattle.turns.specs.Turn.{face_center, add_side, area_of, turn_from}

-- a turn after a step, with k left: it is at the stop edge's partner, or it goes on
abbrev pub after_step : (c : Chart) (q : Point2) (stop : ℕ) (first : Point2) (k edge : ℕ) (last : Point2) → Sides → Float
after_step c q stop first k edge last s = cond (eqb edge (partner stop)) (area_of (add_side s last first)) (turn_from c q stop first k edge last s)

module _ (c : Chart) (q : Point2) (stop : ℕ) (first : Point2) where
  -- one step
  pub turn_step : (k edge : ℕ) (last : Point2) (s : Sides) → (k ≡ 0 → ⊥) → turn_from c q stop first k edge last s
      ≡ after_step c q stop first (k - 1) (partner (c.next edge)) (face_center c q (c.face edge)) (add_side s last (face_center c q (c.face edge)))
  unfolding turn_from
  turn_step zero edge last s h = absurd (h refl)
  turn_step (suc k) edge last s h = rw sub-one

  -- it has none left
  pub turn-over : (k edge : ℕ) (last : Point2) (s : Sides) → k ≡ 0 → turn_from c q stop first k edge last s ≡ f0
  unfolding turn_from
  turn-over k edge last s e = rw e

  -- after a step it is there, or it goes on
  pub turn-whole : (k edge : ℕ) (last : Point2) (s : Sides) → edge ≡ partner stop → after_step c q stop first k edge last s ≡ area_of (add_side s last first)
  turn-whole k edge last s e = rw (eq-eqb edge (partner stop) e)

  pub turn_on : (k edge : ℕ) (last : Point2) (s : Sides) → (edge ≡ partner stop → ⊥) → after_step c q stop first k edge last s ≡ turn_from c q stop first k edge last s
  turn_on k edge last s e = rw (ne_eqb edge (partner stop) e)
