-- One step of the turn about a vertex, as its loop takes it: i of n steps are behind. Assumes nothing.
use Rattle.std.proofs.Common.{◌≡◌, ℕ, List, ◌∷◌, map, ◌+◌, ◌-◌, ◌<◌, ◌≤◌, ◌∙◌, ap, arith}
use Rattle.chart.specs.Chart.{Chart}
use Rattle.gradient.specs.declared.Vector3.{Vector3}
use Rattle.gradient.specs.Turn.{ccw, turn, over_pairs, turn-back, turn_end, turn_on}
use Rattle.gradient.specs.Gradient.{end_spot, add_pair}

-- the sum that the turn's last k steps leave
abbrev pub summed : Chart → Vector3 → Vector3 → ℕ → Vector3 → Vector3 → ℕ → ℕ → Vector3
summed c spot first start sum last h k = over_pairs (add_pair spot) first sum last (map (end_spot c) (turn c start k h))

module _ (c : Chart) (spot first : Vector3) (start : ℕ) (sum last : Vector3) (h n i : ℕ) where
  along : (t : List ℕ) → turn c start (n - i) h ≡ t → summed c spot first start sum last h (n - i) ≡ over_pairs (add_pair spot) first sum last (map (end_spot c) t)
  along t e = ap (λ (t : List ℕ). over_pairs (add_pair spot) first sum last (map (end_spot c) t)) e

  -- one pair more
  pub pair-on : i < n → (h ≡ start → ⊥)
      → summed c spot first start sum last h (n - i) ≡ summed c spot first start (add_pair spot sum last (end_spot c h)) (end_spot c h) (ccw c h) (n - (i + 1))
  unfolding over_pairs
  pair-on l d =
      let e : n - i - 1 ≡ n - (i + 1) = omega arith in
      along _ (turn_on c start (n - i) h d (omega arith) ∙ ap (λ (k : ℕ). h ∷ turn c start k (ccw c h)) e)

  -- the pair of last and first is what is left, where the turn is back
  pub pair-back : h ≡ start → summed c spot first start sum last h (n - i) ≡ add_pair spot sum last first
  unfolding over_pairs
  pair-back e = along _ (turn-back c start (n - i) h e)

  -- and where the bound is met
  pub pair-out : n ≤ i → summed c spot first start sum last h (n - i) ≡ add_pair spot sum last first
  unfolding over_pairs
  pair-out l = let e : n - i ≡ 0 = omega arith in along _ (ap (λ (k : ℕ). turn c start k h) e ∙ turn_end c start h)

pub ruleset steps = (pair-on, pair-back, pair-out)
