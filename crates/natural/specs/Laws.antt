-- Laws of the definitions, as the loops and calls use them. Assumes nothing.
use Rattle.std.specs.Prelude.{◌≡◌, List, [], ◌∷◌, ◌++◌, map, ℕ, ◌+◌, ◌≤◌, ◌<◌, length, drop, get_or, Float}
use Rattle.std.proofs.Common.{add-one, drop_of_length-le}
use Rattle.std.proofs.lemmas.List.{length-map}
use Rattle.std.proofs.Math.Seq.{drop-cons}
use Rattle.chart.specs.Chart.{Chart}
use Rattle.points.specs.declared.Point2.{Point2}
use Rattle.points.specs.Floats.{◌+f◌, ◌/f◌}
use Rattle.turns.specs.Turn.{cell_corner, turn_of}
use Rattle.natural.specs.Natural.{shares_from, outcome, settled}

-- ---- the outer loop at listed edge i
module _ (c : Chart) (q : Point2) (list : List ℕ) (i edge : ℕ) (last : Point2) (areas : List Float) (total : Float) where
  pub shares-on : (area : Float) → i < length list → (first : Point2) → first ≡ cell_corner c q (get_or list i 0) → area ≡ turn_of c q (get_or list i 0) first edge last
      → shares_from c q (drop i list) edge last areas total
      ≡ shares_from c q (drop (i + 1) list) (get_or list i 0) first (areas ++ area ∷ []) (total +f area)
  unfolding shares_from
  shares-on area h first p t = rw (t, p, drop-cons list i 0 h, shares_from, add-one)

  -- no listed edge is left
  pub shares-end : length list ≤ i → shares_from c q (drop i list) edge last areas total ≡ map (λ area. area /f total) areas
  unfolding shares_from
  shares-end h = rw (drop_of_length-le list h)

-- ---- what a call settles: the vertices and weights
pub settled-whole : (s : List Float) (o : ℕ → ℕ) (list owners : List ℕ) (weights : List Float) → length s ≡ length list
    → outcome (map o list ++ drop (length list) owners) (s ++ drop (length list) weights) ≡ settled (map o list) s owners weights
unfolding settled
settled-whole s o list owners weights e = rw (e, length-map list o)
