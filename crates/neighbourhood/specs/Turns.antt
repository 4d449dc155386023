-- 02, CR 11, "With that no turn is broken": no turn about a natural neighbour meets its bound, or face 0. Assumes nothing.
use Rattle.std.specs.Prelude.{◌≡◌}
use Prim.Native.Nat.{ℕ, ◌≤◌, ◌<◌}
use Rattle.chart.specs.Chart.{Chart}
use Rattle.neighbors.specs.Neighbors.{Neighbors}
use Rattle.points.specs.declared.Point2.{Point2}
use Rattle.turns.specs.Turn.{first_side, turn_from, turn_of}
use Rattle.neighbourhood.specs.Rings.{Ring}

-- of the turns that natural weights take: about the end of each listed edge, from it to the next one
pub record Unbroken (c : Chart) (n : Neighbors) : Type 0 where
  -- a turn is at its end within as many steps as faces were opened (`turns`), and more are allowed
  pub few : n.opened < c.half_edges
  -- so its area is the same with every bound from there on, and that of a loop without one, as the Rust's is
  pub areas : Ring (λ x y. (q first last : Point2) (k : ℕ) → n.opened ≤ k → turn_from c q y first k x last (first_side first last) ≡ turn_of c q y first x last) n.edges
