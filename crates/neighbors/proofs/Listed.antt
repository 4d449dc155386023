-- What an answer says: it has as many edges as the list, they are the list, and as many faces were opened. Assumes nothing.
use Rattle.std.specs.Prelude.{◌≡◌, List, ℕ, length}
use Rattle.std.proofs.Common.{ap}
use Rattle.neighbors.specs.Neighbors.{Neighbors, listed}

module _ (n : Neighbors) (out : List ℕ) (opened : ℕ) (e : listed out opened ≡ n) where
  pub answer-count : length out ≡ length n.edges
  answer-count = ap (λ (m : Neighbors). length m.edges) e

  pub answer-opened : opened ≡ n.opened
  answer-opened = ap (λ (m : Neighbors). m.opened) e

  pub answer-edges : out ≡ n.edges
  answer-edges = ap (λ (m : Neighbors). m.edges) e
