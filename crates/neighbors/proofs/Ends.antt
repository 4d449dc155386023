-- How a search starts and ends.
use Rattle.std.specs.Prelude.{◌≡◌, Bool, List, [], ◌∷◌, ◌++◌, reverse, ℕ, zero, suc, ◌≤◌, ◌<◌, length, get_or, take, drop}
use Rattle.std.proofs.Common.{refl, sym, ap, ◌∙◌, arith}
use Rattle.std.proofs.lemmas.List.{length-reverse}
use Rattle.std.proofs.Math.Seq.{take-append_seam}
use Rattle.faceset.specs.Set.{none, add, count_below, Below}
use Rattle.faceset.specs.Laws.{count_none, count-new, count-below, below_none, below-add}
use Rattle.geometry.specs.declared.Place.{Place}
use Rattle.chart.specs.Chart.{Chart, partner, InRange, partner-in}
use Rattle.flips.specs.Search.{Found, found}
use Rattle.flips.specs.Ready.{Ready}
use Rattle.flips.specs.Laws.{e1-in, e2-in}
use Rattle.neighbors.specs.Neighbors.{starts, finished, listed}

module _ (c : Chart) (q : Place) (r : InRange c) where
  -- on an edge: two wait, no face is opened
  two-in : (h : ℕ) → h < c.half_edges → (k : ℕ) → k < 2 → get_or (h ∷ partner h ∷ []) k 0 < c.half_edges
  two-in h l zero m = l
  two-in h l (suc zero) m = partner-in r h l
  two-in h l (suc (suc k)) m = absurd (omega arith)

  pub ready-edge : (h : ℕ) → h < c.half_edges → Ready c none [] (h ∷ partner h ∷ [])
  ready-edge h l = record { fits = omega arith; in-range = two-in h l; below = below_none c.faces }

  -- in a face: three wait, it is opened
  three-in : (f : ℕ) → f < c.faces → (k : ℕ) → k < 3 → get_or (starts c f) k 0 < c.half_edges
  three-in f l zero m = e1-in c q r (c.adjacent f) (r.adjacents f l)
  three-in f l (suc zero) m = partner-in r (c.adjacent f) (r.adjacents f l)
  three-in f l (suc (suc zero)) m = e2-in c q r (c.adjacent f) (r.adjacents f l)
  three-in f l (suc (suc (suc k))) m = absurd (omega arith)

  pub ready-face : (f : ℕ) → f < c.faces → Ready c (add f none) [] (starts c f)
  unfolding none
  ready-face f l =
      let one : count_below c.faces (add f none) ≡ 1 = count-new c.faces f none l refl ∙ ap suc (count_none c.faces) in
      record { fits = omega arith; in-range = three-in f l; below = below-add c.faces f none l (below_none c.faces) }

-- at the end the edges are reversed in place, and the faces counted
pub ended : (c : Chart) (w : Found) (o : ℕ → Bool) (xs ys : List ℕ) → c.faces ≤ 256 → ys ≡ xs → w ≡ found o xs → Below c.faces o
    → listed (take (length xs) (reverse ys ++ drop (length (reverse ys)) xs)) (count_below 256 o) ≡ finished c w
unfolding finished
ended c w o xs ys few same e b =
    let turned : take (length xs) (reverse xs ++ drop (length (reverse xs)) xs) ≡ reverse xs = ap (λ (n : ℕ). take n (reverse xs ++ drop (length (reverse xs)) xs)) (sym (length-reverse xs)) ∙ take-append_seam (reverse xs) (drop (length (reverse xs)) xs) in
    rw (same, e, turned, count-below c.faces 256 o few b) refl
