-- The turn about a vertex: `out_edges()` of handle_impls.rs with circular_iterator.rs, and a sum over it as `estimate_gradient` takes it.
use Rattle.std.specs.Prelude.{◌≡◌, refl, cond, List, [], ◌∷◌, map, ℕ, zero, suc, ◌-◌, ◌<◌, eqb}
use Rattle.std.proofs.Common.{arith, eq-eqb, ne_eqb}
use Rattle.chart.specs.Chart.{Chart, partner, InRange, partner-in}

-- `ccw()`: the partner of the previous half-edge
abbrev pub ccw : Chart → ℕ → ℕ
ccw c h = partner (c.prev h)

-- from h on by `ccw()` until `start` is met again, n half-edges at most
unfoldable pub turn : Chart → ℕ → ℕ → ℕ → List ℕ
turn c start zero h = []
turn c start (suc n) h = cond (eqb h start) [] (h ∷ turn c start n (ccw c h))

-- `out_edges()` after the first, which is the vertex's out half-edge: the bound is the number of half-edges, the first one counted
abbrev pub other_out_edges : Chart → ℕ → List ℕ
other_out_edges c v = turn c (c.out v) (c.half_edges - 1) (ccw c (c.out v))

-- `for index in 0..len`: each with the one after it, and the last with the first
unfoldable pub over_pairs : {A S : Type 0} → (S → A → A → S) → A → S → A → List A → S
over_pairs step first sum last [] = step sum last first
over_pairs step first sum last (p ∷ rest) = over_pairs step first (step sum last p) p rest

-- the sum of `step` over the ends of the half-edges out of v, as `at` has a vertex
abbrev pub sum_about : {A S : Type 0} → Chart → (ℕ → A) → (A → S → A → A → S) → S → ℕ → S
sum_about c at step none v =
    let first = at (c.origin (partner (c.out v))) in
    over_pairs (step (at v)) first none first (map (λ h. at (c.origin (partner h))) (other_out_edges c v))

-- ---- the turn, step by step
-- it is back
pub turn-back : (c : Chart) (start n h : ℕ) → h ≡ start → turn c start n h ≡ []
unfolding turn
turn-back c start zero h e = refl
turn-back c start (suc n) h e = rw (eq-eqb h start e)

-- it meets its bound
pub turn_end : (c : Chart) (start h : ℕ) → turn c start 0 h ≡ []
unfolding turn
turn_end c start h = refl

-- it goes on
pub turn_on : (c : Chart) (start n h : ℕ) → (h ≡ start → ⊥) → 0 < n → turn c start n h ≡ h ∷ turn c start (n - 1) (ccw c h)
unfolding turn
turn_on c start zero h d l = let o : ⊥ = omega arith in absurd o
turn_on c start (suc n) h d l = let e : suc n - 1 ≡ n = omega arith in rw (ne_eqb h start d, e)

-- the next half-edge is in range
pub ccw-in : {c : Chart} → InRange c → (h : ℕ) → h < c.half_edges → ccw c h < c.half_edges
ccw-in {c} r h l = partner-in r (c.prev h) (r.prevs h l)
