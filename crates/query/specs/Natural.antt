-- The public calls `natural_neighbor_edges` and `natural_neighbor_weights`: 01, "Weights", behind the refusals of the chart (2 right after 4), the
-- query and the location.
use Rattle.std.specs.Prelude.{cond, ◌||◌, List, ◌++◌, ℕ, zero, suc, ◌≤◌, ◌<◌, ◌≡◌, refl, ltb, ℤ, Float, length, drop, Result, Ok, Err}
use Rattle.std.proofs.Common.{arith, lt-ltb, le-ltb}
use Rattle.refusal.specs.declared.Refusal.{Refusal}
use Rattle.refusal.specs.Number.{number}
use Rattle.geometry.specs.declared.Place.{Place}
use Rattle.geometry.specs.Plane.{off_grid}
use Rattle.chart.specs.Chart.{Chart, chart_of}
use Rattle.checks.specs.Checks.{Loaded}
use Rattle.checks.specs.Checks.Loaded.{loaded, refused}
use Rattle.reading.specs.Reading.Head.{Refused, Counts}
use Rattle.reading.specs.Reading.{Head, head_of, load_of}
use Rattle.locate.specs.declared.Location.{Location}
use Rattle.locate.specs.Location.{location_of}
use Rattle.neighbors.specs.Neighbors.{neighbors_of}
use Rattle.natural.specs.Natural.{Outcome, natural_weights_of}
use Rattle.values.specs.Located.{place_refusal}
use Rattle.query.specs.declared.Listed.{Listed}

-- how many edges or weights were written and how many faces were opened, or the number of the refusal
pub data Tally : Type 0 where
  listed : ℕ → ℕ → Tally
  turned_down : ℕ → Tally

-- what each case of the calls' answer says, in 01's numbers
abbrev pub neighbors_say : Result Listed Refusal → Tally
neighbors_say (Ok l) = listed l.count l.opened
neighbors_say (Err r) = turned_down (number r)

-- ---- the edges call: its answer, and the lent slice as it returns
pub record Edges : Type 0 where
  pub answer : Tally
  pub slice : List ℕ

-- a refusal leaves the slice unchanged
abbrev pub edges_refused : ℕ → List ℕ → Edges
edges_refused n lent = record { answer = turned_down n; slice = lent }

-- what a call said and left: for the contracts alone, so that no answer is stated in its terms
abbrev pub edges_left : Result Listed Refusal → List ℕ → Edges
edges_left r s = record { answer = neighbors_say r; slice = s }

-- the edges in front, the rest of the slice as it was
abbrev pub edges_at : Chart → Place → Location → List ℕ → Edges
edges_at c q l lent =
    let n = neighbors_of c q l in
    record { answer = listed (length n.edges) n.opened; slice = n.edges ++ drop (length n.edges) lent }

-- 14: outside the hull
abbrev pub edges_from : ℕ → Chart → Place → Location → List ℕ → Edges
edges_from zero c q l lent = edges_at c q l lent
edges_from (suc n) c q l lent = edges_refused (suc n) lent

-- 13: x or y not -10,000 to 10,000
unfoldable pub edges_on : Chart → Place → List ℕ → Edges
edges_on c q lent =
    cond (off_grid q) (edges_refused 13 lent) (edges_from (place_refusal (location_of c q)) c q (location_of c q) lent)

abbrev pub edges_in : Loaded → Place → List ℕ → Edges
edges_in (loaded vs es fs) q lent = edges_on (chart_of vs es fs) q lent
edges_in (refused n) q lent = edges_refused n lent

-- 2: the slice is shorter than the chart's half-edge count, tested right after 4
abbrev pub edges_after : Head → List ℕ → Place → List ℕ → Edges
edges_after (Refused n) s q lent = edges_refused n lent
edges_after (Counts v e f) s q lent =
    cond (ltb (length lent) e) (edges_refused 2 lent) (edges_in (load_of v e f s) q lent)

abbrev pub natural_edges_of : List ℕ → ℤ → ℤ → List ℕ → Edges
natural_edges_of s x y lent = edges_after (head_of s) s (record { x = x; y = y }) lent

-- ---- behind the head: 2, or the body
module _ (s : List ℕ) (q : Place) (v e f : ℕ) (h : head_of s ≡ Counts v e f) where
  pub edges-short : (lent : List ℕ) → length lent < e → edges_refused 2 lent ≡ edges_after (head_of s) s q lent
  edges-short lent l = rw (h, lt-ltb _ _ l)

  pub edges-body : (lent : List ℕ) → e ≤ length lent → edges_in (load_of v e f s) q lent ≡ edges_after (head_of s) s q lent
  edges-body lent l = rw (h, le-ltb _ _ l)

-- ---- by the location's refusal
pub edges-found : (n : ℕ) (c : Chart) (q : Place) (l : Location) (lent : List ℕ) → n ≡ 0 → edges_from n c q l lent ≡ edges_at c q l lent
edges-found zero c q l lent e = refl
edges-found (suc n) c q l lent e = let o : ⊥ = omega arith in absurd o

pub edges-turned : (n : ℕ) (c : Chart) (q : Place) (l : Location) (lent : List ℕ) → (n ≡ 0 → ⊥) → edges_from n c q l lent ≡ edges_refused n lent
edges-turned zero c q l lent e = absurd (e refl)
edges-turned (suc n) c q l lent e = refl

-- ---- the weights call: its answer, and both lent slices as it returns
pub record Shares : Type 0 where
  pub answer : Tally
  pub owners : List ℕ
  pub weights : List Float

-- a refusal leaves both unchanged
abbrev pub shares_refused : ℕ → List ℕ → List Float → Shares
shares_refused n os ws = record { answer = turned_down n; owners = os; weights = ws }

-- what a call said and left: for the contracts alone
abbrev pub shares_left : Result Listed Refusal → List ℕ → List Float → Shares
shares_left r os ws = record { answer = neighbors_say r; owners = os; weights = ws }

-- vertices and weights in front, the rest of the slices as it was
abbrev pub shares_settled : ℕ → ℕ → Outcome → Shares
shares_settled n o out = record { answer = listed n o; owners = out.owners; weights = out.weights }

abbrev pub shares_at : Chart → Place → Location → List ℕ → List Float → Shares
shares_at c q l os ws =
    let n = neighbors_of c q l in
    shares_settled (length n.edges) n.opened (natural_weights_of c q n.edges os ws)

abbrev pub shares_from : ℕ → Chart → Place → Location → List ℕ → List Float → Shares
shares_from zero c q l os ws = shares_at c q l os ws
shares_from (suc n) c q l os ws = shares_refused (suc n) os ws

unfoldable pub shares_on : Chart → Place → List ℕ → List Float → Shares
shares_on c q os ws =
    cond (off_grid q) (shares_refused 13 os ws) (shares_from (place_refusal (location_of c q)) c q (location_of c q) os ws)

abbrev pub shares_in : Loaded → Place → List ℕ → List Float → Shares
shares_in (loaded vs es fs) q os ws = shares_on (chart_of vs es fs) q os ws
shares_in (refused n) q os ws = shares_refused n os ws

-- 2: one of the slices is shorter than the chart's half-edge count
abbrev pub shares_after : Head → List ℕ → Place → List ℕ → List Float → Shares
shares_after (Refused n) s q os ws = shares_refused n os ws
shares_after (Counts v e f) s q os ws =
    cond (ltb (length os) e || ltb (length ws) e) (shares_refused 2 os ws) (shares_in (load_of v e f s) q os ws)

abbrev pub natural_shares_of : List ℕ → ℤ → ℤ → List ℕ → List Float → Shares
natural_shares_of s x y os ws = shares_after (head_of s) s (record { x = x; y = y }) os ws

module _ (s : List ℕ) (q : Place) (v e f : ℕ) (h : head_of s ≡ Counts v e f) (os : List ℕ) (ws : List Float) where
  pub shares-short : length os < e → shares_refused 2 os ws ≡ shares_after (head_of s) s q os ws
  shares-short l = rw (h, lt-ltb _ _ l)

  pub shares-short-2 : e ≤ length os → length ws < e → shares_refused 2 os ws ≡ shares_after (head_of s) s q os ws
  shares-short-2 k l = rw (h, le-ltb _ _ k, lt-ltb _ _ l)

  pub shares-body : e ≤ length os → e ≤ length ws → shares_in (load_of v e f s) q os ws ≡ shares_after (head_of s) s q os ws
  shares-body k l = rw (h, le-ltb _ _ k, le-ltb _ _ l)

pub shares-found : (n : ℕ) (c : Chart) (q : Place) (l : Location) (os : List ℕ) (ws : List Float) → n ≡ 0 → shares_from n c q l os ws ≡ shares_at c q l os ws
shares-found zero c q l os ws e = refl
shares-found (suc n) c q l os ws e = let o : ⊥ = omega arith in absurd o

pub shares-turned : (n : ℕ) (c : Chart) (q : Place) (l : Location) (os : List ℕ) (ws : List Float) → (n ≡ 0 → ⊥) → shares_from n c q l os ws ≡ shares_refused n os ws
shares-turned zero c q l os ws e = absurd (e refl)
shares-turned (suc n) c q l os ws e = refl
