-- 02, CR 11, of the public calls: what `natural_neighbor_edges` and `natural_neighbor_weights` answer for a load inside a face or on an inner edge of an accepted
-- chart is its whole neighbourhood. Assumes nothing.
use Rattle.std.specs.Prelude.{◌≡◌, Bool, true, false, cond, ◌||◌, List, ◌++◌, map, ℕ, zero, suc, ltb, ℤ, Float, length, drop, Result, Ok, Err}
use Rattle.std.proofs.Math.Path.{refl}
use Rattle.std.proofs.Common.{sym, ap, ◌∙◌}
use Rattle.std.proofs.lemmas.List.{length-map}
use Rattle.whole.specs.Bools.{never}
use Rattle.refusal.specs.declared.Refusal.{Refusal}
use Rattle.geometry.specs.declared.Place.{Place}
use Rattle.geometry.specs.Plane.{off_grid}
use Rattle.chart.specs.Chart.{Chart, chart_of}
use Rattle.checks.specs.Checks.{Loaded}
use Rattle.checks.specs.Checks.Loaded.{loaded}
use Rattle.reading.specs.Reading.{Head}
use Rattle.reading.specs.Reading.{Head as H}
use Rattle.reading.specs.Reading.{head_of, load_of, chart_in}
use Rattle.reading.specs.Laws.{chart-body}
use Rattle.accepted.proofs.Bytes.{chart-accepted}
use Rattle.locate.specs.declared.Location.{Location}
use Rattle.locate.specs.Location.{location_of}
use Rattle.neighbors.specs.Neighbors.{search_of, neighbors_of}
use Rattle.neighbourhood.specs.Neighbourhood.{Amid, Neighbourhood}
use Rattle.neighbourhood.proofs.Neighbourhood.{neighbourhood}
use Rattle.neighbourhood.proofs.Turns as T
use Rattle.neighbourhood.specs.Turns.{Unbroken}
use Rattle.natural.specs.Natural.{settled}
use Rattle.values.specs.Located.{place_refusal}
use Rattle.query.specs.declared.Listed.{Listed}
use Rattle.query.specs.Natural.{Tally, neighbors_say, Edges, edges_refused, edges_left, edges_at, edges_from, edges_on, edges_in, edges_after, natural_edges_of, Shares, shares_refused, shares_left, shares_at, shares_from, shares_on, shares_in, shares_after, natural_shares_of}
use Rattle.query.specs.Natural.Tally.{listed, turned_down}

-- of the answer r to a load at q
pub record Sibson (c : Chart) (q : Place) (r : Result Listed Refusal) : Type 0 where
  -- the edges listed, and how many faces were opened: the answer says how many of both
  pub edges : List ℕ
  pub opened : ℕ
  pub answer : r ≡ Ok (record { count = length edges; opened = opened })
  -- all that the request says of them, and of the search that found them
  pub whole : Neighbourhood c q (search_of c q (location_of c q)) (record { edges = edges; opened = opened })
  -- and no turn about one of the neighbours meets its bound
  pub unbroken : Unbroken c (record { edges = edges; opened = opened })

-- ---- an answer that lists is that of the location
listed_of : (r : Result Listed Refusal) (n o : ℕ) → neighbors_say r ≡ listed n o → r ≡ Ok (record { count = n; opened = o })
listed_of (Ok l) n o e = let a : l.count ≡ n = cc in let b : l.opened ≡ o = cc in rw (sym a, sym b) refl
listed_of (Err k) n o e = never (cc)

-- of two, not the one that is refused
other : {X : Type 0} (say : X → Tally) (b : Bool) (x y : X) (k n o : ℕ) → say x ≡ turned_down k → say (cond b x y) ≡ listed n o → cond b x y ≡ y
other say true x y k n o d e = never (apart (sym d ∙ e))
  where
    apart : turned_down k ≡ listed n o → ◌≡◌ {A = ℕ} 0 1
    apart f = cc
other say false x y k n o d e = refl

module _ (s : List ℕ) (vs : List ℤ) (es fs : List ℕ) (read : chart_in s ≡ loaded vs es fs) (q : Place) (n o : ℕ) where
  abbrev c : Chart
  c = chart_of vs es fs

  abbrev l : Location
  l = location_of c q

  body : (v e f : ℕ) → head_of s ≡ H.Counts v e f → load_of v e f s ≡ loaded vs es fs
  body v e f h = sym (chart-body s v e f h) ∙ read

  -- the edges
  module _ (lent : List ℕ) where
    edges-found : (k : ℕ) → (edges_from k c q l lent).answer ≡ listed n o → edges_from k c q l lent ≡ edges_at c q l lent
    edges-found zero e = refl
    edges-found (suc k) e = never (cc)

    edges-here : (edges_on c q lent).answer ≡ listed n o → edges_on c q lent ≡ edges_at c q l lent
    unfolding edges_on
    edges-here e =
        let d = other (λ (x : Edges). x.answer) (off_grid q) (edges_refused 13 lent) (edges_from (place_refusal l) c q l lent) 13 n o refl e in
        d ∙ edges-found (place_refusal l) (ap (λ (x : Edges). x.answer) (sym d) ∙ e)

    edges_by : (h : Head) → head_of s ≡ h → (edges_after h s q lent).answer ≡ listed n o → edges_after h s q lent ≡ edges_at c q l lent
    edges_by (H.Refused k) p w = never (cc)
    edges_by (H.Counts v e f) p w =
        let d = other (λ (x : Edges). x.answer) (ltb (length lent) e) (edges_refused 2 lent) (edges_in (load_of v e f s) q lent) 2 n o refl w in
        let r : edges_in (load_of v e f s) q lent ≡ edges_on c q lent = ap (λ (x : Loaded). edges_in x q lent) (body v e f p) in
        d ∙ r ∙ edges-here (ap (λ (x : Edges). x.answer) (sym (d ∙ r)) ∙ w)

  -- the weights
  module _ (os : List ℕ) (ws : List Float) where
    shares-found : (k : ℕ) → (shares_from k c q l os ws).answer ≡ listed n o → shares_from k c q l os ws ≡ shares_at c q l os ws
    shares-found zero e = refl
    shares-found (suc k) e = never (cc)

    shares-here : (shares_on c q os ws).answer ≡ listed n o → shares_on c q os ws ≡ shares_at c q l os ws
    unfolding shares_on
    shares-here e =
        let d = other (λ (x : Shares). x.answer) (off_grid q) (shares_refused 13 os ws) (shares_from (place_refusal l) c q l os ws) 13 n o refl e in
        d ∙ shares-found (place_refusal l) (ap (λ (x : Shares). x.answer) (sym d) ∙ e)

    shares-by : (h : Head) → head_of s ≡ h → (shares_after h s q os ws).answer ≡ listed n o → shares_after h s q os ws ≡ shares_at c q l os ws
    shares-by (H.Refused k) p w = never (cc)
    shares-by (H.Counts v e f) p w =
        let d = other (λ (x : Shares). x.answer) (ltb (length os) e || ltb (length ws) e) (shares_refused 2 os ws) (shares_in (load_of v e f s) q os ws) 2 n o refl w in
        let r : shares_in (load_of v e f s) q os ws ≡ shares_on c q os ws = ap (λ (x : Loaded). shares_in x q os ws) (body v e f p) in
        d ∙ r ∙ shares-here (ap (λ (x : Shares). x.answer) (sym (d ∙ r)) ∙ w)

-- ---- the neighbourhood of an accepted file's load
abbrev all_listed : (s : List ℕ) (vs : List ℤ) (es fs : List ℕ) → chart_in s ≡ loaded vs es fs → (q : Place) → Amid (chart_of vs es fs) q → (r : Result Listed Refusal)
    → let n = neighbors_of (chart_of vs es fs) q (location_of (chart_of vs es fs) q) in neighbors_say r ≡ listed (length n.edges) n.opened → Sibson (chart_of vs es fs) q r
all_listed s vs es fs read q amid r e =
    let c = chart_of vs es fs in
    let n = neighbors_of c q (location_of c q) in
    let a = chart-accepted s vs es fs read in
    record {
      edges = n.edges;
      opened = n.opened;
      answer = listed_of r (length n.edges) n.opened e;
      whole = neighbourhood c a q amid;
      unbroken = T.unbroken c a q amid;
    }

-- of every call that was made and lists: `made` is the contract of the call, word for word. The edges stand in front of the slice
pub sibson-edges : (s : List ℕ) (x y : ℤ) (lent : List ℕ) (r : Result Listed Refusal) (left : List ℕ) (made : edges_left r left ≡ natural_edges_of s x y lent) (l : Listed) → r ≡ Ok l
    → (vs : List ℤ) (es fs : List ℕ) → chart_in s ≡ loaded vs es fs → let q : Place = record { x = x; y = y } in Amid (chart_of vs es fs) q
    → (t : Sibson (chart_of vs es fs) q r) × (left ≡ t.edges ++ drop (length t.edges) lent)
sibson-edges s x y lent r left made l lists vs es fs read amid =
    let q : Place = record { x = x; y = y } in
    let d : (edges_left r left).answer ≡ listed l.count l.opened = ap neighbors_say lists in
    let at = made ∙ edges_by s vs es fs read q l.count l.opened lent (head_of s) refl (sym (ap (λ (e : Edges). e.answer) made) ∙ d) in
    (all_listed s vs es fs read q amid r (ap (λ (e : Edges). e.answer) at), ap (λ (e : Edges). e.slice) at)

-- each weight's vertex is where one of these edges starts
pub sibson-weights : (s : List ℕ) (x y : ℤ) (os : List ℕ) (ws : List Float) (r : Result Listed Refusal) (owners : List ℕ) (weights : List Float) (made : shares_left r owners weights ≡ natural_shares_of s x y os ws) (l : Listed) → r ≡ Ok l
    → (vs : List ℤ) (es fs : List ℕ) → chart_in s ≡ loaded vs es fs → let q : Place = record { x = x; y = y } in Amid (chart_of vs es fs) q
    → (t : Sibson (chart_of vs es fs) q r) × (owners ≡ map (chart_of vs es fs).origin t.edges ++ drop (length t.edges) os)
unfolding settled
sibson-weights s x y os ws r owners weights made l lists vs es fs read amid =
    let q : Place = record { x = x; y = y } in
    let c = chart_of vs es fs in
    let es' : List ℕ = (neighbors_of c q (location_of c q)).edges in
    let d : (shares_left r owners weights).answer ≡ listed l.count l.opened = ap neighbors_say lists in
    let at = made ∙ shares-by s vs es fs read q l.count l.opened os ws (head_of s) refl (sym (ap (λ (e : Shares). e.answer) made) ∙ d) in
    (all_listed s vs es fs read q amid r (ap (λ (e : Shares). e.answer) at), ap (λ (e : Shares). e.owners) at ∙ ap (λ (k : ℕ). map c.origin es' ++ drop k os) (length-map es' c.origin))
