-- The balance of the search: at each moment the edges listed and those waiting are as many as the faces opened, and two. Assumes nothing.
use Rattle.std.specs.Prelude.{◌≡◌, Bool, ◌||◌, length}
use Rattle.std.proofs.Math.Path.{refl, ap}
use Rattle.std.proofs.Common.{◌∙◌, arith, length-append}
use Rattle.std.proofs.Math.Logic.{⊎_elim}
use Rattle.std.proofs.Math.Bool.{true, false}
use mathlib.Core.List.{List, [], ◌∷◌}
use Prim.Native.Nat.{ℕ, zero, suc, ◌+◌, ◌*◌, ◌≤◌, ◌<◌}
use Rattle.std.proofs.Math.Dec.{eqb}
use Rattle.std.proofs.Math.ListN.{length-reverse}
use Rattle.faceset.specs.Set.{none, add}
use Rattle.faceset.specs.Laws.{cases, count_none, count-new}
use Rattle.geometry.specs.declared.Place.{Place}
use Rattle.chart.specs.Chart.{Chart, partner, InRange, partner-in}
use Rattle.flips.specs.Search.{Found, found, should_flip, opening, listing, inspect_all, opened_count, free}
use Rattle.neighbors.specs.Neighbors.{starts, finished, face_search, edge_search, face_neighbors, inner_edge_neighbors}
use Rattle.neighbors.specs.Each.{Each, done, also}
use Rattle.flips.specs.Laws.{one_fewer, e1-in, e2-in, all-open, all-border}

-- Moments of a search, each the half-edges waiting and what is found so far: one leads to another by turns of the loop, which take the first half-edge
-- that waits
pub data Leads (c : Chart) (q : Place) : List ℕ → Found → List ℕ → Found → Type 0 where
  stays : {s : List ℕ} {w : Found} → Leads c q s w s w
  opens : {h : ℕ} {s t : List ℕ} {w v : Found} → h < c.half_edges → should_flip c q w.opened h ≡ true → Leads c q (partner (c.prev h) ∷ partner (c.next h) ∷ s) (opening c h w) t v → Leads c q (h ∷ s) w t v
  lists : {h : ℕ} {s t : List ℕ} {w v : Found} → should_flip c q w.opened h ≡ false → Leads c q s (listing h w) t v → Leads c q (h ∷ s) w t v

-- every half-edge that waits is one of the chart
abbrev pub All : Chart → List ℕ → Type 0
All c = Each (λ (h : ℕ). h < c.half_edges)

module _ (c : Chart) (q : Place) (r : InRange c) where
  -- the search leads to where nothing waits
  ends : (n : ℕ) (s : List ℕ) (w : Found) → All c s → 2 * free c w.opened + length s ≤ n → Leads c q s w [] (inspect_all c q s w)
  unfolding inspect_all
  ends zero [] w a l = stays
  ends (suc n) [] w a l = stays
  ends zero (h ∷ s) w a l = absurd (omega arith)
  ends (suc n) (h ∷ s) w (also i a) l =
      ⊎_elim
      (λ (y : should_flip c q w.opened h ≡ true).
      let fewer : suc (free c (add (c.face h) w.opened)) ≡ free c w.opened = (one_fewer c q r w.opened h i y).1 in
      rw (all-open c q r h s w i y)
      (opens i y (ends n (partner (c.prev h) ∷ partner (c.next h) ∷ s) (opening c h w) (also (e2-in c q r h i) (also (e1-in c q r h i) a)) (omega arith))))
      (λ (y : should_flip c q w.opened h ≡ false). rw (all-border c q r h s w y) (lists y (ends n s (listing h w) a (omega arith))))
      (cases (should_flip c q w.opened h))

  pub search-leads : (s : List ℕ) (w : Found) → All c s → Leads c q s w [] (inspect_all c q s w)
  search-leads s w a = ends (2 * free c w.opened + length s) s w a (omega arith)

  -- what turns keep: listed and waiting grow as the opened faces do
  pub balance : {s t : List ℕ} {w v : Found} → Leads c q s w t v → length v.listed + length t + opened_count c w.opened ≡ length w.listed + length s + opened_count c v.opened
  balance stays = refl
  balance {s = h ∷ s} {w = w} (opens i y l) = omega (arith, balance l, (one_fewer c q r w.opened h i y).0)
  balance {s = h ∷ s} {w = w} (lists y l) = omega (arith, balance l, length-append w.listed (partner h ∷ []))

  -- an opened face stays opened
  pub stay-open : {s t : List ℕ} {w v : Found} → Leads c q s w t v → (g : ℕ) → w.opened g ≡ true → v.opened g ≡ true
  unfolding add
  stay-open stays g e = e
  stay-open {s = h ∷ s} {w = w} (opens i y l) g e = stay-open l g (ap (λ (b : Bool). eqb g (c.face h) || b) e ∙ or-true (eqb g (c.face h)))
    where
      or-true : (b : Bool) → (b || true) ≡ true
      or-true true = refl
      or-true false = refl
  stay-open (lists y l) g e = stay-open l g e

  -- and there are no fewer of them
  pub no-fewer : {s t : List ℕ} {w v : Found} → Leads c q s w t v → opened_count c w.opened ≤ opened_count c v.opened
  no-fewer stays = omega arith
  no-fewer {s = h ∷ s} {w = w} (opens i y l) = omega (arith, no-fewer l, (one_fewer c q r w.opened h i y).0)
  no-fewer (lists y l) = no-fewer l

  -- ---- in a face
  one-open : (f : ℕ) → f < c.faces → opened_count c (add f none) ≡ 1
  unfolding none
  one-open f l = count-new c.faces f none l refl ∙ ap suc (count_none c.faces)

  starts-in : (f : ℕ) → f < c.faces → All c (starts c f)
  starts-in f l =
      let a = r.adjacents f l in
      also (e1-in c q r (c.adjacent f) a) (also (partner-in r (c.adjacent f) a) (also (e2-in c q r (c.adjacent f) a) done))

  -- at each moment: listed and waiting are opened and two
  pub face-balance : (f : ℕ) {t : List ℕ} {v : Found} → f < c.faces → Leads c q (starts c f) (found (add f none) []) t v → length v.listed + length t ≡ opened_count c v.opened + 2
  face-balance f l m = omega (arith, balance m, one-open f l)

  -- so at the end
  pub face-length : (f : ℕ) → f < c.faces → length (face_neighbors c q f).edges ≡ (face_neighbors c q f).opened + 2
  unfolding face_neighbors finished
  face-length f l =
      let m = search-leads (starts c f) (found (add f none) []) (starts-in f l) in
      length-reverse (face_search c q f).listed ∙ omega (arith, face-balance f l m)

  -- at least three
  pub face-three : (f : ℕ) → f < c.faces → 3 ≤ length (face_neighbors c q f).edges
  unfolding face_neighbors finished
  face-three f l =
      let m = search-leads (starts c f) (found (add f none) []) (starts-in f l) in
      omega (arith, face-length f l, no-fewer m, one-open f l)

  -- ---- on an inner edge
  pub edge-balance : (h : ℕ) {t : List ℕ} {v : Found} → Leads c q (h ∷ partner h ∷ []) (found none []) t v → length v.listed + length t ≡ opened_count c v.opened + 2
  edge-balance h m = omega (arith, balance m, count_none c.faces)

  pub edge_leads : (h : ℕ) → h < c.half_edges → Leads c q (h ∷ partner h ∷ []) (found none []) [] (edge_search c q h)
  edge_leads h l = search-leads (h ∷ partner h ∷ []) (found none []) (also l (also (partner-in r h l) done))

  pub edge-length : (h : ℕ) → h < c.half_edges → length (inner_edge_neighbors c q h).edges ≡ (inner_edge_neighbors c q h).opened + 2
  unfolding inner_edge_neighbors finished
  edge-length h l =
      length-reverse (edge_search c q h).listed ∙ omega (arith, edge-balance h (edge_leads h l))
