-- Every listed edge is a half-edge of the chart. Assumes nothing.
use Rattle.std.specs.Prelude.{◌≡◌, true, false, List, [], ◌∷◌, ℕ, ◌<◌, length, get_or}
use Rattle.std.proofs.Math.Logic.{⊎_elim}
use Rattle.faceset.specs.Set.{none, add}
use Rattle.faceset.specs.Laws.{cases}
use Rattle.geometry.specs.declared.Place.{Place}
use Rattle.chart.specs.Chart.{Chart, partner, InRange, partner-in}
use Rattle.locate.specs.declared.Location.{Location}
use Rattle.locate.specs.declared.Location.TheVariants.{OnVertex, OnEdge, OnFace, OutsideOfConvexHull}
use Rattle.locate.specs.Laws.{Holds}
use Rattle.flips.specs.Search.{Found, found, inspect_all}
use Rattle.neighbors.specs.Neighbors.{starts, finished, face_neighbors, inner_edge_neighbors, edge_neighbors, part_of_convex_hull, neighbors_of}
use Rattle.flips.specs.Laws.{e1-in, e2-in}
use Rattle.neighbors.specs.Counting.{Leads, All, search-leads}
use Rattle.neighbors.specs.Counting.Leads.{stays, opens, lists}
use Rattle.neighbors.specs.Each.{done, also, each_append, each-reverse, each_at}

module _ (c : Chart) (q : Place) (r : InRange c) where
  -- what turns of the search list
  all_listed : {s t : List ℕ} {w v : Found} → Leads c q s w t v → All c s → All c w.listed → All c v.listed
  all_listed stays a b = b
  all_listed {s = h ∷ s} (opens i y l) (also j a) b = all_listed l (also (e2-in c q r h i) (also (e1-in c q r h i) a)) b
  all_listed {s = h ∷ s} (lists y l) (also j a) b = all_listed l a (each_append b (also (partner-in r h j) done))

  searched : (s : List ℕ) (w : Found) → All c s → All c w.listed → All c (finished c (inspect_all c q s w)).edges
  unfolding finished
  searched s w a b = each-reverse (inspect_all c q s w).listed (all_listed (search-leads c q r s w a) a b)

  -- every edge of a list is a half-edge of the chart
  edges-in : (l : Location) → Holds c q l → All c (neighbors_of c q l).edges
  unfolding neighbors_of edge_neighbors inner_edge_neighbors face_neighbors
  edges-in (OnVertex v) h = also (r.outs v h.0) done
  edges-in (OnEdge h) k =
      ⊎_elim (λ (e : part_of_convex_hull c h ≡ true). rw e (also k.0 (also (partner-in r h k.0) done)))
      (λ (e : part_of_convex_hull c h ≡ false). rw e (searched (h ∷ partner h ∷ []) (found none []) (also k.0 (also (partner-in r h k.0) done)) done))
      (cases (part_of_convex_hull c h))
  edges-in (OnFace f) k =
      let a = r.adjacents f k.0 in
      searched (starts c f) (found (add f none) [])
      (also (partner-in r _ (r.nexts _ a)) (also (partner-in r _ a) (also (partner-in r _ (r.prevs _ a)) done))) done
  edges-in (OutsideOfConvexHull h) k = done

  pub listed_below : (l : Location) → Holds c q l → (k : ℕ) → k < length (neighbors_of c q l).edges → get_or (neighbors_of c q l).edges k 0 < c.half_edges
  listed_below l h = each_at (edges-in l h)
