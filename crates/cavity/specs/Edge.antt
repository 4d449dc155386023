-- On an inner edge of a sound chart both faces pass the circle test and are opened, so four edges at least are listed. Assumes nothing.
use Rattle.std.specs.Prelude.{◌≡◌, refl, ◌⊎◌, Bool, false, ◌||◌, pos, length}
use Rattle.std.proofs.Common.{sym, subst, ◌∙◌, inl, inr, arith}
use Rattle.std.proofs.Math.Path.{ap}
use Rattle.std.proofs.Math.Logic.{⊎_elim}
use Rattle.std.proofs.Math.Bool.{true}
use mathlib.Core.List.{List, [], ◌∷◌}
use Prim.Native.Nat.{ℕ, ◌≤◌, ◌<◌}
use Rattle.std.specs.Int.Signed.{lt_z}
use borrow.Author.Tests.{eqb-false, eq-eqb}
use Rattle.whole.specs.Bools.{or-false}
use Rattle.signs.specs.Order.{pos-test}
use Rattle.faceset.specs.Set.{none, add}
use Rattle.faceset.specs.Laws.{cases, count-two}
use Rattle.geometry.specs.declared.Place.{Place}
use Rattle.geometry.specs.Plane.{on_open_segment}
use Rattle.geometry.specs.Laws.{circle-turn, chord-inside, segment-back}
use Rattle.chart.specs.Chart.{Chart, partner, partner-twice, partner-in, outer}
use Rattle.sound.specs.Sound.{Sound, Inner, start, end, apex}
use Rattle.locate.specs.Location.{on_edge}
use Rattle.flips.specs.Search.{Found, found, in_circle, should_flip, opening, inspect_flips, inspect_all, opened_count}
use Rattle.neighbors.specs.Neighbors.{finished, edge_search, inner_edge_neighbors, part_of_convex_hull}
use Rattle.flips.specs.Laws.{e1-in, e2-in, all-open}
use Rattle.neighbors.specs.Each.{done, also}
use Rattle.neighbors.specs.Counting.{All, search-leads, stay-open, edge-length}

module _ (c : Chart) (a : Sound c) where
  -- a load on the open segment of an inner half-edge is inside its face's circle
  pub edge-circle : (q : Place) (h : ℕ) → Inner c h → on_edge c q h ≡ true → in_circle c q h ≡ true
  unfolding in_circle
  edge-circle q h i e =
      ap (lt_z (pos 0)) (circle-turn (apex c h) (start c h) (end c h) q)
      ∙ pos-test (chord-inside (start c h) (end c h) (apex c h) q e (a.turns-left h i))

  -- the partner's segment is the same
  partner-edge : (q : Place) (h : ℕ) → on_edge c q h ≡ true → on_edge c q (partner h) ≡ true
  partner-edge q h e =
      subst (λ (k : ℕ). on_open_segment (end c h) (c.place (c.origin k)) q ≡ true) (sym (partner-twice h))
      (segment-back (start c h) (end c h) q e)

  -- ---- an edge lies between two faces
  -- the half-edges of h's face are h, next and prev
  pub same-face : (h g : ℕ) → Inner c h → Inner c g → c.face g ≡ c.face h → (g ≡ h) ⊎ ((g ≡ c.next h) ⊎ (g ≡ c.prev h))
  same-face h g i j e = pick (a.of-face h i) (rw e at (a.of-face g j))
    where
      A : ℕ
      A = c.adjacent (c.face h)

      A-in : A < c.half_edges
      A-in = a.range.adjacents (c.face h) (a.range.face-numbers h i.0)

      A-inner : Inner c A
      A-inner = (A-in, λ z. i.1 (sym (a.adjacent-face (c.face h) (a.range.face-numbers h i.0)) ∙ z))

      pp : c.prev (c.prev A) ≡ c.next A
      pp = ap c.prev (sym (a.next-next A A-inner)) ∙ a.prev-next (c.next A) (a.range.nexts A A-in)

      pick : (h ≡ A) ⊎ ((h ≡ c.next A) ⊎ (h ≡ c.prev A)) → (g ≡ A) ⊎ ((g ≡ c.next A) ⊎ (g ≡ c.prev A)) → (g ≡ h) ⊎ ((g ≡ c.next h) ⊎ (g ≡ c.prev h))
      pick (inl x) (inl y) = inl (y ∙ sym x)
      pick (inl x) (inr (inl y)) = inr (inl (y ∙ ap c.next (sym x)))
      pick (inl x) (inr (inr y)) = inr (inr (y ∙ ap c.prev (sym x)))
      pick (inr (inl x)) (inl y) = inr (inr (y ∙ sym (ap c.prev x ∙ a.prev-next A A-in)))
      pick (inr (inl x)) (inr (inl y)) = inl (y ∙ sym x)
      pick (inr (inl x)) (inr (inr y)) = inr (inl (y ∙ sym (ap c.next x ∙ a.next-next A A-inner)))
      pick (inr (inr x)) (inl y) = inr (inl (y ∙ sym (ap c.next x ∙ a.next-prev A A-in)))
      pick (inr (inr x)) (inr (inl y)) = inr (inr (y ∙ sym (ap c.prev x ∙ pp)))
      pick (inr (inr x)) (inr (inr y)) = inl (y ∙ sym x)

  -- the partner is none of them
  pub faces-differ : (h : ℕ) → Inner c h → Inner c (partner h) → c.face (partner h) ≡ c.face h → ⊥
  faces-differ h i j e = pick (same-face h (partner h) i j e)
    where
      pick : (partner h ≡ h) ⊎ ((partner h ≡ c.next h) ⊎ (partner h ≡ c.prev h)) → ⊥
      pick (inl x) = a.ends-differ h i.0 (ap c.origin (sym x))
      pick (inr (inl x)) =
          a.ends-differ (c.prev h) (a.range.prevs h i.0)
          (ap c.origin (sym (a.next-next h i) ∙ ap c.next (sym x)) ∙ a.next_start (partner h) j.0 ∙ ap c.origin (partner-twice h)
          ∙ ap c.origin (sym (a.next-prev h i.0)) ∙ a.next_start (c.prev h) (a.range.prevs h i.0))
      pick (inr (inr x)) =
          a.ends-differ (c.next h) (a.range.nexts h i.0)
          (a.next_start h i.0 ∙ ap c.origin (x ∙ sym (a.next-next h i)) ∙ a.next_start (c.next h) (a.range.nexts h i.0))

  -- ---- the search
  -- after an inner half-edge whose face passes the circle test is inspected, that face is opened
  opened_after : (q : Place) (h : ℕ) (s : List ℕ) (w : Found) → All c (h ∷ s) → outer c h ≡ false → in_circle c q h ≡ true → (inspect_all c q (h ∷ s) w).opened (c.face h) ≡ true
  unfolding should_flip add
  opened_after q h s w (also l t) o e =
      ⊎_elim (λ (y : w.opened (c.face h) ≡ true). stay-open c q a.range (search-leads c q a.range (h ∷ s) w (also l t)) (c.face h) y)
      (λ (y : w.opened (c.face h) ≡ false).
      let flips : should_flip c q w.opened h ≡ true = simp (o, y, e) in
      rw (all-open c q a.range h s w l flips)
      (stay-open c q a.range
      (search-leads c q a.range (partner (c.prev h) ∷ partner (c.next h) ∷ s) (opening c h w) (also (e2-in c q a.range h l) (also (e1-in c q a.range h l) t)))
      (c.face h) (ap (λ (b : Bool). b || w.opened (c.face h)) (eq-eqb (c.face h) (c.face h) refl))))
      (cases (w.opened (c.face h)))

  pub record Crossed (q : Place) (h : ℕ) : Type 0 where
    pub tested : should_flip c q none h ≡ true
    pub partner-tested : in_circle c q (partner h) ≡ true
    pub opened : (edge_search c q h).opened (c.face h) ≡ true
    pub partner-opened : (edge_search c q h).opened (c.face (partner h)) ≡ true
    pub two : 2 ≤ (inner_edge_neighbors c q h).opened
    pub four : 4 ≤ length (inner_edge_neighbors c q h).edges

  pub crossed : (q : Place) (h : ℕ) → h < c.half_edges → part_of_convex_hull c h ≡ false → on_edge c q h ≡ true → Crossed q h
  unfolding should_flip none inspect_all inner_edge_neighbors finished
  crossed q h l hull e =
      let p : ℕ = partner h in
      let m : p < c.half_edges = partner-in a.range h l in
      let o = or-false (outer c h) (outer c p) hull in
      let i : Inner c h = (l, eqb-false (c.face h) 0 o.0) in
      let j : Inner c p = (m, eqb-false (c.face p) 0 o.1) in
      let t : in_circle c q h ≡ true = edge-circle q h i e in
      let u : in_circle c q p ≡ true = edge-circle q p j (partner-edge q h e) in
      let x : (edge_search c q h).opened (c.face h) ≡ true = opened_after q h (p ∷ []) (found none []) (also l (also m done)) o.0 t in
      let y : (edge_search c q h).opened (c.face p) ≡ true = opened_after q p [] (inspect_flips c q h (found none [])) (also m done) o.1 u in
      let z : 2 ≤ opened_count c (edge_search c q h).opened = count-two c.faces (c.face h) (c.face p) (edge_search c q h).opened (a.range.face-numbers h l) (a.range.face-numbers p m) (faces-differ h i j) x y in
      record {
        tested = simp (o.0, t);
        partner-tested = u;
        opened = x;
        partner-opened = y;
        two = z;
        four = omega (arith, edge-length c q a.range h l, z);
      }
