-- CR 2 in the words of 01's location: a load strictly left of no outer half-edge is on a vertex, on an open edge or strictly inside an inner face, on one of
-- them only (`housed`); every other load is outside. Of every chart that refusals 6 to 10 let pass, and of every place, on the grid or off it. Assumes nothing.
use Rattle.std.specs.Prelude.{◌≡◌, ◌⊎◌, Bool, cond, ◌&&◌, ℕ, ◌%◌, ◌<◌}
use Rattle.std.proofs.Math.Path.{refl}
use Rattle.std.proofs.Common.{sym, ap, ◌∙◌, inl, inr, arith}
use Rattle.std.proofs.Math.Bool.{true, false, false≢true}
use Rattle.std.proofs.Math.Decide.{ℕ_discrete}
use borrow.Author.Tests.{eq-eqb, eqb-true, ltb-true}
use Rattle.whole.specs.Bools.{and-true, and_both, is_false, never}
use Rattle.whole.specs.First.{first, some, first_found, none-at, some-none, some_at}
use Rattle.signs.specs.Signs.{Low}
use Rattle.signs.specs.Order.{low-test}
use Rattle.geometry.specs.declared.Place.{Place}
use Rattle.chart.specs.Chart.{Chart, partner, outer}
use Rattle.sound.specs.Sound.{Sound}
use Rattle.locate.specs.declared.Location.TheVariants.{OnVertex, OnEdge, OnFace, OutsideOfConvexHull}
use Rattle.locate.specs.Location.{at_vertex, even, on_edge, on_even_edge, left_of, in_face, left_of_outer, location_of}
use Rattle.home.specs.Facts as F
use Rattle.home.specs.Facts.{AtVertex, InFace, side_at, vertex-to, vertex-from, edge_to, edge-from, face-to, face-from, rim-to}
use Rattle.home.specs.Home as Hm

-- whether a load is strictly left of an outer half-edge
abbrev pub left_of_rim : Chart → Place → Bool
left_of_rim c q = some (left_of_outer c q) c.half_edges

-- a load strictly left of no outer half-edge
abbrev pub InsideRim : Chart → Place → Type 0
InsideRim c q = left_of_rim c q ≡ false

-- on a vertex, on an open edge, strictly inside a face
abbrev pub OnSomeVertex : Chart → Place → Type 0
OnSomeVertex c q = (v : ℕ) × (v < c.vertices) × (at_vertex c q v ≡ true)

abbrev pub OnSomeEdge : Chart → Place → Type 0
OnSomeEdge c q = (h : ℕ) × (h < c.half_edges) × (on_even_edge c q h ≡ true)

abbrev pub InSomeFace : Chart → Place → Type 0
InSomeFace c q = (f : ℕ) × (f < c.faces) × (in_face c q f ≡ true)

-- 02, CR 2: "on a vertex, on an open edge or strictly inside a face, exactly one of these three, and that face is the only one"
pub record Housed (c : Chart) (q : Place) : Type 0 where
  -- it is on one of the three
  pub somewhere : OnSomeVertex c q ⊎ (OnSomeEdge c q ⊎ InSomeFace c q)
  -- and on no two of them
  pub vertex-edge : (v h : ℕ) → v < c.vertices → h < c.half_edges → at_vertex c q v ≡ true → on_edge c q h ≡ true → ⊥
  pub vertex-face : (v f : ℕ) → v < c.vertices → f < c.faces → at_vertex c q v ≡ true → in_face c q f ≡ true → ⊥
  pub edge-face : (h f : ℕ) → h < c.half_edges → f < c.faces → on_edge c q h ≡ true → in_face c q f ≡ true → ⊥
  -- the face is the only one, and, beyond the request, so are the vertex and the edge
  pub one-face : (f g : ℕ) → f < c.faces → g < c.faces → in_face c q f ≡ true → in_face c q g ≡ true → f ≡ g
  pub one-vertex : (v w : ℕ) → v < c.vertices → w < c.vertices → at_vertex c q v ≡ true → at_vertex c q w ≡ true → v ≡ w
  pub one-edge : (h k : ℕ) → h < c.half_edges → k < c.half_edges → on_edge c q h ≡ true → on_edge c q k ≡ true → (k ≡ h) ⊎ (k ≡ partner h)

-- the only number that passes is the one found
hit : (p : ℕ → Bool) (n i : ℕ) → i < n → p i ≡ true → ((j : ℕ) → j < n → p j ≡ true → j ≡ i) → first p n ≡ i
hit p n i l e h = let m = ltb-true (first p n) n (some_at p n i l e) in h (first p n) m (first_found p n m)

-- a test that no number below n passes, and one that does
none : (p : ℕ → Bool) (n k : ℕ) → some p n ≡ false → k < n → p k ≡ true → ⊥
none p n k m l e = false≢true (sym (none-at p n m k l) ∙ e)

module _ (c : Chart) (q : Place) (snd : Sound c) where
  -- an open edge by its even half-edge
  even-edge : (h : ℕ) → F.OnEdge c q h → OnSomeEdge c q
  even-edge h e = choose (ℕ_discrete (h % 2) 0)
    where
      choose : Dec (h % 2 ≡ 0) → OnSomeEdge c q
      choose (yes z) = (h, e.there, and_both (even h) (on_edge c q h) (eq-eqb (h % 2) 0 z) (edge-from c q h e))
      choose (no z) =
          let t = Hm.edge-twin c snd q h e in
          let p : partner h % 2 ≡ 0 = omega arith in
          (partner h, t.there, and_both (even (partner h)) (on_edge c q (partner h)) (eq-eqb (partner h % 2) 0 p) (edge-from c q (partner h) t))

  pub housed : InsideRim c q → Housed c q
  housed n =
      record {
        somewhere = choose (Hm.somewhere c snd q (λ h l o. rim-to c q h (none-at (left_of_outer c q) c.half_edges n h l) o));
        vertex-edge = λ v h l m a b. Hm.vertex-edge c snd q v h (vertex-to c q v l a) (edge_to c q h m b);
        vertex-face = λ v f l m a b. Hm.vertex-face c snd q v f (vertex-to c q v l a) (face-to c q f m b);
        edge-face = λ h f l m a b. Hm.edge-face c snd q h f (edge_to c q h l a) (face-to c q f m b);
        one-face = λ f g l m a b. Hm.one-face c snd q f g (face-to c q f l a) (face-to c q g m b);
        one-vertex = λ v w l m a b. Hm.one-vertex c snd q v w (vertex-to c q v l a) (vertex-to c q w m b);
        one-edge = λ h k l m a b. Hm.one-edge c snd q h k (edge_to c q h l a) (edge_to c q k m b);
      }
    where
      choose : ((v : ℕ) × AtVertex c q v) ⊎ (((h : ℕ) × F.OnEdge c q h) ⊎ ((f : ℕ) × InFace c q f)) → OnSomeVertex c q ⊎ (OnSomeEdge c q ⊎ InSomeFace c q)
      choose (inl r) = inl (r.0, r.1.there, vertex-from c q r.0 r.1)
      choose (inr (inl r)) = inr (inl (even-edge r.0 r.1))
      choose (inr (inr r)) = inr (inr (r.0, r.1.there, face-from c q r.0 r.1))

  -- ---- a load on one of the three is strictly left of no outer half-edge
  by-low : ((h : ℕ) → h < c.half_edges → c.face h ≡ 0 → Low (side_at c q h)) → InsideRim c q
  by-low low = some-none (left_of_outer c q) c.half_edges (λ h l. choose h l (outer c h) refl)
    where
      choose : (h : ℕ) → h < c.half_edges → (b : Bool) → outer c h ≡ b → (b && left_of c q h) ≡ false
      choose h l false w = refl
      choose h l true w = low-test (low h l (eqb-true (c.face h) 0 w))

  pub homes-inside : OnSomeVertex c q ⊎ (OnSomeEdge c q ⊎ InSomeFace c q) → InsideRim c q
  homes-inside (inl r) = by-low (λ h l o. Hm.vertex-inside c snd q r.0 h (vertex-to c q r.0 r.1 r.2) l o)
  homes-inside (inr (inl r)) = by-low (λ h l o. Hm.edge-low c snd q r.0 h (edge_to c q r.0 r.1 (and-true (even r.0) (on_edge c q r.0) r.2).1) l o)
  homes-inside (inr (inr r)) = by-low (λ h l o. Hm.face-inside c snd q r.0 h (face-to c q r.0 r.1 r.2) l o)

  -- ---- so a load is outside exactly where it is strictly left of an outer half-edge
  missed : (a b d : Bool) (v k f h n : ℕ) → cond a (OnVertex v) (cond b (OnEdge k) (cond d (OnFace f) (OutsideOfConvexHull h))) ≡ OutsideOfConvexHull n → (a ≡ false) × (b ≡ false) × (d ≡ false) × (h ≡ n)
  missed true b d v k f h n w = never (cc)
  missed false true d v k f h n w = never (cc)
  missed false false true v k f h n w = never (cc)
  missed false false false v k f h n w = (refl, refl, refl, cc)

  pub outside-left : (n : ℕ) → location_of c q ≡ OutsideOfConvexHull n → (n < c.half_edges) × (left_of_outer c q n ≡ true)
  unfolding location_of
  outside-left n e = choose (left_of_rim c q) refl
    where
      r : (some (at_vertex c q) c.vertices ≡ false) × (some (on_even_edge c q) c.half_edges ≡ false) × (some (in_face c q) c.faces ≡ false) × (first (left_of_outer c q) c.half_edges ≡ n)
      r = missed (some (at_vertex c q) c.vertices) (some (on_even_edge c q) c.half_edges) (some (in_face c q) c.faces) _ _ _ (first (left_of_outer c q) c.half_edges) n e

      nowhere : OnSomeVertex c q ⊎ (OnSomeEdge c q ⊎ InSomeFace c q) → ⊥
      nowhere (inl w) = none (at_vertex c q) c.vertices w.0 r.0 w.1 w.2
      nowhere (inr (inl w)) = none (on_even_edge c q) c.half_edges w.0 r.1 w.1 w.2
      nowhere (inr (inr w)) = none (in_face c q) c.faces w.0 r.2 w.1 w.2

      choose : (b : Bool) → left_of_rim c q ≡ b → (n < c.half_edges) × (left_of_outer c q n ≡ true)
      choose true w = let l = ltb-true (first (left_of_outer c q) c.half_edges) c.half_edges w in rw (← r.3) (l, first_found (left_of_outer c q) c.half_edges l)
      choose false w = absurd (nowhere (housed w).somewhere)

  pub left-outside : left_of_rim c q ≡ true → location_of c q ≡ OutsideOfConvexHull (first (left_of_outer c q) c.half_edges)
  unfolding location_of
  left-outside e =
      let bar : OnSomeVertex c q ⊎ (OnSomeEdge c q ⊎ InSomeFace c q) → ⊥ = λ w. false≢true (sym (homes-inside w) ∙ e) in
      let v0 : some (at_vertex c q) c.vertices ≡ false = some-none (at_vertex c q) c.vertices (λ v m. is_false (at_vertex c q v) (λ a. bar (inl (v, m, a)))) in
      let e0 : some (on_even_edge c q) c.half_edges ≡ false = some-none (on_even_edge c q) c.half_edges (λ h m. is_false (on_even_edge c q h) (λ a. bar (inr (inl (h, m, a))))) in
      let f0 : some (in_face c q) c.faces ≡ false = some-none (in_face c q) c.faces (λ f m. is_false (in_face c q f) (λ a. bar (inr (inr (f, m, a))))) in
      rw (v0, e0, f0)

  -- ---- a face that strictly holds the load is its location
  pub face-location : (f : ℕ) → f < c.faces → in_face c q f ≡ true → location_of c q ≡ OnFace f
  unfolding location_of
  face-location f l e =
      let hm = housed (homes-inside (inr (inr (f, l, e)))) in
      let v0 : some (at_vertex c q) c.vertices ≡ false =
      some-none (at_vertex c q) c.vertices (λ v m. is_false (at_vertex c q v) (λ a. hm.vertex-face v f m l a e)) in
      let e0 : some (on_even_edge c q) c.half_edges ≡ false =
      some-none (on_even_edge c q) c.half_edges (λ h m. is_false (on_even_edge c q h) (λ a. hm.edge-face h f m l (and-true (even h) (on_edge c q h) a).1 e)) in
      let f1 : some (in_face c q) c.faces ≡ true = some_at (in_face c q) c.faces f l e in
      let f0 : first (in_face c q) c.faces ≡ f = hit (in_face c q) c.faces f l e (λ g m a. hm.one-face g f m l a e) in
      rw (v0, e0, f1) (ap OnFace f0)

  -- and a load on an open edge has this edge as its location
  pub edge-location : (h : ℕ) → h < c.half_edges → on_edge c q h ≡ true → (k : ℕ) × (location_of c q ≡ OnEdge k) × ((k ≡ h) ⊎ (k ≡ partner h))
  unfolding location_of
  edge-location h l e =
      let u = even-edge h (edge_to c q h l e) in
      let hm = housed (homes-inside (inr (inl u))) in
      let v0 : some (at_vertex c q) c.vertices ≡ false = some-none (at_vertex c q) c.vertices (λ v m. is_false (at_vertex c q v) (λ a. hm.vertex-edge v h m l a e)) in
      let e1 : some (on_even_edge c q) c.half_edges ≡ true = some_at (on_even_edge c q) c.half_edges u.0 u.1 u.2 in
      let k = first (on_even_edge c q) c.half_edges in
      let kl : k < c.half_edges = ltb-true k c.half_edges e1 in
      let ke = and-true (even k) (on_edge c q k) (first_found (on_even_edge c q) c.half_edges kl) in
      (k, rw (v0, e1), hm.one-edge h k l kl e ke.1)
