-- Where a new vertex goes in, from the location of its place, and what holds there. Assumes nothing.
use Rattle.std.specs.Prelude.{◌≡◌, refl, Result, Ok, Err, Bool, ℕ, ◌<◌}
use Rattle.std.proofs.Math.Path.{sym, subst, ap}
use Rattle.std.proofs.Common.{◌∙◌}
use Rattle.std.proofs.Math.Bool.{true, false, cond}
use Rattle.std.proofs.lemmas.Bool.{eqb-false}
use Rattle.whole.specs.Bools.{or-false, and-true, never}
use Rattle.signs.specs.Signs.{Pos, Neg, Zero}
use Rattle.cells.specs.Points.{dots}
use Rattle.geometry.specs.declared.Place.{Place}
use Rattle.geometry.specs.Plane.{side}
use Rattle.chart.specs.Chart.{Chart, partner, outer, partner-in}
use Rattle.sound.specs.Sound.{Inner}
use Rattle.refusal.specs.declared.Refusal.{Refusal}
use Rattle.refusal.specs.declared.Refusal.TheVariants.{NoSite}
use Rattle.refusal.specs.Number.{refusal_of}
use Rattle.accepted.specs.Accepted.{Accepted}
use Rattle.locate.specs.declared.Location.{Location}
use Rattle.locate.specs.declared.Location.TheVariants.{OnVertex, OnEdge, OnFace, OutsideOfConvexHull}
use Rattle.locate.specs.Location.{location_of, even, on_edge, in_face}
use Rattle.locate.specs.Laws.{Holds}
use Rattle.locate.proofs.Laws.{located}
use Rattle.neighbors.specs.Neighbors.{part_of_convex_hull}
use Rattle.nearby.specs.Chart as Ch
use Rattle.home.specs.Home.{held_of}
use Rattle.home.specs.Facts.{edge_to, face-to}
use Rattle.sites.specs.declared.Site.{Site}
use Rattle.sites.specs.declared.Site.TheVariants.{Inside, Across}
use Rattle.sites.specs.Insertion.{no_site}

-- by the location; 26 on a vertex, on a hull edge and outside
unfoldable pub site_of : Chart → Location → Result Site Refusal
site_of c (OnVertex v) = Err NoSite
site_of c (OnEdge h) = cond (part_of_convex_hull c h) (Err NoSite) (Ok (Across h))
site_of c (OnFace f) = Ok (Inside (c.adjacent f))
site_of c (OutsideOfConvexHull h) = Err NoSite

-- by the place
unfoldable pub site_at : Chart → Place → Result Site Refusal
site_at c q = site_of c (location_of c q)

-- ---- strictly inside the face of e
pub record FaceSite (c : Chart) (q : Place) (e : ℕ) : Type 0 where
  pub inner : Inner c e
  pub first : Pos (side (c.place (c.origin e)) (c.place (c.origin (c.next e))) q)
  pub second : Pos (side (c.place (c.origin (c.next e))) (c.place (c.origin (c.prev e))) q)
  pub third : Pos (side (c.place (c.origin (c.prev e))) (c.place (c.origin e)) q)

-- ---- on the open inner edge of e
pub record EdgeSite (c : Chart) (q : Place) (e : ℕ) : Type 0 where
  pub inner : Inner c e
  pub beyond : Inner c (partner e)
  pub on : Zero (side (c.place (c.origin e)) (c.place (c.origin (partner e))) q)
  pub between : Neg (dots (c.place (c.origin e)) (c.place (c.origin (partner e))) q)

face-facts : (c : Chart) → Accepted c → (q : Place) (f : ℕ) → (f < c.faces) × (in_face c q f ≡ true) → FaceSite c q (c.adjacent f)
face-facts c a q f (l, t) =
    let s = a.sound in
    let e : ℕ = c.adjacent f in
    let d = held_of c s q f (face-to c q f l t) in
    record {
      inner = (d.there, d.inner);
      first = d.first;
      second = subst Pos (Ch.side-next c s e q d.there d.inner) d.second;
      third = subst Pos (Ch.side-prev c s e q d.there) d.third;
    }

edge-facts : (c : Chart) → Accepted c → (q : Place) (h : ℕ) → h < c.half_edges → on_edge c q h ≡ true → part_of_convex_hull c h ≡ false → EdgeSite c q h
edge-facts c a q h l t e =
    let o = or-false (outer c h) (outer c (partner h)) e in
    let d = edge_to c q h l t in
    record {
      inner = (l, eqb-false (c.face h) 0 o.0);
      beyond = (partner-in a.sound.range h l, eqb-false (c.face (partner h)) 0 o.1);
      on = d.on;
      between = d.between;
    }

-- ---- what each site says
module _ (c : Chart) (a : Accepted c) (q : Place) where
  pub face-site : (e : ℕ) → site_at c q ≡ Ok (Inside e) → FaceSite c q e
  unfolding site_at site_of
  face-site e s = by (location_of c q) (located c q (location_of c q) refl) s
    where
      edge : (b : Bool) (h : ℕ) → cond b (Err NoSite) (Ok (Across h)) ≡ Ok (Inside e) → FaceSite c q e
      edge true h k = never (cc)
      edge false h k = never (cc)

      by : (l : Location) → Holds c q l → site_of c l ≡ Ok (Inside e) → FaceSite c q e
      by (OnVertex v) h k = never (cc)
      by (OnEdge g) h k = edge (part_of_convex_hull c g) g k
      by (OnFace f) h k = let p : c.adjacent f ≡ e = cc in subst (FaceSite c q) p (face-facts c a q f h)
      by (OutsideOfConvexHull g) h k = never (cc)

  pub edge-site : (e : ℕ) → site_at c q ≡ Ok (Across e) → EdgeSite c q e
  unfolding site_at site_of
  edge-site e s = by (location_of c q) (located c q (location_of c q) refl) s
    where
      edge : (b : Bool) (h : ℕ) → part_of_convex_hull c h ≡ b → (h < c.half_edges) × (on_edge c q h ≡ true) → cond b (Err NoSite) (Ok (Across h)) ≡ Ok (Across e) → EdgeSite c q e
      edge true h p x k = never (cc)
      edge false h p x k = let r : h ≡ e = cc in subst (EdgeSite c q) r (edge-facts c a q h x.0 x.1 p)

      by : (l : Location) → Holds c q l → site_of c l ≡ Ok (Across e) → EdgeSite c q e
      by (OnVertex v) h k = never (cc)
      by (OnEdge g) h k = edge (part_of_convex_hull c g) g refl (h.0, (and-true (even g) (on_edge c q g) h.1).1) k
      by (OnFace f) h k = never (cc)
      by (OutsideOfConvexHull g) h k = never (cc)

-- ---- 26 is where there is no site
pub no-site : (c : Chart) (q : Place) → cond (no_site c (location_of c q)) 26 0 ≡ refusal_of (site_at c q)
unfolding site_at site_of
no-site c q = by (location_of c q)
  where
    edge : (b : Bool) (h : ℕ) → cond b 26 0 ≡ refusal_of (cond b (Err NoSite) (Ok (Across h)))
    edge true h = refl
    edge false h = refl

    by : (l : Location) → cond (no_site c l) 26 0 ≡ refusal_of (site_of c l)
    by (OnVertex v) = refl
    by (OnEdge h) = edge (part_of_convex_hull c h) h
    by (OnFace f) = refl
    by (OutsideOfConvexHull h) = refl

-- ---- the arms of the code
module _ (c : Chart) (q : Place) (l : Location) (e : l ≡ location_of c q) where
  at : {k : Location} → l ≡ k → location_of c q ≡ k
  at p = sym e ∙ p

  pub arm-edge-in : (h : ℕ) → l ≡ OnEdge h → h < c.half_edges
  arm-edge-in h p = (located c q (OnEdge h) (sym (at p))).0

  pub arm-face-in : (f : ℕ) → l ≡ OnFace f → f < c.faces
  arm-face-in f p = (located c q (OnFace f) (sym (at p))).0

  pub arm-vertex : (v : ℕ) → l ≡ OnVertex v → Err NoSite ≡ site_at c q
  unfolding site_at site_of
  arm-vertex v p = sym (ap (site_of c) (at p))

  pub arm-outside : (h : ℕ) → l ≡ OutsideOfConvexHull h → Err NoSite ≡ site_at c q
  unfolding site_at site_of
  arm-outside h p = sym (ap (site_of c) (at p))

  pub arm-hull : (h : ℕ) (b : Bool) → l ≡ OnEdge h → b ≡ part_of_convex_hull c h → b ≡ true → Err NoSite ≡ site_at c q
  unfolding site_at site_of
  arm-hull h b p s t = sym (ap (site_of c) (at p) ∙ ap (λ (x : Bool). cond x (Err NoSite) (Ok (Across h))) (sym s ∙ t))

  pub arm-inner : (h : ℕ) (b : Bool) → l ≡ OnEdge h → b ≡ part_of_convex_hull c h → b ≡ false → Ok (Across h) ≡ site_at c q
  unfolding site_at site_of
  arm-inner h b p s t = sym (ap (site_of c) (at p) ∙ ap (λ (x : Bool). cond x (Err NoSite) (Ok (Across h))) (sym s ∙ t))

  pub arm-face : (f g : ℕ) → l ≡ OnFace f → g ≡ c.adjacent f → Ok (Inside g) ≡ site_at c q
  unfolding site_at site_of
  arm-face f g p s = ap (λ (k : ℕ). Ok (Inside k)) s ∙ sym (ap (site_of c) (at p))
