-- A chart with a new vertex joined and edges flipped about it is accepted, keeps the old vertices and has the new one last. Assumes nothing.
use Rattle.std.specs.Prelude.{◌≡◌, refl, Bool, false, cond, ℕ, ◌+◌, ◌<◌, eqb, ℤ, pos}
use Rattle.std.proofs.Common.{sym, subst, ap, ◌∙◌, arith, eq-eqb, ne_eqb}
use Rattle.std.proofs.Math.Decide.{ℕ_discrete}
use Rattle.whole.specs.Bound.{outside}
use Rattle.geometry.specs.declared.Place.{Place}
use Rattle.geometry.specs.Plane.{OnGrid}
use Rattle.chart.specs.Chart.{Chart, InRange}
use Rattle.ranges.specs.Ranges.{value_max}
use Rattle.ranges.specs.Passed.{Counted}
use Rattle.accepted.specs.Accepted.{Accepted}
use Rattle.euler.specs.Euler.{half-edges-few, faces-few}
use Rattle.patches.specs.Insert.{inserted}
use Rattle.patches.specs.Split.{split}
use Rattle.stars.specs.Star.{Growing}
use Rattle.stars.specs.End.{settled-calm}
use Rattle.stars.specs.Passing.{Fitting, fits}
use Rattle.stars.specs.Start.{insert-grows, split-grows, bare-face, bare-edge}
use Rattle.legal.specs.Legal.{Legal, wired-range}
use Rattle.sites.specs.Askable.{Askable}
use Rattle.sites.specs.Site.{FaceSite, EdgeSite}
use Rattle.sites.specs.Joined.{Joined}

module _ (c : Chart) (a : Accepted c) (q : Place) (z : ℤ) (k : Askable c q z) where
  abbrev n : ℕ
  n = c.vertices

  -- the counts: Euler's inequality
  counted : Counted (n + 1) (c.half_edges + 6) (c.faces + 2)
  counted =
      let e = half-edges-few c a.sound in
      let f = faces-few c a.sound in
      let m = k.few in
      let x = a.counts.v-least in
      let y = a.counts.e-least in
      let u = a.counts.f-least in
      let v = a.counts.e-even in
      record { v-least = omega arith; v-most = omega arith; e-least = omega arith; e-most = omega arith; e-even = omega arith; f-least = omega arith; f-most = omega arith }

  -- the places and values of the chart with the vertex joined
  abbrev P' : ℕ → Place
  P' v = cond (eqb v n) q (c.place v)

  abbrev V' : ℕ → ℤ
  V' v = cond (eqb v n) z (c.value v)

  old-place : (v : ℕ) → v < n → P' v ≡ c.place v
  old-place v l = ap (λ (b : Bool). cond b q (c.place v)) (ne_eqb v n (λ e. omega arith))

  old_value : (v : ℕ) → v < n → V' v ≡ c.value v
  old_value v l = ap (λ (b : Bool). cond b z (c.value v)) (ne_eqb v n (λ e. omega arith))

  new-place : P' n ≡ q
  new-place = ap (λ (b : Bool). cond b q (c.place n)) (eq-eqb n n refl)

  new-value : V' n ≡ z
  new-value = ap (λ (b : Bool). cond b z (c.value n)) (eq-eqb n n refl)

  old-or-new : (v : ℕ) → v < n + 1 → (C : Type 0) → (v < n → C) → (v ≡ n → C) → C
  old-or-new v l C f g = pick (ℕ_discrete v n)
    where
      pick : Dec (v ≡ n) → C
      pick (yes e) = g e
      pick (no e) = f (omega arith)

  pub on-grid-all : (v : ℕ) → v < n + 1 → OnGrid (P' v)
  on-grid-all v l =
      old-or-new v l (OnGrid (P' v)) (λ m. subst OnGrid (sym (old-place v m)) (a.sound.range.places v m))
      (λ e. subst (λ (i : ℕ). OnGrid (P' i)) (sym e) (subst OnGrid (sym new-place) k.grid))

  values-all : (v : ℕ) → v < n + 1 → outside (pos 0) (pos value_max) (V' v) ≡ false
  values-all v l =
      old-or-new v l (outside (pos 0) (pos value_max) (V' v) ≡ false)
      (λ m. subst (λ (x : ℤ). outside (pos 0) (pos value_max) x ≡ false) (sym (old_value v m)) (a.values v m))
      (λ e. subst (λ (k : ℕ). outside (pos 0) (pos value_max) (V' k) ≡ false) (sym e) (subst (λ (x : ℤ). outside (pos 0) (pos value_max) x ≡ false) (sym new-value) k.ranged))

  one_place : ((v : ℕ) → v < n → c.place v ≡ q → ⊥) → (v w : ℕ) → v < n + 1 → w < n + 1 → P' v ≡ P' w → v ≡ w
  one_place bare v w l m e =
      old-or-new v l (v ≡ w)
      (λ x.
      old-or-new w m (v ≡ w) (λ y. a.sound.one_place v w x y (sym (old-place v x) ∙ e ∙ old-place w y))
      (λ y. absurd (bare v x (sym (old-place v x) ∙ e ∙ ap P' y ∙ new-place))))
      (λ x.
      old-or-new w m (v ≡ w) (λ y. absurd (bare w y (sym (old-place w y) ∙ sym e ∙ ap P' x ∙ new-place)))
      (λ y. x ∙ sym y))

  -- what is legal, from a chart with the vertex joined, is what CR 13 asks
  module _ (s d : Chart) (bare : (v : ℕ) → v < n → c.place v ≡ q → ⊥) (p : s.place ≡ P') (u : s.value ≡ V') (vm : s.vertices ≡ n + 1) (em : s.half_edges ≡ c.half_edges + 6) (fm : s.faces ≡ c.faces + 2) (l : Legal s n d) where
    place_is : d.place ≡ P'
    place_is = l.reached.same_place ∙ p

    value-is : d.value ≡ V'
    value-is = l.reached.same-value ∙ u

    v-is : d.vertices ≡ n + 1
    v-is = l.reached.same-vertices ∙ vm

    e-is : d.half_edges ≡ c.half_edges + 6
    e-is = l.reached.same_edges ∙ em

    f-is : d.faces ≡ c.faces + 2
    f-is = l.reached.same-faces ∙ fm

    g : Growing d n
    g = l.reached.growing

    counts-are : Counted d.vertices d.half_edges d.faces
    counts-are = rw (v-is, e-is, f-is) counted

    fitting : Fitting d
    fitting =
        record {
          faces-two = let m = counts-are.f-least in omega arith;
          wired = g.wired;
          range = l.reached.range;
          one_place =
              λ v w i j e.
              one_place bare v w (subst (λ (k : ℕ). v < k) v-is i) (subst (λ (k : ℕ). w < k) v-is j)
              (sym (λ t. place_is t v) ∙ e ∙ (λ t. place_is t w));
          turns = λ h x y w t. (g.good h x y w t).turns;
          hull = g.hull;
          calm = λ h x y w u t o. settled-calm d n g l.settled h x y w u t o;
        }

    pub joined : Joined c q z d
    joined =
        record {
          accepted = fits d fitting counts-are (λ v i. subst (λ (f : ℕ → ℤ). outside (pos 0) (pos value_max) (f v) ≡ false) (sym value-is) (values-all v (subst (λ (k : ℕ). v < k) v-is i)));
          extended =
              record {
                vertices-more = v-is;
                half-edges-more = e-is;
                faces-more = f-is;
                places-kept = λ v i. (λ t. place_is t v) ∙ old-place v i;
                values-kept = λ v i. (λ t. value-is t v) ∙ old_value v i;
                place-last = (λ t. place_is t n) ∙ new-place;
                value-last = (λ t. value-is t n) ∙ new-value;
              };
        }

  -- ---- in a face
  module _ (e : ℕ) (s : FaceSite c q e) where
    pub face-growing : Growing (inserted c e q z) n
    face-growing = insert-grows c a q z e s.inner s.first s.second s.third

    pub face-range : InRange (inserted c e q z)
    face-range = wired-range (inserted c e q z) face-growing.wired on-grid-all

    pub face-joined : (d : Chart) → Legal (inserted c e q z) n d → Joined c q z d
    face-joined d l = joined (inserted c e q z) d (bare-face c a q z e s.inner s.first s.second s.third) refl refl refl refl refl l

  -- ---- on an inner edge
  module _ (e : ℕ) (s : EdgeSite c q e) where
    pub edge-growing : Growing (split c e q z) n
    edge-growing = split-grows c a q z e s.inner s.beyond s.on s.between

    pub edge-range : InRange (split c e q z)
    edge-range = wired-range (split c e q z) edge-growing.wired on-grid-all

    pub edge-joined : (d : Chart) → Legal (split c e q z) n d → Joined c q z d
    edge-joined d l = joined (split c e q z) d (bare-edge c a q z e s.inner s.beyond s.on s.between) refl refl refl refl refl l
