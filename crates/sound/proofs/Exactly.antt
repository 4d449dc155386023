-- The converse of `sound`: a chart with the facts of `Sound` is refused by none of rows 7 to 10. So these rows refuse exactly the charts that lack one of
-- them, and `Sound` can be read in their place. Assumes nothing.
use Rattle.std.specs.Prelude.{◌≡◌, ◌⊎◌, Bool, not, ◌||◌, ℕ, ◌<◌, ltb}
use Rattle.std.proofs.Math.Path.{refl}
use Rattle.std.proofs.Common.{sym, subst, ap, ◌∙◌, inl, inr}
use Rattle.std.proofs.Math.Bool.{true, false}
use Rattle.std.proofs.lemmas.Bool.{false≢true}
use native.Mathlib.Nat.{lt_irrefl}
use Rattle.std.proofs.Math.Dec.{eqb}
use borrow.Author.Tests.{eq-eqb, ne_eqb, eqb-true, eqb-false, ltb-true}
use Rattle.whole.specs.Bools.{or-first, or-second, and-true, is_false}
use Rattle.whole.specs.Test.{eq_z, eq_z-true}
use Rattle.whole.specs.First.{some, some-none}
use Rattle.signs.specs.Signs.{Pos}
use Rattle.signs.specs.Order.{test-pos, pos-test}
use Rattle.geometry.specs.declared.Place.{Place}
use Rattle.geometry.specs.Plane.{side}
use Rattle.geometry.specs.Laws.{place-eq, side-turn}
use Rattle.chart.specs.Chart.{Chart, partner, outer, corner₀, corner₁, corner₂}
use Rattle.links.specs.Links.{next_starts, prev_next, next_prev, keeps_face, three_nexts, of_its_face, linked, unlinked, out_starts, stray_out, adjacent_has, stray_adjacent, leaves, leaves_again, links_broken}
use Rattle.delaunay.specs.Delaunay.{same_place, stands_at, shares_place, turns_left, not_left, lies_left, overhung}
use Rattle.sound.specs.Tests.{Passed}
use Rattle.sound.specs.Sound.{Sound, Inner, start, end, apex}

-- a test that holds is not refused
not-of : (t : Bool) → t ≡ true → not t ≡ false
not-of true e = refl
not-of false e = absurd (false≢true e)

module _ (c : Chart) (a : Sound c) where
  -- ---- 7, of one half-edge
  either : (h : ℕ) (t : Bool) → ((c.face h ≡ 0 → ⊥) → t ≡ true) → (outer c h || t) ≡ true
  either h t f = choose (outer c h) refl
    where
      choose : (b : Bool) → outer c h ≡ b → (outer c h || t) ≡ true
      choose true e = rw e refl
      choose false e = rw e (f (eqb-false (c.face h) 0 e))

  three : (h : ℕ) → h < c.half_edges → three_nexts c h ≡ true
  three h l = either h _ (λ i. eq-eqb (c.next (c.next (c.next h))) h (ap c.next (a.next-next h (l, i)) ∙ a.next-prev h l))

  own : (h : ℕ) → h < c.half_edges → of_its_face c h ≡ true
  own h l = either h _ (λ i. pick (a.of-face h (l, i)))
    where
      d : ℕ
      d = c.adjacent (c.face h)

      pick : (h ≡ d) ⊎ ((h ≡ c.next d) ⊎ (h ≡ c.prev d)) → (eqb h d || (eqb h (c.next d) || eqb h (c.prev d))) ≡ true
      pick (inl e) = or-first (eqb h d) _ (eq-eqb h d e)
      pick (inr (inl e)) = or-second (eqb h d) _ (or-first (eqb h (c.next d)) _ (eq-eqb h (c.next d) e))
      pick (inr (inr e)) = or-second (eqb h d) _ (or-second (eqb h (c.next d)) _ (eq-eqb h (c.prev d) e))

  every-linked : (h : ℕ) → h < c.half_edges → unlinked c h ≡ false
  unfolding linked
  every-linked h l =
      let e₁ : next_starts c h ≡ true = eq-eqb (c.origin (c.next h)) (c.origin (partner h)) (a.next_start h l) in
      let e₂ : eqb (c.origin h) (c.origin (partner h)) ≡ false = ne_eqb (c.origin h) (c.origin (partner h)) (a.ends-differ h l) in
      let e₃ : prev_next c h ≡ true = eq-eqb (c.prev (c.next h)) h (a.prev-next h l) in
      let e₄ : next_prev c h ≡ true = eq-eqb (c.next (c.prev h)) h (a.next-prev h l) in
      let e₅ : keeps_face c h ≡ true = eq-eqb (c.face (c.next h)) (c.face h) (a.next-face h l) in
      not-of (linked c h) (rw (e₁, e₂, e₃, e₄, e₅, three h l, own h l) refl)

  -- ---- 7, of a vertex, a face, and the outer half-edges
  every-out : (v : ℕ) → v < c.vertices → stray_out c v ≡ false
  every-out v l = not-of (out_starts c v) (eq-eqb (c.origin (c.out v)) v (a.out-start v l))

  every-adjacent : (f : ℕ) → f < c.faces → stray_adjacent c f ≡ false
  every-adjacent f l = not-of (adjacent_has c f) (eq-eqb (c.face (c.adjacent f)) f (a.adjacent-face f l))

  every-lone : (h : ℕ) → h < c.half_edges → leaves_again c h ≡ false
  every-lone h l =
      is_false (leaves_again c h)
      (λ e.
      let t = and-true (outer c h) (some (leaves c (c.origin h)) h) e in
      false≢true
      (sym
      (some-none (leaves c (c.origin h)) h
      (λ k m.
      is_false (leaves c (c.origin h) k)
      (λ g.
      let u = and-true (outer c k) (eqb (c.origin k) (c.origin h)) g in
      let same : h ≡ k =
      a.lone h k (l, eqb-true (c.face h) 0 t.0) (native.Mathlib.Nat.lt_trans m l, eqb-true (c.face k) 0 u.0)
      (sym (eqb-true (c.origin k) (c.origin h) u.1)) in
      lt_irrefl k (subst (λ (n : ℕ). k < n) same m))))
      ∙ t.1))

  no-link : links_broken c ≡ false
  unfolding links_broken
  no-link =
      rw (
        some-none (unlinked c) c.half_edges every-linked,
        some-none (stray_out c) c.vertices every-out,
        some-none (stray_adjacent c) c.faces every-adjacent,
        some-none (leaves_again c) c.half_edges every-lone,
      )
      refl

  -- ---- 8
  no_place : (v : ℕ) → v < c.vertices → shares_place c v ≡ false
  no_place v l =
      some-none (stands_at c.place (c.place v)) v
      (λ w m.
      is_false (same_place (c.place w) (c.place v))
      (λ e.
      let t = and-true (eq_z (c.place w).x (c.place v).x) (eq_z (c.place w).y (c.place v).y) e in
      let p : c.place w ≡ c.place v = place-eq (c.place w) (c.place v) (eq_z-true (c.place w).x (c.place v).x t.0) (eq_z-true (c.place w).y (c.place v).y t.1) in
      let same : w ≡ v = a.one_place w v (native.Mathlib.Nat.lt_trans m l) l p in
      lt_irrefl v (subst (λ (n : ℕ). n < v) same m)))

  -- ---- the corners of an inner face, from its adjacent half-edge
  pub inner_of : (f : ℕ) → ltb 0 f ≡ true → f < c.faces → Inner c (c.adjacent f)
  inner_of f z l = (a.range.adjacents f l, λ e. lt_irrefl 0 (subst (λ (n : ℕ). 0 < n) (sym (a.adjacent-face f l) ∙ e) (ltb-true 0 f z)))

  pub third : (f : ℕ) → f < c.faces → c.place (corner₂ c f) ≡ end c (c.adjacent f)
  third f l = ap c.place (a.next_start (c.adjacent f) (a.range.adjacents f l))

  -- ---- 9
  no-turn : (f : ℕ) → f < c.faces → not_left c f ≡ false
  no-turn f l =
      is_false (not_left c f)
      (λ e.
      let t = and-true (ltb 0 f) (not (turns_left c f)) e in
      let g = c.adjacent f in
      let s : side (c.place (corner₀ c f)) (c.place (corner₁ c f)) (c.place (corner₂ c f)) ≡ side (start c g) (end c g) (apex c g) =
      ap (λ (x : Place). side (apex c g) (start c g) x) (third f l) ∙ side-turn (apex c g) (start c g) (end c g) in
      false≢true (sym (not-of (turns_left c f) (pos-test (subst Pos (sym s) (a.turns-left g (inner_of f t.0 l))))) ∙ t.1))

  -- ---- 10
  no-overhang : (h : ℕ) → h < c.half_edges → overhung c h ≡ false
  no-overhang h l =
      is_false (overhung c h)
      (λ e.
      let t = and-true (outer c h) (some (lies_left c.place (start c h) (end c h)) c.vertices) e in
      false≢true
      (sym
      (some-none (lies_left c.place (start c h) (end c h)) c.vertices
      (λ z m. is_false (lies_left c.place (start c h) (end c h) z) (λ g. a.hull h z (l, eqb-true (c.face h) 0 t.0) m (test-pos g))))
      ∙ t.1))

  -- ---- rows 7 to 10
  pub none_before : Passed c
  none_before =
      record {
        links = no-link;
        places = some-none (shares_place c) c.vertices no_place;
        turns = some-none (not_left c) c.faces no-turn;
        rim = some-none (overhung c) c.half_edges no-overhang;
      }
