-- From the tests of rows 7 to 10 to plain facts per half-edge, vertex and face. Assumes nothing.
use Rattle.std.specs.Prelude.{◌≡◌, refl, ◌⊎◌, Bool, true, false, not, ◌||◌, ℕ, zero, suc, ◌<◌, eqb, ltb}
use Rattle.std.proofs.Common.{sym, ap, ◌∙◌, inl, inr, arith}
use Rattle.std.proofs.lemmas.Bool.{false≢true}
use borrow.Author.Tests.{eq-eqb, eqb-true, ltb-true, lt-ltb, not-false}
use Rattle.whole.specs.Bools.{or-false, and-true, and_left}
use Rattle.whole.specs.Test.{eq-eq_z}
use Rattle.whole.specs.First.{some, none-at}
use Rattle.signs.specs.Signs.{Pos}
use Rattle.signs.specs.Order.{test-pos, pos-test}
use Rattle.geometry.specs.declared.Place.{Place}
use Rattle.geometry.specs.Plane.{side}
use Rattle.chart.specs.Chart.{Chart, partner, outer, corner₀, corner₁, corner₂}
use Rattle.links.specs.Links.{next_starts, ends_differ, prev_next, next_prev, keeps_face, three_nexts, of_its_face, linked, unlinked, out_starts, stray_out, adjacent_has, stray_adjacent, leaves, leaves_again, links_broken}
use Rattle.delaunay.specs.Delaunay.{stands_at, shares_place, turns_left, not_left, lies_left, overhung}

-- ---- the chart passes each row but the last
pub record Passed (c : Chart) : Type 0 where
  pub links : links_broken c ≡ false
  pub places : some (shares_place c) c.vertices ≡ false
  pub turns : some (not_left c) c.faces ≡ false
  pub rim : some (overhung c) c.half_edges ≡ false

or_right : (a b : Bool) → (a || b) ≡ true → (a ≡ true → ⊥) → b ≡ true
or_right true b e n = absurd (n refl)
or_right false b e n = e

or_cases : (a b : Bool) → (a || b) ≡ true → (a ≡ true) ⊎ (b ≡ true)
or_cases true b e = inl refl
or_cases false b e = inr e

-- a face that is not the outer one
pub above_zero : (f : ℕ) → (f ≡ 0 → ⊥) → 0 < f
above_zero zero e = absurd (e refl)
above_zero (suc f) e = omega arith

module _ (c : Chart) (p : Passed c) where
  -- ---- 7
  scans : (some (unlinked c) c.half_edges ≡ false) × ((some (stray_out c) c.vertices ≡ false) × ((some (stray_adjacent c) c.faces ≡ false) × (some (leaves_again c) c.half_edges ≡ false)))
  unfolding links_broken
  scans =
      let a = or-false (some (unlinked c) c.half_edges) _ p.links in
      let b = or-false (some (stray_out c) c.vertices) _ a.1 in
      (a.0, (b.0, or-false (some (stray_adjacent c) c.faces) (some (leaves_again c) c.half_edges) b.1))

  -- the clauses about one half-edge
  pub record Linked (h : ℕ) : Type 0 where
    pub starts : next_starts c h ≡ true
    pub ends : ends_differ c h ≡ true
    pub back : prev_next c h ≡ true
    pub forth : next_prev c h ≡ true
    pub keeps : keeps_face c h ≡ true
    pub three : three_nexts c h ≡ true
    pub of-face : of_its_face c h ≡ true

  pub links-at : (h : ℕ) → h < c.half_edges → Linked h
  unfolding linked
  links-at h l =
      let a = and-true (next_starts c h) _ (not-false (linked c h) (none-at (unlinked c) c.half_edges scans.0 h l)) in
      let b = and-true (ends_differ c h) _ a.1 in
      let d = and-true (prev_next c h) _ b.1 in
      let e = and-true (next_prev c h) _ d.1 in
      let f = and-true (keeps_face c h) _ e.1 in
      let g = and-true (three_nexts c h) (of_its_face c h) f.1 in
      record { starts = a.0; ends = b.0; back = d.0; forth = e.0; keeps = f.0; three = g.0; of-face = g.1 }

  pub out_at : (v : ℕ) → v < c.vertices → c.origin (c.out v) ≡ v
  out_at v l = eqb-true (c.origin (c.out v)) v (not-false (out_starts c v) (none-at (stray_out c) c.vertices scans.1.0 v l))

  pub adjacent-at : (f : ℕ) → f < c.faces → c.face (c.adjacent f) ≡ f
  adjacent-at f l = eqb-true (c.face (c.adjacent f)) f (not-false (adjacent_has c f) (none-at (stray_adjacent c) c.faces scans.1.1.0 f l))

  -- no half-edge of a lower number leaves the origin of an outer one
  lower : (h k : ℕ) → h < c.half_edges → c.face h ≡ 0 → c.face k ≡ 0 → c.origin k ≡ c.origin h → k < h → ⊥
  lower h k l i j e m =
      let n = and_left (outer c h) (some (leaves c (c.origin h)) h) (none-at (leaves_again c) c.half_edges scans.1.1.1 h l) (eq-eqb (c.face h) 0 i) in
      let t : leaves c (c.origin h) k ≡ true = rw (eq-eqb (c.face k) 0 j, eq-eqb (c.origin k) (c.origin h) e) refl in
      false≢true (sym (none-at (leaves c (c.origin h)) h n k m) ∙ t)

  pub lone-at : (h k : ℕ) → h < c.half_edges → k < c.half_edges → c.face h ≡ 0 → c.face k ≡ 0 → c.origin h ≡ c.origin k → h ≡ k
  lone-at h k l m i j e = same (ltb h k) refl (ltb k h) refl
    where
      same : (a : Bool) → ltb h k ≡ a → (b : Bool) → ltb k h ≡ b → h ≡ k
      same true x b y = absurd (lower k h m j i e (ltb-true h k x))
      same false x true y = absurd (lower h k l i j (sym e) (ltb-true k h y))
      same false x false y = omega (arith, borrow.Author.Tests.ltb-false h k x, borrow.Author.Tests.ltb-false k h y)

  -- ---- 8
  lower-place : (v w : ℕ) → v < c.vertices → c.place w ≡ c.place v → w < v → ⊥
  lower-place v w l e m =
      let t : stands_at c.place (c.place v) w ≡ true =
      rw (eq-eq_z (c.place w).x (c.place v).x (ap (λ (q : Place). q.x) e), eq-eq_z (c.place w).y (c.place v).y (ap (λ (q : Place). q.y) e)) refl in
      false≢true (sym (none-at (stands_at c.place (c.place v)) v (none-at (shares_place c) c.vertices p.places v l) w m) ∙ t)

  pub place_at : (v w : ℕ) → v < c.vertices → w < c.vertices → c.place v ≡ c.place w → v ≡ w
  place_at v w l m e = same (ltb v w) refl (ltb w v) refl
    where
      same : (a : Bool) → ltb v w ≡ a → (b : Bool) → ltb w v ≡ b → v ≡ w
      same true x b y = absurd (lower-place w v m e (ltb-true v w x))
      same false x true y = absurd (lower-place v w l (sym e) (ltb-true w v y))
      same false x false y = omega (arith, borrow.Author.Tests.ltb-false v w x, borrow.Author.Tests.ltb-false w v y)

  -- ---- 9, 10
  pub turn_at : (f : ℕ) → 0 < f → f < c.faces → Pos (side (c.place (corner₀ c f)) (c.place (corner₁ c f)) (c.place (corner₂ c f)))
  turn_at f z l =
      test-pos (not-false (turns_left c f) (and_left (ltb 0 f) (not (turns_left c f)) (none-at (not_left c) c.faces p.turns f l) (lt-ltb 0 f z)))

  pub rim-at : (h z : ℕ) → h < c.half_edges → z < c.vertices → c.face h ≡ 0 → Pos (side (c.place (c.origin h)) (c.place (c.origin (partner h))) (c.place z)) → ⊥
  rim-at h z l m o a =
      let s = lies_left c.place (c.place (c.origin h)) (c.place (c.origin (partner h))) in
      let n = and_left (outer c h) (some s c.vertices) (none-at (overhung c) c.half_edges p.rim h l) (eq-eqb (c.face h) 0 o) in
      false≢true (sym (none-at s c.vertices n z m) ∙ pos-test a)

  -- ---- the two clauses about inner faces
  inner-test : (h : ℕ) → (c.face h ≡ 0 → ⊥) → outer c h ≡ true → ⊥
  inner-test h i e = i (eqb-true (c.face h) 0 e)

  pub three-at : (h : ℕ) → h < c.half_edges → (c.face h ≡ 0 → ⊥) → c.next (c.next (c.next h)) ≡ h
  three-at h l i = eqb-true (c.next (c.next (c.next h))) h (or_right (outer c h) _ (links-at h l).three (inner-test h i))

  pub of-face-at : (h : ℕ) → h < c.half_edges → (c.face h ≡ 0 → ⊥) → (h ≡ c.adjacent (c.face h)) ⊎ ((h ≡ c.next (c.adjacent (c.face h))) ⊎ (h ≡ c.prev (c.adjacent (c.face h))))
  of-face-at h l i = pick (or_cases (eqb h a) (eqb h (c.next a) || eqb h (c.prev a)) (or_right (outer c h) _ (links-at h l).of-face (inner-test h i)))
    where
      a : ℕ
      a = c.adjacent (c.face h)

      second : (eqb h (c.next a) ≡ true) ⊎ (eqb h (c.prev a) ≡ true) → (h ≡ c.next a) ⊎ (h ≡ c.prev a)
      second (inl x) = inl (eqb-true h (c.next a) x)
      second (inr x) = inr (eqb-true h (c.prev a) x)

      pick : (eqb h a ≡ true) ⊎ ((eqb h (c.next a) || eqb h (c.prev a)) ≡ true) → (h ≡ a) ⊎ ((h ≡ c.next a) ⊎ (h ≡ c.prev a))
      pick (inl x) = inl (eqb-true h a x)
      pick (inr x) = inr (second (or_cases (eqb h (c.next a)) (eqb h (c.prev a)) x))
