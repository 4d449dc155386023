-- Of charts that 6 to 10 let pass, 11 meets exactly those with a pressed edge: across it a third corner is strictly inside a circle. Assumes nothing.
use Rattle.std.specs.Prelude.{◌≡◌, refl, ◌⊎◌, Bool, true, false, not, ◌&&◌, ℕ, zero, suc, ◌*◌, ◌/◌, ◌%◌, ◌<◌, ◌≤◌, ltb, ℤ, pos}
use Rattle.std.proofs.Common.{sym, subst, ap, ◌∙◌, inl, inr, arith, eq-eqb, ne_eqb, lt-ltb, ltb-true, ltb-false, le-ltb}
use Rattle.std.proofs.Math.Decide.{ℕ_discrete}
use Rattle.std.specs.Int.Signed.{lt_z}
use Rattle.std.proofs.lemmas.Bool.{eqb-false, not-true}
use Rattle.whole.specs.Bools.{and-true, and_left, is_false}
use Rattle.whole.specs.First.{first, some, some_at, some-none, none-at, first_found}
use Rattle.geometry.specs.declared.Place.{Place}
use Rattle.geometry.specs.Plane.{circle}
use Rattle.geometry.specs.Laws.{circle-turn}
use Rattle.chart.specs.Chart.{Chart, InRange, partner, partner-twice, partner-in, to_of, outer}
use Rattle.delaunay.specs.Delaunay.{in_circle, crowded}
use Rattle.across.specs.Across.{presses, pressed}
use Rattle.sound.specs.Tests.{Passed, above_zero}
use Rattle.sound.specs.Sound.{Sound}
use Rattle.sound.proofs.Sound.{sound}
use Rattle.signs.specs.Signs.{Pos, Low}
use Rattle.signs.specs.Order.{test-pos, pos-test, test_low}
use Rattle.cells.specs.Window.{circle-across}
use Rattle.nearby.specs.Chart as Ch
use Rattle.nearby.specs.Windows as W
use Rattle.nearby.specs.Walk.{Calm, empty}

module _ (c : Chart) (snd : Sound c) where
  abbrev A : ℕ → Place
  A = Ch.A c snd

  abbrev B : ℕ → Place
  B = Ch.B c snd

  abbrev C : ℕ → Place
  C = Ch.C c snd

  -- ---- none pressed: calm
  low-at : (h : ℕ) → h < c.half_edges → (c.face h ≡ 0 → ⊥) → (c.face (partner h) ≡ 0 → ⊥) → presses c h ≡ false → Low (circle (A h) (B h) (C h) (C (partner h)))
  low-at h l i j e =
      let x = and_left (not (outer c h)) _ e (ap not (ne_eqb (c.face h) 0 i)) in
      let y = and_left (not (outer c (partner h))) (lt_z (pos 0) (circle (A h) (to_of c h) (C h) (C (partner h)))) x (ap not (ne_eqb (c.face (partner h)) 0 j)) in
      subst (λ (v : ℕ). Low (circle (A h) (c.place v) (C h) (C (partner h)))) (sym (snd.next_start h l)) (test_low y)

  calm : ((k : ℕ) → k < c.half_edges / 2 → pressed c k ≡ false) → Calm c snd
  calm n h l i j = pick (ℕ_discrete (h % 2) 0)
    where
      t : ℕ
      t = partner h

      tl : t < c.half_edges
      tl = partner-in snd.range h l

      k-in : h / 2 < c.half_edges / 2
      k-in = let e = snd.range.pairs in omega arith

      none : presses c (h / 2 * 2) ≡ false
      none = n (h / 2) k-in

      turned : Low (circle (A t) (B t) (C t) (C (partner t))) → Low (circle (A h) (B h) (C h) (C t))
      turned s =
          subst Low
          (ap (λ (x : Place). circle x (B t) (C t) (C (partner t))) (Ch.twin-A c snd h l) ∙ ap (λ (x : Place). circle (B h) x (C t) (C (partner t))) (Ch.twin-B c snd h l)
          ∙ ap (λ (x : ℕ). circle (B h) (A h) (C t) (C x)) (partner-twice h)
          ∙ sym (circle-across (A h) (B h) (C h) (C t)))
          s

      pick : Dec (h % 2 ≡ 0) → Low (circle (A h) (B h) (C h) (C t))
      pick (yes e) = low-at h l i j (subst (λ (x : ℕ). presses c x ≡ false) (let d : h / 2 * 2 ≡ h = omega arith in d) none)
      pick (no e) =
          turned
          (low-at t tl j (λ f. i (sym (ap c.face (partner-twice h)) ∙ f)) (subst (λ (x : ℕ). presses c x ≡ false) (let d : h / 2 * 2 ≡ partner h = odd h e in d) none))
        where
          odd : (h : ℕ) → (h % 2 ≡ 0 → ⊥) → h / 2 * 2 ≡ partner h
          odd h e = from (h % 2) refl
            where
              from : (r : ℕ) → h % 2 ≡ r → h / 2 * 2 ≡ partner h
              from zero f = absurd (e f)
              from (suc r) f = omega arith

  -- the circle of a face, as the definition has it
  turn : (h : ℕ) (q : Place) → circle (C h) (A h) (B h) q ≡ circle (A h) (B h) (C h) q
  turn h q = circle-turn (C h) (A h) (B h) q

  none-crowded : ((k : ℕ) → k < c.half_edges / 2 → pressed c k ≡ false) → (f : ℕ) → f < c.faces → crowded c f ≡ false
  none-crowded n zero l = refl
  none-crowded n (suc g) l =
      let f = suc g in
      let a = c.adjacent f in
      let al : a < c.half_edges = snd.range.adjacents f l in
      let ai : c.face a ≡ 0 → ⊥ = λ e. suc-not g (sym (snd.adjacent-face f l) ∙ e) in
      let s : some (λ v. in_circle c (c.place v) f) c.vertices ≡ false =
      some-none (λ v. in_circle c (c.place v) f) c.vertices
      (λ v m. is_false (in_circle c (c.place v) f)
      (λ e. empty c snd (calm n) v m a al ai (subst Pos (turn a (c.place v)) (test-pos e)))) in
      rw (s, lt-ltb 0 f (omega arith))
    where
      suc-not : (g : ℕ) → suc g ≡ 0 → ⊥
      suc-not g e = omega arith

  -- ---- one pressed: crowded
  pub circ-adjacent : (h : ℕ) (q : Place) → h < c.half_edges → (c.face h ≡ 0 → ⊥) → circle (A h) (B h) (C h) q ≡ circle (A (c.adjacent (c.face h))) (B (c.adjacent (c.face h))) (C (c.adjacent (c.face h))) q
  circ-adjacent h q l i = pick (snd.of-face h (l, i))
    where
      a : ℕ
      a = c.adjacent (c.face h)

      fl : c.face h < c.faces
      fl = snd.range.face-numbers h l

      al : a < c.half_edges
      al = snd.range.adjacents (c.face h) fl

      ai : c.face a ≡ 0 → ⊥
      ai e = i (sym (snd.adjacent-face (c.face h) fl) ∙ e)

      circ : ℕ → ℤ
      circ k = circle (A k) (B k) (C k) q

      pick : (h ≡ a) ⊎ ((h ≡ c.next a) ⊎ (h ≡ c.prev a)) → circ h ≡ circ a
      pick (inl e) = ap circ e
      pick (inr (inl e)) = ap circ e ∙ W.circ-next c snd q a al ai
      pick (inr (inr e)) =
          ap circ e ∙ W.circ-prev c snd q a al ai

  one-crowded : (k : ℕ) → k < c.half_edges / 2 → pressed c k ≡ true → some (crowded c) c.faces ≡ true
  one-crowded k l e =
      some_at (crowded c) c.faces (c.face h) fl
      (rw (lt-ltb 0 (c.face h) (above_zero (c.face h) i)) (some_at (λ v. in_circle c (c.place v) (c.face h)) c.vertices z zl (pos-test held)))
    where
      h : ℕ
      h = k * 2

      hl : h < c.half_edges
      hl = omega arith

      x : (not (outer c h) ≡ true) × ((not (outer c (partner h)) && lt_z (pos 0) (circle (A h) (to_of c h) (C h) (C (partner h)))) ≡ true)
      x = and-true (not (outer c h)) _ e

      y : (not (outer c (partner h)) ≡ true) × (lt_z (pos 0) (circle (A h) (to_of c h) (C h) (C (partner h))) ≡ true)
      y = and-true (not (outer c (partner h))) _ x.1

      i : c.face h ≡ 0 → ⊥
      i = eqb-false (c.face h) 0 (not-true (outer c h) x.0)

      fl : c.face h < c.faces
      fl = snd.range.face-numbers h hl

      tl : partner h < c.half_edges
      tl = partner-in snd.range h hl

      z : ℕ
      z = c.origin (c.prev (partner h))

      zl : z < c.vertices
      zl = snd.range.origins (c.prev (partner h)) (snd.range.prevs (partner h) tl)

      a : ℕ
      a = c.adjacent (c.face h)

      held : Pos (circle (C a) (A a) (B a) (c.place z))
      held =
          subst Pos
          (ap (λ (v : ℕ). circle (A h) (c.place v) (C h) (c.place z)) (sym (snd.next_start h hl)) ∙ circ-adjacent h (c.place z) hl i ∙ sym (turn a (c.place z)))
          (test-pos y.1)

-- ---- a chart without an inner face
module _ (c : Chart) (r : InRange c) (few : c.faces ≤ 1) where
  bare-crowded : (f : ℕ) → f < c.faces → crowded c f ≡ false
  bare-crowded f l = rw (le-ltb 0 f (omega arith))

  bare-pressed : (k : ℕ) → k < c.half_edges / 2 → pressed c k ≡ false
  bare-pressed k l =
      let hl : k * 2 < c.half_edges = omega arith in
      let e : c.face (k * 2) ≡ 0 = let f = r.face-numbers (k * 2) hl in omega arith in
      rw (eq-eqb (c.face (k * 2)) 0 e)

-- ---- the theorem
pub crowded-pressed : (c : Chart) → InRange c → Passed c → some (pressed c) (c.half_edges / 2) ≡ some (crowded c) c.faces
crowded-pressed c r p = faces (ltb 1 c.faces) refl
  where
    full : Sound c → (b : Bool) → some (pressed c) (c.half_edges / 2) ≡ b → some (pressed c) (c.half_edges / 2) ≡ some (crowded c) c.faces
    full snd true e =
        let k = first (pressed c) (c.half_edges / 2) in
        let l : k < c.half_edges / 2 = ltb-true k (c.half_edges / 2) e in
        e ∙ sym (one-crowded c snd k l (first_found (pressed c) (c.half_edges / 2) l))
    full snd false e =
        e ∙ sym (some-none (crowded c) c.faces (none-crowded c snd (none-at (pressed c) (c.half_edges / 2) e)))

    faces : (b : Bool) → ltb 1 c.faces ≡ b → some (pressed c) (c.half_edges / 2) ≡ some (crowded c) c.faces
    faces true e =
        full (sound c (ltb-true 1 c.faces e) r p) (some (pressed c) (c.half_edges / 2)) refl
    faces false e =
        let few = ltb-false 1 c.faces e in
        some-none (pressed c) (c.half_edges / 2) (bare-pressed c r few) ∙ sym (some-none (crowded c) c.faces (bare-crowded c r few))
