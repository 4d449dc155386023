-- A place q against the faces of a sound chart whose circle strictly holds it: it is beyond one side of them at most, its window. Assumes nothing.
use Rattle.std.specs.Prelude.{◌≡◌, ◌⊎◌, Bool, ℤ}
use Rattle.std.proofs.Common.{sym, ap, ◌∙◌, inl, inr}
use Rattle.std.proofs.Math.Path.{subst}
use Prim.Native.Nat.{ℕ, ◌<◌, ◌≤◌}
use Rattle.geometry.specs.declared.Place.{Place}
use Rattle.geometry.specs.Plane.{side, circle}
use Rattle.geometry.specs.Laws.{circle-turn}
use Rattle.chart.specs.Chart.{Chart, partner, partner-in}
use Rattle.sound.specs.Sound.{Sound}
use Rattle.signs.specs.Signs.{sg, lo, ◌&◌, Fm, ev, Pos, Neg, Low, left, right, both, holds, tests, fails}
use Rattle.signs.specs.Count.{count, count_most, count_less}
use Rattle.signs.specs.Order.{low-or-pos, pos-low, neg_low}
use Rattle.cells.specs.Window.{one-window, next-circle, cone-first, cone-second, self-low}
use Rattle.nearby.specs.Chart as Ch

module _ (c : Chart) (snd : Sound c) (q : Place) where
  abbrev A : ℕ → Place
  A = Ch.A c snd

  abbrev B : ℕ → Place
  B = Ch.B c snd

  abbrev C : ℕ → Place
  C = Ch.C c snd

  -- the side of q at h, and the circle of h's face
  abbrev pub sd : ℕ → ℤ
  sd h = Ch.sd c snd h q

  abbrev pub circ : ℕ → ℤ
  circ h = circle (A h) (B h) (C h) q

  -- the circle is the same from every half-edge of the face
  pub circ-next : (h : ℕ) → h < c.half_edges → (c.face h ≡ 0 → ⊥) → circ (c.next h) ≡ circ h
  circ-next h l i =
      ap (λ (p : Place). circle (B h) p (C (c.next h)) q) (Ch.B-next c snd h l i) ∙ ap (λ (p : Place). circle (B h) (C h) p q) (Ch.C-next c snd h l)
      ∙ sym (circle-turn (A h) (B h) (C h) q)

  pub circ-prev : (h : ℕ) → h < c.half_edges → (c.face h ≡ 0 → ⊥) → circ (c.prev h) ≡ circ h
  circ-prev h l i =
      sym (circ-next (c.prev h) (snd.range.prevs h l) (Ch.prev-inner c snd h l i)) ∙ ap circ (snd.next-prev h l)

  -- ---- one window at most
  one_side : (h : ℕ) → h < c.half_edges → (c.face h ≡ 0 → ⊥) → Low (sd h) → Low (sd (c.next h)) → Low (circ h)
  one_side h l i x y = one-window (A h) (B h) (C h) q (Ch.left-turn c snd h l i) x (subst Low (Ch.side-next c snd h q l i) y)

  -- where the circle holds q and q is not strictly left of a side, it is strictly left of the other two
  pub one-window-at : (h : ℕ) → h < c.half_edges → (c.face h ≡ 0 → ⊥) → Pos (circ h) → Low (sd h) → Pos (sd (c.next h)) × Pos (sd (c.prev h))
  one-window-at h l i p x = (second (low-or-pos (sd (c.next h))), third (low-or-pos (sd (c.prev h))))
    where
      second : Low (sd (c.next h)) ⊎ Pos (sd (c.next h)) → Pos (sd (c.next h))
      second (inl y) = absurd (pos-low p (one_side h l i x y))
      second (inr y) = y

      third : Low (sd (c.prev h)) ⊎ Pos (sd (c.prev h)) → Pos (sd (c.prev h))
      third (inl y) =
          absurd
          (pos-low (subst Pos (sym (circ-prev h l i)) p)
          (one_side (c.prev h) (snd.range.prevs h l) (Ch.prev-inner c snd h l i) y (subst (λ (k : ℕ). Low (sd k)) (sym (snd.next-prev h l)) x)))
      third (inr y) = y

  -- ---- behind a window that is not pressed the next circle holds q too
  pub step : (h : ℕ) → h < c.half_edges → (c.face h ≡ 0 → ⊥) → (c.face (partner h) ≡ 0 → ⊥) → Low (circle (A h) (B h) (C h) (C (partner h))) → Low (sd h) → Pos (circ h) → Pos (circ (partner h))
  step h l i j calm x p =
      let t = partner h in
      let m : t < c.half_edges = partner-in snd.range h l in
      let w : Pos (side (B h) (A h) (C t)) =
      subst (λ (r : Place). Pos (side r (A h) (C t))) (Ch.twin-A c snd h l) (subst (λ (r : Place). Pos (side (A t) r (C t))) (Ch.twin-B c snd h l) (Ch.left-turn c snd t m j)) in
      let r : Pos (circle (B h) (A h) (C t) q) =
      next-circle (A h) (B h) (C h) (C t) q (Ch.left-turn c snd h l i) w x calm p in
      subst (λ (z : Place). Pos (circle z (B t) (C t) q)) (sym (Ch.twin-A c snd h l)) (subst (λ (z : Place). Pos (circle (B h) z (C t) q)) (sym (Ch.twin-B c snd h l)) r)

  -- ---- the cone of q over the side from a to b, and how many vertices it has
  conic : Place → Place → ℕ → Fm
  conic a b v = lo (sg (side a (c.place v) q)) & lo (sg (side (c.place v) b q))

  cone : Place → Place → ℕ → Bool
  unfolding conic
  cone a b v = ev (conic a b v)

  pub size : ℕ → ℕ
  unfolding cone
  size h = count (cone (A h) (B h)) c.vertices

  pub size-most : (h : ℕ) → size h ≤ c.vertices
  unfolding size
  size-most h = count_most (cone (A h) (B h)) c.vertices

  wider : (a b x y : Place) (d : ℕ) → d < c.vertices → ((v : ℕ) → Low (side a (c.place v) q) → Low (side (c.place v) b q) → Low (side x (c.place v) q) × Low (side (c.place v) y q)) → (Low (side a (c.place d) q) → Low (side (c.place d) b q) → ⊥) → Low (side x (c.place d) q) → Low (side (c.place d) y q) → count (cone a b) c.vertices < count (cone x y) c.vertices
  unfolding cone conic
  wider a b x y d l h n u v =
      count_less (cone a b) (cone x y) c.vertices d l (fails (conic a b d) (λ f. n (record { is = left f }) (record { is = right f }))) (tests (conic x y d) (both u.is v.is))
      (λ k e. let f = holds (conic a b k) e in let w = h k (record { is = left f }) (record { is = right f }) in tests (conic x y k) (both w.0.is w.1.is))

  -- behind h, through the side after the partner
  pub grows-next : (h : ℕ) → h < c.half_edges → (c.face (partner h) ≡ 0 → ⊥) → Neg (sd h) → Neg (sd (c.next (partner h))) → Pos (sd (c.prev (partner h))) → size h < size (c.next (partner h))
  unfolding size
  grows-next h l j x y z =
      let t = partner h in
      let m : t < c.half_edges = partner-in snd.range h l in
      let d : ℕ = c.origin (c.prev t) in
      let a : A (c.next t) ≡ A h = Ch.twin-B c snd h l in
      let b : B (c.next t) ≡ C t = Ch.B-next c snd t m j in
      let y1 : Neg (side (A h) (C t) q) = subst (λ (r : Place). Neg (side r (C t) q)) a (subst (λ (r : Place). Neg (side (A (c.next t)) r q)) b y) in
      let z1 : Pos (side (C t) (B h) q) = subst (λ (r : Place). Pos (side (C t) r q)) (Ch.B-prev c snd t m ∙ Ch.twin-A c snd h l) z in
      subst (λ (r : Place). count (cone (A h) (B h)) c.vertices < count (cone r (B (c.next t))) c.vertices) (sym a)
      (subst (λ (r : Place). count (cone (A h) (B h)) c.vertices < count (cone (A h) r) c.vertices) (sym b)
      (wider (A h) (B h) (A h) (C t) d (snd.range.origins (c.prev t) (snd.range.prevs t m)) (λ v u w. (u, cone-first q (A h) (B h) (C t) (c.place v) x y1 z1 u w))
      (λ u w. pos-low z1 w) (neg_low y1) (self-low (C t) q)))

  -- and through the side before it
  pub grows-prev : (h : ℕ) → h < c.half_edges → (c.face (partner h) ≡ 0 → ⊥) → Neg (sd h) → Neg (sd (c.prev (partner h))) → Pos (sd (c.next (partner h))) → size h < size (c.prev (partner h))
  unfolding size
  grows-prev h l j x y z =
      let t = partner h in
      let m : t < c.half_edges = partner-in snd.range h l in
      let d : ℕ = c.origin (c.prev t) in
      let b : B (c.prev t) ≡ B h = Ch.B-prev c snd t m ∙ Ch.twin-A c snd h l in
      let y1 : Neg (side (C t) (B h) q) = subst (λ (r : Place). Neg (side (C t) r q)) b y in
      let z1 : Pos (side (A h) (C t) q) = subst (λ (r : Place). Pos (side r (C t) q)) (Ch.twin-B c snd h l) (subst (λ (r : Place). Pos (side (A (c.next t)) r q)) (Ch.B-next c snd t m j) z) in
      subst (λ (r : Place). count (cone (A h) (B h)) c.vertices < count (cone (C t) r) c.vertices) (sym b)
      (wider (A h) (B h) (C t) (B h) d (snd.range.origins (c.prev t) (snd.range.prevs t m)) (λ v u w. (cone-second q (A h) (B h) (C t) (c.place v) x y1 z1 u w, w))
      (λ u w. pos-low z1 u) (self-low (C t) q) (neg_low y1))

  pub prev-prev : (h : ℕ) → h < c.half_edges → (c.face h ≡ 0 → ⊥) → c.prev (c.prev h) ≡ c.next h
  prev-prev h l i = sym (ap c.prev (snd.next-next h (l, i))) ∙ snd.prev-next (c.next h) (snd.range.nexts h l)
