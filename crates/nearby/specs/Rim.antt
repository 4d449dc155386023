-- Faces and rim of a sound chart. Assumes nothing.
use Rattle.std.specs.Prelude.{◌≡◌, ◌⊎◌, ℕ, ◌<◌, ℤ, neg_ℤ}
use Rattle.std.proofs.Common.{sym, subst, ap, ◌∙◌, inl, inr, arith}
use Rattle.std.proofs.Math.IntN.{neg_ℤ-neg_ℤ}
use Rattle.signs.specs.Signs.{Pos, Neg, Zero, Low, High}
use Rattle.signs.specs.Order.{neg-lo, low-high, neg-or-high}
use Rattle.geometry.specs.declared.Place.{Place}
use Rattle.geometry.specs.Plane.{side}
use Rattle.cells.specs.Points.{dots, dot-back}
use Rattle.cells.specs.Corner.{Apart, not-flat, on_line, sq_pos, inside-right, edge-low, edge-right, open-left, left_open}
use Rattle.chart.specs.Chart.{Chart, partner, partner-in}
use Rattle.sound.specs.Sound.{Sound}
use Rattle.nearby.specs.Chart as Ch

module _ (c : Chart) (snd : Sound c) where
  abbrev A : ℕ → Place
  A = Ch.A c snd

  abbrev B : ℕ → Place
  B = Ch.B c snd

  abbrev C : ℕ → Place
  C = Ch.C c snd

  abbrev sd : ℕ → Place → ℤ
  sd = Ch.sd c snd

  -- ---- not all vertices are on one line
  inner0 : c.face (c.adjacent 1) ≡ 0 → ⊥
  inner0 e = let x : ◌≡◌ {A = ℕ} 1 0 = sym (snd.adjacent-face 1 snd.faces-two) ∙ e in omega arith

  pub no_line : (p r : Place) → Apart r p → ((z : ℕ) → z < c.vertices → Zero (side p r (c.place z))) → ⊥
  no_line p r n all =
      let h = c.adjacent 1 in
      let l : h < c.half_edges = snd.range.adjacents 1 snd.faces-two in
      not-flat p r (A h) (B h) (C h) (sq_pos r p n) (Ch.left-turn c snd h l inner0) (all (c.origin h) (snd.range.origins h l))
      (all (c.origin (c.next h)) (snd.range.origins (c.next h) (snd.range.nexts h l))) (all (c.origin (c.prev h)) (snd.range.origins (c.prev h) (snd.range.prevs h l)))

  -- ---- where the rim goes on in a line it does not turn back
  pub onward : (h k : ℕ) → h < c.half_edges → k < c.half_edges → c.face h ≡ 0 → c.face k ≡ 0 → A k ≡ B h → Zero (side (A h) (B h) (B k)) → Neg (dots (A h) (B k) (B h))
  onward h k l m oh ok e o = pick (neg-or-high (dots (A h) (B k) (B h)))
    where
      ap2 : Apart (B k) (B h)
      ap2 = subst (λ (p : Place). Apart (B k) p) e (Ch.apart-ends c snd k m)

      flat-at : High (dots (A h) (B k) (B h)) → (z : ℕ) → z < c.vertices → Zero (side (B h) (B k) (c.place z))
      flat-at d z n =
          on_line (A h) (B h) (B k) (c.place z) (sq_pos (A h) (B h) (Ch.ends-apart c snd h l)) o d (Ch.hull c snd h z l n oh)
          (subst (λ (p : Place). Low (side p (B k) (c.place z))) e (Ch.hull c snd k z m n ok))

      pick : Neg (dots (A h) (B k) (B h)) ⊎ High (dots (A h) (B k) (B h)) → Neg (dots (A h) (B k) (B h))
      pick (inl d) = d
      pick (inr d) = absurd (no_line (B h) (B k) ap2 (flat-at d))

  pub twin-side' : (h : ℕ) (q : Place) → h < c.half_edges → sd h q ≡ neg_ℤ (sd (partner h) q)
  twin-side' h q l = sym (ap neg_ℤ (Ch.twin-side c snd h q l) ∙ neg_ℤ-neg_ℤ (sd h q))

  -- ---- an edge has an inner side
  pub inner-side : (h : ℕ) → h < c.half_edges → c.face h ≡ 0 → c.face (partner h) ≡ 0 → ⊥
  inner-side h l e f =
      no_line (A h) (B h) (Ch.apart-ends c snd h l)
      (λ z n. low-high (Ch.hull c snd h z l n e) (neg-lo (twin-side' h (c.place z) l) (Ch.hull c snd (partner h) z (partner-in snd.range h l) n f)))

  -- ---- an open edge seen from its face
  pub open-sides : (h : ℕ) (q : Place) → h < c.half_edges → (c.face h ≡ 0 → ⊥) → Zero (sd h q) → Neg (dots (A h) (B h) q) → Pos (sd (c.next h) q) × Pos (sd (c.prev h) q)
  open-sides h q l i o d =
      let r = open-left (A h) (B h) (C h) q (Ch.left-turn c snd h l i) o d in
      (subst Pos (sym (Ch.side-next c snd h q l i)) r.0, subst Pos (sym (Ch.side-prev c snd h q l)) r.1)

  pub sides-open : (h : ℕ) (q : Place) → h < c.half_edges → (c.face h ≡ 0 → ⊥) → Zero (sd h q) → Pos (sd (c.next h) q) → Pos (sd (c.prev h) q) → Neg (dots (A h) (B h) q)
  sides-open h q l i o x y =
      left_open (A h) (B h) (C h) q (Ch.ends-apart c snd h l) o (subst Pos (Ch.side-next c snd h q l i) x) (subst Pos (Ch.side-prev c snd h q l) y)

  -- an open edge seen from the other side
  pub twin-dot : (h : ℕ) (q : Place) → h < c.half_edges → dots (A (partner h)) (B (partner h)) q ≡ dots (A h) (B h) q
  twin-dot h q l =
      ap (λ (p : Place). dots p (B (partner h)) q) (Ch.twin-A c snd h l) ∙ ap (λ (p : Place). dots (B h) p q) (Ch.twin-B c snd h l) ∙ dot-back (B h) (A h) q

  -- ---- strictly inside a face is strictly inside the rim
  corner : (h z : ℕ) → h < c.half_edges → z < c.half_edges → c.face h ≡ 0 → Low (sd h (A z))
  corner h z l m e = Ch.hull c snd h (c.origin z) l (snd.range.origins z m) e

  pub inside : (h k : ℕ) (q : Place) → h < c.half_edges → k < c.half_edges → (c.face h ≡ 0 → ⊥) → c.face k ≡ 0 → Pos (sd h q) → Pos (sd (c.next h) q) → Pos (sd (c.prev h) q) → Neg (sd k q)
  inside h k q l m i e x y w =
      inside-right (A k) (B k) (A h) (B h) (C h) q (Ch.apart-ends c snd k m) (Ch.left-turn c snd h l i) x
      (subst Pos (Ch.side-next c snd h q l i) y) (subst Pos (Ch.side-prev c snd h q l) w)
      (corner k h m l e) (corner k (c.next h) m (snd.range.nexts h l) e) (corner k (c.prev h) m (snd.range.prevs h l) e)

  -- ---- on an open edge is strictly left of no outer half-edge
  pub beside : (h k : ℕ) (q : Place) → h < c.half_edges → k < c.half_edges → (c.face h ≡ 0 → ⊥) → c.face k ≡ 0 → Zero (sd h q) → Neg (dots (A h) (B h) q) → Low (sd k q)
  beside h k q l m i e o d =
      edge-low (A k) (B k) (A h) (B h) (C h) q (Ch.left-turn c snd h l i) o d (corner k h m l e) (corner k (c.next h) m (snd.range.nexts h l) e)

  -- and strictly inside the rim where the edge has two inner sides
  pub amid : (h k : ℕ) (q : Place) → h < c.half_edges → k < c.half_edges → (c.face h ≡ 0 → ⊥) → (c.face (partner h) ≡ 0 → ⊥) → c.face k ≡ 0 → Zero (sd h q) → Neg (dots (A h) (B h) q) → Neg (sd k q)
  amid h k q l m i j e o d =
      let t = partner h in
      let tl : t < c.half_edges = partner-in snd.range h l in
      let w : Pos (side (A t) (A h) (C t)) = subst (λ (p : Place). Pos (side (A t) p (C t))) (Ch.twin-B c snd h l) (Ch.left-turn c snd t tl j) in
      let w' : Pos (side (B h) (A h) (C t)) = subst (λ (p : Place). Pos (side p (A h) (C t))) (Ch.twin-A c snd h l) w in
      edge-right (A k) (B k) (A h) (B h) (C h) (C t) q (Ch.apart-ends c snd k m) (Ch.left-turn c snd h l i) w' o d
      (corner k h m l e) (corner k (c.next h) m (snd.range.nexts h l) e) (corner k (c.prev h) m (snd.range.prevs h l) e)
      (corner k (c.prev t) m (snd.range.prevs t tl) e)
