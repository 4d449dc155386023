-- Where no edge is pressed no circle holds a vertex: from a face whose circle holds it a walk towards the vertex would never end. Assumes nothing.
use Rattle.std.specs.Prelude.{◌≡◌, ◌⊎◌, ℕ, zero, suc, ◌+◌, ◌<◌, ℤ}
use Rattle.std.proofs.Common.{sym, subst, inl, inr, arith}
use Rattle.geometry.specs.declared.Place.{Place}
use Rattle.geometry.specs.Plane.{circle}
use Rattle.chart.specs.Chart.{Chart, partner, partner-in}
use Rattle.sound.specs.Sound.{Sound}
use Rattle.signs.specs.Signs.{Pos, Neg, Low, High}
use Rattle.signs.specs.Order.{low-or-pos, neg-or-high, pos-low, pos-high, neg_low, neg-neg}
use Rattle.nearby.specs.Chart as Ch
use Rattle.nearby.specs.Windows as W
use Rattle.nearby.specs.Vertex.{no-vertex}

module _ (c : Chart) (snd : Sound c) where
  -- across no edge is the third corner of the face behind it strictly inside the circle of the face before it
  abbrev pub Calm : Type 0
  Calm = (h : ℕ) → h < c.half_edges → (c.face h ≡ 0 → ⊥) → (c.face (partner h) ≡ 0 → ⊥) → Low (circle (Ch.A c snd h) (Ch.B c snd h) (Ch.C c snd h) (Ch.C c snd (partner h)))

  module _ (calm : Calm) (z : ℕ) (zl : z < c.vertices) where
    abbrev A : ℕ → Place
    A = Ch.A c snd

    abbrev B : ℕ → Place
    B = Ch.B c snd

    abbrev C : ℕ → Place
    C = Ch.C c snd

    abbrev q : Place
    q = c.place z

    abbrev sd : ℕ → ℤ
    sd h = Ch.sd c snd h q

    abbrev circ : ℕ → ℤ
    circ h = circle (A h) (B h) (C h) q

    -- ---- a face whose circle strictly holds z has a window: else z would be inside it or on an open edge of it
    window : (h : ℕ) → h < c.half_edges → (c.face h ≡ 0 → ⊥) → Pos (circ h) → High (sd h) → High (sd (c.next h)) → High (sd (c.prev h)) → ⊥
    window h l i p x y w = pick (low-or-pos (sd h)) (low-or-pos (sd (c.next h))) (low-or-pos (sd (c.prev h)))
      where
        on : (k : ℕ) → k < c.half_edges → (c.face k ≡ 0 → ⊥) → Pos (circ k) → High (sd k) → Low (sd k) → ⊥
        on k m j r u v = let s = W.one-window-at c snd q k m j r v in no-vertex c snd k z m zl j u s.0 s.1

        pick : Low (sd h) ⊎ Pos (sd h) → Low (sd (c.next h)) ⊎ Pos (sd (c.next h)) → Low (sd (c.prev h)) ⊎ Pos (sd (c.prev h)) → ⊥
        pick (inl s) t u = on h l i p x s
        pick (inr s) (inl t) u = on (c.next h) (snd.range.nexts h l) (Ch.next-inner c snd h l i) (subst Pos (sym (W.circ-next c snd q h l i)) p) y t
        pick (inr s) (inr t) (inl u) = on (c.prev h) (snd.range.prevs h l) (Ch.prev-inner c snd h l i) (subst Pos (sym (W.circ-prev c snd q h l i)) p) w u
        pick (inr s) (inr t) (inr u) = no-vertex c snd h z l zl i (pos-high s) t u

    -- ---- the walk: behind a window is a face whose circle holds z too, with a window of its own and a larger cone
    behind : (h : ℕ) → h < c.half_edges → (c.face h ≡ 0 → ⊥) → (c.face (partner h) ≡ 0 → ⊥) → Pos (circ h) → Neg (sd h) → ((k : ℕ) → k < c.half_edges → (c.face k ≡ 0 → ⊥) → Pos (circ k) → Neg (sd k) → W.size c snd q h < W.size c snd q k → ⊥) → ⊥
    behind h l i j p x rec = pick (neg-or-high (sd (c.next t))) (neg-or-high (sd (c.prev t)))
      where
        t : ℕ
        t = partner h

        m : t < c.half_edges
        m = partner-in snd.range h l

        nl : c.next t < c.half_edges
        nl = snd.range.nexts t m

        pl : c.prev t < c.half_edges
        pl = snd.range.prevs t m

        pt : Pos (circ t)
        pt = W.step c snd q h l i j (calm h l i j) (neg_low x) p

        pn : Pos (circ (c.next t))
        pn = subst Pos (sym (W.circ-next c snd q t m j)) pt

        pp : Pos (circ (c.prev t))
        pp = subst Pos (sym (W.circ-prev c snd q t m j)) pt

        pick : Neg (sd (c.next t)) ⊎ High (sd (c.next t)) → Neg (sd (c.prev t)) ⊎ High (sd (c.prev t)) → ⊥
        pick (inl y) u =
            let w = W.one-window-at c snd q (c.next t) nl (Ch.next-inner c snd t m j) pn (neg_low y) in
            let v : Pos (sd (c.prev t)) = subst (λ (k : ℕ). Pos (sd k)) (snd.next-next t (m, j)) w.0 in
            rec (c.next t) nl (Ch.next-inner c snd t m j) pn y (W.grows-next c snd q h l j x y v)
        pick (inr y) (inl u) =
            let w = W.one-window-at c snd q (c.prev t) pl (Ch.prev-inner c snd t m j) pp (neg_low u) in
            let v : Pos (sd (c.next t)) = subst (λ (k : ℕ). Pos (sd k)) (W.prev-prev c snd q t m j) w.1 in
            rec (c.prev t) pl (Ch.prev-inner c snd t m j) pp u (W.grows-prev c snd q h l j x u v)
        pick (inr y) (inr u) = window t m j pt (pos-high (neg-neg (Ch.twin-side c snd h q l) x)) y u

    -- a window has an inner face behind it
    backed : (h : ℕ) → h < c.half_edges → Neg (sd h) → c.face (partner h) ≡ 0 → ⊥
    backed h l x e =
        pos-low (neg-neg (Ch.twin-side c snd h q l) x) (Ch.hull c snd (partner h) z (partner-in snd.range h l) zl e)

    go : (n h : ℕ) → h < c.half_edges → (c.face h ≡ 0 → ⊥) → Pos (circ h) → Neg (sd h) → c.vertices < W.size c snd q h + n → ⊥
    go zero h l i p x b = omega (arith, W.size-most c snd q h)
    go (suc n) h l i p x b = behind h l i (backed h l x) p x (λ k m j r y s. go n k m j r y (omega arith))

    -- no circle strictly holds z
    pub empty : (h : ℕ) → h < c.half_edges → (c.face h ≡ 0 → ⊥) → Pos (circ h) → ⊥
    empty h l i p = pick (neg-or-high (sd h)) (neg-or-high (sd (c.next h))) (neg-or-high (sd (c.prev h)))
      where
        start : (k : ℕ) → k < c.half_edges → (c.face k ≡ 0 → ⊥) → Pos (circ k) → Neg (sd k) → ⊥
        start k m j r x = go (suc c.vertices) k m j r x (omega arith)

        pick : Neg (sd h) ⊎ High (sd h) → Neg (sd (c.next h)) ⊎ High (sd (c.next h)) → Neg (sd (c.prev h)) ⊎ High (sd (c.prev h)) → ⊥
        pick (inl x) y w = start h l i p x
        pick (inr x) (inl y) w = start (c.next h) (snd.range.nexts h l) (Ch.next-inner c snd h l i) (subst Pos (sym (W.circ-next c snd q h l i)) p) y
        pick (inr x) (inr y) (inl w) = start (c.prev h) (snd.range.prevs h l) (Ch.prev-inner c snd h l i) (subst Pos (sym (W.circ-prev c snd q h l i)) p) w
        pick (inr x) (inr y) (inr w) = window h l i p x y w
