-- Where a search starts: a face that the load is in, or on an inner edge of, and what is known of it (`Seat`). Of every sound chart, Delaunay or not. Assumes nothing.
use Rattle.std.specs.Prelude.{◌≡◌, refl, ◌⊎◌, ℕ, ◌<◌, ℤ}
use Rattle.std.proofs.Common.{sym, subst, ap, ◌∙◌, inl, inr}
use Rattle.geometry.specs.declared.Place.{Place}
use Rattle.chart.specs.Chart.{Chart, partner}
use Rattle.sound.specs.Sound.{Sound}
use Rattle.signs.specs.Signs.{Pos, Neg, Low, High}
use Rattle.signs.specs.Order.{low-or-pos, low-high, pos-high, zero_high}
use Rattle.cells.specs.Corner.{Apart}
use Rattle.cells.specs.Window.{inside-circle}
use Rattle.nearby.specs.Chart as Ch
use Rattle.nearby.specs.Rim as R
use Rattle.nearby.specs.Windows as Wn
use Rattle.home.specs.Home as Hm
use Rattle.home.specs.Facts.{InFace, OnEdge}

module _ (c : Chart) (snd : Sound c) (q : Place) where
  abbrev sd : ℕ → ℤ
  sd = Wn.sd c snd q

  abbrev circ : ℕ → ℤ
  circ = Wn.circ c snd q

  -- the first face that is opened is that of g; q is left of its sides, or on g, and strictly right of the rim
  pub record Seat (g : ℕ) : Type 0 where
    pub there : g < c.half_edges
    pub inner : c.face g ≡ 0 → ⊥
    pub first : High (sd g)
    pub second : Pos (sd (c.next g))
    pub third : Pos (sd (c.prev g))
    pub rim : (k : ℕ) → k < c.half_edges → c.face k ≡ 0 → Neg (sd k)
    -- no vertex is at q
    pub bare : (v : ℕ) → v < c.vertices → Apart (c.place v) q
    -- a face whose circle holds q, with no window, is that of g or of its partner
    pub root : (h : ℕ) → h < c.half_edges → (c.face h ≡ 0 → ⊥) → Pos (circ h) → High (sd h) → High (sd (c.next h)) → High (sd (c.prev h)) → (c.face h ≡ c.face g) ⊎ (c.face h ≡ c.face (partner g))

  -- a face without a window holds q strictly, or on one of its edges
  seated : (h : ℕ) → h < c.half_edges → (c.face h ≡ 0 → ⊥) → Pos (circ h) → High (sd h) → High (sd (c.next h)) → High (sd (c.prev h)) → Hm.Held c snd q h ⊎ ((k : ℕ) × (c.face k ≡ c.face h) × Hm.Open c snd q k)
  seated h l i p x y z = one (low-or-pos (sd h)) (low-or-pos (sd (c.next h))) (low-or-pos (sd (c.prev h)))
    where
      nl : c.next h < c.half_edges
      nl = snd.range.nexts h l

      pl : c.prev h < c.half_edges
      pl = snd.range.prevs h l

      open_at : (k : ℕ) → k < c.half_edges → (c.face k ≡ 0 → ⊥) → Pos (circ k) → Low (sd k) → High (sd k) → Hm.Open c snd q k
      open_at k m j r u v =
          let w = Wn.one-window-at c snd q k m j r u in
          record { there = m; on = low-high u v; between = R.sides-open c snd k q m j (low-high u v) w.0 w.1 }

      one : Low (sd h) ⊎ Pos (sd h) → Low (sd (c.next h)) ⊎ Pos (sd (c.next h)) → Low (sd (c.prev h)) ⊎ Pos (sd (c.prev h)) → Hm.Held c snd q h ⊎ ((k : ℕ) × (c.face k ≡ c.face h) × Hm.Open c snd q k)
      one (inl u) v w = inr (h, refl, open_at h l i p u x)
      one (inr u) (inl v) w = inr (c.next h, snd.next-face h l, open_at (c.next h) nl (Ch.next-inner c snd h l i) (subst Pos (sym (Wn.circ-next c snd q h l i)) p) v y)
      one (inr u) (inr v) (inl w) = inr (c.prev h, snd.prev-face h l, open_at (c.prev h) pl (Ch.prev-inner c snd h l i) (subst Pos (sym (Wn.circ-prev c snd q h l i)) p) w z)
      one (inr u) (inr v) (inr w) = inl (record { there = l; inner = i; first = u; second = v; third = w })

  -- strictly inside a face
  pub face-seat : (f : ℕ) → InFace c q f → Seat (c.prev (c.adjacent f))
  face-seat f e =
      record {
        there = gl;
        inner = Ch.prev-inner c snd a d.there d.inner;
        first = pos-high d.third;
        second = subst (λ (k : ℕ). Pos (sd k)) (sym (snd.next-prev a d.there)) d.first;
        third = subst (λ (k : ℕ). Pos (sd k)) (sym (Wn.prev-prev c snd q a d.there d.inner)) d.second;
        rim = Hm.held-strict c snd q a d;
        bare = λ v l x y. Hm.vertex-face c snd q v f (record { there = l; x-is = x; y-is = y }) e;
        root = λ h l i p x y z. inl (same h (seated h l i p x y z) ∙ sym (snd.prev-face a d.there));
      }
    where
      a : ℕ
      a = c.adjacent f

      d : Hm.Held c snd q a
      d = Hm.held_of c snd q f e

      gl : c.prev a < c.half_edges
      gl = snd.range.prevs a d.there

      same : (h : ℕ) → Hm.Held c snd q h ⊎ ((k : ℕ) × (c.face k ≡ c.face h) × Hm.Open c snd q k) → c.face h ≡ c.face a
      same h (inl u) = Hm.one-face c snd q (c.face h) f (Hm.of-held c snd q h u) e ∙ sym (snd.adjacent-face f e.there)
      same h (inr u) = absurd (Hm.edge-face c snd q u.0 f (Hm.of-open c snd q u.0 u.2) e)

  -- on an inner edge
  pub edge-seat : (g : ℕ) → OnEdge c q g → (c.face g ≡ 0 → ⊥) → (c.face (partner g) ≡ 0 → ⊥) → Seat g
  edge-seat g e i j =
      record {
        there = o.there;
        inner = i;
        first = zero_high o.on;
        second = s.0;
        third = s.1;
        rim = Hm.open-strict c snd q g o i j;
        bare = λ v l x y. Hm.vertex-edge c snd q v g (record { there = l; x-is = x; y-is = y }) e;
        root = λ h l m p x y z. same h (seated h l m p x y z);
      }
    where
      o : Hm.Open c snd q g
      o = Hm.open_of c snd q g e

      s : Pos (sd (c.next g)) × Pos (sd (c.prev g))
      s = R.open-sides c snd g q o.there i o.on o.between

      which : (h k : ℕ) → c.face k ≡ c.face h → (k ≡ g) ⊎ (k ≡ partner g) → (c.face h ≡ c.face g) ⊎ (c.face h ≡ c.face (partner g))
      which h k f (inl u) = inl (sym f ∙ ap c.face u)
      which h k f (inr u) = inr (sym f ∙ ap c.face u)

      same : (h : ℕ) → Hm.Held c snd q h ⊎ ((k : ℕ) × (c.face k ≡ c.face h) × Hm.Open c snd q k) → (c.face h ≡ c.face g) ⊎ (c.face h ≡ c.face (partner g))
      same h (inl u) = absurd (Hm.edge-face c snd q g (c.face h) e (Hm.of-held c snd q h u))
      same h (inr u) = which h u.0 u.1 (Hm.one-edge c snd q g u.0 e (Hm.of-open c snd q u.0 u.2))

  -- ---- the circle of the face of g holds q
  pub seat-hole : (g : ℕ) → Seat g → Pos (circ g)
  seat-hole g s =
      inside-circle (Ch.A c snd g) (Ch.B c snd g) (Ch.C c snd g) q (Ch.ends-apart c snd g s.there) s.first
      (subst Pos (Ch.side-next c snd g q s.there s.inner) s.second) (subst Pos (Ch.side-prev c snd g q s.there) s.third)
