-- No vertex is strictly inside an inner face or on an open edge of one: a ray from it into a face of its own would cross the faces once too often. Assumes nothing.
use Rattle.std.specs.Prelude.{◌≡◌, refl, ◌⊎◌, ℕ, suc, ◌+◌, ◌<◌, ℤ, pos, ◌-ℤ◌}
use Rattle.std.proofs.Common.{sym, subst, ap, ◌∙◌, inl, inr}
use Rattle.std.proofs.Math.Decide.{ℕ_discrete}
use Rattle.std.proofs.Math.IntN.{+ℤ_idr}
use Rattle.whole.specs.Bound.{Within, sub_in}
use Rattle.signs.specs.Signs.{sg, up, dn, ze, ◌&◌, ◌or◌, Is, Pos, Neg, Zero, Low, High, Off, fire, left, right, both, either, or_l, or_r, zero-eq}
use Rattle.signs.specs.Order.{pos-zero, pos-neg, low-or-pos, low-high, neg-pos, neg-lo, neg-nil, add-neg, neg_low}
use Rattle.geometry.specs.declared.Place.{Place}
use Rattle.geometry.specs.Plane.{side}
use Rattle.cells.specs.Points.{dots, ray}
use Rattle.cells.specs.Corner.{left-ray}
use Rattle.cells.specs.Rays.{wound, reach, reach-in}
use Rattle.cells.specs.Line.{on-first, on-second}
use Rattle.cells.specs.Tilt.{Cornered, cornered, ray-self, tilt, tilt-right, tilt-left, tilt-off, tilt-inward}
use Rattle.chart.specs.Chart.{Chart, partner, partner-twice, partner-in}
use Rattle.sound.specs.Sound.{Sound}
use Rattle.nearby.specs.Chart as Ch
use Rattle.nearby.specs.Rim as R
use Rattle.nearby.specs.Line.{Differ}
use Rattle.nearby.specs.Tally as N
use Rattle.nearby.specs.Once.{unique}

-- ---- a vertex with a face of its own: i is inner and starts at it
module _ (c : Chart) (snd : Sound c) (i : ℕ) (il : i < c.half_edges) (ii : c.face i ≡ 0 → ⊥) where
  abbrev A : ℕ → Place
  A = Ch.A c snd

  abbrev B : ℕ → Place
  B = Ch.B c snd

  abbrev C : ℕ → Place
  C = Ch.C c snd

  abbrev q : Place
  q = A i

  abbrev o : ℕ
  o = c.origin i

  abbrev sd : ℕ → ℤ
  sd h = Ch.sd c snd h q

  o-in : o < c.vertices
  o-in = snd.range.origins i il

  low : (h : ℕ) → h < c.half_edges → c.face h ≡ 0 → Low (sd h)
  low h l e = Ch.hull c snd h o l o-in e

  -- a ray from it into its face
  module _ (ρ : Place) (dif : Differ c snd q ρ) (right_of : Neg (ray ρ q (B i))) (left-of : Pos (ray ρ q (C i))) where
    abbrev al : ℕ → ℤ
    al h = ray ρ q (c.place (c.origin h))

    off : (v : ℕ) → v < c.vertices → (v ≡ o → ⊥) → Off (ray ρ q (c.place v))
    off v l n =
        subst Off (ap (λ (x : ℤ). ray ρ q (c.place v) -ℤ x) (zero-eq (ray-self ρ q)) ∙ +ℤ_idr (ray ρ q (c.place v))) (dif v o l o-in n)

    abbrev tri : ℕ → ℤ
    tri = N.tri c snd q ρ

    -- ---- what a face adds is 0 or 1
    -- of a face with a corner at the vertex
    corner-at : (h : ℕ) → h < c.half_edges → (c.face h ≡ 0 → ⊥) → c.origin h ≡ o → Is (Cornered (sg (ray ρ q (A h))) (sg (ray ρ q (B h))) (sg (ray ρ q (C h))) (sg (side (B h) (C h) q)) (sg (side (C h) (A h) q)) (sg (side (A h) (B h) q)))
    corner-at h l j e =
        let w : A h ≡ q = ap c.place e in
        cornered ρ q (A h) (B h) (C h) (Ch.left-turn c snd h l j) (subst (λ (p : Place). Zero (ray ρ q p)) (sym w) (ray-self ρ q))
        (subst (λ (p : Place). Zero (side (C h) p q)) (sym w) (on-second (C h) q)) (subst (λ (p : Place). Zero (side p (B h) q)) (sym w) (on-first q (B h)))

    adds-corner : (h : ℕ) → h < c.half_edges → (c.face h ≡ 0 → ⊥) → c.origin h ≡ o → N.Adds c snd q ρ h
    adds-corner h l j e = let w = corner-at h l j e in N.adds-of c snd q ρ h l j (left w) (left (right w))

    -- of one without
    wound-at : (h : ℕ) → h < c.half_edges → (c.face h ≡ 0 → ⊥) → (c.origin h ≡ o → ⊥) → (c.origin (c.next h) ≡ o → ⊥) → (c.origin (c.prev h) ≡ o → ⊥) → N.WoundAt c snd q ρ h
    wound-at h l j x y z =
        wound ρ q (A h) (B h) (C h) (Ch.left-turn c snd h l j) (off (c.origin h) (snd.range.origins h l) x)
        (off (c.origin (c.next h)) (snd.range.origins (c.next h) (snd.range.nexts h l)) y) (off (c.origin (c.prev h)) (snd.range.origins (c.prev h) (snd.range.prevs h l)) z)

    adds : (h : ℕ) → h < c.half_edges → (c.face h ≡ 0 → ⊥) → N.Adds c snd q ρ h
    adds h l j = pick (ℕ_discrete (c.origin h) o) (ℕ_discrete (c.origin (c.next h)) o) (ℕ_discrete (c.origin (c.prev h)) o)
      where
        same : {x y : ℤ} → x ≡ y → High x → (Pos x → x ≡ pos 1) → High y × (Pos y → y ≡ pos 1)
        same {x} {y} e a b = (subst High e a, λ p. sym e ∙ b (subst Pos (sym e) p))

        pick : Dec (c.origin h ≡ o) → Dec (c.origin (c.next h) ≡ o) → Dec (c.origin (c.prev h) ≡ o) → N.Adds c snd q ρ h
        pick (yes e) y z = adds-corner h l j e
        pick (no x) (yes e) z =
            let a = adds-corner (c.next h) (snd.range.nexts h l) (Ch.next-inner c snd h l j) e in
            let s = same (N.tri-next c snd q ρ h l j) a.least a.most in
            record { least = s.0; most = s.1 }
        pick (no x) (no y) (yes e) =
            let a = adds-corner (c.prev h) (snd.range.prevs h l) (Ch.prev-inner c snd h l j) e in
            let s = same (N.tri-prev c snd q ρ h l j) a.least a.most in
            record { least = s.0; most = s.1 }
        pick (no x) (no y) (no z) = N.adds-wound c snd q ρ h l j (wound-at h l j x y z)

    -- the face of i adds 1
    own : Pos (tri i)
    own =
        let w = corner-at i il ii refl in
        subst Pos (sym (N.tri-om c snd q ρ i il ii)) (record { is = fire (right (right w)) (both right_of.is left-of.is) })

    -- so no other does
    alone : (k : ℕ) → k < c.half_edges → (c.face k ≡ 0 → ⊥) → (k ≡ i → ⊥) → (k ≡ c.next i → ⊥) → (k ≡ c.prev i → ⊥) → Pos (tri k) → ⊥
    alone k kl ki x y z p = pick (unique c snd q ρ dif low adds i k il kl ii ki own p)
      where
        pick : (k ≡ i) ⊎ ((k ≡ c.next i) ⊎ (k ≡ c.prev i)) → ⊥
        pick (inl e) = x e
        pick (inr (inl e)) = y e
        pick (inr (inr e)) = z e

    -- of the faces with a corner at the vertex the ray goes into one only
    pub one_way : (k : ℕ) → k < c.half_edges → (c.face k ≡ 0 → ⊥) → c.origin k ≡ o → Neg (ray ρ q (B k)) → Pos (ray ρ q (C k)) → k ≡ i
    one_way k kl ki e x y = pick (ℕ_discrete k i)
      where
        pl : c.prev i < c.half_edges
        pl = snd.range.prevs i il

        counted : Pos (N.tri c snd q ρ k)
        counted =
            let w = corner-at k kl ki e in
            subst Pos (sym (N.tri-om c snd q ρ k kl ki)) (record { is = fire (right (right w)) (both x.is y.is) })

        pick : Dec (k ≡ i) → k ≡ i
        pick (yes d) = d
        pick (no d) =
            absurd
            (alone k kl ki d (λ f. snd.ends-differ i il (sym e ∙ ap c.origin f ∙ snd.next_start i il))
            (λ f. snd.ends-differ (c.prev i) pl (sym (ap c.origin f) ∙ e ∙ ap c.origin (sym (snd.next-prev i il)) ∙ snd.next_start (c.prev i) pl)) counted)

    -- a face that holds the vertex strictly, or on an edge that the ray leaves behind
    crowd : (k : ℕ) → k < c.half_edges → (c.face k ≡ 0 → ⊥) → Pos (Ch.sd c snd (c.next k) q) → Pos (Ch.sd c snd (c.prev k) q) → Is (up (sg (sd k)) or ze (sg (sd k)) & up (sg (al k))) → ⊥
    crowd k kl ki y z w =
        alone k kl ki (λ e. not-A (ap c.origin e)) (λ e. not-C (ap c.origin (ap c.prev e ∙ snd.prev-next i il))) (λ e. not-B (ap c.origin (ap c.next e ∙ snd.next-prev i il)))
        (counted (either w))
      where
        y' : Pos (side (B k) (C k) q)
        y' = subst Pos (Ch.side-next c snd k q kl ki) y

        z' : Pos (side (C k) (A k) q)
        z' = subst Pos (Ch.side-prev c snd k q kl) z

        not-A : c.origin k ≡ o → ⊥
        not-A e = pos-zero z' (subst (λ (p : Place). Zero (side (C k) p q)) (sym (ap c.place e)) (on-second (C k) q))

        not-B : c.origin (c.next k) ≡ o → ⊥
        not-B e = pos-zero y' (subst (λ (p : Place). Zero (side p (C k) q)) (sym (ap c.place e)) (on-first q (C k)))

        not-C : c.origin (c.prev k) ≡ o → ⊥
        not-C e = pos-zero z' (subst (λ (p : Place). Zero (side p (A k) q)) (sym (ap c.place e)) (on-first q (A k)))

        v : N.WoundAt c snd q ρ k
        v = wound-at k kl ki not-A not-B not-C

        counted : Is (up (sg (sd k))) ⊎ Is (ze (sg (sd k)) & up (sg (al k))) → Pos (tri k)
        counted (inl s) = N.held-adds c snd q ρ k kl ki v (record { is = s }) y z
        counted (inr s) = N.edge-adds c snd q ρ k kl ki v (record { is = left s }) y z (record { is = right s })

  -- ---- the ray that is chosen
  m : ℕ
  m = reach (λ v. side q (C i) (c.place v)) c.vertices

  ρ₀ : Place
  ρ₀ = tilt (pos (suc (m + m))) q (B i) (C i)

  turn : Pos (side q (B i) (C i))
  turn = Ch.left-turn c snd i il ii

  near : (v : ℕ) → v < c.vertices → Within m (side q (C i) (c.place v))
  unfolding m
  near v l = reach-in (λ v. side q (C i) (c.place v)) c.vertices v l

  dif₀ : Differ c snd q ρ₀
  unfolding ρ₀
  dif₀ v w l k n =
      tilt-off (m + m) q (B i) (C i) (c.place v) (c.place w) turn (sub_in (near v l) (near w k)) (Ch.places-apart c snd v w l k n)

  right₀ : Neg (ray ρ₀ q (B i))
  unfolding ρ₀
  right₀ = tilt-right (m + m) q (B i) (C i) turn

  left₀ : Pos (ray ρ₀ q (C i))
  unfolding ρ₀
  left₀ = tilt-left (m + m) q (B i) (C i) turn

  -- an edge of the rim has the face of i on its inner side
  inward : (k : ℕ) → k < c.half_edges → c.face (partner k) ≡ 0 → Zero (sd k) → Pos (ray ρ₀ q (A k) -ℤ ray ρ₀ q (B k))
  unfolding ρ₀
  inward k l e z =
      tilt-inward (m + m) q (B i) (C i) (A k) (B k) turn (Ch.apart-ends c snd k l) z (inner_of (c.next i) (snd.range.nexts i il)) (inner_of (c.prev i) (snd.range.prevs i il))
    where
      inner_of : (j : ℕ) → j < c.half_edges → High (Ch.sd c snd k (A j))
      inner_of j jl =
          neg-lo (R.twin-side' c snd k (A j) l) (Ch.hull c snd (partner k) (c.origin j) (partner-in snd.range k l) (snd.range.origins j jl) e)

  pub not-held : (k : ℕ) → k < c.half_edges → (c.face k ≡ 0 → ⊥) → High (sd k) → Pos (Ch.sd c snd (c.next k) q) → Pos (Ch.sd c snd (c.prev k) q) → ⊥
  not-held k kl ki x y z = pick (low-or-pos (sd k))
    where
      bar : (h : ℕ) → h < c.half_edges → (c.face h ≡ 0 → ⊥) → Pos (Ch.sd c snd (c.next h) q) → Pos (Ch.sd c snd (c.prev h) q) → Is (up (sg (sd h)) or ze (sg (sd h)) & up (sg (ray ρ₀ q (A h)))) → ⊥
      bar = crowd ρ₀ dif₀ right₀ left₀

      z' : Pos (side (C k) (A k) q)
      z' = subst Pos (Ch.side-prev c snd k q kl) z

      not-A : c.origin k ≡ o → ⊥
      not-A e = pos-zero z' (subst (λ (p : Place). Zero (side (C k) p q)) (sym (ap c.place e)) (on-second (C k) q))

      tl : partner k < c.half_edges
      tl = partner-in snd.range k kl

      -- on the edge, and the ray leaves it behind on the other side
      behind : Zero (sd k) → Neg (ray ρ₀ q (A k)) → Pos (ray ρ₀ q (B k)) → Dec (c.face (partner k) ≡ 0) → ⊥
      behind s a b (yes e) = pos-neg (inward k kl e s) (add-neg a (neg_low (neg-pos refl b)))
      behind s a b (no e) =
          let t = partner k in
          let d : Neg (dots (A t) (B t) q) = subst Neg (sym (R.twin-dot c snd k q kl)) (R.sides-open c snd k q kl ki s y z) in
          let u : Zero (sd t) = neg-nil (Ch.twin-side c snd k q kl) s in
          let w = R.open-sides c snd t q tl e u d in
          bar t tl e w.0 w.1 (or_r (both u.is (subst (λ (p : Place). Pos (ray ρ₀ q p)) (sym (Ch.twin-A c snd k kl)) b).is))

      ends : Zero (sd k) → Is (up (sg (ray ρ₀ q (A k))) & dn (sg (ray ρ₀ q (B k)))) ⊎ Is (dn (sg (ray ρ₀ q (A k))) & up (sg (ray ρ₀ q (B k)))) → ⊥
      ends s (inl r) = bar k kl ki y z (or_r (both s.is (left r)))
      ends s (inr r) = behind s (record { is = left r }) (record { is = right r }) (ℕ_discrete (c.face (partner k)) 0)

      pick : Low (sd k) ⊎ Pos (sd k) → ⊥
      pick (inr s) = bar k kl ki y z (or_l s.is)
      pick (inl s) =
          let e : Zero (sd k) = low-high s x in
          ends e (either (left-ray ρ₀ q (A k) (B k) (C k) e (subst Pos (Ch.side-next c snd k q kl ki) y) z' (off ρ₀ dif₀ right₀ left₀ (c.origin k) (snd.range.origins k kl) not-A)))

-- ---- every vertex has a face
module _ (c : Chart) (snd : Sound c) where
  record Corner (z : ℕ) : Type 0 where
    pub at : ℕ
    pub there : at < c.half_edges
    pub inner : c.face at ≡ 0 → ⊥
    pub starts : c.origin at ≡ z

  corner-of : (z : ℕ) → z < c.vertices → Corner z
  corner-of z zl = pick (ℕ_discrete (c.face h) 0)
    where
      h : ℕ
      h = c.out z

      l : h < c.half_edges
      l = snd.range.outs z zl

      t : ℕ
      t = partner h

      tl : t < c.half_edges
      tl = partner-in snd.range h l

      pick : Dec (c.face h ≡ 0) → Corner z
      pick (no e) = record { at = h; there = l; inner = e; starts = snd.out-start z zl }
      pick (yes e) =
          record {
            at = c.next t;
            there = snd.range.nexts t tl;
            inner = Ch.next-inner c snd t tl (R.inner-side c snd h l e);
            starts = snd.next_start t tl ∙ ap c.origin (partner-twice h) ∙ snd.out-start z zl;
          }

  -- no vertex is strictly inside a face, or on an open edge of one
  pub no-vertex : (h z : ℕ) → h < c.half_edges → z < c.vertices → (c.face h ≡ 0 → ⊥) → High (Ch.sd c snd h (c.place z)) → Pos (Ch.sd c snd (c.next h) (c.place z)) → Pos (Ch.sd c snd (c.prev h) (c.place z)) → ⊥
  no-vertex h z l zl j x y w =
      let k = corner-of z zl in
      let e : c.place z ≡ c.place (c.origin k.at) = ap c.place (sym k.starts) in
      not-held c snd k.at k.there k.inner h l j (subst (λ (p : Place). High (Ch.sd c snd h p)) e x)
      (subst (λ (p : Place). Pos (Ch.sd c snd (c.next h) p)) e y) (subst (λ (p : Place). Pos (Ch.sd c snd (c.prev h) p)) e w)
