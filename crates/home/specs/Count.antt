-- The ray from q crosses the rim once, downwards, so the faces add 1 to it in all: one face adds 1, and it holds q, strictly or on an edge. Assumes nothing.
use Rattle.std.specs.Prelude.{◌≡◌, refl, ◌⊎◌, ℕ, ◌<◌, ℤ, negsuc, ◌+ℤ◌, ◌-ℤ◌}
use Rattle.std.proofs.Math.Path.{sym, ap}
use Rattle.std.proofs.Common.{subst, ◌∙◌, inl, inr, lit<}
use Rattle.std.proofs.Math.IntN.{pos, +ℤ_idl, +ℤ_comm, +ℤ-neg_ℤ_cancel}
use Rattle.signs.specs.Signs.{below, nil, above, sg, up, ze, ◌&◌, ◌or◌, ev, Is, Pos, Neg, Zero, Low, Off, fire, left, right, both, or_r, eq-zero}
use Rattle.signs.specs.Order.{neg-nil, pos-low, pos-sg, neg-sg, zero-sg, sign_of, pos-zero, nat-pos}
use Rattle.signs.specs.Sum.{sum, sum-none, sum-some}
use Rattle.geometry.specs.declared.Place.{Place}
use Rattle.geometry.specs.Plane.{side}
use Rattle.cells.specs.Points.{dots, ray}
use Rattle.cells.specs.Corner.{ray-left, left_open}
use Rattle.cells.specs.Rays.{kap, wound}
use Rattle.chart.specs.Chart.{Chart, partner, partner-in}
use Rattle.sound.specs.Sound.{Sound}
use Rattle.nearby.specs.Chart as Ch
use Rattle.nearby.specs.Rim as R
use Rattle.nearby.specs.Line.{Differ}
use Rattle.nearby.specs.Tally as T
use Rattle.nearby.specs.Once as O
use Rattle.home.specs.Crossing.{crossing}

down_step : kap above below below ≡ negsuc 0
unfolding kap ev
down_step = refl

along-step : kap above below nil ≡ pos 0
unfolding kap ev
along-step = refl

module _ (c : Chart) (snd : Sound c) (q ρ : Place) (dif : Differ c snd q ρ) (low : (h : ℕ) → h < c.half_edges → c.face h ≡ 0 → Low (Ch.sd c snd h q)) (off : (v : ℕ) → v < c.vertices → Off (ray ρ q (c.place v))) where
  abbrev A : ℕ → Place
  A = Ch.A c snd

  abbrev B : ℕ → Place
  B = Ch.B c snd

  abbrev C : ℕ → Place
  C = Ch.C c snd

  abbrev sd : ℕ → ℤ
  sd h = Ch.sd c snd h q

  abbrev Down : ℕ → Type 0
  Down = O.Down c snd q ρ dif low

  abbrev pub tri : ℕ → ℤ
  tri = T.tri c snd q ρ

  -- ---- what a face adds
  wound-at : (h : ℕ) → h < c.half_edges → (c.face h ≡ 0 → ⊥) → T.WoundAt c snd q ρ h
  wound-at h l i =
      wound ρ q (A h) (B h) (C h) (Ch.left-turn c snd h l i) (off (c.origin h) (snd.range.origins h l))
      (off (c.origin (c.next h)) (snd.range.origins (c.next h) (snd.range.nexts h l))) (off (c.origin (c.prev h)) (snd.range.origins (c.prev h) (snd.range.prevs h l)))

  pub held-adds : (h : ℕ) → h < c.half_edges → (c.face h ≡ 0 → ⊥) → Pos (sd h) → Pos (sd (c.next h)) → Pos (sd (c.prev h)) → Pos (tri h)
  held-adds h l i = T.held-adds c snd q ρ h l i (wound-at h l i)

  pub edge-adds : (h : ℕ) → h < c.half_edges → (c.face h ≡ 0 → ⊥) → Zero (sd h) → Pos (sd (c.next h)) → Pos (sd (c.prev h)) → Pos (ray ρ q (A h)) → Pos (tri h)
  edge-adds h l i = T.edge-adds c snd q ρ h l i (wound-at h l i)

  -- one that adds something holds q, strictly or on one of its edges
  pub adds-held : (h : ℕ) → h < c.half_edges → (c.face h ≡ 0 → ⊥) → Pos (tri h) → Is (up (sg (side (B h) (C h) q)) & up (sg (side (C h) (A h) q)) & up (sg (sd h)) or ze (sg (sd h)) & up (sg (side (B h) (C h) q)) & up (sg (side (C h) (A h) q)) or ze (sg (side (B h) (C h) q)) & up (sg (side (C h) (A h) q)) & up (sg (sd h)) or ze (sg (side (C h) (A h) q)) & up (sg (sd h)) & up (sg (side (B h) (C h) q)))
  adds-held h l i p = fire (left (right (right (wound-at h l i)))) (subst Pos (T.tri-om c snd q ρ h l i) p).is

  adds : (h : ℕ) → h < c.half_edges → (c.face h ≡ 0 → ⊥) → T.Adds c snd q ρ h
  adds h l i = T.adds-wound c snd q ρ h l i (wound-at h l i)

  -- two that add something are one
  pub one-adds : (i k : ℕ) → i < c.half_edges → k < c.half_edges → (c.face i ≡ 0 → ⊥) → (c.face k ≡ 0 → ⊥) → Pos (tri i) → Pos (tri k) → (k ≡ i) ⊎ ((k ≡ c.next i) ⊎ (k ≡ c.prev i))
  one-adds = O.unique c snd q ρ dif low adds

  -- where q is on the line of the outer half-edge that goes down, none does
  pub none-adds : (h : ℕ) → Down h → Zero (sd h) → (k : ℕ) → k < c.half_edges → Pos (tri k) → ⊥
  unfolding T.cr
  none-adds h d z k l p =
      let o : sum (T.outs c snd q ρ) c.half_edges ≡ pos 0 =
      O.outs-at c snd q ρ dif low h d ∙ O.outs-out c snd q ρ dif low h d.outer ∙ rw (pos-sg d.from_up, neg-sg d.to-down, zero-sg z) along-step in
      let i : sum (T.ins c snd q ρ) c.half_edges ≡ pos 0 =
      sym (+ℤ_idl (sum (T.ins c snd q ρ) c.half_edges)) ∙ ap (λ (x : ℤ). x +ℤ sum (T.ins c snd q ρ) c.half_edges) (sym o) ∙ T.balanced c snd q ρ in
      pos-zero p (sum-none tri c.half_edges (O.tri-high c snd q ρ dif low adds) (T.tri-sum c snd q ρ ∙ ap (λ (x : ℤ). x +ℤ x +ℤ x) i) k l)

  -- ---- where q is on no open edge of the rim, one does
  module _ (clear : (h : ℕ) → h < c.half_edges → c.face h ≡ 0 → Zero (sd h) → Neg (dots (A h) (B h) q) → ⊥) where
    -- the outer half-edge that goes down has q strictly to its right: seen from its inner side
    strictly : (h : ℕ) → Down h → Neg (sd h)
    strictly h d = pick (sign_of (sd h))
      where
        l : h < c.half_edges
        l = d.there

        t : ℕ
        t = partner h

        tl : t < c.half_edges
        tl = partner-in snd.range h l

        ti : c.face t ≡ 0 → ⊥
        ti = R.inner-side c snd h l d.outer

        on : Zero (sd h) → Neg (dots (A h) (B h) q)
        on z =
            let o : Zero (sd t) = neg-nil (Ch.twin-side c snd h q l) z in
            let ra : Neg (ray ρ q (A t)) = subst (λ (p : Place). Neg (ray ρ q p)) (sym (Ch.twin-A c snd h l)) d.to-down in
            let rb : Pos (ray ρ q (B t)) = subst (λ (p : Place). Pos (ray ρ q p)) (sym (Ch.twin-B c snd h l)) d.from_up in
            let r = ray-left ρ q (A t) (B t) (C t) (Ch.left-turn c snd t tl ti) o (or_r (both ra.is rb.is)) in
            subst Neg (R.twin-dot c snd h q l) (left_open (A t) (B t) (C t) q (Ch.ends-apart c snd t tl) o r.0 r.1)

        pick : Neg (sd h) ⊎ (Zero (sd h) ⊎ Pos (sd h)) → Neg (sd h)
        pick (inl s) = s
        pick (inr (inl s)) = absurd (clear h l d.outer s (on s))
        pick (inr (inr s)) = absurd (pos-low s (low h l d.outer))

    outs-sum : sum (T.outs c snd q ρ) c.half_edges ≡ negsuc 0
    unfolding T.cr
    outs-sum =
        let h = (crossing c snd q ρ dif low off).0 in
        let d = (crossing c snd q ρ dif low off).1 in
        O.outs-at c snd q ρ dif low h d ∙ O.outs-out c snd q ρ dif low h d.outer ∙ rw (pos-sg d.from_up, neg-sg d.to-down, neg-sg (strictly h d)) down_step

    ins-sum : sum (T.ins c snd q ρ) c.half_edges ≡ pos 1
    ins-sum =
        let i = sum (T.ins c snd q ρ) c.half_edges in
        let f : negsuc 0 +ℤ i ≡ pos 0 = ap (λ (x : ℤ). x +ℤ i) (sym outs-sum) ∙ T.balanced c snd q ρ in
        sym (+ℤ-neg_ℤ_cancel i (negsuc 0)) ∙ ap (λ (x : ℤ). x -ℤ negsuc 0) (+ℤ_comm i (negsuc 0) ∙ f)

    pub some-adds : (h : ℕ) × (h < c.half_edges) × (c.face h ≡ 0 → ⊥) × Pos (tri h)
    some-adds =
        let e : sum tri c.half_edges ≡ pos 3 = T.tri-sum c snd q ρ ∙ ap (λ (x : ℤ). x +ℤ x +ℤ x) ins-sum in
        let r = sum-some tri c.half_edges (subst Pos (sym e) (nat-pos 3 (lit< tt))) in
        (r.0, r.1, λ o. pos-zero r.2 (eq-zero (T.tri-out c snd q ρ r.0 o)), r.2)
