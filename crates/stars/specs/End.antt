-- Where no link edge is to be flipped, no vertex across an edge is strictly inside the circle on the other side. Assumes nothing.
use Rattle.std.specs.Prelude.{◌≡◌, refl, ◌⊎◌, ℕ, ◌<◌}
use Rattle.std.proofs.Common.{sym, subst, ap, ◌∙◌, inl, inr, arith}
use Rattle.std.proofs.Math.Decide.{ℕ_discrete}
use Rattle.signs.specs.Signs.{Pos, Neg, Low, High}
use Rattle.signs.specs.Order.{neg-pos, neg-neg, pos-zero, pos-low, pos-neg, neg-or-high}
use Rattle.cells.specs.Points.{back}
use Rattle.cells.specs.Line.{on-first, on-second}
use Rattle.cells.specs.Window.{circle-across}
use Rattle.geometry.specs.declared.Place.{Place}
use Rattle.geometry.specs.Plane.{side, circle}
use Rattle.geometry.specs.Laws.{circle-turn}
use Rattle.chart.specs.Chart.{Chart, partner, partner-twice}
use Rattle.sound.specs.Sound.{Inner}
use Rattle.patches.specs.Wired.{Wired, partner-below}
use Rattle.stars.specs.Circles.{on-right}
use Rattle.stars.specs.Star.{Tri, tri-next, tri-prev, tri-partner, Good, Growing}

-- no link edge is to be flipped
abbrev pub Settled : Chart → ℕ → Type 0
Settled c n = (h x y v : ℕ) → Tri c h x y n → Tri c (partner h) y x v → Low (circle (c.place y) (c.place x) (c.place v) (c.place n))

module _ (c : Chart) (n : ℕ) (g : Growing c n) (s : Settled c n) where
  abbrev P : ℕ → Place
  P = c.place

  abbrev q : Place
  q = c.place n

  abbrev w : Wired c
  w = g.wired

  n-in : n < c.vertices
  n-in = let e = g.size in omega arith

  -- a corner that is not n is old
  old : (h : ℕ) → h < c.half_edges → (x : ℕ) → c.origin h ≡ x → (x ≡ n → ⊥) → x < n
  old h l x e m = let o = w.origins h l in let z = g.size in omega arith

  face-of-partner : {h x y v : ℕ} → Tri c h x y v → (z : ℕ) → z < c.vertices → Neg (side (P x) (P y) (P z)) → Inner c (partner h)
  face-of-partner {h} {x} {y} t z l k = pick (ℕ_discrete (c.face (partner h)) 0)
    where
      m : partner h < c.half_edges
      m = partner-below c w h t.inner.0

      pick : Dec (c.face (partner h) ≡ 0) → Inner c (partner h)
      pick (yes e) =
          absurd
          (pos-low (neg-neg (back (P x) (P y) (P z)) k)
          (subst (λ (i : ℕ). Low (side (P y) (P i) (P z))) (ap c.origin (partner-twice h) ∙ t.from)
          (subst (λ (i : ℕ). Low (side (P i) (P (c.origin (partner (partner h)))) (P z))) t.to (g.hull (partner h) z (m, e) l))))
      pick (no e) = (m, e)

  -- ---- the circle of a face of the star holds no old vertex
  pub inside : (h x y z : ℕ) → Tri c h x y n → z < n → Low (circle (P x) (P y) q (P z))
  inside h x y z t l = pick (neg-or-high (side (P x) (P y) (P z)))
    where
      gh : Good P n x y n
      gh = g.good h x y n t

      z-in : z < c.vertices
      z-in = let e = g.size in omega arith

      pick : Neg (side (P x) (P y) (P z)) ⊎ High (side (P x) (P y) (P z)) → Low (circle (P x) (P y) q (P z))
      pick (inr k) = gh.link refl z l k
      pick (inl k) =
          let i = face-of-partner t z z-in k in
          let u : ℕ = c.origin (c.prev (partner h)) in
          let o : Tri c (partner h) y x u = tri-partner c w t i in
          let gp : Good P n y x u = g.good (partner h) y x u o in
          let u-old : u ≡ n → ⊥ = λ e. pos-neg (subst (λ (k : ℕ). Pos (side (P y) (P x) (P k))) e gp.turns) (neg-pos (back (P x) (P y) q) gh.turns) in
          let y-old : y ≡ n → ⊥ = λ e. pos-zero (subst (λ (k : ℕ). Pos (side (P x) (P k) q)) e gh.turns) (on-second (P x) q) in
          let x-old : x ≡ n → ⊥ = λ e. pos-zero (subst (λ (k : ℕ). Pos (side (P k) (P y) q)) e gh.turns) (on-first q (P y)) in
          on-right (P x) (P y) (P u) q (P z) gp.turns gh.turns (s h x y u t o) (gp.empty y-old x-old u-old z l) k

  -- ---- across every edge
  pub settled-calm : (h x y v u : ℕ) → Tri c h x y v → Tri c (partner h) y x u → Low (circle (P x) (P y) (P v) (P u))
  settled-calm h x y v u t o = pick (ℕ_discrete v n) (ℕ_discrete u n) (ℕ_discrete x n) (ℕ_discrete y n)
    where
      back-tri : Tri c (partner (partner h)) x y v
      back-tri = subst (λ (k : ℕ). Tri c k x y v) (sym (partner-twice h)) t

      u-in : (u ≡ n → ⊥) → u < n
      u-in e = old (c.prev (partner h)) (w.prevs (partner h) o.inner.0) u o.apex e

      pick : Dec (v ≡ n) → Dec (u ≡ n) → Dec (x ≡ n) → Dec (y ≡ n) → Low (circle (P x) (P y) (P v) (P u))
      -- a link edge, from the star and from beyond
      pick (yes e) b a d =
          subst (λ (k : ℕ). Low (circle (P x) (P y) (P k) (P u))) (sym e)
          (subst Low (sym (circle-across (P x) (P y) q (P u))) (s h x y u (subst (λ (k : ℕ). Tri c h x y k) e t) o))
      pick (no e) (yes b) a d =
          subst (λ (k : ℕ). Low (circle (P x) (P y) (P v) (P k))) (sym b) (s (partner h) y x v (subst (λ (k : ℕ). Tri c (partner h) y x k) b o) back-tri)
      -- a spoke
      pick (no e) (no b) (yes a) d =
          subst Low (sym (circle-turn (P x) (P y) (P v) (P u)))
          (subst (λ (k : ℕ). Low (circle (P y) (P v) (P k) (P u))) (sym a) (inside (c.next h) y v u (subst (λ (k : ℕ). Tri c (c.next h) y v k) a (tri-next c w t)) (u-in b)))
      pick (no e) (no b) (no a) (yes d) =
          subst Low (sym (circle-turn (P x) (P y) (P v) (P u) ∙ circle-turn (P y) (P v) (P x) (P u)))
          (subst (λ (k : ℕ). Low (circle (P v) (P x) (P k) (P u))) (sym d) (inside (c.prev h) v x u (subst (λ (k : ℕ). Tri c (c.prev h) v x k) d (tri-prev c w t)) (u-in b)))
      -- an edge between faces without n
      pick (no e) (no b) (no a) (no d) = (g.good h x y v t).empty a d e u (u-in b)
