-- The star of the new vertex n: what holds of a chart while edges are flipped, and that a flip keeps it. Assumes nothing.
use Rattle.std.specs.Prelude.{◌≡◌, refl, List, ℕ, ◌+◌, ◌<◌}
use Rattle.std.proofs.Common.{sym, ap, ◌∙◌}
use Rattle.std.proofs.Math.Path.{subst}
use Rattle.signs.specs.Signs.{Pos, Low, High, eq-zero}
use Rattle.signs.specs.Order.{neg-pos, pos-zero, neg_low}
use Rattle.cells.specs.Points.{back}
use Rattle.cells.specs.Line.{on-first, on-second}
use Rattle.geometry.specs.declared.Place.{Place}
use Rattle.geometry.specs.Plane.{side, circle}
use Rattle.geometry.specs.Laws.{side-turn, circle-turn}
use Rattle.chart.specs.Chart.{Chart, partner, partner-twice}
use Rattle.sound.specs.Sound.{Inner, Outer, start, end}
use Rattle.patches.specs.declared.Row.{Row}
use Rattle.patches.specs.Rows.{none, hit, hit_of, cases, Throughout, throughout}
use Rattle.patches.specs.Wired.{Wired, next-inner, prev-inner, next-end, prev-end, prev-prev}
use Rattle.patches.specs.Patch.{Patch, origin-old, origin-new, end-new, apex-new, apex-old, inner-old, outer-missed}
use Rattle.patches.specs.Flip.{flipped, flip_rows}
use Rattle.patches.proofs.Flip.{flip-patch, flip-wired}
use Rattle.stars.specs.Circles.{circle-corner, left-next, left-prev, on-left}

-- ---- the corners of an inner half-edge's face: where it starts, where it ends, and across
pub record Tri (c : Chart) (h x y w : ℕ) : Type 0 where
  pub inner : Inner c h
  pub from : c.origin h ≡ x
  pub to : c.origin (partner h) ≡ y
  pub apex : c.origin (c.prev h) ≡ w

module _ (c : Chart) (w : Wired c) where
  pub tri-next : {h x y v : ℕ} → Tri c h x y v → Tri c (c.next h) y v x
  tri-next {h} t =
      record {
        inner = next-inner c w h t.inner;
        from = w.next_start h t.inner.0 ∙ t.to;
        to = next-end c w h t.inner ∙ t.apex;
        apex = ap c.origin (w.prev-next h t.inner.0) ∙ t.from;
      }

  pub tri-prev : {h x y v : ℕ} → Tri c h x y v → Tri c (c.prev h) v x y
  tri-prev {h} t =
      record {
        inner = prev-inner c w h t.inner;
        from = t.apex;
        to = prev-end c w h t.inner.0 ∙ t.from;
        apex = ap c.origin (prev-prev c w h t.inner) ∙ w.next_start h t.inner.0 ∙ t.to;
      }

  pub tri-partner : {h x y v : ℕ} → Tri c h x y v → Inner c (partner h) → Tri c (partner h) y x (c.origin (c.prev (partner h)))
  tri-partner {h} t i = record { inner = i; from = t.to; to = ap c.origin (partner-twice h) ∙ t.from; apex = refl }

pub tri-at : {c : Chart} (h : ℕ) → Inner c h → Tri c h (c.origin h) (c.origin (partner h)) (c.origin (c.prev h))
tri-at h i = record { inner = i; from = refl; to = refl; apex = refl }

-- ---- a face seen from one of its half-edges, while n is being joined to the chart
pub record Good (P : ℕ → Place) (n x y w : ℕ) : Type 0 where
  -- it turns left
  pub turns : Pos (side (P x) (P y) (P w))
  -- of a face without n: no old vertex is inside its circle
  pub empty : (x ≡ n → ⊥) → (y ≡ n → ⊥) → (w ≡ n → ⊥) → (z : ℕ) → z < n → Low (circle (P x) (P y) (P w) (P z))
  -- of one with n across: no old vertex on this side is inside
  pub link : w ≡ n → (z : ℕ) → z < n → High (side (P x) (P y) (P z)) → Low (circle (P x) (P y) (P w) (P z))

pub record Growing (c : Chart) (n : ℕ) : Type 0 where
  pub wired : Wired c
  pub size : c.vertices ≡ n + 1
  pub hull : (h z : ℕ) → Outer c h → z < c.vertices → Low (side (start c h) (end c h) (c.place z))
  pub good : (h x y w : ℕ) → Tri c h x y w → Good c.place n x y w

-- ---- a face of the star: a, b, and n across
module _ (P : ℕ → Place) (n a b : ℕ) (na : a ≡ n → ⊥) (nb : b ≡ n → ⊥) (s : Pos (side (P a) (P b) (P n)))
    (m : (z : ℕ) → z < n → High (side (P a) (P b) (P z)) → Low (circle (P a) (P b) (P n) (P z))) where
  pub star₀ : Good P n a b n
  star₀ = record { turns = s; empty = λ p q r. absurd (r refl); link = λ e. m }

  pub star₁ : Good P n b n a
  star₁ =
      record {
        turns = subst Pos (side-turn (P a) (P b) (P n)) s;
        empty = λ p q r. absurd (q refl);
        link = λ e. absurd (na e);
      }

  pub star₂ : Good P n n a b
  star₂ =
      record {
        turns = subst Pos (side-turn (P a) (P b) (P n) ∙ side-turn (P b) (P n) (P a)) s;
        empty = λ p q r. absurd (p refl);
        link = λ e. absurd (nb e);
      }

-- ---- the corners of a face after triangles were written in
pub tri-split : (c d : Chart) (rs : List Row) (w : Wired c) (p : Patch c rs d) (h x y v : ℕ) (C : Type 0) → Tri d h x y v
    → (hit_of rs h ≡ none → Tri c h x y v → C) → ((r : Row) → hit_of rs h ≡ hit r → r.from ≡ x → r.to ≡ y → r.apex ≡ v → C) → C
tri-split c d rs w p h x y v C t old new =
    cases (hit_of rs h) C
    (λ e.
    let i = inner-old c d rs w p h e t.inner in
    old e (record {
      inner = i;
      from = sym (origin-old c d rs w p h e) ∙ t.from;
      to = sym (p.ends-kept h i.0 e) ∙ t.to;
      apex = sym (apex-old c d rs w p h i.0 e) ∙ t.apex;
    }))
    (λ r e. new r e (sym (origin-new c d rs w p h r e) ∙ t.from) (sym (end-new c d rs w p h r e) ∙ t.to) (sym (apex-new c d rs w p h r e) ∙ t.apex))

pub good-at : (P : ℕ → Place) (n : ℕ) (r : Row) (x y v : ℕ) → Good P n r.from r.to r.apex → r.from ≡ x → r.to ≡ y → r.apex ≡ v → Good P n x y v
good-at P n r x y v g p q s =
    subst (λ (k : ℕ). Good P n x y k) s (subst (λ (k : ℕ). Good P n x k r.apex) q (subst (λ (k : ℕ). Good P n k r.to r.apex) p g))

-- ---- a flip. e is a link edge, with the new vertex across, and the circle beyond e holds the new vertex
module _ (c : Chart) (e : ℕ) (g : Growing c (c.origin (c.prev e))) (ie : Inner c e) (it : Inner c (partner e))
    (j : Pos (circle (c.place (c.origin (partner e))) (c.place (c.origin e)) (c.place (c.origin (c.prev (partner e)))) (c.place (c.origin (c.prev e))))) where
  abbrev n : ℕ
  n = c.origin (c.prev e)

  abbrev a : ℕ
  a = c.origin e

  abbrev b : ℕ
  b = c.origin (partner e)

  abbrev v : ℕ
  v = c.origin (c.prev (partner e))

  abbrev P : ℕ → Place
  P = c.place

  te : Tri c e a b n
  te = tri-at e ie

  tt' : Tri c (partner e) b a v
  tt' = tri-partner c g.wired te it

  ge : Good P n a b n
  ge = g.good e a b n te

  gt : Good P n b a v
  gt = g.good (partner e) b a v tt'

  pub a-old : a ≡ n → ⊥
  a-old q = pos-zero (subst (λ (k : ℕ). Pos (side (P k) (P b) (P n))) q ge.turns) (on-first (P n) (P b))

  pub b-old : b ≡ n → ⊥
  b-old q = pos-zero (subst (λ (k : ℕ). Pos (side (P a) (P k) (P n))) q ge.turns) (on-second (P a) (P n))

  pub v-old : v ≡ n → ⊥
  v-old q = pos-zero (subst (λ (k : ℕ). Pos (circle (P b) (P a) (P k) (P n))) q j) (eq-zero (circle-corner (P b) (P a) (P n)))

  beyond : Low (side (P b) (P a) (P n))
  beyond = neg_low (neg-pos (back (P a) (P b) (P n)) ge.turns)

  s-av : Pos (side (P a) (P v) (P n))
  s-av = left-next (P b) (P a) (P v) (P n) gt.turns j beyond

  s-vb : Pos (side (P v) (P b) (P n))
  s-vb = left-prev (P b) (P a) (P v) (P n) gt.turns j beyond

  m-av : (z : ℕ) → z < n → High (side (P a) (P v) (P z)) → Low (circle (P a) (P v) (P n) (P z))
  m-av z l =
      on-left (P a) (P v) (P b) (P n) (P z) (subst Pos (side-turn (P b) (P a) (P v)) gt.turns) s-av (subst Pos (circle-turn (P b) (P a) (P v) (P n)) j)
      (subst Low (circle-turn (P b) (P a) (P v) (P z)) (gt.empty b-old a-old v-old z l))

  m-vb : (z : ℕ) → z < n → High (side (P v) (P b) (P z)) → Low (circle (P v) (P b) (P n) (P z))
  m-vb z l =
      on-left (P v) (P b) (P a) (P n) (P z) (subst Pos (side-turn (P b) (P a) (P v) ∙ side-turn (P a) (P v) (P b)) gt.turns) s-vb
      (subst Pos (circle-turn (P b) (P a) (P v) (P n) ∙ circle-turn (P a) (P v) (P b) (P n)) j)
      (subst Low (circle-turn (P b) (P a) (P v) (P z) ∙ circle-turn (P a) (P v) (P b) (P z)) (gt.empty b-old a-old v-old z l))

  pub tips : c.origin (c.prev e) ≡ c.origin (c.prev (partner e)) → ⊥
  tips q = v-old (sym q)

  patch : Patch c (flip_rows c e) (flipped c e)
  patch = flip-patch c g.wired e ie it tips

  Fine : Row → Type 0
  Fine r = Good P n r.from r.to r.apex

  fine : Throughout Fine (flip_rows c e)
  unfolding Fine
  fine =
      Throughout.cons (star₂ P n v b v-old b-old s-vb m-vb) (star₀ P n v b v-old b-old s-vb m-vb) (star₁ P n v b v-old b-old s-vb m-vb)
      (Throughout.cons (star₁ P n a v a-old v-old s-av m-av) (star₂ P n a v a-old v-old s-av m-av) (star₀ P n a v a-old v-old s-av m-av) Throughout.nil)

  pub flip-grows : Growing (flipped c e) n
  unfolding Fine
  flip-grows =
      record {
        wired = flip-wired c g.wired e ie it tips;
        size = g.size;
        hull =
            λ h z o l.
            let m = outer-missed c (flipped c e) (flip_rows c e) g.wired patch h o in
            let x = origin-old c (flipped c e) (flip_rows c e) g.wired patch h m.0 in
            let y = patch.ends-kept h m.1.0 m.0 in
            subst (λ (k : ℕ). Low (side (P k) (P ((flipped c e).origin (partner h))) (P z))) (sym x)
            (subst (λ (k : ℕ). Low (side (P (c.origin h)) (P k) (P z))) (sym y) (g.hull h z m.1 l));
        good =
            λ h x y u t.
            tri-split c (flipped c e) (flip_rows c e) g.wired patch h x y u (Good P n x y u) t (λ o s. g.good h x y u s)
            (λ r q i k l. good-at P n r x y u (throughout Fine (flip_rows c e) h r fine q) i k l);
      }
