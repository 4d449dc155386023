-- A sound chart in signs: what holds at each half-edge, seen from its ends A and B and its face's third corner C. Assumes nothing.
use Rattle.std.specs.Prelude.{◌≡◌, ℕ, ◌<◌, ℤ, neg_ℤ}
use Rattle.std.proofs.Common.{sym, subst, ap, ◌∙◌}
use Rattle.signs.specs.Signs.{Pos, Low}
use Rattle.signs.specs.Order.{not-pos}
use Rattle.geometry.specs.declared.Place.{Place}
use Rattle.geometry.specs.Plane.{side}
use Rattle.geometry.specs.Laws.{place-eq}
use Rattle.cells.specs.Points.{back}
use Rattle.cells.specs.Corner.{Apart}
use Rattle.chart.specs.Chart.{Chart, partner, partner-twice, partner-in}
use Rattle.sound.specs.Sound.{Sound}

module _ (c : Chart) (snd : Sound c) where
  -- the corners of a face, from one of its half-edges; of any half-edge, its ends
  abbrev pub A : ℕ → Place
  A h = c.place (c.origin h)

  abbrev pub B : ℕ → Place
  B h = c.place (c.origin (c.next h))

  abbrev pub C : ℕ → Place
  C h = c.place (c.origin (c.prev h))

  -- the side of q at h
  abbrev pub sd : ℕ → Place → ℤ
  sd h q = side (A h) (B h) q

  -- ---- the partner goes back
  pub twin-A : (h : ℕ) → h < c.half_edges → A (partner h) ≡ B h
  twin-A h l = ap c.place (sym (snd.next_start h l))

  pub twin-B : (h : ℕ) → h < c.half_edges → B (partner h) ≡ A h
  twin-B h l = ap c.place (snd.next_start (partner h) (partner-in snd.range h l) ∙ ap c.origin (partner-twice h))

  pub twin-side : (h : ℕ) (q : Place) → h < c.half_edges → sd (partner h) q ≡ neg_ℤ (sd h q)
  twin-side h q l =
      ap (λ (p : Place). side p (B (partner h)) q) (twin-A h l) ∙ ap (λ (p : Place). side (B h) p q) (twin-B h l) ∙ back (A h) (B h) q

  -- different vertices have different places
  pub places-apart : (v w : ℕ) → v < c.vertices → w < c.vertices → (v ≡ w → ⊥) → Apart (c.place v) (c.place w)
  places-apart v w l m n x y = n (snd.one_place v w l m (place-eq (c.place v) (c.place w) x y))

  pub ends-apart : (h : ℕ) → h < c.half_edges → Apart (A h) (B h)
  ends-apart h l =
      places-apart (c.origin h) (c.origin (c.next h)) (snd.range.origins h l) (snd.range.origins (c.next h) (snd.range.nexts h l))
      (λ e. snd.ends-differ h l (e ∙ snd.next_start h l))

  pub apart-ends : (h : ℕ) → h < c.half_edges → Apart (B h) (A h)
  apart-ends h l x y = ends-apart h l (sym x) (sym y)

  -- ---- links
  pub next-inner : (h : ℕ) → h < c.half_edges → (c.face h ≡ 0 → ⊥) → c.face (c.next h) ≡ 0 → ⊥
  next-inner h l i e = i (sym (snd.next-face h l) ∙ e)

  pub prev-inner : (h : ℕ) → h < c.half_edges → (c.face h ≡ 0 → ⊥) → c.face (c.prev h) ≡ 0 → ⊥
  prev-inner h l i e = i (sym (snd.prev-face h l) ∙ e)

  -- the three sides of a face
  pub B-next : (h : ℕ) → h < c.half_edges → (c.face h ≡ 0 → ⊥) → B (c.next h) ≡ C h
  B-next h l i = ap (λ (k : ℕ). c.place (c.origin k)) (snd.next-next h (l, i))

  pub B-prev : (h : ℕ) → h < c.half_edges → B (c.prev h) ≡ A h
  B-prev h l = ap (λ (k : ℕ). c.place (c.origin k)) (snd.next-prev h l)

  pub C-next : (h : ℕ) → h < c.half_edges → C (c.next h) ≡ A h
  C-next h l = ap (λ (k : ℕ). c.place (c.origin k)) (snd.prev-next h l)

  pub side-next : (h : ℕ) (q : Place) → h < c.half_edges → (c.face h ≡ 0 → ⊥) → sd (c.next h) q ≡ side (B h) (C h) q
  side-next h q l i = ap (λ (p : Place). side (B h) p q) (B-next h l i)

  pub side-prev : (h : ℕ) (q : Place) → h < c.half_edges → sd (c.prev h) q ≡ side (C h) (A h) q
  side-prev h q l = ap (λ (p : Place). side (C h) p q) (B-prev h l)

  -- ---- left turns at every inner half-edge, and no vertex left of an outer one
  pub left-turn : (h : ℕ) → h < c.half_edges → (c.face h ≡ 0 → ⊥) → Pos (side (A h) (B h) (C h))
  left-turn h l i = subst (λ (v : ℕ). Pos (side (A h) (c.place v) (C h))) (sym (snd.next_start h l)) (snd.turns-left h (l, i))

  pub hull : (h z : ℕ) → h < c.half_edges → z < c.vertices → c.face h ≡ 0 → Low (sd h (c.place z))
  hull h z l m e =
      subst (λ (v : ℕ). Low (side (A h) (c.place v) (c.place z))) (sym (snd.next_start h l)) (not-pos (snd.hull h z (l, e) m))
