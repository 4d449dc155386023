-- The rim as a ray sees it from a place that is strictly left of no outer half-edge: where its corners lie all on one side of the ray's line, none lies on the
-- left, as each would have a neighbour that is nearer to the line. Assumes nothing.
use Rattle.std.specs.Prelude.{◌≡◌, ◌⊎◌, ℕ, zero, suc, ◌<◌, ℤ, ◌-ℤ◌}
use Rattle.std.proofs.Common.{sym, subst, ap, ◌∙◌, inl, inr, arith}
use Rattle.signs.specs.Signs.{Pos, Neg, Zero, Low, Off}
use Rattle.signs.specs.Order.{neg-pos, off-cases, sub-flip}
use Rattle.geometry.specs.declared.Place.{Place}
use Rattle.geometry.specs.Plane.{side}
use Rattle.cells.specs.Points.{dots, ray}
use Rattle.cells.specs.Corner.{Apart}
use Rattle.cells.specs.Rays.{straight, no-lowest}
use Rattle.chart.specs.Chart.{Chart}
use Rattle.sound.specs.Sound.{Sound}
use Rattle.nearby.specs.Chart as Ch
use Rattle.nearby.specs.Rim as R
use Rattle.nearby.specs.Line.{Differ, size, falls}

module _ (c : Chart) (snd : Sound c) (q ρ : Place) (dif : Differ c snd q ρ) (low : (h : ℕ) → h < c.half_edges → c.face h ≡ 0 → Low (Ch.sd c snd h q)) where
  abbrev A : ℕ → Place
  A = Ch.A c snd

  abbrev B : ℕ → Place
  B = Ch.B c snd

  abbrev al : ℕ → ℤ
  al h = ray ρ q (c.place (c.origin h))

  module _ (same : (h : ℕ) → h < c.half_edges → c.face h ≡ 0 → (Pos (al h) → Pos (al (c.next h))) × (Pos (al (c.next h)) → Pos (al h))) where
    lowest : (h : ℕ) → h < c.half_edges → c.face h ≡ 0 → Pos (al h) → Pos (al (c.next h) -ℤ al h) → Neg (al h -ℤ al (c.prev h)) → ⊥
    lowest h l o p x y =
        let k = c.prev h in
        let kl : k < c.half_edges = snd.range.prevs h l in
        let ko : c.face k ≡ 0 = snd.prev-face h l ∙ o in
        let e : B k ≡ A h = Ch.B-prev c snd h l in
        let z : Zero (side (A k) (A h) (B h)) =
        straight ρ q (A k) (A h) (B h) p y x (low h l o) (subst (λ (p : Place). Low (side (A k) p q)) e (low k kl ko))
        (subst (λ (p : Place). Low (side (A k) p (B h))) e (Ch.hull c snd k (c.origin (c.next h)) kl (snd.range.origins (c.next h) (snd.range.nexts h l)) ko)) in
        let d : Neg (dots (A k) (B h) (B k)) =
        R.onward c snd k h kl l ko o (sym e) (subst (λ (p : Place). Zero (side (A k) p (B h))) (sym e) z) in
        no-lowest ρ q (A k) (A h) (B h) (subst (λ (p : Place). Apart (A k) p) e (Ch.ends-apart c snd k kl)) y x z
        (subst (λ (p : Place). Neg (dots (A k) (B h) p)) e d)

    ends-off : (h : ℕ) → h < c.half_edges → Off (al (c.next h) -ℤ al h)
    ends-off h l =
        dif (c.origin (c.next h)) (c.origin h) (snd.range.origins (c.next h) (snd.range.nexts h l)) (snd.range.origins h l)
        (λ e. snd.ends-differ h l (sym e ∙ snd.next_start h l))

    al-prev : (h : ℕ) → h < c.half_edges → al (c.next (c.prev h)) ≡ al h
    al-prev h l = ap al (snd.next-prev h l)

    -- one of its neighbours is nearer
    descend : (h : ℕ) → h < c.half_edges → c.face h ≡ 0 → Pos (al h) → ((k : ℕ) → k < c.half_edges → c.face k ≡ 0 → Pos (al k) → size c snd q ρ dif k < size c snd q ρ dif h → ⊥) → ⊥
    descend h l o p rec = pick (off-cases (ends-off h l)) (off-cases (subst (λ (z : ℤ). Off (z -ℤ al (c.prev h))) (al-prev h l) (ends-off (c.prev h) kl)))
      where
        nl : c.next h < c.half_edges
        nl = snd.range.nexts h l

        kl : c.prev h < c.half_edges
        kl = snd.range.prevs h l

        ko : c.face (c.prev h) ≡ 0
        ko = snd.prev-face h l ∙ o

        pick : Neg (al (c.next h) -ℤ al h) ⊎ Pos (al (c.next h) -ℤ al h) → Neg (al h -ℤ al (c.prev h)) ⊎ Pos (al h -ℤ al (c.prev h)) → ⊥
        pick (inl x) y = rec (c.next h) nl (snd.next-face h l ∙ o) ((same h l o).0 p) (falls c snd q ρ dif h (c.next h) nl x)
        pick (inr x) (inl y) = lowest h l o p x y
        pick (inr x) (inr y) =
            rec (c.prev h) kl ko ((same (c.prev h) kl ko).1 (subst Pos (sym (al-prev h l)) p))
            (falls c snd q ρ dif h (c.prev h) kl (neg-pos (sub-flip (al h) (al (c.prev h))) y))

    go : (n h : ℕ) → h < c.half_edges → c.face h ≡ 0 → Pos (al h) → size c snd q ρ dif h < n → ⊥
    go zero h l o p b = omega arith
    go (suc n) h l o p b = descend h l o p (λ k m ko pk s. go n k m ko pk (omega arith))

    pub none_above : (h : ℕ) → h < c.half_edges → c.face h ≡ 0 → Pos (al h) → ⊥
    none_above h l o p = go (suc (size c snd q ρ dif h)) h l o p (omega arith)
