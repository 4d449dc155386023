-- The two sums over lists, as the loops take them. Assumes nothing.
use Rattle.std.proofs.Common.{◌≡◌, refl, true, false, ◌⊎◌, inl, inr, List, [], ◌∷◌, ℕ, length}
use Rattle.std.specs.Prelude.{Float}
use Rattle.std.specs.Float.Ieee.{eq}
use Rattle.geometry.specs.declared.Place.{Place}
use Rattle.chart.specs.Chart.{Chart}
use Rattle.points.specs.Floats.{f0, real_of}
use Rattle.interpolate.specs.declared.Blend.{Blend}
use Rattle.interpolate.specs.Values.{sum_from, r2_of, zeta_of, blend_on, blended, blend_from}

-- one of two lists is at its end, as a walk over both says it
abbrev pub Ended : {S T A B : Type 0} → S → T → List A → List B → Type 0
Ended {S} {T} s t os ws = ((x : S) × ((length os ≡ 0) × (x ≡ s))) ⊎ ((x : T) × ((length ws ≡ 0) × (x ≡ t)))

module _ (c : Chart) where
  -- no vertex is left of the weighted sum
  pub sum-end : {S T : Type 0} (a : S) (b : T) (t : Float) (os : List ℕ) (ws : List Float) → Ended a b os ws → sum_from c t os ws ≡ t
  unfolding sum_from
  sum-end a b t [] ws e = refl
  sum-end a b t (v ∷ os) [] e = refl
  sum-end a b t (v ∷ os) (w ∷ ws) e = elim e [ inl h ↦ absurd (cc h.1.0) | inr h ↦ absurd (cc h.1.0) ]

  module _ (q : Place) (s : Blend) where
    -- the load is at a vertex
    pub blend-at : (v : ℕ) (w : Float) (os : List ℕ) (ws : List Float) → eq (r2_of c q v) f0 ≡ true → blend_from c q s (v ∷ os) (w ∷ ws) ≡ real_of (c.value v)
    unfolding blend_from
    blend-at v w os ws e = rw e

    -- one more vertex
    pub blend_next : (v : ℕ) (w : Float) (os : List ℕ) (ws : List Float) → eq (r2_of c q v) f0 ≡ false
        → blend_from c q s (v ∷ os) (w ∷ ws) ≡ blend_from c q (blend_on s (real_of (c.value v)) (r2_of c q v) (zeta_of c q v) w) os ws
    unfolding blend_from
    blend_next v w os ws e = rw e

    -- no vertex is left
    pub blend-end : {S T : Type 0} (a : S) (b : T) (os : List ℕ) (ws : List Float) → Ended a b os ws → blend_from c q s os ws ≡ blended s
    unfolding blend_from
    blend-end a b [] ws e = refl
    blend-end a b (v ∷ os) [] e = refl
    blend-end a b (v ∷ os) (w ∷ ws) e = elim e [ inl h ↦ absurd (cc h.1.0) | inr h ↦ absurd (cc h.1.0) ]

pub ruleset steps = (blend-at, blend_next)
