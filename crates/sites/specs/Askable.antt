-- 13 and 25 as they are asked, before the location, and what they leave. Assumes nothing.
use Rattle.std.specs.Prelude.{◌≡◌, refl, Bool, true, false, cond, ℕ, ◌≤◌, ◌<◌, eqb, ℤ, pos}
use Rattle.std.proofs.Common.{sym, ◌∙◌, arith, eq-eqb, ne_eqb}
use Rattle.std.proofs.lemmas.Bool.{eqb-false}
use Rattle.whole.specs.Bools.{or-false, never}
use Rattle.whole.specs.Bound.{outside}
use Rattle.geometry.specs.declared.Place.{Place}
use Rattle.geometry.specs.Plane.{off_grid, OnGrid, on-grid}
use Rattle.chart.specs.Limits.{most_vertices}
use Rattle.chart.specs.Chart.{Chart}
use Rattle.ranges.specs.Ranges.{value_max}
use Rattle.locate.specs.Location.{location_of}
use Rattle.sites.specs.Insertion.{no_site, out_of_bounds, vertex_refusal}

-- 13, 25, or 0
abbrev pub ask_refusal : Place → ℤ → ℕ → ℕ
ask_refusal q z v = cond (out_of_bounds q z) 13 (cond (eqb v most_vertices) 25 0)

-- what holds of a new vertex that neither meets
pub record Askable (c : Chart) (q : Place) (z : ℤ) : Type 0 where
  pub few : c.vertices < most_vertices
  pub grid : OnGrid q
  pub ranged : outside (pos 0) (pos value_max) z ≡ false

-- ---- these come first
first_by : (a b d : Bool) → (◌≡◌ {A = ℕ} (cond a 13 (cond b 25 0)) 0 → ⊥) → ◌≡◌ {A = ℕ} (cond a 13 (cond b 25 (cond d 26 0))) (cond a 13 (cond b 25 0))
first_by true b d n = refl
first_by false true d n = refl
first_by false false d n = absurd (n refl)

then_by : (a b d : Bool) → ◌≡◌ {A = ℕ} (cond a 13 (cond b 25 0)) 0 → ◌≡◌ {A = ℕ} (cond a 13 (cond b 25 (cond d 26 0))) (cond d 26 0)
then_by true b d e = never (cc)
then_by false true d e = never (cc)
then_by false false d e = refl

module _ (c : Chart) (q : Place) (z : ℤ) where
  -- 13 or 25
  pub asked-first : (ask_refusal q z c.vertices ≡ 0 → ⊥) → vertex_refusal c q z ≡ ask_refusal q z c.vertices
  unfolding vertex_refusal
  asked-first n = first_by (out_of_bounds q z) (eqb c.vertices most_vertices) (no_site c (location_of c q)) n

  -- 26, or nothing
  pub asked-then : ask_refusal q z c.vertices ≡ 0 → vertex_refusal c q z ≡ cond (no_site c (location_of c q)) 26 0
  unfolding vertex_refusal
  asked-then e = then_by (out_of_bounds q z) (eqb c.vertices most_vertices) (no_site c (location_of c q)) e

  pub asked : c.vertices ≤ most_vertices → ask_refusal q z c.vertices ≡ 0 → Askable c q z
  asked most e = pick (out_of_bounds q z) refl (eqb c.vertices most_vertices) refl e
    where
      pick : (a : Bool) → out_of_bounds q z ≡ a → (b : Bool) → eqb c.vertices most_vertices ≡ b → ◌≡◌ {A = ℕ} (cond a 13 (cond b 25 0)) 0 → Askable c q z
      pick true p b s k = never (cc)
      pick false p true s k = never (cc)
      pick false p false s k =
          let o = or-false (off_grid q) (outside (pos 0) (pos value_max) z) p in
          let n : c.vertices ≡ most_vertices → ⊥ = eqb-false c.vertices most_vertices s in
          record { few = omega arith; grid = on-grid q o.0; ranged = o.1 }

-- ---- in the code's order
module _ (q : Place) (z : ℤ) (v : ℕ) where
  pub ask-off : (b : Bool) → b ≡ off_grid q → b ≡ true → 13 ≡ ask_refusal q z v
  ask-off b e t = rw (sym e ∙ t) refl

  module _ (a b : Bool) (e : a ≡ off_grid q) (s : a ≡ false) (f : b ≡ outside (pos 0) (pos value_max) z) where
    pub ask-value : b ≡ true → 13 ≡ ask_refusal q z v
    ask-value t = rw (sym e ∙ s, sym f ∙ t) refl

    pub ask-full : b ≡ false → v ≡ most_vertices → 25 ≡ ask_refusal q z v
    ask-full t l = rw (sym e ∙ s, sym f ∙ t, eq-eqb v most_vertices l) refl

    pub ask-none : b ≡ false → (v ≡ most_vertices → ⊥) → 0 ≡ ask_refusal q z v
    ask-none t l = rw (sym e ∙ s, sym f ∙ t, ne_eqb v most_vertices l) refl
