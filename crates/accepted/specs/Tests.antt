-- From the tests of rows 7 to 11 to what the crate `sound` takes, and row 11 per vertex and face. Assumes nothing.
use Rattle.std.specs.Prelude.{◌≡◌, refl, Bool, true, false, cond, ℕ, suc, ◌<◌, ltb}
use Rattle.std.proofs.Common.{sym, ◌∙◌, arith, lt-ltb}
use Rattle.std.proofs.lemmas.Bool.{false≢true}
use Rattle.whole.specs.Bools.{and_left}
use Rattle.whole.specs.First.{some, none-at}
use Rattle.signs.specs.Signs.{Pos}
use Rattle.signs.specs.Order.{pos-test}
use Rattle.geometry.specs.Plane.{circle}
use Rattle.chart.specs.Chart.{Chart, corner₀, corner₁, corner₂}
use Rattle.links.specs.Links.{links_broken}
use Rattle.delaunay.specs.Delaunay.{shares_place, not_left, overhung, in_circle, crowded}
use Rattle.sound.specs.Tests as S
use Rattle.checks.specs.Checks.{chart_refusal}

-- ---- the chart passes each row
cond-zero : (b : Bool) (n r : ℕ) → cond b (suc n) r ≡ 0 → (b ≡ false) × (r ≡ 0)
cond-zero true n r e = let z : ◌≡◌ {A = ℕ} 0 1 = cc in let o : ⊥ = omega arith in absurd o
cond-zero false n r e = (refl, e)

pub record Passed (c : Chart) : Type 0 where
  pub before : S.Passed c
  pub circles : some (crowded c) c.faces ≡ false

pub passed : (c : Chart) → chart_refusal c ≡ 0 → Passed c
unfolding chart_refusal
passed c e =
    let r7 = cond-zero (links_broken c) 6 _ e in
    let r8 = cond-zero (some (shares_place c) c.vertices) 7 _ r7.1 in
    let r9 = cond-zero (some (not_left c) c.faces) 8 _ r8.1 in
    let r10 = cond-zero (some (overhung c) c.half_edges) 9 _ r9.1 in
    let r11 = cond-zero (some (crowded c) c.faces) 10 0 r10.1 in
    record { before = record { links = r7.0; places = r8.0; turns = r9.0; rim = r10.0 }; circles = r11.0 }

module _ (c : Chart) (p : Passed c) where
  -- ---- 11
  pub circle-at : (f z : ℕ) → 0 < f → f < c.faces → z < c.vertices → Pos (circle (c.place (corner₀ c f)) (c.place (corner₁ c f)) (c.place (corner₂ c f)) (c.place z)) → ⊥
  circle-at f z i l m a =
      let n = and_left (ltb 0 f) (some (λ v. in_circle c (c.place v) f) c.vertices) (none-at (crowded c) c.faces p.circles f l) (lt-ltb 0 f i) in
      false≢true (sym (none-at (λ v. in_circle c (c.place v) f) c.vertices n z m) ∙ pos-test a)
