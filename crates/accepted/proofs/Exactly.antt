-- The converse of `passed` and `accepted`: a chart with the facts of `Accepted` is refused by none of rows 7 to 11. So these rows refuse exactly the
-- charts that lack one of them, and `Accepted` can be read in their place. Assumes nothing.
use Rattle.std.specs.Prelude.{◌≡◌, List, false, ℕ, ◌<◌, ltb, ℤ}
use Rattle.std.proofs.Math.Path.{refl}
use Rattle.std.proofs.Common.{sym, subst, ap, ◌∙◌}
use Rattle.std.proofs.lemmas.Bool.{false≢true}
use Rattle.whole.specs.Bools.{and-true, is_false}
use Rattle.whole.specs.First.{some, some-none}
use Rattle.signs.specs.Signs.{Pos}
use Rattle.signs.specs.Order.{test-pos}
use Rattle.geometry.specs.declared.Place.{Place}
use Rattle.geometry.specs.Plane.{circle}
use Rattle.geometry.specs.Laws.{circle-turn}
use Rattle.chart.specs.Tables.{unsigned_all}
use Rattle.chart.specs.Chart.{Chart, chart_of, corner₀, corner₁, corner₂}
use Rattle.delaunay.specs.Delaunay.{in_circle, crowded}
use Rattle.checks.specs.Checks.{chart_refusal, tables_refusal}
use Rattle.ranges.specs.Ranges.{out_of_range}
use Rattle.reading.specs.Reading.Head.{Counts}
use Rattle.reading.specs.Reading.{head_of, body_of, load_of, chart_in, chart_refusal_of}
use Rattle.reading.specs.Reading.Body.{body}
use Rattle.sound.specs.Sound.{start, end, apex}
use Rattle.sound.proofs.Exactly.{inner_of, third, none_before}
use Rattle.accepted.specs.Accepted.{Accepted}
use Rattle.accepted.specs.Unrefused.{Unrefused}

module _ (c : Chart) (a : Accepted c) where
  -- ---- 11
  no-crowd : (f : ℕ) → f < c.faces → crowded c f ≡ false
  no-crowd f l =
      is_false (crowded c f)
      (λ e.
      let t = and-true (ltb 0 f) (some (λ v. in_circle c (c.place v) f) c.vertices) e in
      let g = c.adjacent f in
      false≢true
      (sym
      (some-none (λ v. in_circle c (c.place v) f) c.vertices
      (λ z m.
      is_false (in_circle c (c.place z) f)
      (λ k.
      let s : circle (c.place (corner₀ c f)) (c.place (corner₁ c f)) (c.place (corner₂ c f)) (c.place z) ≡ circle (start c g) (end c g) (apex c g) (c.place z) =
      ap (λ (x : Place). circle (apex c g) (start c g) x (c.place z)) (third c a.sound f l) ∙ circle-turn (apex c g) (start c g) (end c g) (c.place z) in
      a.empty-circle g z (inner_of c a.sound f t.0 l) m (subst Pos s (test-pos k)))))
      ∙ t.1))

  -- ---- rows 7 to 11
  pub none-refuses : chart_refusal c ≡ 0
  unfolding chart_refusal
  none-refuses =
      let b = none_before c a.sound in
      rw (b.links, b.places, b.turns, b.rim, some-none (crowded c) c.faces no-crowd) refl

-- ---- the whole file: bytes whose first line and body can be read, whose numbers are in range, and whose chart has these facts, are accepted
pub read-accepted : (s : List ℕ) (v e f : ℕ) (vs es fs : List ℤ) → head_of s ≡ Counts v e f → body_of v e f s ≡ body vs es fs → out_of_range vs es fs ≡ false → Accepted (chart_of vs (unsigned_all es) (unsigned_all fs)) → chart_refusal_of s ≡ 0
unfolding chart_in load_of tables_refusal
read-accepted s v e f vs es fs h b o a = rw (h, b, o, none-refuses (chart_of vs (unsigned_all es) (unsigned_all fs)) a) refl

-- so it is one that none of rows 4 and 6 to 11 meets
pub accepted-unrefused : (c : Chart) → Accepted c → Unrefused c
accepted-unrefused c a = record { counts = a.counts; values = a.values; none = none-refuses c a }
