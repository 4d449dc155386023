-- 01, "Gradient and value": `interpolate` and `interpolate_gradient` with flatness 1, from a list of vertices and one of their weights, the same
-- operations on f64 in the same order.
use Rattle.std.specs.Prelude.{cond, List, [], ◌∷◌, ℕ, ◌<◌, Float, length, get_or}
use Rattle.std.specs.Float.Ieee.{eq}
use Rattle.geometry.specs.declared.Place.{Place}
use Rattle.chart.specs.Chart.{Chart}
use Rattle.points.specs.declared.Point2.{Point2}
use Rattle.points.specs.Floats.{f0, ◌+f◌, ◌*f◌, ◌/f◌, real_of}
use Rattle.points.specs.Points.{point_of, point_sub, point_dot, point_length2}
use Rattle.gradient.specs.Gradient.{gradient_of}
use Rattle.interpolate.specs.declared.Blend.{Blend}

-- the vertices of a list are vertices of the chart
abbrev pub Owners : Chart → List ℕ → Type 0
Owners c os = (k : ℕ) → k < length os → get_or os k 0 < c.vertices

-- total_sum + i(vertex) * weight, one after the other
unfoldable pub sum_from : Chart → Float → List ℕ → List Float → Float
sum_from c total [] ws = total
sum_from c total (v ∷ os) [] = total
sum_from c total (v ∷ os) (w ∷ ws) = sum_from c (total +f real_of (c.value v) *f w) os ws

-- `interpolate`, from zero on
abbrev pub value_sum : Chart → List ℕ → List Float → Float
value_sum c os ws = sum_from c f0 os ws

-- `interpolate_gradient`: diff, r_i2 and zeta_i of vertex v
abbrev pub diff_of : Chart → Place → ℕ → Point2
diff_of c q v = point_sub (point_of q) (point_of (c.place v))

abbrev pub r2_of : Chart → Place → ℕ → Float
r2_of c q v = point_length2 (diff_of c q v)

abbrev pub zeta_of : Chart → Place → ℕ → Float
zeta_of c q v =
    let g = gradient_of c v in
    real_of (c.value v) +f point_dot (diff_of c q v) (record { x = g.x; y = g.y })

-- the sums after one more vertex, of height h, squared distance r2, weight w; at flatness 1 r_i is r_i2
unfoldable pub blend_on : Blend → Float → Float → Float → Float → Blend
blend_on s h r2 zeta w =
    let c1 = w /f r2 in
    record {
      alpha = s.alpha +f c1 *f r2;
      beta = s.beta +f w *f r2;
      sum_c1_weights = s.sum_c1_weights +f c1;
      sum_c1 = s.sum_c1 +f zeta *f c1;
      sum_c0 = s.sum_c0 +f h *f w;
    }

-- the last lines: (alpha * sum_c0 + beta * sum_c1) / (alpha + beta)
unfoldable pub blended : Blend → Float
blended s =
    let alpha = s.alpha /f s.sum_c1_weights in
    let c1 = s.sum_c1 /f s.sum_c1_weights in
    (alpha *f s.sum_c0 +f s.beta *f c1) /f (alpha +f s.beta)

-- the loop: where the distance is 0 the vertex's value is the answer
unfoldable pub blend_from : Chart → Place → Blend → List ℕ → List Float → Float
blend_from c q s [] ws = blended s
blend_from c q s (v ∷ os) [] = blended s
blend_from c q s (v ∷ os) (w ∷ ws) =
    cond (eq (r2_of c q v) f0) (real_of (c.value v))
    (blend_from c q (blend_on s (real_of (c.value v)) (r2_of c q v) (zeta_of c q v) w) os ws)

-- from zero on
abbrev pub no_blend : Blend
no_blend = record { alpha = f0; beta = f0; sum_c1_weights = f0; sum_c1 = f0; sum_c0 = f0 }

-- `interpolate_gradient`
abbrev pub value_blend : Chart → Place → List ℕ → List Float → Float
value_blend c q os ws = blend_from c q no_blend os ws
