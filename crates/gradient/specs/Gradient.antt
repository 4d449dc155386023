-- 01, "Gradient and value": `estimate_gradient`, the same operations on f64 in the same order.
use Rattle.std.specs.Prelude.{◌≡◌, false, cond, ℕ, ◌<◌, pos}
use Rattle.std.specs.Float.Ieee.{lt, ne, neg}
use Rattle.whole.specs.Bound.{outside}
use Rattle.chart.specs.Chart.{Chart, partner}
use Rattle.ranges.specs.Ranges.{value_max}
use Rattle.points.specs.Floats.{f0, ◌+f◌, ◌-f◌, ◌*f◌, ◌/f◌, real_of}
use Rattle.gradient.specs.declared.Vector3.{Vector3}
use Rattle.gradient.specs.declared.Gradient.{Gradient}
use Rattle.gradient.specs.Turn.{sum_about}

-- what row 6 leaves of the values: 0 to 1,000,000
abbrev pub Valued : Chart → Type 0
Valued c = (v : ℕ) → v < c.vertices → outside (pos 0) (pos value_max) (c.value v) ≡ false

-- [x, y, value] of a vertex
abbrev pub spot_of : Chart → ℕ → Vector3
spot_of c v = record { x = real_of (c.place v).x; y = real_of (c.place v).y; z = real_of (c.value v) }

-- of the vertex where a half-edge ends, its `to()`
abbrev pub end_spot : Chart → ℕ → Vector3
end_spot c h = spot_of c (c.origin (partner h))

-- `d0`, `d1`: p - v, by components
abbrev pub difference : Vector3 → Vector3 → Vector3
difference p v = record { x = p.x -f v.x; y = p.y -f v.y; z = p.z -f v.z }

-- and a sum by components
abbrev pub plus : Vector3 → Vector3 → Vector3
plus p n = record { x = p.x +f n.x; y = p.y +f n.y; z = p.z +f n.z }

-- `normal`: d0 × d1
unfoldable pub normal_of : Vector3 → Vector3 → Vector3 → Vector3
normal_of v p0 p1 =
    let d0 = difference p0 v in
    let d1 = difference p1 v in
    record {
      x = d0.y *f d1.z -f d0.z *f d1.y;
      y = d0.z *f d1.x -f d0.x *f d1.z;
      z = d0.x *f d1.y -f d0.y *f d1.x;
    }

-- `final_normal` with one more normal, where its last component is above 0
unfoldable pub add_normal : Vector3 → Vector3 → Vector3
add_normal sum n = cond (lt f0 n.z) (plus sum n) sum

-- one turn of the loop
abbrev pub add_pair : Vector3 → Vector3 → Vector3 → Vector3 → Vector3
add_pair v sum p0 p1 = add_normal sum (normal_of v p0 p1)

-- `final_normal` after the loop: from +0 on, over the pairs of neighbours
abbrev pub final_normal : Chart → ℕ → Vector3
final_normal c v = sum_about c (spot_of c) add_pair (record { x = f0; y = f0; z = f0 }) v

-- the last lines: one division each, and +0 where the last component is 0
unfoldable pub gradient_from : Vector3 → Gradient
gradient_from n =
    cond (ne n.z f0) (record { x = neg n.x /f n.z; y = neg n.y /f n.z }) (record { x = f0; y = f0 })

-- the gradient at vertex v
abbrev pub gradient_of : Chart → ℕ → Gradient
gradient_of c v = gradient_from (final_normal c v)
