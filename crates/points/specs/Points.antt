-- 01, "Weights": what they use of point.rs and math.rs, the same operations on f64 in the same order.
use Rattle.std.specs.Prelude.{cond, Float}
use Rattle.std.specs.Float.Ieee.{le, neg}
use Rattle.geometry.specs.declared.Place.{Place}
use Rattle.points.specs.declared.Point2.{Point2}
use Rattle.points.specs.declared.PointProjection.{PointProjection}
use Rattle.points.specs.Floats.{f0, f1, ◌+f◌, ◌-f◌, ◌*f◌, ◌/f◌, real_of}

-- a place of the chart as the Rust has it, a `Point2<f64>`
abbrev pub point_of : Place → Point2
point_of p = record { x = real_of p.x; y = real_of p.y }

-- `add`, by coordinates
abbrev pub point_add : Point2 → Point2 → Point2
point_add p o = record { x = p.x +f o.x; y = p.y +f o.y }

-- `length2`: x² + y²
abbrev pub point_length2 : Point2 → Float
point_length2 p = p.x *f p.x +f p.y *f p.y

-- `sub`, by coordinates
abbrev pub point_sub : Point2 → Point2 → Point2
point_sub p o = record { x = p.x -f o.x; y = p.y -f o.y }

-- `dot`: the sum of the products by coordinates
abbrev pub point_dot : Point2 → Point2 → Float
point_dot p o = p.x *f o.x +f p.y *f o.y

-- `project_point`: the factor is query - p1 along dir = p2 - p1, length_2 the squared length of dir
abbrev pub project_point : Point2 → Point2 → Point2 → PointProjection
project_point p1 p2 query =
    let dir = point_sub p2 p1 in
    record { factor = point_dot (point_sub query p1) dir; length_2 = point_length2 dir }

-- `relative_position`; its test length_2 >= 0 is 0 <= length_2
abbrev pub relative_position : PointProjection → Float
relative_position p =
    let l = neg p.length_2 in
    let f = neg p.factor in
    cond (le f0 p.length_2) (p.factor /f p.length_2) ((l -f f) /f l)

-- `circumcenter`, without the squared radius: seen from v0, multiplied by the rounded 1 / d, and moved back by v0
unfoldable pub circumcenter_of : Point2 → Point2 → Point2 → Point2
circumcenter_of v0 v1 v2 =
    let b = point_sub v1 v0 in
    let c = point_sub v2 v0 in
    let d = (f1 +f f1) *f (b.x *f c.y -f c.x *f b.y) in
    let lenB = point_dot b b in
    let lenC = point_dot c c in
    let dInv = f1 /f d in
    let x = (lenB *f c.y -f lenC *f b.y) *f dInv in
    let y = (neg lenB *f c.x +f lenC *f b.x) *f dInv in
    point_add (record { x = x; y = y }) v0
