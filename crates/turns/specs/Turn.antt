-- 01, "Weights": natural, a turn about a neighbour in `get_natural_neighbor_weights`, the same operations on f64 in the same order.
use Rattle.std.specs.Prelude.{cond, ℕ, zero, suc, eqb, Float}
use Rattle.chart.specs.Chart.{Chart, partner, from_of, to_of, corner₀, corner₁, corner₂}
use Rattle.points.specs.declared.Point2.{Point2}
use Rattle.points.specs.Floats.{f0, ◌+f◌, ◌-f◌, ◌*f◌}
use Rattle.points.specs.Points.{point_of, point_sub, circumcenter_of}
use Rattle.turns.specs.declared.Sides.{Sides}

-- a corner of the insertion cell, seen from q: the circumcenter of [to - q, from - q, 0] of a listed edge
unfoldable pub cell_corner : Chart → Point2 → ℕ → Point2
cell_corner c q h =
    circumcenter_of (point_sub (point_of (to_of c h)) q) (point_sub (point_of (from_of c h)) q) (record { x = f0; y = f0 })

-- the circumcenter of a face, seen from q: of its `positions()`, in the order of `vertices()`, each less q
unfoldable pub face_center : Chart → Point2 → ℕ → Point2
face_center c q f =
    circumcenter_of (point_sub (point_of (c.place (corner₀ c f))) q) (point_sub (point_of (c.place (corner₁ c f))) q)
    (point_sub (point_of (c.place (corner₂ c f))) q)

-- a polygon's positive and negative area at first: no sum yet, so that a -0 stays
abbrev pub first_side : Point2 → Point2 → Sides
first_side a b = record { positive = a.x *f b.y; negative = a.y *f b.x }

-- and with the side from a to b added
abbrev pub add_side : Sides → Point2 → Point2 → Sides
add_side s a b = record { positive = s.positive +f a.x *f b.y; negative = s.negative +f a.y *f b.x }

-- positive_area - negative_area
abbrev pub area_of : Sides → Float
area_of s = s.positive -f s.negative

-- the inner loop, with k steps left: it ends once it is at the stop edge's partner. On an accepted chart it is there within as many steps as faces were
-- opened, so that it never has none left (02, CR 11)
unfoldable pub turn_from : (c : Chart) (q : Point2) (stop : ℕ) (first : Point2) (k edge : ℕ) (last : Point2) → Sides → Float
turn_from c q stop first zero edge last s = f0
turn_from c q stop first (suc k) edge last s =
    let current = face_center c q (c.face edge) in
    let t = add_side s last current in
    let on = partner (c.next edge) in
    cond (eqb on (partner stop)) (area_of (add_side t current first)) (turn_from c q stop first k on current t)

-- the turn about a neighbour: as many steps as there are half-edges are allowed
abbrev pub turn_of : (c : Chart) (q : Point2) (stop : ℕ) (first : Point2) (edge : ℕ) (last : Point2) → Float
turn_of c q stop first edge last = turn_from c q stop first c.half_edges edge last (first_side first last)
