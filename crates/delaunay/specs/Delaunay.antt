-- 01, "Where a call can be turned down", rows 8 to 11: what the places of a linked chart are asked.
use Rattle.std.specs.Prelude.{Bool, not, ◌&&◌, ℕ, ltb, pos}
use Rattle.std.specs.Int.Signed.{lt_z}
use Rattle.whole.specs.Test.{eq_z}
use Rattle.whole.specs.First.{some}
use Rattle.geometry.specs.declared.Place.{Place}
use Rattle.geometry.specs.Plane.{side, circle}
use Rattle.chart.specs.Chart.{Chart, from_of, to_of, outer, corner₀, corner₁, corner₂}

-- 8: two vertices at one place. Vertex w is at the place p
abbrev pub same_place : Place → Place → Bool
same_place p q = eq_z p.x q.x && eq_z p.y q.y

abbrev pub stands_at : (ℕ → Place) → Place → ℕ → Bool
stands_at place p w = same_place (place w) p

-- one of a lower number is where v is
abbrev pub shares_place : Chart → ℕ → Bool
shares_place c v = some (stands_at c.place (c.place v)) v

-- 9: an inner face whose corners don't turn strictly left
abbrev pub turns_left : Chart → ℕ → Bool
turns_left c f = lt_z (pos 0) (side (c.place (corner₀ c f)) (c.place (corner₁ c f)) (c.place (corner₂ c f)))

abbrev pub not_left : Chart → ℕ → Bool
not_left c f = ltb 0 f && not (turns_left c f)

-- 10: a vertex strictly left of an outer half-edge. Vertex v is strictly left of a to b
abbrev pub lies_left : (ℕ → Place) → Place → Place → ℕ → Bool
lies_left place a b v = lt_z (pos 0) (side a b (place v))

abbrev pub overhung : Chart → ℕ → Bool
overhung c h =
    outer c h && some (lies_left c.place (from_of c h) (to_of c h)) c.vertices

-- 11: a vertex strictly inside an inner face's circle. The place q is strictly inside the circle of face f
abbrev pub in_circle : Chart → Place → ℕ → Bool
in_circle c q f = lt_z (pos 0) (circle (c.place (corner₀ c f)) (c.place (corner₁ c f)) (c.place (corner₂ c f)) q)

abbrev pub crowded : Chart → ℕ → Bool
crowded c f = ltb 0 f && some (λ v. in_circle c (c.place v) f) c.vertices
