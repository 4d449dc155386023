-- Each of 7 to 10 is needed for a load's one home: for each a chart that it alone meets, with a load inside its rim that has two homes, so the theorem without
-- this premise is false. Of 7 the last clause is, and 9 as it stands: that no inner face turns right would not do. Each row is computed. Assumes nothing.
use Rattle.std.specs.Prelude.{◌≡◌, refl, [], ◌∷◌, Bool, true, false, ◌&&◌, ℕ, ◌<◌, ltb, pos}
use Rattle.std.proofs.Common.{arith, lit<}
use Rattle.std.specs.Int.Signed.{lt_z}
use Rattle.whole.specs.First.{from, some}
use Rattle.geometry.specs.declared.Place.{Place}
use Rattle.geometry.specs.Plane.{off_grid, cross_of, dot_of, norm2_of, side, lifted, circle, on_open_segment}
use Rattle.chart.specs.Chart.{Chart, InRange, corner₀, corner₁, corner₂}
use Rattle.ranges.specs.Ranges.{not_below, bad_vertex, bad_half_edge, bad_face, out_of_range}
use Rattle.links.specs.Links.{linked, unlinked, stray_out, stray_adjacent, links_broken}
use Rattle.locate.specs.Location.{at_vertex, on_edge, in_face}
use Rattle.nearby.specs.Needed.{Tables, chart, sheets, copies, Row, Seven, Eight, Nine, Ten}
use Rattle.home.specs.Located.{left_of_rim, InsideRim, Housed}

-- 9: triangle A and a flat face below it, whose third corner (5, 0) is on the open edge between the other two
unfoldable pub flat : Tables
flat =
    record {
      vs = pos 0 ∷ pos 0 ∷ pos 0 ∷ pos 0 ∷ pos 10 ∷ pos 0 ∷ pos 0 ∷ pos 2 ∷ pos 0 ∷ pos 10 ∷ pos 0 ∷ pos 4 ∷ pos 5 ∷ pos 0 ∷ pos 0 ∷ pos 8 ∷ [];
      es = pos 0 ∷ pos 2 ∷ pos 4 ∷ pos 1 ∷ pos 1 ∷ pos 6 ∷ pos 8 ∷ pos 2 ∷ pos 1 ∷ pos 4 ∷ pos 0 ∷ pos 1 ∷ pos 2 ∷ pos 9 ∷ pos 5 ∷ pos 0 ∷ pos 2 ∷ pos 0 ∷ pos 2 ∷ pos 1 ∷ pos 0 ∷ pos 3 ∷ pos 7 ∷ pos 0 ∷ pos 0 ∷ pos 8 ∷ pos 1 ∷ pos 2 ∷ pos 3 ∷ pos 5 ∷ pos 9 ∷ pos 0 ∷ pos 3 ∷ pos 1 ∷ pos 6 ∷ pos 2 ∷ pos 1 ∷ pos 7 ∷ pos 3 ∷ pos 0 ∷ [];
      fs = pos 3 ∷ pos 0 ∷ pos 6 ∷ [];
    }

-- 10: a triangle within another, with corners of its own
unfoldable pub nested : Tables
nested =
    record {
      vs = pos 0 ∷ pos 0 ∷ pos 0 ∷ pos 0 ∷ pos 12 ∷ pos 0 ∷ pos 0 ∷ pos 2 ∷ pos 0 ∷ pos 12 ∷ pos 0 ∷ pos 4 ∷ pos 2 ∷ pos 2 ∷ pos 0 ∷ pos 6 ∷ pos 5 ∷ pos 2 ∷ pos 0 ∷ pos 8 ∷ pos 2 ∷ pos 5 ∷ pos 0 ∷ pos 10 ∷ [];
      es = pos 0 ∷ pos 2 ∷ pos 4 ∷ pos 1 ∷ pos 1 ∷ pos 5 ∷ pos 3 ∷ pos 0 ∷ pos 1 ∷ pos 4 ∷ pos 0 ∷ pos 1 ∷ pos 2 ∷ pos 1 ∷ pos 5 ∷ pos 0 ∷ pos 2 ∷ pos 0 ∷ pos 2 ∷ pos 1 ∷ pos 0 ∷ pos 3 ∷ pos 1 ∷ pos 0 ∷ pos 3 ∷ pos 8 ∷ pos 10 ∷ pos 2 ∷ pos 4 ∷ pos 11 ∷ pos 9 ∷ pos 0 ∷ pos 4 ∷ pos 10 ∷ pos 6 ∷ pos 2 ∷ pos 5 ∷ pos 7 ∷ pos 11 ∷ pos 0 ∷ pos 5 ∷ pos 6 ∷ pos 8 ∷ pos 2 ∷ pos 3 ∷ pos 9 ∷ pos 7 ∷ pos 0 ∷ [];
      fs = pos 1 ∷ pos 0 ∷ pos 6 ∷ [];
    }

abbrev pub place : ℕ → ℕ → Place
place x y = record { x = pos x; y = pos y }

-- 7 but for its last clause, and 9 weakened: an inner face may be flat
abbrev pub AllButLone : Chart → Type 0
AllButLone c = (some (unlinked c) c.half_edges ≡ false) × (some (stray_out c) c.vertices ≡ false) × (some (stray_adjacent c) c.faces ≡ false)

abbrev pub turns_right : Chart → ℕ → Bool
turns_right c f = ltb 0 f && lt_z (side (c.place (corner₀ c f)) (c.place (corner₁ c f)) (c.place (corner₂ c f))) (pos 0)

abbrev pub NoneRight : Chart → Type 0
NoneRight c = some (turns_right c) c.faces ≡ false

-- every load inside the rim has its one home
abbrev pub Homed : Chart → Type 0
Homed c = (q : Place) → InsideRim c q → Housed c q

pub flat-row : Row flat false false true false true true
unfolding flat from off_grid cross_of norm2_of side lifted circle not_below bad_vertex bad_half_edge bad_face out_of_range linked links_broken
flat-row = record { range = refl; even = refl; links = refl; places = refl; turns = refl; rim = refl; edges = refl; circles = refl }

pub nested-row : Row nested false false false true false true
unfolding nested from off_grid cross_of norm2_of side lifted circle not_below bad_vertex bad_half_edge bad_face out_of_range linked links_broken
nested-row = record { range = refl; even = refl; links = refl; places = refl; turns = refl; rim = refl; edges = refl; circles = refl }

-- a load inside the rim and strictly inside faces 1 and 2
pub record Twice (t : Tables) (q : Place) : Type 0 where
  inside : left_of_rim (chart t) q ≡ false
  some-faces : 2 < (chart t).faces
  first : in_face (chart t) q 1 ≡ true
  second : in_face (chart t) q 2 ≡ true

pub sheets-twice : Twice sheets (place 4 1)
unfolding sheets from cross_of side
sheets-twice = record { inside = refl; some-faces = lit< tt; first = refl; second = refl }

pub copies-twice : Twice copies (place 4 1)
unfolding copies from cross_of side
copies-twice = record { inside = refl; some-faces = lit< tt; first = refl; second = refl }

pub nested-twice : Twice nested (place 3 3)
unfolding nested from cross_of side
nested-twice = record { inside = refl; some-faces = lit< tt; first = refl; second = refl }

-- one inside the rim, on vertex 3 and on the open edge of half-edge 0, where no face turns right
pub record Flat : Type 0 where
  pub none_right : NoneRight (chart flat)
  pub inside : left_of_rim (chart flat) (place 5 0) ≡ false
  pub vertex : at_vertex (chart flat) (place 5 0) 3 ≡ true
  pub edge : on_edge (chart flat) (place 5 0) 0 ≡ true
  pub vertices : 3 < (chart flat).vertices
  pub half_edges : 0 < (chart flat).half_edges

pub flat_rows : Flat
unfolding flat from cross_of dot_of side on_open_segment
flat_rows = record { none_right = refl; inside = refl; vertex = refl; edge = refl; vertices = lit< tt; half_edges = lit< tt }

-- a load in two faces has no one home
pub two-faces : (t : Tables) (q : Place) → Twice t q → Homed (chart t) → ⊥
two-faces t q w h =
    let l : 2 < (chart t).faces = w.some-faces in
    let z : ◌≡◌ {A = ℕ} 1 2 = (h q w.inside).one-face 1 2 (omega arith) l w.first w.second in
    omega arith

pub record Needed : Type 0 where
  pub seven : ((c : Chart) → InRange c → AllButLone c → Eight c → Nine c → Ten c → Homed c) → ⊥
  pub eight : ((c : Chart) → InRange c → Seven c → Nine c → Ten c → Homed c) → ⊥
  pub nine : ((c : Chart) → InRange c → Seven c → Eight c → NoneRight c → Ten c → Homed c) → ⊥
  pub ten : ((c : Chart) → InRange c → Seven c → Eight c → Nine c → Homed c) → ⊥
