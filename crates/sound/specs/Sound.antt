-- What a chart gives that refusals 6 to 10 do not meet, per half-edge, vertex and face: all of an accepted one but the empty circles. Assumes nothing.
use Rattle.std.specs.Prelude.{◌≡◌, ◌⊎◌, ℕ, ◌<◌}
use Rattle.std.proofs.Common.{sym, subst, ap, ◌∙◌, inl, inr, arith, eqb-true}
use Rattle.std.proofs.lemmas.Bool.{eqb-false, not-true}
use Rattle.signs.specs.Signs.{Pos}
use Rattle.geometry.specs.declared.Place.{Place}
use Rattle.geometry.specs.Plane.{side}
use Rattle.geometry.specs.Laws.{side-turn}
use Rattle.chart.specs.Chart.{Chart, partner, InRange, corner₂}
use Rattle.sound.specs.Tests.{Passed, above_zero, links-at, out_at, adjacent-at, lone-at, place_at, turn_at, rim-at, three-at, of-face-at}

-- where half-edge h starts and ends; of an inner one, the third corner of its face
abbrev pub start : Chart → ℕ → Place
start c h = c.place (c.origin h)

abbrev pub end : Chart → ℕ → Place
end c h = c.place (c.origin (partner h))

abbrev pub apex : Chart → ℕ → Place
apex c h = c.place (c.origin (c.prev h))

-- h is a half-edge of the chart; and of an inner face, or of the outer one
abbrev pub Inner : Chart → ℕ → Type 0
Inner c h = (h < c.half_edges) × (c.face h ≡ 0 → ⊥)

abbrev pub Outer : Chart → ℕ → Type 0
Outer c h = (h < c.half_edges) × (c.face h ≡ 0)

pub record Sound (c : Chart) : Type 0 where
  -- an inner face, and row 6
  pub faces-two : 1 < c.faces
  pub range : InRange c
  -- next goes on where h ends, next and prev are inverse to each other, both keep the face
  pub next_start : (h : ℕ) → h < c.half_edges → c.origin (c.next h) ≡ c.origin (partner h)
  pub prev-next : (h : ℕ) → h < c.half_edges → c.prev (c.next h) ≡ h
  pub next-prev : (h : ℕ) → h < c.half_edges → c.next (c.prev h) ≡ h
  pub next-face : (h : ℕ) → h < c.half_edges → c.face (c.next h) ≡ c.face h
  pub prev-face : (h : ℕ) → h < c.half_edges → c.face (c.prev h) ≡ c.face h
  -- inner faces are triangles: from start to end to apex
  pub next-next : (h : ℕ) → Inner c h → c.next (c.next h) ≡ c.prev h
  -- they turn strictly left, and no vertex is strictly left of an outer half-edge
  pub turns-left : (h : ℕ) → Inner c h → Pos (side (start c h) (end c h) (apex c h))
  pub hull : (h z : ℕ) → Outer c h → z < c.vertices → Pos (side (start c h) (end c h) (c.place z)) → ⊥
  -- different vertices have different places, and the ends of a half-edge differ
  pub one_place : (v w : ℕ) → v < c.vertices → w < c.vertices → c.place v ≡ c.place w → v ≡ w
  pub ends-differ : (h : ℕ) → h < c.half_edges → c.origin h ≡ c.origin (partner h) → ⊥
  -- one outer half-edge at most leaves a vertex
  pub lone : (h k : ℕ) → Outer c h → Outer c k → c.origin h ≡ c.origin k → h ≡ k
  -- a face's adjacent half-edge has that face; so there is an outer half-edge, that of face 0, and an inner one, that of face 1
  pub adjacent-face : (f : ℕ) → f < c.faces → c.face (c.adjacent f) ≡ f
  pub outer_one : Outer c (c.adjacent 0)
  pub inner-one : Inner c (c.adjacent 1)
  -- an inner face has three half-edges, its adjacent one and that one's next and prev, all different
  pub of-face : (h : ℕ) → Inner c h → (h ≡ c.adjacent (c.face h)) ⊎ ((h ≡ c.next (c.adjacent (c.face h))) ⊎ (h ≡ c.prev (c.adjacent (c.face h))))
  pub next-differs : (h : ℕ) → h < c.half_edges → c.next h ≡ h → ⊥
  pub prev-differs : (h : ℕ) → h < c.half_edges → c.prev h ≡ h → ⊥
  pub next-prev-differ : (h : ℕ) → Inner c h → c.next h ≡ c.prev h → ⊥
  -- a vertex's out half-edge starts there
  pub out-start : (v : ℕ) → v < c.vertices → c.origin (c.out v) ≡ v
