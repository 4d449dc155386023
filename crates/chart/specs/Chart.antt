-- A chart as one value: its counts, and a function for each column of its tables.
use Rattle.std.specs.Prelude.{◌≡◌, Bool, List, ℕ, ◌+◌, ◌*◌, ◌-◌, ◌%◌, ◌<◌, eqb, ℤ, length}
use Rattle.std.proofs.Common.{arith}
use Rattle.geometry.specs.declared.Place.{Place}
use Rattle.geometry.specs.Plane.{OnGrid}
use Rattle.chart.specs.Tables.{rows, place_of, value_of, out_of, origin_of, next_of, prev_of, face_of, adjacent_of}

pub record Chart : Type 0 where
  -- counts
  pub vertices : ℕ
  pub half_edges : ℕ
  pub faces : ℕ
  -- of a vertex
  pub place : ℕ → Place
  pub value : ℕ → ℤ
  pub out : ℕ → ℕ
  -- of a half-edge
  pub origin : ℕ → ℕ
  pub next : ℕ → ℕ
  pub prev : ℕ → ℕ
  pub face : ℕ → ℕ
  -- of a face
  pub adjacent : ℕ → ℕ

-- the chart of three tables
abbrev pub chart_of : List ℤ → List ℕ → List ℕ → Chart
chart_of vs es fs =
    record {
      vertices = rows vs;
      half_edges = rows es;
      faces = length fs;
      place = place_of vs;
      value = value_of vs;
      out = out_of vs;
      origin = origin_of es;
      next = next_of es;
      prev = prev_of es;
      face = face_of es;
      adjacent = adjacent_of fs;
    }

-- 01, "Links": the partner of half-edge 2k is 2k+1 and the reverse
abbrev pub partner : ℕ → ℕ
partner h = h + 1 - h % 2 * 2

-- in 01's words: of 2k it is 2k+1
pub partner-even : (k : ℕ) → partner (2 * k) ≡ 2 * k + 1
partner-even k = omega arith

-- and of 2k+1 it is 2k
pub partner-odd : (k : ℕ) → partner (2 * k + 1) ≡ 2 * k
partner-odd k = omega arith

-- the partner's partner is the half-edge itself
pub partner-twice : (h : ℕ) → partner (partner h) ≡ h
partner-twice h = omega arith

-- a half-edge runs from the place of its origin to that of its partner's
abbrev pub from_of : Chart → ℕ → Place
from_of c h = c.place (c.origin h)

abbrev pub to_of : Chart → ℕ → Place
to_of c h = c.place (c.origin (partner h))

-- face 0 is the outer one
abbrev pub outer : Chart → ℕ → Bool
outer c h = eqb (c.face h) 0

-- the corners of a face in the order of the Rust's `vertices()`: the previous edge's origin comes first
abbrev pub corner₀ : Chart → ℕ → ℕ
corner₀ c f = c.origin (c.prev (c.adjacent f))

abbrev pub corner₁ : Chart → ℕ → ℕ
corner₁ c f = c.origin (c.adjacent f)

abbrev pub corner₂ : Chart → ℕ → ℕ
corner₂ c f = c.origin (c.next (c.adjacent f))

-- what row 6 leaves: places are on the grid, numbers below their counts; and row 4: half-edges come in pairs
pub record InRange (c : Chart) : Type 0 where
  pub places : (v : ℕ) → v < c.vertices → OnGrid (c.place v)
  pub outs : (v : ℕ) → v < c.vertices → c.out v < c.half_edges
  pub origins : (h : ℕ) → h < c.half_edges → c.origin h < c.vertices
  pub nexts : (h : ℕ) → h < c.half_edges → c.next h < c.half_edges
  pub prevs : (h : ℕ) → h < c.half_edges → c.prev h < c.half_edges
  pub face-numbers : (h : ℕ) → h < c.half_edges → c.face h < c.faces
  pub adjacents : (f : ℕ) → f < c.faces → c.adjacent f < c.half_edges
  pub pairs : c.half_edges % 2 ≡ 0

-- a half-edge's partner is a half-edge of the chart
pub partner-in : {c : Chart} → InRange c → (h : ℕ) → h < c.half_edges → partner h < c.half_edges
partner-in {c} r h l = let e = r.pairs in omega arith
