-- 01, "Links": for each clause a chart that breaks it and no other, so that without that clause 7 would not meet it; and two charts more. Each row is computed.
-- Assumes nothing.
use Rattle.std.specs.Prelude.{◌≡◌, refl, List, [], ◌∷◌, ℕ, ℤ, pos}
use Rattle.whole.specs.First.{from}
use Rattle.geometry.specs.Plane.{cross_of, norm2_of, side, lifted, circle}
use Rattle.chart.specs.Chart.{chart_of}
use Rattle.links.specs.Links.{linked, links_broken}
use Rattle.checks.specs.Checks.{chart_refusal}

abbrev refusal : List ℤ → List ℕ → List ℕ → ℕ
refusal vs es fs = chart_refusal (chart_of vs es fs)

pub record Rows : Type 0 where
  -- "the next of h starts at the origin of h's partner"
  pub next_start :
      refusal (pos 7 ∷ pos 7 ∷ pos 5 ∷ pos 4 ∷ pos 4 ∷ pos 7 ∷ pos 5 ∷ pos 1 ∷ pos 1 ∷ pos 5 ∷ pos 5 ∷ pos 0 ∷ [])
      (2 ∷ 2 ∷ 4 ∷ 0 ∷ 1 ∷ 5 ∷ 3 ∷ 1 ∷ 1 ∷ 4 ∷ 0 ∷ 0 ∷ 2 ∷ 1 ∷ 5 ∷ 1 ∷ 0 ∷ 0 ∷ 2 ∷ 0 ∷ 2 ∷ 3 ∷ 1 ∷ 1 ∷ [])
      (2 ∷ 3 ∷ []) ≡ 7
  -- "h and its partner have different origins"
  pub same-origin :
      refusal (pos 9 ∷ pos 4 ∷ pos 5 ∷ pos 2 ∷ pos 3 ∷ pos 1 ∷ pos 5 ∷ pos 3 ∷ pos 0 ∷ pos 9 ∷ pos 5 ∷ pos 0 ∷ [])
      (2 ∷ 2 ∷ 8 ∷ 0 ∷ 0 ∷ 4 ∷ 6 ∷ 1 ∷ 0 ∷ 8 ∷ 0 ∷ 0 ∷ 1 ∷ 7 ∷ 10 ∷ 2 ∷ 2 ∷ 6 ∷ 1 ∷ 1 ∷ 0 ∷ 9 ∷ 11 ∷ 3 ∷ 0 ∷ 1 ∷ 4 ∷ 1 ∷ 0 ∷ 10 ∷ 3 ∷ 2 ∷ 1 ∷ 0 ∷ 2 ∷ 0 ∷ 2 ∷ 11 ∷ 5 ∷ 3 ∷ 0 ∷ 3 ∷ 7 ∷ 2 ∷ 1 ∷ 5 ∷ 9 ∷ 3 ∷ [])
      (2 ∷ 1 ∷ 10 ∷ 9 ∷ []) ≡ 7
  -- "prev of next and next of prev are h"
  pub prev-next :
      refusal (pos 8 ∷ pos 5 ∷ pos 5 ∷ pos 3 ∷ pos 0 ∷ pos 4 ∷ pos 5 ∷ pos 1 ∷ pos 8 ∷ pos 2 ∷ pos 5 ∷ pos 4 ∷ [])
      (2 ∷ 2 ∷ 4 ∷ 0 ∷ 1 ∷ 4 ∷ 3 ∷ 1 ∷ 1 ∷ 5 ∷ 0 ∷ 0 ∷ 0 ∷ 1 ∷ 4 ∷ 1 ∷ 2 ∷ 3 ∷ 1 ∷ 1 ∷ 0 ∷ 0 ∷ 2 ∷ 0 ∷ [])
      (5 ∷ 3 ∷ []) ≡ 7
  -- "next keeps the face"
  pub next-face :
      refusal (pos 4 ∷ pos 7 ∷ pos 5 ∷ pos 10 ∷ pos 7 ∷ pos 4 ∷ pos 5 ∷ pos 1 ∷ pos 0 ∷ pos 5 ∷ pos 5 ∷ pos 5 ∷ pos 4 ∷ pos 6 ∷ pos 5 ∷ pos 8 ∷ [])
      (3 ∷ 11 ∷ 6 ∷ 3 ∷ 1 ∷ 8 ∷ 5 ∷ 1 ∷ 2 ∷ 10 ∷ 4 ∷ 0 ∷ 0 ∷ 9 ∷ 7 ∷ 2 ∷ 1 ∷ 2 ∷ 10 ∷ 0 ∷ 2 ∷ 1 ∷ 8 ∷ 1 ∷ 0 ∷ 0 ∷ 11 ∷ 3 ∷ 3 ∷ 3 ∷ 9 ∷ 2 ∷ 3 ∷ 5 ∷ 1 ∷ 0 ∷ 2 ∷ 7 ∷ 3 ∷ 2 ∷ 0 ∷ 4 ∷ 2 ∷ 0 ∷ 1 ∷ 6 ∷ 0 ∷ 3 ∷ [])
      (2 ∷ 1 ∷ 3 ∷ 6 ∷ []) ≡ 7
  -- "on an inner face three nexts return to h"
  pub three-nexts :
      refusal (pos 1 ∷ pos 5 ∷ pos 5 ∷ pos 5 ∷ pos 9 ∷ pos 0 ∷ pos 5 ∷ pos 4 ∷ pos 1 ∷ pos 0 ∷ pos 5 ∷ pos 2 ∷ [])
      (2 ∷ 6 ∷ 6 ∷ 2 ∷ 0 ∷ 2 ∷ 4 ∷ 1 ∷ 2 ∷ 4 ∷ 1 ∷ 1 ∷ 1 ∷ 7 ∷ 5 ∷ 0 ∷ 1 ∷ 1 ∷ 2 ∷ 1 ∷ 0 ∷ 3 ∷ 7 ∷ 0 ∷ 0 ∷ 0 ∷ 0 ∷ 2 ∷ 2 ∷ 5 ∷ 3 ∷ 0 ∷ [])
      (5 ∷ 2 ∷ 6 ∷ []) ≡ 7
  -- "every half-edge of an inner face is its adjacent one or that one's next or prev"
  pub face-edges :
      refusal (pos 7 ∷ pos 3 ∷ pos 5 ∷ pos 0 ∷ pos 5 ∷ pos 5 ∷ pos 5 ∷ pos 6 ∷ pos 2 ∷ pos 1 ∷ pos 5 ∷ pos 2 ∷ pos 4 ∷ pos 1 ∷ pos 5 ∷ pos 3 ∷ [])
      (0 ∷ 3 ∷ 4 ∷ 0 ∷ 3 ∷ 5 ∷ 8 ∷ 1 ∷ 2 ∷ 9 ∷ 6 ∷ 1 ∷ 3 ∷ 7 ∷ 0 ∷ 0 ∷ 1 ∷ 0 ∷ 7 ∷ 0 ∷ 0 ∷ 8 ∷ 1 ∷ 1 ∷ 1 ∷ 2 ∷ 9 ∷ 1 ∷ 2 ∷ 4 ∷ 3 ∷ 0 ∷ 1 ∷ 1 ∷ 5 ∷ 1 ∷ 3 ∷ 6 ∷ 2 ∷ 1 ∷ [])
      (7 ∷ 1 ∷ []) ≡ 7
  -- "a vertex's out half-edge starts there"
  pub out-start :
      refusal (pos 4 ∷ pos 9 ∷ pos 5 ∷ pos 1 ∷ pos 4 ∷ pos 1 ∷ pos 5 ∷ pos 5 ∷ pos 3 ∷ pos 0 ∷ pos 5 ∷ pos 4 ∷ [])
      (2 ∷ 4 ∷ 2 ∷ 0 ∷ 0 ∷ 3 ∷ 5 ∷ 1 ∷ 1 ∷ 0 ∷ 4 ∷ 0 ∷ 2 ∷ 5 ∷ 1 ∷ 1 ∷ 0 ∷ 2 ∷ 0 ∷ 0 ∷ 1 ∷ 1 ∷ 3 ∷ 1 ∷ [])
      (2 ∷ 1 ∷ []) ≡ 7
  -- "a face's adjacent half-edge has that face"
  pub adjacent-face :
      refusal (pos 5 ∷ pos 4 ∷ pos 5 ∷ pos 2 ∷ pos 8 ∷ pos 0 ∷ pos 5 ∷ pos 1 ∷ pos 7 ∷ pos 2 ∷ pos 5 ∷ pos 0 ∷ [])
      (2 ∷ 3 ∷ 4 ∷ 0 ∷ 1 ∷ 5 ∷ 2 ∷ 1 ∷ 0 ∷ 1 ∷ 5 ∷ 1 ∷ 1 ∷ 4 ∷ 0 ∷ 0 ∷ 0 ∷ 0 ∷ 3 ∷ 0 ∷ 2 ∷ 2 ∷ 1 ∷ 1 ∷ [])
      (5 ∷ 1 ∷ []) ≡ 7
  -- "at most one outer half-edge leaves a vertex"
  pub two-outer :
      refusal (pos 7 ∷ pos 9 ∷ pos 5 ∷ pos 3 ∷ pos 4 ∷ pos 0 ∷ pos 5 ∷ pos 5 ∷ pos 2 ∷ pos 0 ∷ pos 5 ∷ pos 6 ∷ pos 5 ∷ pos 3 ∷ pos 5 ∷ pos 8 ∷ pos 6 ∷ pos 9 ∷ pos 5 ∷ pos 2 ∷ [])
      (1 ∷ 7 ∷ 4 ∷ 1 ∷ 3 ∷ 5 ∷ 9 ∷ 0 ∷ 4 ∷ 9 ∷ 10 ∷ 0 ∷ 0 ∷ 11 ∷ 8 ∷ 2 ∷ 2 ∷ 0 ∷ 7 ∷ 1 ∷ 1 ∷ 6 ∷ 1 ∷ 0 ∷ 2 ∷ 10 ∷ 5 ∷ 0 ∷ 3 ∷ 4 ∷ 0 ∷ 1 ∷ 3 ∷ 3 ∷ 11 ∷ 2 ∷ 0 ∷ 1 ∷ 2 ∷ 0 ∷ 3 ∷ 2 ∷ 6 ∷ 0 ∷ 4 ∷ 8 ∷ 3 ∷ 2 ∷ [])
      (9 ∷ 0 ∷ 11 ∷ []) ≡ 7
  -- 10 and 11 meet this chart: "first hit answers"
  pub rim-first :
      refusal (pos 1 ∷ pos 5 ∷ pos 5 ∷ pos 12 ∷ pos 1 ∷ pos 4 ∷ pos 5 ∷ pos 11 ∷ pos 0 ∷ pos 3 ∷ pos 5 ∷ pos 9 ∷ pos 1 ∷ pos 1 ∷ pos 5 ∷ pos 0 ∷ pos 9 ∷ pos 4 ∷ pos 5 ∷ pos 8 ∷ [])
      (3 ∷ 13 ∷ 4 ∷ 0 ∷ 2 ∷ 5 ∷ 8 ∷ 1 ∷ 4 ∷ 6 ∷ 9 ∷ 3 ∷ 1 ∷ 4 ∷ 10 ∷ 0 ∷ 4 ∷ 0 ∷ 3 ∷ 0 ∷ 3 ∷ 8 ∷ 1 ∷ 1 ∷ 1 ∷ 9 ∷ 2 ∷ 3 ∷ 2 ∷ 11 ∷ 12 ∷ 2 ∷ 4 ∷ 1 ∷ 5 ∷ 1 ∷ 2 ∷ 2 ∷ 6 ∷ 3 ∷ 0 ∷ 3 ∷ 13 ∷ 0 ∷ 1 ∷ 12 ∷ 7 ∷ 2 ∷ 0 ∷ 7 ∷ 11 ∷ 2 ∷ 2 ∷ 10 ∷ 0 ∷ 0 ∷ [])
      (13 ∷ 8 ∷ 11 ∷ 9 ∷ []) ≡ 10
  -- triangle A, whose half-edges 2k and 2k+1 have exchanged their numbers, so that half-edge 0 is an outer one: no refusal
  pub exchanged :
      refusal (pos 0 ∷ pos 0 ∷ pos 100 ∷ pos 1 ∷ pos 10 ∷ pos 0 ∷ pos 200 ∷ pos 3 ∷ pos 0 ∷ pos 10 ∷ pos 300 ∷ pos 5 ∷ [])
      (1 ∷ 4 ∷ 2 ∷ 0 ∷ 0 ∷ 3 ∷ 5 ∷ 1 ∷ 2 ∷ 0 ∷ 4 ∷ 0 ∷ 1 ∷ 5 ∷ 1 ∷ 1 ∷ 0 ∷ 2 ∷ 0 ∷ 0 ∷ 2 ∷ 1 ∷ 3 ∷ 1 ∷ [])
      (0 ∷ 1 ∷ []) ≡ 0
  -- 9 and 11 are of inner faces alone: four vertices, three faces, and half-edge 0 is an outer one: no refusal
  pub outer-first :
      refusal (pos 9 ∷ pos 1 ∷ pos 6 ∷ pos 2 ∷ pos 8 ∷ pos 9 ∷ pos 7 ∷ pos 0 ∷ pos 0 ∷ pos 0 ∷ pos 5 ∷ pos 6 ∷ pos 1 ∷ pos 6 ∷ pos 8 ∷ pos 4 ∷ [])
      (1 ∷ 7 ∷ 9 ∷ 0 ∷ 0 ∷ 8 ∷ 3 ∷ 2 ∷ 0 ∷ 4 ∷ 6 ∷ 1 ∷ 3 ∷ 1 ∷ 8 ∷ 2 ∷ 3 ∷ 6 ∷ 2 ∷ 1 ∷ 2 ∷ 9 ∷ 7 ∷ 0 ∷ 2 ∷ 2 ∷ 4 ∷ 1 ∷ 0 ∷ 5 ∷ 0 ∷ 0 ∷ 1 ∷ 3 ∷ 1 ∷ 2 ∷ 3 ∷ 0 ∷ 5 ∷ 0 ∷ [])
      (7 ∷ 4 ∷ 1 ∷ []) ≡ 0

pub rows : Rows
unfolding from cross_of norm2_of side lifted circle linked links_broken chart_refusal
rows =
    record {
      next_start = refl;
      same-origin = refl;
      prev-next = refl;
      next-face = refl;
      three-nexts = refl;
      face-edges = refl;
      out-start = refl;
      adjacent-face = refl;
      two-outer = refl;
      rim-first = refl;
      exchanged = refl;
      outer-first = refl;
    }
