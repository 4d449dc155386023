-- Which edge is to be flipped, and what flips leave. Assumes nothing.
use Rattle.std.specs.Prelude.{◌≡◌, refl, Bool, not, ◌&&◌, ℕ, ◌<◌, eqb, pos}
use Rattle.std.proofs.Common.{arith}
use Rattle.std.specs.Int.Signed.{lt_z}
use Rattle.signs.specs.Signs.{Pos}
use Rattle.geometry.specs.Plane.{OnGrid, circle}
use Rattle.chart.specs.Chart.{Chart, partner, outer, from_of, to_of, InRange}
use Rattle.patches.specs.Wired.{Wired}
use Rattle.signs.specs.Count.{count}
use Rattle.stars.specs.Star.{Growing}
use Rattle.stars.specs.End.{Settled}

-- vertex n is across half-edge h, and strictly inside the circle of the face beyond h
unfoldable pub wants_flip : Chart → ℕ → ℕ → Bool
wants_flip c n h =
    not (outer c h)
    && (eqb (c.origin (c.prev h)) n
    && (not (outer c (partner h))
    && lt_z (pos 0) (circle (to_of c h) (from_of c h) (c.place (c.origin (c.prev (partner h)))) (c.place n))))

pub record Wanted (c : Chart) (n h : ℕ) : Type 0 where
  pub inner : c.face h ≡ 0 → ⊥
  pub across : c.origin (c.prev h) ≡ n
  pub beyond : c.face (partner h) ≡ 0 → ⊥
  pub holds : Pos (circle (to_of c h) (from_of c h) (c.place (c.origin (c.prev (partner h)))) (c.place n))

-- ---- what a flip keeps
-- from chart s on, with vertex n last
pub record Reached (s : Chart) (n : ℕ) (c : Chart) : Type 0 where
  pub growing : Growing c n
  pub range : InRange c
  pub same_place : c.place ≡ s.place
  pub same-value : c.value ≡ s.value
  pub same-vertices : c.vertices ≡ s.vertices
  pub same_edges : c.half_edges ≡ s.half_edges
  pub same-faces : c.faces ≡ s.faces

pub begun : (s : Chart) (n : ℕ) → Growing s n → InRange s → Reached s n s
begun s n g r = record { growing = g; range = r; same_place = refl; same-value = refl; same-vertices = refl; same_edges = refl; same-faces = refl }

pub wired-range : (c : Chart) → Wired c → ((v : ℕ) → v < c.vertices → OnGrid (c.place v)) → InRange c
wired-range c w g =
    record {
      places = g;
      outs = w.outs;
      origins = w.origins;
      nexts = w.nexts;
      prevs = w.prevs;
      face-numbers = w.face-numbers;
      adjacents = w.adjacents;
      pairs = w.pairs;
    }

-- how many half-edges leave n
abbrev pub degree : Chart → ℕ → ℕ
degree c n = count (λ h. eqb (c.origin h) n) c.half_edges

-- ---- where the loop ends
pub record Legal (s : Chart) (n : ℕ) (c : Chart) : Type 0 where
  pub reached : Reached s n c
  pub settled : Settled c n

pub last-in : {c : Chart} {n : ℕ} → Growing c n → n < c.vertices
last-in g = let e = g.size in omega arith
