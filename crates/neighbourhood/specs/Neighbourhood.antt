-- 02, CR 11, the whole neighbourhood: for a load inside a face or on an inner edge of an accepted chart the faces opened are exactly those whose circle strictly
-- holds it, and the listed edges are their borders to the rest, each once, in a closed ring. Of the answer's own search. Assumes nothing.
use Rattle.std.specs.Prelude.{◌≡◌, ◌⊎◌, Bool, true, false, ◌&&◌, map, ltb, pos}
use Rattle.std.proofs.Math.Path.{refl}
use Prim.Native.Nat.{ℕ, ◌<◌, ◌≤◌}
use Rattle.faceset.specs.Set.{one, count_below}
use Rattle.geometry.specs.declared.Place.{Place}
use Rattle.geometry.specs.Plane.{circle}
use Rattle.chart.specs.Chart.{Chart, partner, corner₀, corner₁, corner₂}
use Rattle.delaunay.specs.Delaunay.{in_circle}
use Rattle.locate.specs.Location.{on_edge, left_of}
use Rattle.flips.specs.Search.{Found}
use Rattle.neighbors.specs.Neighbors.{Neighbors, part_of_convex_hull}
use Rattle.neighbors.specs.Each.{Each}
use Rattle.home.specs.Located.{InSomeFace}
use Rattle.neighbourhood.specs.Rings.{times, Ring}
use Rattle.neighbourhood.specs.Turning.{Turn}
use Rattle.neighbourhood.specs.Opening.{border}

-- "the faces whose circle strictly holds the load"
abbrev pub holding : Chart → Place → ℕ → Bool
holding c q f = ltb 0 f && in_circle c q f

-- "a load inside a face or on an inner edge"
abbrev pub OnInnerEdge : Chart → Place → Type 0
OnInnerEdge c q = (h : ℕ) × (h < c.half_edges) × (part_of_convex_hull c h ≡ false) × (on_edge c q h ≡ true)

abbrev pub Amid : Chart → Place → Type 0
Amid c q = InSomeFace c q ⊎ OnInnerEdge c q

-- a load on a face's circle is not held by it
neither : (b : Bool) → (b && false) ≡ false
neither true = refl
neither false = refl

pub on-circle : (c : Chart) (q : Place) (f : ℕ) → circle (c.place (corner₀ c f)) (c.place (corner₁ c f)) (c.place (corner₂ c f)) q ≡ pos 0 → holding c q f ≡ false
on-circle c q f e = rw e (neither (ltb 0 f))

-- of what a search has found, and of the answer that is made of it
pub record Neighbourhood (c : Chart) (q : Place) (w : Found) (n : Neighbors) : Type 0 where
  -- "the faces opened are all the faces whose circle strictly holds the load, and no others"
  pub opened : (f : ℕ) → f < c.faces → w.opened f ≡ holding c q f
  -- and the answer says how many
  pub counted : n.opened ≡ count_below c.faces (holding c q)
  -- "The listed edges are those faces' borders to the rest, each exactly once"
  pub below : Each (λ x. x < c.half_edges) n.edges
  pub borders : (x : ℕ) → x < c.half_edges → times x n.edges ≡ one (border c (holding c q) x)
  -- "and together they make a closed ring": each ends where the next starts, the last where the first does
  pub ring : Ring (λ x y. c.origin (partner x) ≡ c.origin y) n.edges
  -- beyond the request: it passes no vertex twice, and the load is strictly left of each edge
  pub simple : (v : ℕ) → v < c.vertices → times v (map c.origin n.edges) ≤ 1
  pub left : Each (λ x. left_of c q x ≡ true) n.edges
  -- "With that no turn is broken": from each edge the turn about its end is at the next one within as many steps as there are such faces, and goes through these
  -- alone
  pub turns : Ring (Turn c (holding c q) n.opened) n.edges
