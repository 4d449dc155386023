-- What holds at each moment of a search (`Moment`): where it starts, and after each turn of its loop. Of every sound chart. Assumes nothing.
use Rattle.std.specs.Prelude.{◌≡◌, true, ℤ}
use mathlib.Core.List.{List}
use Prim.Native.Nat.{ℕ, ◌<◌}
use Rattle.faceset.specs.Set.{one}
use Rattle.geometry.specs.declared.Place.{Place}
use Rattle.chart.specs.Chart.{Chart, partner}
use Rattle.sound.specs.Sound.{Sound}
use Rattle.flips.specs.Search.{Found, opened_count}
use Rattle.signs.specs.Signs.{Pos, High}
use Rattle.neighbors.specs.Each.{Each}
use Rattle.neighbourhood.specs.Rings.{times, Ring}
use Rattle.neighbourhood.specs.Turning.{Follows}
use Rattle.nearby.specs.Windows as Wn
use Rattle.neighbourhood.specs.Opening.{border, ring_of}

module _ (c : Chart) (snd : Sound c) (q : Place) (g : ℕ) where
  abbrev sd : ℕ → ℤ
  sd = Wn.sd c snd q

  abbrev circ : ℕ → ℤ
  circ = Wn.circ c snd q

  -- x is shut: the face behind it is outer, or its circle does not hold q
  abbrev pub Shut : ℕ → Type 0
  Shut x = (c.face (partner x) ≡ 0 → ⊥) → Pos (circ (partner x)) → ⊥

  pub record Moment (s : List ℕ) (w : Found) : Type 0 where
    -- the ring is of half-edges of the chart
    pub ranged : Each (λ x. x < c.half_edges) (ring_of s w)
    -- each border of the opened faces stands in it once, and nothing else
    pub counted : (x : ℕ) → x < c.half_edges → times x (ring_of s w) ≡ one (border c w.opened x)
    -- q is not strictly right of a border
    pub high : (x : ℕ) → x < c.half_edges → border c w.opened x ≡ true → High (sd x)
    -- the circle of each opened face holds q, and the first face is opened
    pub holes : (x : ℕ) → x < c.half_edges → w.opened (c.face x) ≡ true → (c.face x ≡ 0 → ⊥) × Pos (circ x)
    pub begun : w.opened (c.face g) ≡ true
    -- a listed edge is shut
    pub shut : Each Shut w.listed
    -- it is a ring, with turns through opened faces and within as many steps as there are
    pub ring : Ring (Follows c w.opened (opened_count c w.opened)) (ring_of s w)
