-- What an accepted chart gives: what 6 to 10 leave (`Sound`), its counts and values, and that no circle holds a vertex. What every later theorem takes, or
-- `Sound` alone where that is enough. Assumes nothing.
use Rattle.std.specs.Prelude.{◌≡◌, false, ℕ, ◌<◌, pos}
use Rattle.std.proofs.Common.{sym, subst, ap, ◌∙◌, lt_of_lt_of_le, lit<}
use Rattle.whole.specs.Bound.{outside}
use Rattle.signs.specs.Signs.{Pos}
use Rattle.geometry.specs.Plane.{circle}
use Rattle.geometry.specs.Laws.{circle-turn}
use Rattle.chart.specs.Chart.{Chart, InRange}
use Rattle.ranges.specs.Ranges.{value_max}
use Rattle.ranges.specs.Passed.{Counted}
use Rattle.sound.specs.Tests.{above_zero}
use Rattle.sound.specs.Sound.{Sound, Inner, start, end, apex}
use Rattle.sound.proofs.Sound.{sound}
use Rattle.nearby.specs.Local.{circ-adjacent}
use Rattle.accepted.specs.Tests.{Passed, circle-at}

pub record Accepted (c : Chart) : Type 0 where
  -- row 4, and the values of row 6
  pub counts : Counted c.vertices c.half_edges c.faces
  pub values : (v : ℕ) → v < c.vertices → outside (pos 0) (pos value_max) (c.value v) ≡ false
  -- the other numbers of row 6, and rows 7 to 10
  pub sound : Sound c
  -- row 11: no vertex is strictly inside the circle of an inner face, seen from any of its half-edges
  pub empty-circle : (h z : ℕ) → Inner c h → z < c.vertices → Pos (circle (start c h) (end c h) (apex c h) (c.place z)) → ⊥

-- 11 at every half-edge of a face
hollow : (c : Chart) (snd : Sound c) → Passed c → (h z : ℕ) → Inner c h → z < c.vertices → Pos (circle (start c h) (end c h) (apex c h) (c.place z)) → ⊥
hollow c snd p h z (l, i) m a =
    let f = c.face h in
    let g = c.adjacent f in
    circle-at c p f z (above_zero f i) (snd.range.face-numbers h l) m
    (subst Pos
    (ap (λ (v : ℕ). circle (start c h) (c.place v) (apex c h) (c.place z)) (sym (snd.next_start h l)) ∙ circ-adjacent c snd h (c.place z) l i
    ∙ sym (circle-turn (apex c g) (start c g) (c.place (c.origin (c.next g))) (c.place z)))
    a)

pub accepted : (c : Chart) → Counted c.vertices c.half_edges c.faces → InRange c → Passed c → ((v : ℕ) → v < c.vertices → outside (pos 0) (pos value_max) (c.value v) ≡ false) → Accepted c
accepted c n r p values =
    let s = sound c (lt_of_lt_of_le (lit< tt) n.f-least) r p.before in
    record { counts = n; values = values; sound = s; empty-circle = hollow c s p }
