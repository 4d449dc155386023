-- What the code tests in place of refusal 11: one circle for each edge. No answer is defined by it: on charts that 7 to 10 let pass it is 01's 11
-- (`crowded-pressed`, crate `nearby`).
use Rattle.std.specs.Prelude.{Bool, not, ◌&&◌, ℕ, ◌*◌, pos}
use Rattle.std.specs.Int.Signed.{lt_z}
use Rattle.geometry.specs.Plane.{circle}
use Rattle.chart.specs.Chart.{Chart, partner, from_of, to_of, outer}

-- h and its partner are inner, and the third corner of the partner's face is strictly inside the circle of h's face
abbrev pub presses : Chart → ℕ → Bool
presses c h =
    not (outer c h)
    && (not (outer c (partner h))
    && lt_z (pos 0) (circle (from_of c h) (to_of c h) (from_of c (c.prev h)) (from_of c (c.prev (partner h)))))

-- edge k, seen from its even half-edge: from the odd one it is the same (`circle-across`, crate `cells`)
abbrev pub pressed : Chart → ℕ → Bool
pressed c k = presses c (k * 2)
