-- The side of a place, told by one product less: of the vector u from a, q is left where u × q is above u × a. Assumes nothing.
use Rattle.std.specs.Prelude.{◌≡◌, ℤ, pos, ◌-ℤ◌}
use Rattle.std.proofs.Common.{arith, sym, ap, ◌∙◌}
use Rattle.std.specs.Int.Signed.{lt_z}
use Rattle.geometry.specs.declared.Place.{Place}
use Rattle.geometry.specs.Plane.{vector_of, cross_of, side}
use Rattle.geometry.specs.Laws.{side-line}

-- a difference is above 0 where the first is above the second
above-sub : (k x : ℤ) → lt_z k x ≡ lt_z (pos 0) (x -ℤ k)
above-sub k x = grind arith

pub past-side : (a b q : Place) → lt_z (cross_of (vector_of a b) a) (cross_of (vector_of a b) q) ≡ lt_z (pos 0) (side a b q)
past-side a b q =
    above-sub (cross_of (vector_of a b) a) (cross_of (vector_of a b) q) ∙ ap (λ (z : ℤ). lt_z (pos 0) z) (sym (side-line a b q))
