-- A load that is found to be on the grid.
use Rattle.std.specs.Prelude.{cond, ◌≡◌, Bool, true, false, None, Some}
use Rattle.std.proofs.Common.{refl}
use Rattle.std.specs.Option.{option_map}
use Rattle.geometry.specs.declared.Place.{Place}
use Rattle.geometry.specs.declared.grid.GridPlace.{GridPlace}
use Rattle.geometry.specs.Plane.{off_grid}
use Rattle.geometry.specs.Grid.{at, grid_place}

pub on-it : (q : Place) (p : GridPlace) → option_map at (Some p) ≡ grid_place q.x q.y → (off_grid q ≡ false) × (at p ≡ q)
on-it q p e = choose (off_grid q) refl e
  where
    choose : (b : Bool) → off_grid q ≡ b → Some (at p) ≡ cond b None (Some q) → (off_grid q ≡ false) × (at p ≡ q)
    choose true o f = absurd (cc)
    choose false o f = (o, cc)
