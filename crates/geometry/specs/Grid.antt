-- The places that are known to be on the grid.
use Rattle.std.specs.Prelude.{cond, ℤ, Option, None, Some}
use Rattle.geometry.specs.declared.Place.{Place}
use Rattle.geometry.specs.declared.grid.GridPlace.{GridPlace}
use Rattle.geometry.specs.Plane.{off_grid, place_at}

-- the place as such
abbrev pub at : GridPlace → Place
at p = place_at p.x p.y

-- the place at these coordinates where they are on the grid: 6 of a vertex and 13 of a load are the others
abbrev pub grid_place : ℤ → ℤ → Option Place
grid_place x y = cond (off_grid (place_at x y)) None (Some (place_at x y))
