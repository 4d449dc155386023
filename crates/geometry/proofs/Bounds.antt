-- How large what the code works out can be, so that the machine reads back the number itself. Assumes nothing.
use Rattle.std.specs.Prelude.{◌≡◌, ℕ, ◌*◌, T, leb, ℤ, ◌+ℤ◌, ◌-ℤ◌, ◌*ℤ◌}
use Rattle.std.proofs.Common.{false, SFits, to_z, of_z}
use Rattle.std.specs.Int.{w64}
use Rattle.geometry.specs.declared.Place.{Place}
use Rattle.geometry.specs.Plane.{off_grid, place_at, OnGrid, on-grid, Near, cross_of, area_max, vector_of, dot_of, side, circle, side-in, ends-in, minor-in}
use Rattle.geometry.specs.Laws.{circle-power}
use Rattle.geometry.specs.Grid.{at}
use Rattle.geometry.specs.declared.grid.GridPlace.{GridPlace}
use Rattle.whole.specs.Bound.{Within, back, fits, mul_in, sub_in, add-in, widen, held, same_in}
use Rattle.whole.specs.Test.{bits-true, bits-false, zero-fits}

-- what the machine reads back from the bits of z
abbrev pub read : ℤ → ℤ
read z = to_z w64 (of_z w64 z)

-- a product
module _ {m : ℕ} {a b : ℤ} (p : Within m a) (q : Within m b) (t : T (leb m area_max)) where
  area : Within (area_max * area_max) (a *ℤ b)
  area = mul_in (widen p t) (widen q t)

  product : read (read a *ℤ read b) ≡ a *ℤ b
  product = simp (back (widen p t) tt, back (widen q t) tt, back area tt)

-- a difference or a sum of two products
module _ {m : ℕ} {a b c d : ℤ} (p : Within m a) (q : Within m b) (r : Within m c) (s : Within m d) (t : T (leb m area_max)) where
  difference_fits : SFits w64 (read (read a *ℤ read b) -ℤ read (read c *ℤ read d))
  difference_fits = simp (product p q t, product r s t) (fits (sub_in (area p q t) (area r s t)) tt)

  difference : read (read (read a *ℤ read b) -ℤ read (read c *ℤ read d)) ≡ a *ℤ b -ℤ c *ℤ d
  difference = simp (product p q t, product r s t, back (sub_in (area p q t) (area r s t)) tt)

  sum_fits : SFits w64 (read (read a *ℤ read b) +ℤ read (read c *ℤ read d))
  sum_fits = simp (product p q t, product r s t) (fits (add-in (area p q t) (area r s t)) tt)

  sum : read (read (read a *ℤ read b) +ℤ read (read c *ℤ read d)) ≡ a *ℤ b +ℤ c *ℤ d
  sum = simp (product p q t, product r s t, back (add-in (area p q t) (area r s t)) tt)

-- those of two near vectors
module _ (u v : Place) (p : Near u) (q : Near v) where
  pub cross_fits : SFits w64 (read (read u.x *ℤ read v.y) -ℤ read (read u.y *ℤ read v.x))
  cross_fits = difference_fits p.x-in q.y-in p.y-in q.x-in tt

  pub cross_read : read (read (read u.x *ℤ read v.y) -ℤ read (read u.y *ℤ read v.x)) ≡ cross_of u v
  unfolding cross_of
  cross_read = difference p.x-in q.y-in p.y-in q.x-in tt

  pub dot_fits : SFits w64 (read (read u.x *ℤ read v.x) +ℤ read (read u.y *ℤ read v.y))
  dot_fits = sum_fits p.x-in q.x-in p.y-in q.y-in tt

  pub dot_read : read (read (read u.x *ℤ read v.x) +ℤ read (read u.y *ℤ read v.y)) ≡ dot_of u v
  unfolding dot_of
  dot_read = sum p.x-in q.x-in p.y-in q.y-in tt

-- those of sides and dot products
module _ (a b c d : ℤ) (p : Within area_max a) (q : Within area_max b) (r : Within area_max c) (s : Within area_max d) where
  pub minor_fits : SFits w64 (read (read a *ℤ read b) -ℤ read (read c *ℤ read d))
  minor_fits = difference_fits p q r s tt

  pub minor_read : read (read (read a *ℤ read b) -ℤ read (read c *ℤ read d)) ≡ a *ℤ b -ℤ c *ℤ d
  minor_read = difference p q r s tt

-- a place at coordinates that are on the grid
pub grid_of : (x y : ℤ) → off_grid (place_at x y) ≡ false → OnGrid (place_at x y)
grid_of x y = on-grid (place_at x y)

-- a side, and the ends as a place sees them
module _ (a b q : GridPlace) where
  pub side_bound : Within area_max (side (at a) (at b) (at q))
  side_bound = side-in a.on_grid b.on_grid q.on_grid

  pub ends_bound : Within area_max (dot_of (vector_of (at q) (at a)) (vector_of (at q) (at b)))
  ends_bound = ends-in a.on_grid b.on_grid q.on_grid

-- the circle's determinant, as the machine works it out
pub determinant : (a b c q : GridPlace)
    → circle (at a) (at b) (at c) (at q)
    ≡ read (read (side (at a) (at b) (at q)) *ℤ read (dot_of (vector_of (at c) (at a)) (vector_of (at c) (at b))) -ℤ read (side (at a) (at b) (at c)) *ℤ read (dot_of (vector_of (at q) (at a)) (vector_of (at q) (at b))))
determinant a b c q =
    let sq = side_bound a b q in
    let ec = ends_bound a b c in
    let sc = side_bound a b c in
    let eq = ends_bound a b q in
    simp (back sq tt, back ec tt, back sc tt, back eq tt, back (minor-in sq ec sc eq) tt) (circle-power (at a) (at b) (at c) (at q))

pub ruleset crosses = (cross_fits, cross_read)

pub ruleset dots = (dot_fits, dot_read)

pub ruleset minors = (minor_fits, minor_read)

pub ruleset bounds = (side_bound, ends_bound, held, same_in, determinant)

pub ruleset tests = (side_bound, ends_bound, fits, back, bits-true, bits-false, zero-fits)
