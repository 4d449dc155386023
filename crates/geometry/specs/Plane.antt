-- 01, "Side and circle": the determinants whose signs are the side and the circle, over the whole numbers.
use Rattle.std.specs.Prelude.{◌≡◌, Bool, false, ◌&&◌, ◌||◌, ℕ, ◌+◌, ◌*◌, ◌-◌, ℤ, pos, neg_ℤ, ◌+ℤ◌, ◌-ℤ◌, ◌*ℤ◌}
use Rattle.std.specs.Int.Signed.{lt_z}
use Rattle.whole.specs.Bound.{Within, outside, outside-within, sub_in, add-in, mul_in, widen}
use Rattle.whole.specs.Test.{eq_z}
use Rattle.whole.specs.Bools.{or-false}
use Rattle.geometry.specs.declared.Place.{Place}

-- the grid's bound: coordinates run from -grid_max to grid_max (01, row 6 and row 13)
abbrev pub grid_max : ℕ
grid_max = 10000

-- the coordinate x or y is not -10,000 to 10,000
unfoldable pub off_grid : Place → Bool
off_grid p = outside (neg_ℤ (pos grid_max)) (pos grid_max) p.x || outside (neg_ℤ (pos grid_max)) (pos grid_max) p.y

-- the place at these coordinates
abbrev pub place_at : ℤ → ℤ → Place
place_at x y = record { x = x; y = y }

-- a place of the grid
pub record OnGrid (p : Place) : Type 0 where
  pub x-in : Within grid_max p.x
  pub y-in : Within grid_max p.y

-- the vector from p to q
abbrev pub vector_of : Place → Place → Place
vector_of p q = record { x = q.x -ℤ p.x; y = q.y -ℤ p.y }

-- u × v
unfoldable pub cross_of : Place → Place → ℤ
cross_of u v = u.x *ℤ v.y -ℤ u.y *ℤ v.x

-- u · v
unfoldable pub dot_of : Place → Place → ℤ
dot_of u v = u.x *ℤ v.x +ℤ u.y *ℤ v.y

-- ux² + uy²
unfoldable pub norm2_of : Place → ℤ
norm2_of u = u.x *ℤ u.x +ℤ u.y *ℤ u.y

-- side of q at a to b: (bx-ax)(qy-ay) - (by-ay)(qx-ax)
unfoldable pub side : Place → Place → Place → ℤ
side a b q = cross_of (vector_of a b) (vector_of a q)

-- the 3 by 3 determinant with rows (ux, uy, ux² + uy²), along its last column; `lifted-determinant` has it along the first row
unfoldable pub lifted : Place → Place → Place → ℤ
lifted u v w = norm2_of u *ℤ cross_of v w -ℤ norm2_of v *ℤ cross_of u w +ℤ norm2_of w *ℤ cross_of u v

-- q is strictly inside the circle of the left-turning a, b, c when this is above 0: the rows are a-q, b-q, c-q
unfoldable pub circle : Place → Place → Place → Place → ℤ
circle a b c q = lifted (vector_of q a) (vector_of q b) (vector_of q c)

-- q is on the open segment from a to b: on the line, and the ends lie in opposite directions. `Between` says the same in other words
unfoldable pub on_open_segment : Place → Place → Place → Bool
on_open_segment a b q = eq_z (side a b q) (pos 0) && lt_z (dot_of (vector_of q a) (vector_of q b)) (pos 0)

-- ---- bounds: how large a coordinate of a vector between two places of the grid, and a product of two, can be
abbrev pub step_max : ℕ
step_max = grid_max + grid_max

-- a cross product or a dot product
abbrev pub area_max : ℕ
area_max = step_max * step_max + step_max * step_max

-- a vector between two places of the grid
pub record Near (u : Place) : Type 0 where
  pub x-in : Within step_max u.x
  pub y-in : Within step_max u.y

-- the vector between two places of the grid is near
pub vector-near : {p q : Place} → OnGrid p → OnGrid q → Near (vector_of p q)
vector-near p q = record { x-in = sub_in q.x-in p.x-in; y-in = sub_in q.y-in p.y-in }

-- a place of the grid, taken as the vector from its middle, is near
pub grid-near : {p : Place} → OnGrid p → Near p
grid-near p = record { x-in = widen p.x-in tt; y-in = widen p.y-in tt }

-- the bound of a cross product
pub cross-in : {u v : Place} → Near u → Near v → Within area_max (cross_of u v)
unfolding cross_of
cross-in u v = sub_in (mul_in u.x-in v.y-in) (mul_in u.y-in v.x-in)

-- the bound of a dot product
pub dot-in : {u v : Place} → Near u → Near v → Within area_max (dot_of u v)
unfolding dot_of
dot-in u v = add-in (mul_in u.x-in v.x-in) (mul_in u.y-in v.y-in)

-- the bound of the circle's determinant
pub minor-in : {s d t e : ℤ} → Within area_max s → Within area_max d → Within area_max t → Within area_max e → Within (area_max * area_max + area_max * area_max) (s *ℤ d -ℤ t *ℤ e)
minor-in s d t e = sub_in (mul_in s d) (mul_in t e)

-- the bound of a side
pub side-in : {a b q : Place} → OnGrid a → OnGrid b → OnGrid q → Within area_max (side a b q)
unfolding side
side-in a b q = cross-in (vector-near a b) (vector-near a q)

-- the bound of the ends as q sees them
pub ends-in : {a b q : Place} → OnGrid a → OnGrid b → OnGrid q → Within area_max (dot_of (vector_of q a) (vector_of q b))
ends-in a b q = dot-in (vector-near q a) (vector-near q b)

-- what is not off the grid is on it
pub on-grid : (p : Place) → off_grid p ≡ false → OnGrid p
unfolding off_grid
on-grid p e =
    let b = or-false (outside (neg_ℤ (pos grid_max)) (pos grid_max) p.x) (outside (neg_ℤ (pos grid_max)) (pos grid_max) p.y) e in
    record { x-in = outside-within (grid_max - 1) p.x b.0; y-in = outside-within (grid_max - 1) p.y b.1 }
