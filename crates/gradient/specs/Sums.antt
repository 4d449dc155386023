-- 01, "Gradient and value": "its component sums are exact whole numbers and only the divisions round". The sums over the whole numbers, and that the f64
-- sums are these on every chart in range. Assumes nothing.
use Rattle.std.specs.Prelude.{◌≡◌, refl, Bool, true, false, not, cond, ℤ, pos, ◌+ℤ◌, ◌-ℤ◌, ◌*ℤ◌, Float}
use Rattle.std.proofs.Common.{sym, subst, le_trans, mul-le-mul_right, add-mul, arith}
use Prim.Native.Nat.{ℕ, ◌+◌, ◌*◌, ◌≤◌}
use Rattle.std.specs.Int.Signed.{lt_z}
use Rattle.std.specs.Float.Ieee.{neg}
use Rattle.whole.specs.Bound.{Within, add-in, sub_in, mul_in, widen}
use Rattle.whole.specs.Test.{eq_z}
use Rattle.chart.specs.Limits.{most_half_edges}
use Rattle.chart.specs.Chart.{Chart, partner}
use Rattle.ranges.specs.Ranges.{value_max}
use Rattle.points.specs.Floats.{f0, ◌-f◌, ◌*f◌, ◌/f◌, real_of, exact_max}
use Rattle.exact.specs.Whole.{Whole, of-int, mul-exact, ne-exact}
use Rattle.exact.proofs.Whole.{sub-exact}
use Rattle.gradient.specs.declared.Vector3.{Vector3}
use Rattle.gradient.specs.declared.Gradient.{Gradient}
use Rattle.gradient.specs.Turn.{sum_about}
use Rattle.gradient.specs.Gradient.{difference, normal_of, final_normal, gradient_from}

-- ---- the same over the whole numbers
pub record Vector : Type 0 where
  pub x : ℤ
  pub y : ℤ
  pub z : ℤ

-- a vertex with its value
abbrev pub whole_spot : Chart → ℕ → Vector
whole_spot c v = record { x = (c.place v).x; y = (c.place v).y; z = c.value v }

-- where a half-edge ends
abbrev pub whole_end : Chart → ℕ → Vector
whole_end c h = whole_spot c (c.origin (partner h))

abbrev pub whole_difference : Vector → Vector → Vector
whole_difference p v = record { x = p.x -ℤ v.x; y = p.y -ℤ v.y; z = p.z -ℤ v.z }

-- d0 × d1
abbrev pub whole_normal : Vector → Vector → Vector → Vector
whole_normal v p0 p1 =
    let d0 = whole_difference p0 v in
    let d1 = whole_difference p1 v in
    record {
      x = d0.y *ℤ d1.z -ℤ d0.z *ℤ d1.y;
      y = d0.z *ℤ d1.x -ℤ d0.x *ℤ d1.z;
      z = d0.x *ℤ d1.y -ℤ d0.y *ℤ d1.x;
    }

abbrev pub whole_plus : Vector → Vector → Vector
whole_plus sum n = record { x = sum.x +ℤ n.x; y = sum.y +ℤ n.y; z = sum.z +ℤ n.z }

-- a normal that points up counts
abbrev pub whole_add : Vector → Vector → Vector
whole_add sum n = cond (lt_z (pos 0) n.z) (whole_plus sum n) sum

abbrev pub whole_pair : Vector → Vector → Vector → Vector → Vector
whole_pair v sum p0 p1 = whole_add sum (whole_normal v p0 p1)

-- the component sums about v
abbrev pub normal_sums : Chart → ℕ → Vector
normal_sums c v = sum_about c (whole_spot c) whole_pair (record { x = pos 0; y = pos 0; z = pos 0 }) v

-- whole components taken as f64
abbrev pub reals_of : Vector → Vector3
reals_of s = record { x = real_of s.x; y = real_of s.y; z = real_of s.z }

-- two divisions, each rounded once; -x is -0 where a sum is 0
abbrev pub quotients : Vector → Gradient
quotients n = record { x = neg (real_of n.x) /f real_of n.z; y = neg (real_of n.y) /f real_of n.z }

-- the gradient of whole sums
unfoldable pub whole_gradient : Vector → Gradient
whole_gradient n = cond (eq_z n.z (pos 0)) (record { x = f0; y = f0 }) (quotients n)

-- ---- bounds
-- coordinates are within the values' bound too: a component of a difference, and of a normal
abbrev leg_max : ℕ
leg_max = value_max + value_max

abbrev sum_max : ℕ
sum_max = leg_max * leg_max + leg_max * leg_max

pub record Spotted (s : Vector) : Type 0 where
  pub x-in : Within value_max s.x
  pub y-in : Within value_max s.y
  pub z-in : Within value_max s.z

-- at most what k normals can sum up to
pub record Upto (k : ℕ) (s : Vector) : Type 0 where
  pub x-in : Within (k * sum_max) s.x
  pub y-in : Within (k * sum_max) s.y
  pub z-in : Within (k * sum_max) s.z

wider : {k m : ℕ} {z : ℤ} → Within (k * sum_max) z → k ≤ m → Within (m * sum_max) z
wider h l = record { abs = le_trans h.abs (mul-le-mul_right sum_max l) }

pub upto-more : {k m : ℕ} {s : Vector} → Upto k s → k ≤ m → Upto m s
upto-more u l = record { x-in = wider u.x-in l; y-in = wider u.y-in l; z-in = wider u.z-in l }

-- as many normals as there are half-edges sum up to what f64 has exactly
pub fine : {k : ℕ} {z : ℤ} → Within (k * sum_max) z → k ≤ most_half_edges → Within exact_max z
fine h l = widen (wider h l) tt

-- ---- one normal is exact
pub record Exactly (n : Vector3) (s : Vector) : Type 0 where
  pub x : Whole n.x s.x
  pub y : Whole n.y s.y
  pub z : Whole n.z s.z

record Short (s : Vector) : Type 0 where
  pub x-in : Within leg_max s.x
  pub y-in : Within leg_max s.y
  pub z-in : Within leg_max s.z

difference-in : (p v : Vector) → Spotted p → Spotted v → Short (whole_difference p v)
difference-in p v i j = record { x-in = sub_in i.x-in j.x-in; y-in = sub_in i.y-in j.y-in; z-in = sub_in i.z-in j.z-in }

difference-exact : (p v : Vector) → Spotted p → Spotted v → Exactly (difference (reals_of p) (reals_of v)) (whole_difference p v)
difference-exact p v i j = record { x = leg i.x-in j.x-in; y = leg i.y-in j.y-in; z = leg i.z-in j.z-in }
  where
    leg : {a b : ℤ} → Within value_max a → Within value_max b → Whole (real_of a -f real_of b) (a -ℤ b)
    leg {a} {b} m n = sub-exact (of-int a) (of-int b) (widen m tt) (widen n tt)

cross-exact : {x y z w : Float} {a b d e : ℤ} → Whole x a → Whole y b → Whole z d → Whole w e → Within leg_max a → Within leg_max b → Within leg_max d → Within leg_max e → Whole (x *f y -f z *f w) (a *ℤ b -ℤ d *ℤ e)
cross-exact x y z w a b d e =
    sub-exact (mul-exact x y (widen a tt) (widen b tt)) (mul-exact z w (widen d tt) (widen e tt)) (widen (mul_in a b) tt) (widen (mul_in d e) tt)

cross-in : {a b d e : ℤ} → Within leg_max a → Within leg_max b → Within leg_max d → Within leg_max e → Within (1 * sum_max) (a *ℤ b -ℤ d *ℤ e)
cross-in a b d e = sub_in (mul_in a b) (mul_in d e)

module _ (v p q : Vector) (v-in : Spotted v) (p-in : Spotted p) (q-in : Spotted q) where
  pub normal-exact : Exactly (normal_of (reals_of v) (reals_of p) (reals_of q)) (whole_normal v p q)
  unfolding normal_of
  normal-exact =
      let d = difference-exact p v p-in v-in in
      let e = difference-exact q v q-in v-in in
      let i = difference-in p v p-in v-in in
      let j = difference-in q v q-in v-in in
      record {
        x = cross-exact d.y e.z d.z e.y i.y-in j.z-in i.z-in j.y-in;
        y = cross-exact d.z e.x d.x e.z i.z-in j.x-in i.x-in j.z-in;
        z = cross-exact d.x e.y d.y e.x i.x-in j.y-in i.y-in j.x-in;
      }

  pub normal-in : Upto 1 (whole_normal v p q)
  normal-in =
      let i = difference-in p v p-in v-in in
      let j = difference-in q v q-in v-in in
      record {
        x-in = cross-in i.y-in j.z-in i.z-in j.y-in;
        y-in = cross-in i.z-in j.x-in i.x-in j.z-in;
        z-in = cross-in i.x-in j.y-in i.y-in j.x-in;
      }

pub add-upto : (s : Vector) (k : ℕ) (m : Vector) → Upto k s → Upto 1 m → Upto (k + 1) (whole_add s m)
add-upto s k m u i = choose (lt_z (pos 0) m.z)
  where
    joined : {a b : ℤ} → Within (k * sum_max) a → Within (1 * sum_max) b → Within ((k + 1) * sum_max) (a +ℤ b)
    joined {a} {b} p q = subst (λ (n : ℕ). Within n (a +ℤ b)) (sym (add-mul k 1 sum_max)) (add-in p q)

    choose : (b : Bool) → Upto (k + 1) (cond b (whole_plus s m) s)
    choose true = record { x-in = joined u.x-in i.x-in; y-in = joined u.y-in i.y-in; z-in = joined u.z-in i.z-in }
    choose false = upto-more u (omega arith)

-- ---- the theorem: the f64 sums are the whole sums, and these are small enough that f64 has them exactly (`real-exact` of points)
pub record ExactSums (c : Chart) (v : ℕ) : Type 0 where
  pub same : final_normal c v ≡ reals_of (normal_sums c v)
  pub x-in : Within exact_max (normal_sums c v).x
  pub y-in : Within exact_max (normal_sums c v).y
  pub z-in : Within exact_max (normal_sums c v).z

pub from-exact : (n : Vector) → Within exact_max n.z → gradient_from (reals_of n) ≡ whole_gradient n
unfolding gradient_from whole_gradient
from-exact n i = rw (ne-exact (of-int n.z) i) (choose (eq_z n.z (pos 0)) _ _)
  where
    choose : (b : Bool) (x y : Gradient) → cond (not b) x y ≡ cond b y x
    choose true x y = refl
    choose false x y = refl
