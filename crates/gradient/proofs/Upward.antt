-- On an accepted chart the last component sum is above 0 at every vertex: of the out half-edge and the one after it one is inner, and its triangle turns
-- left. So the division is never by 0, and the case of +0, +0 never comes. Assumes nothing.
use Rattle.std.specs.Prelude.{◌≡◌, Bool, true, false, map, eqb, pos}
use Rattle.std.proofs.Math.Path.{refl}
use Rattle.std.proofs.Common.{sym, ap, subst, ◌∙◌, arith, eqb-true}
use Prim.Native.Nat.{ℕ, ◌-◌, ◌<◌}
use Rattle.std.proofs.lemmas.Bool.{eqb-false}
use Rattle.whole.specs.Test.{ne-eq_z}
use Rattle.signs.specs.Signs.{Pos, High, eq-zero}
use Rattle.signs.specs.Order.{nat-high, pos-zero}
use Rattle.geometry.specs.Plane.{cross_of, side}
use Rattle.chart.specs.Chart.{Chart, partner, partner-twice}
use Rattle.nearby.specs.Rim.{inner-side}
use Rattle.sound.specs.Sound.{Inner, Outer}
use Rattle.accepted.specs.Accepted.{Accepted}
use Rattle.gradient.specs.Turn.{ccw, turn, over_pairs, turn-back, turn_on, ccw-in}
use Rattle.gradient.specs.Gradient.{gradient_of}
use Rattle.gradient.specs.Sums.{Vector, quotients, whole_gradient, whole_spot, whole_end, whole_normal, whole_pair, normal_sums}
use Rattle.gradient.proofs.Sums.{gradient-exact}
use Rattle.gradient.specs.Round.{ccw-starts}
use Rattle.gradient.specs.Upward.{add_low, add-above, over-keeps}

module _ (c : Chart) (a : Accepted c) where
  -- ---- the triangle of an inner half-edge points up
  up : (v h : ℕ) → Inner c h → c.origin h ≡ v → Pos (whole_normal (whole_spot c v) (whole_end c h) (whole_end c (ccw c h))).z
  unfolding side cross_of
  up v h i e = rw (← e, partner-twice (c.prev h)) (a.sound.turns-left h i)

  module _ (v s : ℕ) where
    -- what is left of the sum, from h on
    abbrev rest : Vector → ℕ → ℕ → Vector
    rest sum h n = over_pairs (whole_pair (whole_spot c v)) (whole_end c s) sum (whole_end c h) (map (whole_end c) (turn c s n (ccw c h)))

    -- from an inner half-edge on
    inner_up : (sum : Vector) (h n : ℕ) → Inner c h → c.origin h ≡ v → High sum.z → 0 < n → Pos (rest sum h n).z
    unfolding over_pairs
    inner_up sum h n i e low l = pick (eqb (ccw c h) s) refl
      where
        k : Pos (whole_pair (whole_spot c v) sum (whole_end c h) (whole_end c (ccw c h))).z
        k = add-above sum (whole_normal (whole_spot c v) (whole_end c h) (whole_end c (ccw c h))) low (up v h i e)

        pick : (b : Bool) → eqb (ccw c h) s ≡ b → Pos (rest sum h n).z
        pick true d =
            let q : ccw c h ≡ s = eqb-true (ccw c h) s d in
            rw (turn-back c s n (ccw c h) q) (subst (λ (t : ℕ). Pos (whole_pair (whole_spot c v) sum (whole_end c h) (whole_end c t)).z) q k)
        pick false d = rw (turn_on c s n (ccw c h) (eqb-false (ccw c h) s d) l) (over-keeps (whole_spot c v) (whole_end c s) _ (whole_end c (ccw c h)) (map (whole_end c) (turn c s (n - 1) (ccw c (ccw c h)))) k)

  -- ---- the theorem
  -- an outer half-edge is not the next one after itself
  outer-on : (s : ℕ) → Outer c s → ccw c s ≡ s → ⊥
  outer-on s (l, o) e =
      let p : partner s ≡ c.prev s = ap partner (sym e) ∙ partner-twice (c.prev s) in
      inner-side c a.sound s l o (ap c.face p ∙ a.sound.prev-face s l ∙ o)

  -- and the next one is inner
  outer-next : (s : ℕ) → Outer c s → Inner c (ccw c s)
  outer-next s (l, o) =
      let m = ccw-in a.sound.range s l in
      (m, λ e. outer-on s (l, o) (a.sound.lone (ccw c s) s (m, e) (l, o) (ccw-starts c a.sound s l)))

  pub sum-above : (v : ℕ) → v < c.vertices → Pos (normal_sums c v).z
  unfolding over_pairs
  sum-above v l = pick (eqb (c.face s) 0) refl
    where
      s : ℕ
      s = c.out v

      m : s < c.half_edges
      m = a.sound.range.outs v l

      none : Vector
      none = record { x = pos 0; y = pos 0; z = pos 0 }

      pick : (b : Bool) → eqb (c.face s) 0 ≡ b → Pos (normal_sums c v).z
      pick true d =
          let o : Outer c s = (m, eqb-true (c.face s) 0 d) in
          rw (turn_on c s (c.half_edges - 1) (ccw c s) (outer-on s o) (omega arith))
          (inner_up v s (whole_pair (whole_spot c v) none (whole_end c s) (whole_end c (ccw c s))) (ccw c s) (c.half_edges - 1 - 1) (outer-next s o)
          (ccw-starts c a.sound s m ∙ a.sound.out-start v l) (add_low none (whole_normal (whole_spot c v) (whole_end c s) (whole_end c (ccw c s))) (nat-high 0)) (omega arith))
      pick false d = inner_up v s none s (c.half_edges - 1) (m, eqb-false (c.face s) 0 d) (a.sound.out-start v l) (nat-high 0) (omega arith)

  -- only the two divisions round, and none is by 0
  pub gradient-accepted : (v : ℕ) → v < c.vertices → gradient_of c v ≡ quotients (normal_sums c v)
  unfolding whole_gradient
  gradient-accepted v l =
      gradient-exact c a.sound.range a.values a.counts.e-most v l
      ∙ rw (ne-eq_z (normal_sums c v).z (pos 0) (λ e. pos-zero (sum-above v l) (eq-zero e)))
