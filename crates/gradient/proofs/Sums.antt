-- 01, "Gradient and value": "its component sums are exact whole numbers and only the divisions round". The sums over the whole numbers, and that the f64
-- sums are these on every chart in range. Assumes nothing.
use Rattle.std.specs.Prelude.{◌≡◌, refl, Bool, true, false, cond, List, [], ◌∷◌, map, eqb, pos, ◌+ℤ◌, Float}
use Rattle.std.proofs.Common.{ap, ◌∙◌, le_of_lt, arith, leb→le}
use Prim.Native.Nat.{ℕ, zero, suc, ◌+◌, ◌-◌, ◌≤◌, ◌<◌}
use Rattle.std.specs.Int.Signed.{lt_z}
use Rattle.std.specs.Float.Ieee.{lt}
use Rattle.whole.specs.Bound.{widen, up_to}
use Rattle.chart.specs.Limits.{most_half_edges}
use Rattle.chart.specs.Chart.{Chart, partner, InRange, partner-in}
use Rattle.ranges.specs.Ranges.{value_max}
use Rattle.points.specs.Floats.{f0, ◌+f◌, real_of}
use Rattle.exact.specs.Whole.{of-int, lt-exact, zero_is}
use Rattle.exact.proofs.Whole.{plus-exact}
use Rattle.gradient.specs.declared.Vector3.{Vector3}
use Rattle.gradient.specs.Turn.{ccw, turn, over_pairs, ccw-in}
use Rattle.gradient.specs.Gradient.{Valued, spot_of, end_spot, add_normal, add_pair, gradient_from, gradient_of}
use Rattle.gradient.specs.Sums.{Vector, whole_spot, whole_end, whole_plus, whole_add, whole_pair, normal_sums, reals_of, whole_gradient, Spotted, Upto, upto-more, fine, Exactly, normal-exact, normal-in, add-upto, ExactSums, from-exact}

-- ---- and so is a sum of them
add-exact : (s : Vector) (k : ℕ) (n : Vector3) (m : Vector) → k ≤ most_half_edges → Upto k s → Exactly n m → Upto 1 m → add_normal (reals_of s) n ≡ reals_of (whole_add s m)
unfolding add_normal
add-exact s k n m l u w i =
    let test : lt f0 n.z ≡ lt_z (pos 0) m.z = ap (λ (f : Float). lt f n.z) zero_is ∙ lt-exact (of-int (pos 0)) w.z (record { abs = omega arith }) (fine i.z-in (leb→le 1 most_half_edges tt)) in
    let ex : real_of s.x +f n.x ≡ real_of (s.x +ℤ m.x) = plus-exact s.x w.x (fine u.x-in l) (fine i.x-in (leb→le 1 most_half_edges tt)) in
    let ey : real_of s.y +f n.y ≡ real_of (s.y +ℤ m.y) = plus-exact s.y w.y (fine u.y-in l) (fine i.y-in (leb→le 1 most_half_edges tt)) in
    let ez : real_of s.z +f n.z ≡ real_of (s.z +ℤ m.z) = plus-exact s.z w.z (fine u.z-in l) (fine i.z-in (leb→le 1 most_half_edges tt)) in
    rw (test, ex, ey, ez) (choose (lt_z (pos 0) m.z))
  where
    choose : (b : Bool) → cond b (reals_of (whole_plus s m)) (reals_of s) ≡ reals_of (cond b (whole_plus s m) s)
    choose true = refl
    choose false = refl

-- ---- the turn: k pairs are behind, and n more half-edges at most ahead
module _ (c : Chart) (r : InRange c) (values : Valued c) where
  spotted : (v : ℕ) → v < c.vertices → Spotted (whole_spot c v)
  spotted v l = let g = r.places v l in record { x-in = widen g.x-in tt; y-in = widen g.y-in tt; z-in = up_to value_max (c.value v) (values v l) }

  end-spotted : (h : ℕ) → h < c.half_edges → Spotted (whole_end c h)
  end-spotted h l = spotted (c.origin (partner h)) (r.origins (partner h) (partner-in r h l))

  module _ (v start : ℕ) (v-in : v < c.vertices) (start-in : start < c.half_edges) where
    real_sum : Vector → Vector → List ℕ → Vector3
    real_sum s last hs = over_pairs (add_pair (spot_of c v)) (end_spot c start) (reals_of s) (reals_of last) (map (end_spot c) hs)

    whole_sum : Vector → Vector → List ℕ → Vector
    whole_sum s last hs = over_pairs (whole_pair (whole_spot c v)) (whole_end c start) s last (map (whole_end c) hs)

    Same : Vector → Vector → List ℕ → Type 0
    Same s last hs = (real_sum s last hs ≡ reals_of (whole_sum s last hs)) × Upto most_half_edges (whole_sum s last hs)

    -- one pair
    pair-exact : (k : ℕ) (s p q : Vector) → k < most_half_edges → Upto k s → Spotted p → Spotted q → add_pair (spot_of c v) (reals_of s) (reals_of p) (reals_of q) ≡ reals_of (whole_pair (whole_spot c v) s p q)
    pair-exact k s p q l u i j =
        add-exact s k _ _ (le_of_lt l) u (normal-exact (whole_spot c v) p q (spotted v v-in) i j) (normal-in (whole_spot c v) p q (spotted v v-in) i j)

    pair-upto : (k : ℕ) (s p q : Vector) → Upto k s → Spotted p → Spotted q → Upto (k + 1) (whole_pair (whole_spot c v) s p q)
    pair-upto k s p q u i j = add-upto s k _ u (normal-in (whole_spot c v) p q (spotted v v-in) i j)

    -- the last with the first
    close : (k : ℕ) (s last : Vector) → k < most_half_edges → Upto k s → Spotted last → Same s last []
    unfolding over_pairs real_sum whole_sum Same
    close k s last l u i =
        (pair-exact k s last (whole_end c start) l u i (end-spotted start start-in), upto-more (pair-upto k s last (whole_end c start) u i (end-spotted start start-in)) (omega arith))

    -- one half-edge more
    on : (k h : ℕ) (s last : Vector) (hs : List ℕ) → k < most_half_edges → h < c.half_edges → Upto k s → Spotted last → Same (whole_pair (whole_spot c v) s last (whole_end c h)) (whole_end c h) hs → Same s last (h ∷ hs)
    unfolding over_pairs real_sum whole_sum Same
    on k h s last hs l m u i (e, b) =
        (ap (λ (t : Vector3). over_pairs (add_pair (spot_of c v)) (end_spot c start) t (end_spot c h) (map (end_spot c) hs)) (pair-exact k s last (whole_end c h) l u i (end-spotted h m)) ∙ e, b)

    either : (b : Bool) (s last : Vector) (hs : List ℕ) → Same s last [] → Same s last hs → Same s last (cond b [] hs)
    either true s last hs x y = x
    either false s last hs x y = y

    turn-exact : (n h k : ℕ) (s last : Vector) → k + n < most_half_edges → h < c.half_edges → Upto k s → Spotted last → Same s last (turn c start n h)
    unfolding turn
    turn-exact zero h k s last l m u i = close k s last (omega arith) u i
    turn-exact (suc n) h k s last l m u i =
        either (eqb h start) s last (h ∷ turn c start n (ccw c h)) (close k s last (omega arith) u i)
        (on k h s last (turn c start n (ccw c h)) (omega arith) m u i
        (turn-exact n (ccw c h) (k + 1) _ _ (omega arith) (ccw-in r h m) (pair-upto k s last (whole_end c h) u i (end-spotted h m)) (end-spotted h m)))

pub sums-exact : (c : Chart) → InRange c → Valued c → c.half_edges ≤ most_half_edges → (v : ℕ) → v < c.vertices → ExactSums c v
unfolding real_sum whole_sum Same
sums-exact c r values few v l =
    let s = c.out v in
    let m = r.outs v l in
    let nothing : Upto 0 (record { x = pos 0; y = pos 0; z = pos 0 }) = record { x-in = record { abs = omega arith }; y-in = record { abs = omega arith }; z-in = record { abs = omega arith } } in
    let t = turn-exact c r values v s l m (c.half_edges - 1) (ccw c s) 0 (record { x = pos 0; y = pos 0; z = pos 0 }) (whole_end c s) (omega arith) (ccw-in r s m) nothing (end-spotted c r values s m) in
    let all = leb→le most_half_edges most_half_edges tt in
    record { same = rw zero_is t.0; x-in = fine t.1.x-in all; y-in = fine t.1.y-in all; z-in = fine t.1.z-in all }

-- so the gradient is two rounded divisions of whole numbers
pub gradient-exact : (c : Chart) → InRange c → Valued c → c.half_edges ≤ most_half_edges → (v : ℕ) → v < c.vertices → gradient_of c v ≡ whole_gradient (normal_sums c v)
gradient-exact c r values few v l =
    let e = sums-exact c r values few v l in
    ap gradient_from e.same ∙ from-exact (normal_sums c v) e.z-in
