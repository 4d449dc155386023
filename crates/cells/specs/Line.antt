-- Places on one line, and a rim that goes on along it. Assumes nothing.
use Rattle.std.specs.Prelude.{◌≡◌, [], ◌∷◌, pos, ◌+ℤ◌, ◌-ℤ◌, ◌*ℤ◌}
use Rattle.whole.specs.Poly.{con, ◌⊕◌, ◌⊖◌, ◌⊗◌, env, agree, solve! }
use Rattle.geometry.specs.declared.Place.{Place}
use Rattle.geometry.specs.Plane.{cross_of, side}
use Rattle.signs.specs.Signs.{nil, sg, flip, ◌⊙◌, ze, lo, hi, ◌⇒◌, ◌&◌, Is, Pos, Neg, Zero, Low, fire, left, right, test1, test4, test3, every1, every3, every4, bal, bal-mul, bal-mul3, eq-zero}
use Rattle.signs.specs.Order.{pos-sg, neg-sg, zero-sg, neg-nil, neg-lo}
use Rattle.cells.specs.Points.{dots, ray, o_e, r_e, flat, four, back}
use Rattle.cells.specs.Corner.{Apart, sq_pos}

-- the ends of a line are on it
pub on-first : (a b : Place) → Zero (side a b a)
unfolding side cross_of agree
on-first a b = eq-zero (solve! (env (a.x ∷ a.y ∷ b.x ∷ b.y ∷ [])) (o_e 0 1 0) (con (pos 0)) tt)

pub on-second : (a b : Place) → Zero (side a b b)
unfolding side cross_of agree
on-second a b = eq-zero (solve! (env (a.x ∷ a.y ∷ b.x ∷ b.y ∷ [])) (o_e 0 1 1) (con (pos 0)) tt)

-- three places on one line
pub collinear : (p r a b c : Place) → Apart r p → Zero (side p r a) → Zero (side p r b) → Zero (side p r c) → Zero (side a b c)
unfolding test1 ◌⊙◌
collinear p r a b c n x y z =
    let s : Is (bal (sg (side a b c)) nil nil nil) =
    rw (pos-sg (sq_pos r p n), zero-sg x, zero-sg y, zero-sg z) at (bal-mul (dots r r p) (side a b c) (side p r a) (dots r b p -ℤ dots r c p) (side p r b) (dots r c p -ℤ dots r a p) (side p r c) (dots r a p -ℤ dots r b p) (flat p r a b c)) in
    record { is = fire (every1 (λ u. bal u nil nil nil ⇒ ze u) tt (sg (side a b c))) s }

-- two steps down, each right of the other's line, lie on one line
pub one-line-both : (ρ q a b c d : Place) → Pos (ray ρ q a) → Neg (ray ρ q b) → Pos (ray ρ q c) → Neg (ray ρ q d) → Low (side a b d) → Low (side a b c) → Low (side c d b) → Low (side c d a) → Zero (side a b c) × Zero (side a b d)
unfolding test4 ◌⊙◌ flip
one-line-both ρ q a b c d ha hb hc hd x y z w =
    let s : Is (bal (sg (side a b d)) (sg (side c d b)) (flip (sg (side b a c))) (flip (sg (side d c a)))) =
    rw (pos-sg ha, neg-sg hb, pos-sg hc, neg-sg hd) at (bal-mul (ray ρ q c) (side a b d) (ray ρ q a) (side c d b) (ray ρ q d) (side b a c) (ray ρ q b) (side d c a) (four ρ q a b c d)) in
    let t : Is (ze (sg (side b a c)) & ze (sg (side a b d))) =
    fire (fire (fire (fire (fire (every4 (λ i j k l. bal i j (flip k) (flip l) ⇒ lo i ⇒ lo j ⇒ hi k ⇒ hi l ⇒ ze k & ze i) tt
    (sg (side a b d)) (sg (side c d b)) (sg (side b a c)) (sg (side d c a))) s) x.is) z.is) (neg-lo (back a b c) y).is) (neg-lo (back c d a) w).is in
    (neg-nil (back b a c) (record { is = left t }), record { is = right t })

-- ---- the steps a b, b e of a rim and a place z on the line a b, farther than b
onward-parts : (ρ q a b e z : Place) → (ray ρ q b -ℤ ray ρ q a) *ℤ side b e z +ℤ (ray ρ q e -ℤ ray ρ q b) *ℤ side b a z +ℤ (ray ρ q b -ℤ ray ρ q z) *ℤ side b a e ≡ pos 0
unfolding side cross_of ray agree
onward-parts ρ q a b e z =
    solve! (env (ρ.x ∷ ρ.y ∷ q.x ∷ q.y ∷ a.x ∷ a.y ∷ b.x ∷ b.y ∷ e.x ∷ e.y ∷ z.x ∷ z.y ∷ []))
    ((r_e 0 1 3 ⊖ r_e 0 1 2) ⊗ o_e 3 4 5 ⊕ (r_e 0 1 4 ⊖ r_e 0 1 3) ⊗ o_e 3 2 5 ⊕ (r_e 0 1 3 ⊖ r_e 0 1 5) ⊗ o_e 3 2 4)
    (con (pos 0)) tt

-- the second step is on the line too
pub goes_on : (ρ q a b e z : Place) → Neg (ray ρ q b -ℤ ray ρ q a) → Pos (ray ρ q b -ℤ ray ρ q z) → Zero (side a b z) → Low (side a b e) → Low (side b e z) → Zero (side a b e)
unfolding test3 ◌⊙◌ flip
goes_on ρ q a b e z k l o x y =
    let s : Is (bal (flip (sg (side b e z))) (sg (ray ρ q e -ℤ ray ρ q b) ⊙ nil) (sg (side b a e)) nil) =
    rw (neg-sg k, pos-sg l, zero-sg (neg-nil (back a b z) o)) at (bal-mul3 (ray ρ q b -ℤ ray ρ q a) (side b e z) (ray ρ q e -ℤ ray ρ q b) (side b a z) (ray ρ q b -ℤ ray ρ q z) (side b a e) (onward-parts ρ q a b e z)) in
    let u : Zero (side b a e) =
    record {
      is = fire (fire (fire (every3 (λ i j k. bal (flip i) (j ⊙ nil) k nil ⇒ lo i ⇒ hi k ⇒ ze k) tt
          (sg (side b e z)) (sg (ray ρ q e -ℤ ray ρ q b)) (sg (side b a e))) s) y.is) (neg-lo (back a b e) x).is;
    } in
    neg-nil (back b a e) u
