-- One triangle a b c, a place q and a line or a ray. Assumes nothing.
use Rattle.std.specs.Prelude.{◌≡◌, ◌⊎◌, ℤ, ◌+ℤ◌, ◌-ℤ◌, ◌*ℤ◌}
use Rattle.std.proofs.Common.{sym, ap, ◌∙◌, inl, inr}
use Rattle.std.proofs.Math.IntN.{+ℤ_idl, -ℤ-+ℤ_cancel}
use Rattle.geometry.specs.declared.Place.{Place}
use Rattle.geometry.specs.Plane.{dot_of, side}
use Rattle.signs.specs.Signs.{below, nil, above, sg, flip, ◌⊙◌, up, dn, ze, lo, hi, ne, fail, ◌⇒◌, ◌&◌, ◌or◌, ev, Is, Pos, Neg, Zero, Low, High, Off, fire, left, right, either, test2, test3, test4, every2, every3, every4, zero-eq, sg-mul, bal, bal-mul, bal-mul3, lin, add3}
use Rattle.signs.specs.Order.{sign_of, pos-sg, neg-sg, zero-sg, neg-high, pos-neg, square2-high, square2-zero, neg-pos, neg-nil, sub-flip}
use Rattle.cells.specs.Points.{dots, ray, parts, flat, reverse, open-parts, ray-parts, affine, dot-back, back}

-- two places that are not one
abbrev pub Apart : Place → Place → Type 0
Apart a b = a.x ≡ b.x → a.y ≡ b.y → ⊥

pub sq-high : (a q : Place) → High (dots a a q)
unfolding dot_of
sq-high a q = square2-high (a.x -ℤ q.x) (a.y -ℤ q.y)

pub same_of : (u v : ℤ) → Zero (u -ℤ v) → u ≡ v
same_of u v h = sym (-ℤ-+ℤ_cancel u v) ∙ ap (λ (z : ℤ). z +ℤ v) (zero-eq h) ∙ +ℤ_idl v

pub sq-zero : (a q : Place) → Zero (dots a a q) → (a.x ≡ q.x) × (a.y ≡ q.y)
unfolding dot_of
sq-zero a q h =
    let z = square2-zero (a.x -ℤ q.x) (a.y -ℤ q.y) h in
    (same_of a.x q.x z.0, same_of a.y q.y z.1)

pub sq_pos : (a q : Place) → Apart a q → Pos (dots a a q)
sq_pos a q n = pick (sign_of (dots a a q))
  where
    pick : Neg (dots a a q) ⊎ (Zero (dots a a q) ⊎ Pos (dots a a q)) → Pos (dots a a q)
    pick (inl h) = absurd (neg-high h (sq-high a q))
    pick (inr (inl h)) = let z = sq-zero a q h in absurd (n z.0 z.1)
    pick (inr (inr h)) = h

-- of two places that are apart one is not q
pub not-both-zero : (a b q : Place) → Apart a b → Is (ze (sg (dots a a q)) & ze (sg (dots b b q)) ⇒ fail)
unfolding ev
not-both-zero a b q n = pick (sign_of (dots a a q)) (sign_of (dots b b q))
  where
    pick : Neg (dots a a q) ⊎ (Zero (dots a a q) ⊎ Pos (dots a a q)) → Neg (dots b b q) ⊎ (Zero (dots b b q) ⊎ Pos (dots b b q)) → Is (ze (sg (dots a a q)) & ze (sg (dots b b q)) ⇒ fail)
    pick (inl h) k = absurd (neg-high h (sq-high a q))
    pick (inr (inr h)) k = rw (pos-sg h) (record { is = tt })
    pick (inr (inl h)) (inl k) = absurd (neg-high k (sq-high b q))
    pick (inr (inl h)) (inr (inr k)) = rw (zero-sg h, pos-sg k) (record { is = tt })
    pick (inr (inl h)) (inr (inl k)) =
        let y = sq-zero a q h in
        let z = sq-zero b q k in
        absurd (n (y.0 ∙ sym z.0) (y.1 ∙ sym z.1))

-- a triangle does not lie on a line
pub not-flat : (p r a b c : Place) → Pos (dots r r p) → Pos (side a b c) → Zero (side p r a) → Zero (side p r b) → Zero (side p r c) → ⊥
unfolding ev ◌⊙◌
not-flat p r a b c h d x y z =
    (rw (pos-sg h, pos-sg d, zero-sg x, zero-sg y, zero-sg z) at (bal-mul (dots r r p) (side a b c) (side p r a) (dots r b p -ℤ dots r c p) (side p r b) (dots r c p -ℤ dots r a p) (side p r c) (dots r a p -ℤ dots r b p) (flat p r a b c))).is

-- at one place z: where the second step turns back, z right of or on the first is on the line of the second
pub on_line : (a b e z : Place) → Pos (dots a a b) → Zero (side a b e) → High (dots a e b) → Low (side a b z) → Low (side b e z) → Zero (side b e z)
unfolding test3 ◌⊙◌ flip
on_line a b e z h o d l k =
    let n : Zero (side b a e) = neg-nil (back a b e) o in
    let s : Is (bal (sg (side b e z)) (sg (dots a e b) ⊙ sg (side a b z)) nil nil) =
    rw (pos-sg h, zero-sg n) at (bal-mul3 (dots a a b) (side b e z) (dots a e b) (side a b z) (side b a e) (dots a z b) (reverse a b e z)) in
    record {
      is =
          fire (fire (fire (fire (every3 (λ x u v. bal x (u ⊙ v) nil nil ⇒ hi u ⇒ lo v ⇒ lo x ⇒ ze x) tt (sg (side b e z)) (sg (dots a e b)) (sg (side a b z))) s) d.is) l.is) k.is;
    }

-- the three parts of a triangle are not all at most 0
not_low : (a b c q : Place) → Pos (side a b c) → Is (lo (sg (side a b q)) & lo (sg (side b c q)) & lo (sg (side c a q)) ⇒ fail)
unfolding test3 flip
not_low a b c q d =
    let s : Is (bal below (sg (side a b q)) (sg (side b c q)) (sg (side c a q))) =
    rw (pos-sg d) at (add3 (side a b c) (side a b q) (side b c q) (side c a q) (parts a b c q)) in
    fire (every3 (λ x y z. bal below x y z ⇒ lo x & lo y & lo z ⇒ fail) tt (sg (side a b q)) (sg (side b c q)) (sg (side c a q))) s

not-low2 : (a b c q : Place) → Pos (side a b c) → Zero (side a b q) → Is (lo (sg (side b c q)) & lo (sg (side c a q)) ⇒ fail)
unfolding test2
not-low2 a b c q d z =
    let s : Is (lo nil & lo (sg (side b c q)) & lo (sg (side c a q)) ⇒ fail) = rw (zero-sg z) at (not_low a b c q d) in
    fire (every2 (λ x y. (lo nil & lo x & lo y ⇒ fail) ⇒ lo x & lo y ⇒ fail) tt (sg (side b c q)) (sg (side c a q))) s

-- two relations where q is on the line a b
open-a : (a b c q : Place) → Zero (side a b q) → Is (bal (sg (dots a a q) ⊙ sg (side b c q)) (sg (dots a b q) ⊙ sg (side c a q)) nil nil)
unfolding test4 ◌⊙◌ flip
open-a a b c q z =
    let s : Is (bal (sg (dots a a q) ⊙ sg (side b c q)) (sg (dots a b q) ⊙ sg (side c a q)) (sg (dots a c q) ⊙ nil) nil) =
    rw (zero-sg z) at (bal-mul3 (dots a a q) (side b c q) (dots a b q) (side c a q) (dots a c q) (side a b q) (open-parts a b c q)) in
    fire (every3 (λ x y t. bal x y (t ⊙ nil) nil ⇒ bal x y nil nil) (unfold test3 in tt) (sg (dots a a q) ⊙ sg (side b c q)) (sg (dots a b q) ⊙ sg (side c a q)) (sg (dots a c q))) s

open-b : (a b c q : Place) → Zero (side a b q) → Is (bal (sg (dots b b q) ⊙ sg (side c a q)) (sg (dots a b q) ⊙ sg (side b c q)) nil nil)
unfolding test3 ◌⊙◌ flip
open-b a b c q z =
    let s : Is (bal (sg (dots b b q) ⊙ sg (side c a q)) (sg (dots b c q) ⊙ nil) (sg (dots a b q) ⊙ sg (side b c q)) nil) =
    rw (zero-sg z, ← dot-back a b q) at (bal-mul3 (dots b b q) (side c a q) (dots b c q) (side a b q) (dots b a q) (side b c q) (open-parts b c a q)) in
    fire (every3 (λ x y t. bal x (t ⊙ nil) y nil ⇒ bal x y nil nil) tt (sg (dots b b q) ⊙ sg (side c a q)) (sg (dots a b q) ⊙ sg (side b c q)) (sg (dots b c q))) s

-- a place on the open side a b is strictly left of the other two
pub open-left : (a b c q : Place) → Pos (side a b c) → Zero (side a b q) → Neg (dots a b q) → Pos (side b c q) × Pos (side c a q)
unfolding test4 ◌⊙◌ flip
open-left a b c q d z n =
    let x : Is (bal (sg (dots a a q) ⊙ sg (side b c q)) (flip (sg (side c a q))) nil nil) = rw (neg-sg n) at (open-a a b c q z) in
    let y : Is (bal (sg (dots b b q) ⊙ sg (side c a q)) (flip (sg (side b c q))) nil nil) = rw (neg-sg n) at (open-b a b c q z) in
    let r : Is (up (sg (side b c q)) & up (sg (side c a q))) =
    fire (fire (fire (fire (fire (every4 (λ u v s t. bal (u ⊙ s) (flip t) nil nil ⇒ bal (v ⊙ t) (flip s) nil nil ⇒ hi u ⇒ hi v ⇒ (lo s & lo t ⇒ fail) ⇒ up s & up t) tt
    (sg (dots a a q)) (sg (dots b b q)) (sg (side b c q)) (sg (side c a q))) x) y) (sq-high a q).is) (sq-high b q).is) (not-low2 a b c q d z) in
    (record { is = left r }, record { is = right r })

-- and the other way
pub left_open : (a b c q : Place) → Apart a b → Zero (side a b q) → Pos (side b c q) → Pos (side c a q) → Neg (dots a b q)
unfolding test3 ◌⊙◌ flip
left_open a b c q n z h k =
    let x : Is (bal (sg (dots a a q) ⊙ above) (sg (dots a b q) ⊙ above) nil nil) = rw (pos-sg h, pos-sg k) at (open-a a b c q z) in
    let y : Is (bal (sg (dots b b q) ⊙ above) (sg (dots a b q) ⊙ above) nil nil) = rw (pos-sg h, pos-sg k) at (open-b a b c q z) in
    record {
      is =
          fire (fire (fire (fire (fire (every3 (λ u v s. bal (u ⊙ above) (s ⊙ above) nil nil ⇒ bal (v ⊙ above) (s ⊙ above) nil nil ⇒ hi u ⇒ hi v ⇒ (ze u & ze v ⇒ fail) ⇒ dn s) tt
          (sg (dots a a q)) (sg (dots b b q)) (sg (dots a b q))) x) y) (sq-high a q).is) (sq-high b q).is) (not-both-zero a b q n);
    }

-- the ray's relation where q is on the line a b
ray-on : (ρ q a b c : Place) → Zero (side a b q) → Is (bal (sg (ray ρ q a) ⊙ sg (side b c q)) (sg (ray ρ q b) ⊙ sg (side c a q)) nil nil)
unfolding test3 ◌⊙◌ flip
ray-on ρ q a b c z =
    let s : Is (bal (sg (ray ρ q a) ⊙ sg (side b c q)) (sg (ray ρ q b) ⊙ sg (side c a q)) (sg (ray ρ q c) ⊙ nil) nil) =
    rw (zero-sg z) at (bal-mul3 (ray ρ q a) (side b c q) (ray ρ q b) (side c a q) (ray ρ q c) (side a b q) (ray-parts ρ q a b c)) in
    fire (every3 (λ x y t. bal x y (t ⊙ nil) nil ⇒ bal x y nil nil) tt (sg (ray ρ q a) ⊙ sg (side b c q)) (sg (ray ρ q b) ⊙ sg (side c a q)) (sg (ray ρ q c))) s

-- where a ray from it has a and b on different sides, it is strictly left of the other two
pub ray-left : (ρ q a b c : Place) → Pos (side a b c) → Zero (side a b q) → Is (up (sg (ray ρ q a)) & dn (sg (ray ρ q b)) or dn (sg (ray ρ q a)) & up (sg (ray ρ q b))) → Pos (side b c q) × Pos (side c a q)
unfolding test4 ◌⊙◌ flip
ray-left ρ q a b c d z h =
    let r : Is (up (sg (side b c q)) & up (sg (side c a q))) =
    fire (fire (fire (every4 (λ u v s t. bal (u ⊙ s) (v ⊙ t) nil nil ⇒ (up u & dn v or dn u & up v) ⇒ (lo s & lo t ⇒ fail) ⇒ up s & up t) tt
    (sg (ray ρ q a)) (sg (ray ρ q b)) (sg (side b c q)) (sg (side c a q))) (ray-on ρ q a b c z)) h) (not-low2 a b c q d z) in
    (record { is = left r }, record { is = right r })

-- and a ray from it that tells a from q has a and b on different sides
pub left-ray : (ρ q a b c : Place) → Zero (side a b q) → Pos (side b c q) → Pos (side c a q) → Off (ray ρ q a) → Is (up (sg (ray ρ q a)) & dn (sg (ray ρ q b)) or dn (sg (ray ρ q a)) & up (sg (ray ρ q b)))
unfolding test2 ◌⊙◌ flip
left-ray ρ q a b c z h k o =
    let s : Is (bal (sg (ray ρ q a) ⊙ above) (sg (ray ρ q b) ⊙ above) nil nil) = rw (pos-sg h, pos-sg k) at (ray-on ρ q a b c z) in
    fire (fire (every2 (λ u v. bal (u ⊙ above) (v ⊙ above) nil nil ⇒ ne u ⇒ up u & dn v or dn u & up v) tt (sg (ray ρ q a)) (sg (ray ρ q b))) s) o.is

-- ---- a line p r that has no corner strictly left
-- inside a triangle is strictly right of it
pub inside-right : (p r a b c q : Place) → Apart r p → Pos (side a b c) → Pos (side a b q) → Pos (side b c q) → Pos (side c a q) → Low (side p r a) → Low (side p r b) → Low (side p r c) → Neg (side p r q)
unfolding test4 ◌⊙◌ flip
inside-right p r a b c q n d h k l x y z =
    let s : Is (bal (flip (sg (side a b c *ℤ side p r q))) (sg (side p r a)) (sg (side p r b)) (sg (side p r c))) =
    rw (pos-sg h, pos-sg k, pos-sg l) at (lin (side a b c *ℤ side p r q) (side b c q) (side p r a) (side c a q) (side p r b) (side a b q) (side p r c) (affine p r a b c q)) in
    let t : Is (bal (flip (sg (side p r q))) (sg (side p r a)) (sg (side p r b)) (sg (side p r c))) =
    rw (sg-mul (side a b c) (side p r q), pos-sg d) at s in
    pick (either (fire (fire (fire (fire (every4 (λ u v w g. bal (flip g) u v w ⇒ lo u ⇒ lo v ⇒ lo w ⇒ dn g or ze u & ze v & ze w) tt
    (sg (side p r a)) (sg (side p r b)) (sg (side p r c)) (sg (side p r q))) t) x.is) y.is) z.is))
  where
    pick : Is (dn (sg (side p r q))) ⊎ Is (ze (sg (side p r a)) & ze (sg (side p r b)) & ze (sg (side p r c))) → Neg (side p r q)
    pick (inl g) = record { is = g }
    pick (inr g) =
        absurd (not-flat p r a b c (sq_pos r p n) d (record { is = left g }) (record { is = left (right g) }) (record { is = right (right g) }))

-- a place on the open side a b, by the ends alone
edge-parts : (p r a b c q : Place) → Pos (side a b c) → Zero (side a b q) → Neg (dots a b q) → Is (bal (flip (sg (side p r q))) (sg (side p r a)) (sg (side p r b)) nil)
unfolding ◌⊙◌
edge-parts p r a b c q d o m =
    let hk = open-left a b c q d o m in
    let s : Is (bal (flip (sg (side a b c *ℤ side p r q))) (sg (side p r a)) (sg (side p r b)) nil) =
    rw (zero-sg o, pos-sg hk.0, pos-sg hk.1) at (lin (side a b c *ℤ side p r q) (side b c q) (side p r a) (side c a q) (side p r b) (side a b q) (side p r c) (affine p r a b c q)) in
    rw (sg-mul (side a b c) (side p r q), pos-sg d) at s

-- is not strictly left of it
pub edge-low : (p r a b c q : Place) → Pos (side a b c) → Zero (side a b q) → Neg (dots a b q) → Low (side p r a) → Low (side p r b) → Low (side p r q)
unfolding test3 flip
edge-low p r a b c q d o m x y =
    record {
      is = fire (fire (fire (every3 (λ u v g. bal (flip g) u v nil ⇒ lo u ⇒ lo v ⇒ lo g) tt
          (sg (side p r a)) (sg (side p r b)) (sg (side p r q))) (edge-parts p r a b c q d o m)) x.is) y.is;
    }

-- and strictly right of it where the side is between two triangles
turned : (p r a b c : Place) → Pos (dots r r p) → Pos (side a b c) → Zero (side p r a) → Zero (side p r b) → Low (side p r c) → Pos (dots r a p -ℤ dots r b p)
unfolding test4 ◌⊙◌ flip
turned p r a b c h d x y z =
    let s : Is (bal above nil nil (sg (side p r c) ⊙ sg (dots r a p -ℤ dots r b p))) =
    rw (pos-sg h, pos-sg d, zero-sg x, zero-sg y) at (bal-mul (dots r r p) (side a b c) (side p r a) (dots r b p -ℤ dots r c p) (side p r b) (dots r c p -ℤ dots r a p) (side p r c) (dots r a p -ℤ dots r b p) (flat p r a b c)) in
    record { is = fire (fire (every2 (λ u v. bal above nil nil (u ⊙ v) ⇒ lo u ⇒ up v) (unfold test2 in tt) (sg (side p r c)) (sg (dots r a p -ℤ dots r b p))) s) z.is }

pub edge-right : (p r a b c e q : Place) → Apart r p → Pos (side a b c) → Pos (side b a e) → Zero (side a b q) → Neg (dots a b q) → Low (side p r a) → Low (side p r b) → Low (side p r c) → Low (side p r e) → Neg (side p r q)
unfolding test3 ◌⊙◌ flip
edge-right p r a b c e q n d d' o m x y z w =
    pick (either (fire (fire (fire (every3 (λ u v g. bal (flip g) u v nil ⇒ lo u ⇒ lo v ⇒ dn g or ze u & ze v) tt
    (sg (side p r a)) (sg (side p r b)) (sg (side p r q))) (edge-parts p r a b c q d o m)) x.is) y.is))
  where
    pick : Is (dn (sg (side p r q))) ⊎ Is (ze (sg (side p r a)) & ze (sg (side p r b))) → Neg (side p r q)
    pick (inl g) = record { is = g }
    pick (inr g) =
        let h = sq_pos r p n in
        let one = turned p r a b c h d (record { is = left g }) (record { is = right g }) z in
        let two = turned p r b a e h d' (record { is = right g }) (record { is = left g }) w in
        absurd (pos-neg two (neg-pos (sub-flip (dots r a p) (dots r b p)) one))
