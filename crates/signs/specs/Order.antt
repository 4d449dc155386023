-- Laws of order that the enumeration of signs proves, and the tests of the definitions in signs. Assumes nothing.
use Rattle.std.specs.Prelude.{◌≡◌, refl, ◌⊎◌, true, false, ℕ, zero, suc, ◌<◌, ℤ, pos, negsuc, neg_ℤ, ◌+ℤ◌, ◌-ℤ◌, ◌*ℤ◌}
use Rattle.std.proofs.Common.{sym, ap, ◌∙◌, inl, inr, zero-le, lt-ltb, le-ltb, arith}
use Rattle.std.proofs.lemmas.Bool.{false≢true}
use Rattle.std.proofs.Math.IntN.{neg_ℤ-+ℤ, neg_ℤ-neg_ℤ, +ℤ_comm}
use Rattle.std.specs.Int.Signed.{lt_z}
use Rattle.whole.specs.Bools.{is_false}
use Rattle.signs.specs.Signs.{S, below, nil, above, sg, flip, ◌⊙◌, up, dn, ze, lo, hi, ne, fail, ◌⇒◌, ◌&◌, ◌or◌, ev, Is, Pos, Neg, Zero, Low, High, Off, fire, left, right, either, never, test1, test3, every1, every3, sg-mul, sg-neg, poss, sum-ok}

-- ---- one number
pub sign_of : (z : ℤ) → Neg z ⊎ (Zero z ⊎ Pos z)
unfolding sg ev
sign_of (pos zero) = inr (inl (record { is = record { is = tt } }))
sign_of (pos (suc n)) = inr (inr (record { is = record { is = tt } }))
sign_of (negsuc n) = inl (record { is = record { is = tt } })

-- of a natural number, and of one below 0
pub nat-high : (n : ℕ) → High (pos n)
unfolding sg ev
nat-high zero = record { is = record { is = tt } }
nat-high (suc n) = record { is = record { is = tt } }

pub nat-pos : (n : ℕ) → 0 < n → Pos (pos n)
unfolding sg ev
nat-pos zero h = absurd (omega arith)
nat-pos (suc n) h = record { is = record { is = tt } }

pub pos-nat : (n : ℕ) → Pos (pos n) → 0 < n
unfolding sg ev
pos-nat zero h = absurd h.is.is
pos-nat (suc n) h = omega arith

pub not-high : {X : Type 0} {n : ℕ} → High (negsuc n) → X
unfolding sg ev
not-high h = absurd h.is.is

pub one-pos : Pos (pos 1)
unfolding sg ev
one-pos = record { is = record { is = tt } }

up_is : (s : S) → Is (up s) → s ≡ above
unfolding ev
up_is below h = absurd h.is
up_is nil h = absurd h.is
up_is above h = refl

dn-is : (s : S) → Is (dn s) → s ≡ below
unfolding ev
dn-is below h = refl
dn-is nil h = absurd h.is
dn-is above h = absurd h.is

ze-is : (s : S) → Is (ze s) → s ≡ nil
unfolding ev
ze-is below h = absurd h.is
ze-is nil h = refl
ze-is above h = absurd h.is

pub pos-sg : {z : ℤ} → Pos z → sg z ≡ above
pos-sg {z} h = up_is (sg z) h.is

pub neg-sg : {z : ℤ} → Neg z → sg z ≡ below
neg-sg {z} h = dn-is (sg z) h.is

pub zero-sg : {z : ℤ} → Zero z → sg z ≡ nil
zero-sg {z} h = ze-is (sg z) h.is

-- ---- one sign from another
pub pos-high : {z : ℤ} → Pos z → High z
unfolding test1
pos-high {z} h = record { is = fire (every1 (λ a. up a ⇒ hi a) tt (sg z)) h.is }

pub neg_low : {z : ℤ} → Neg z → Low z
unfolding test1
neg_low {z} h = record { is = fire (every1 (λ a. dn a ⇒ lo a) tt (sg z)) h.is }

pub zero-low : {z : ℤ} → Zero z → Low z
unfolding test1
zero-low {z} h = record { is = fire (every1 (λ a. ze a ⇒ lo a) tt (sg z)) h.is }

pub zero_high : {z : ℤ} → Zero z → High z
unfolding test1
zero_high {z} h = record { is = fire (every1 (λ a. ze a ⇒ hi a) tt (sg z)) h.is }

pub low-high : {z : ℤ} → Low z → High z → Zero z
unfolding test1
low-high {z} h k = record { is = fire (fire (every1 (λ a. lo a ⇒ hi a ⇒ ze a) tt (sg z)) h.is) k.is }

pub pos-low : {z : ℤ} → Pos z → Low z → ⊥
unfolding test1
pos-low {z} h k = never (fire (fire (every1 (λ a. up a ⇒ lo a ⇒ fail) tt (sg z)) h.is) k.is)

pub neg-high : {z : ℤ} → Neg z → High z → ⊥
unfolding test1
neg-high {z} h k = never (fire (fire (every1 (λ a. dn a ⇒ hi a ⇒ fail) tt (sg z)) h.is) k.is)

pub pos-zero : {z : ℤ} → Pos z → Zero z → ⊥
pos-zero h k = pos-low h (zero-low k)

pub neg-zero : {z : ℤ} → Neg z → Zero z → ⊥
neg-zero h k = neg-high h (zero_high k)

pub pos-neg : {z : ℤ} → Pos z → Neg z → ⊥
pos-neg h k = pos-low h (neg_low k)

pub low-or-pos : (z : ℤ) → Low z ⊎ Pos z
unfolding test1
low-or-pos z = pick (either (every1 (λ a. lo a or up a) tt (sg z)))
  where
    pick : Is (lo (sg z)) ⊎ Is (up (sg z)) → Low z ⊎ Pos z
    pick (inl h) = inl (record { is = h })
    pick (inr h) = inr (record { is = h })

pub neg-or-high : (z : ℤ) → Neg z ⊎ High z
unfolding test1
neg-or-high z = pick (either (every1 (λ a. dn a or hi a) tt (sg z)))
  where
    pick : Is (dn (sg z)) ⊎ Is (hi (sg z)) → Neg z ⊎ High z
    pick (inl h) = inl (record { is = h })
    pick (inr h) = inr (record { is = h })

pub off-or-zero : (z : ℤ) → Off z ⊎ Zero z
unfolding test1
off-or-zero z = pick (either (every1 (λ a. ne a or ze a) tt (sg z)))
  where
    pick : Is (ne (sg z)) ⊎ Is (ze (sg z)) → Off z ⊎ Zero z
    pick (inl h) = inl (record { is = h })
    pick (inr h) = inr (record { is = h })

pub off-cases : {z : ℤ} → Off z → Neg z ⊎ Pos z
unfolding test1
off-cases {z} o = pick (either (fire (every1 (λ a. ne a ⇒ dn a or up a) tt (sg z)) o.is))
  where
    pick : Is (dn (sg z)) ⊎ Is (up (sg z)) → Neg z ⊎ Pos z
    pick (inl h) = inl (record { is = h })
    pick (inr h) = inr (record { is = h })

-- ---- the tests of the definitions
pub test-pos : {z : ℤ} → lt_z (pos 0) z ≡ true → Pos z
unfolding sg ev
test-pos {z = pos zero} e = absurd (false≢true e)
test-pos {z = pos (suc n)} e = record { is = record { is = tt } }
test-pos {z = negsuc n} e = absurd (false≢true e)

pub pos-test : {z : ℤ} → Pos z → lt_z (pos 0) z ≡ true
unfolding sg ev
pos-test {z = pos zero} h = absurd h.is.is
pos-test {z = pos (suc n)} h = lt-ltb 0 (suc n) (omega arith)
pos-test {z = negsuc n} h = absurd h.is.is

pub test-neg : {z : ℤ} → lt_z z (pos 0) ≡ true → Neg z
unfolding sg ev
test-neg {z = pos n} e = absurd (false≢true (sym (le-ltb n 0 zero-le) ∙ e))
test-neg {z = negsuc n} e = record { is = record { is = tt } }

pub neg-test : {z : ℤ} → Neg z → lt_z z (pos 0) ≡ true
unfolding sg ev
neg-test {z = pos zero} h = absurd h.is.is
neg-test {z = pos (suc n)} h = absurd h.is.is
neg-test {z = negsuc n} h = refl

pub not-pos : {z : ℤ} → (Pos z → ⊥) → Low z
not-pos {z} h = pick (low-or-pos z)
  where
    pick : Low z ⊎ Pos z → Low z
    pick (inl l) = l
    pick (inr p) = absurd (h p)

pub test_low : {z : ℤ} → lt_z (pos 0) z ≡ false → Low z
test_low e = not-pos (λ p. false≢true (sym e ∙ pos-test p))

pub low-test : {z : ℤ} → Low z → lt_z (pos 0) z ≡ false
low-test {z} h = is_false (lt_z (pos 0) z) (λ e. pos-low (test-pos e) h)

-- ---- the negation
pub neg-pos : {y z : ℤ} → y ≡ neg_ℤ z → Pos z → Neg y
unfolding flip ev
neg-pos {y} {z} e h = record { is = rw (e, sg-neg z, pos-sg h) (record { is = tt }) }

pub neg-neg : {y z : ℤ} → y ≡ neg_ℤ z → Neg z → Pos y
unfolding flip ev
neg-neg {y} {z} e h = record { is = rw (e, sg-neg z, neg-sg h) (record { is = tt }) }

pub neg-nil : {y z : ℤ} → y ≡ neg_ℤ z → Zero z → Zero y
unfolding flip ev
neg-nil {y} {z} e h = record { is = rw (e, sg-neg z, zero-sg h) (record { is = tt }) }

pub neg-lo : {y z : ℤ} → y ≡ neg_ℤ z → Low z → High y
unfolding flip test1
neg-lo {y} {z} e h = record { is = rw (e, sg-neg z) (fire (every1 (λ a. lo a ⇒ hi (flip a)) tt (sg z)) h.is) }

pub neg-hi : {y z : ℤ} → y ≡ neg_ℤ z → High z → Low y
unfolding flip test1
neg-hi {y} {z} e h = record { is = rw (e, sg-neg z) (fire (every1 (λ a. hi a ⇒ lo (flip a)) tt (sg z)) h.is) }

pub neg-ne : {y z : ℤ} → y ≡ neg_ℤ z → Off z → Off y
unfolding flip test1
neg-ne {y} {z} e h = record { is = rw (e, sg-neg z) (fire (every1 (λ a. ne a ⇒ ne (flip a)) tt (sg z)) h.is) }

pub sub-flip : (x y : ℤ) → y -ℤ x ≡ neg_ℤ (x -ℤ y)
sub-flip x y = sym (neg_ℤ-+ℤ x (neg_ℤ y) ∙ ap (λ (u : ℤ). neg_ℤ x +ℤ u) (neg_ℤ-neg_ℤ y) ∙ +ℤ_comm (neg_ℤ x) y)

-- ---- sums and differences
pub add-high : {x y : ℤ} → High x → High y → High (x +ℤ y)
unfolding test3
add-high {x} {y} h k =
    record { is = fire (fire (fire (every3 (λ a b c. poss a b c ⇒ hi a ⇒ hi b ⇒ hi c) tt (sg x) (sg y) (sg (x +ℤ y))) (sum-ok x y)) h.is) k.is }

pub add_low : {x y : ℤ} → Low x → Low y → Low (x +ℤ y)
unfolding test3
add_low {x} {y} h k =
    record { is = fire (fire (fire (every3 (λ a b c. poss a b c ⇒ lo a ⇒ lo b ⇒ lo c) tt (sg x) (sg y) (sg (x +ℤ y))) (sum-ok x y)) h.is) k.is }

pub add-pos : {x y : ℤ} → Pos x → High y → Pos (x +ℤ y)
unfolding test3
add-pos {x} {y} h k =
    record { is = fire (fire (fire (every3 (λ a b c. poss a b c ⇒ up a ⇒ hi b ⇒ up c) tt (sg x) (sg y) (sg (x +ℤ y))) (sum-ok x y)) h.is) k.is }

pub add-neg : {x y : ℤ} → Neg x → Low y → Neg (x +ℤ y)
unfolding test3
add-neg {x} {y} h k =
    record { is = fire (fire (fire (every3 (λ a b c. poss a b c ⇒ dn a ⇒ lo b ⇒ dn c) tt (sg x) (sg y) (sg (x +ℤ y))) (sum-ok x y)) h.is) k.is }

-- ---- products
pub mul-pos : {x y : ℤ} → Pos x → Pos y → Pos (x *ℤ y)
unfolding ev ◌⊙◌
mul-pos {x} {y} h k = record { is = rw (sg-mul x y, pos-sg h, pos-sg k) (record { is = tt }) }

-- the other factor
pub cancel-pos : (x y : ℤ) → Pos x → Pos (x *ℤ y) → Pos y
unfolding ◌⊙◌
cancel-pos x y h k = record { is = rw (sg-mul x y, pos-sg h) at k.is }

-- two numbers whose product and sum are above 0
pub both-pos : (x y : ℤ) → Pos (x *ℤ y) → Pos (x +ℤ y) → Pos x × Pos y
unfolding test3 ◌⊙◌ flip
both-pos x y p s =
    let m : Is (up (sg x ⊙ sg y)) = rw (sg-mul x y) at p.is in
    let r = fire (fire (fire (every3 (λ a b c. poss a b c ⇒ up (a ⊙ b) ⇒ up c ⇒ up a & up b) tt (sg x) (sg y) (sg (x +ℤ y))) (sum-ok x y)) m) s.is in
    (record { is = left r }, record { is = right r })

-- ---- squares
squares : (u v : ℤ) → Is (hi (sg (u *ℤ u +ℤ v *ℤ v)) & (ze (sg (u *ℤ u +ℤ v *ℤ v)) ⇒ ze (sg u) & ze (sg v)))
unfolding test3 ◌⊙◌ flip
squares u v =
    let s : Is (poss (sg u ⊙ sg u) (sg v ⊙ sg v) (sg (u *ℤ u +ℤ v *ℤ v))) =
    rw (sg-mul u u, sg-mul v v) at (sum-ok (u *ℤ u) (v *ℤ v)) in
    fire (every3 (λ a b c. poss (a ⊙ a) (b ⊙ b) c ⇒ hi c & (ze c ⇒ ze a & ze b)) tt (sg u) (sg v) (sg (u *ℤ u +ℤ v *ℤ v))) s

pub square2-high : (u v : ℤ) → High (u *ℤ u +ℤ v *ℤ v)
square2-high u v = record { is = left (squares u v) }

pub square2-zero : (u v : ℤ) → Zero (u *ℤ u +ℤ v *ℤ v) → Zero u × Zero v
square2-zero u v h = let s = fire (right (squares u v)) h.is in (record { is = left s }, record { is = right s })
