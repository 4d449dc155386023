-- Signs of whole numbers. `sg z` is one of three signs, the sign of a product is the product of the signs, and `poss` says which signs a sum can have:
-- so a law of order is a test over all signs, which computes: `use` takes its premises one by one. Assumes nothing.
use Rattle.std.specs.Prelude.{◌≡◌, refl, ◌||◌, Bool, true, false, not, ◌&&◌, ◌⊎◌, ℕ, zero, suc, ◌+◌, ◌*◌, T, [], ◌∷◌, ℤ, pos, negsuc, neg_ℤ, ◌+ℤ◌, ◌*ℤ◌}
use Rattle.std.proofs.Common.{sym, subst, ap, ◌∙◌, inl, inr, arith}
use Rattle.whole.specs.Bools.{is_false}
use Rattle.whole.specs.Poly.{var, con, ◌⊕◌, ◌⊖◌, env, agree, solve! }
use Rattle.std.proofs.Math.IntN.{+ℤ_idl, +ℤ_idr}

pub data S : Type 0 where
  below nil above : S

unfoldable pub sg : ℤ → S
sg (pos zero) = nil
sg (pos (suc n)) = above
sg (negsuc n) = below

unfoldable pub flip : S → S
flip below = above
flip nil = nil
flip above = below

infixl 7 ◌⊙◌
unfoldable pub ◌⊙◌ : S → S → S
below ⊙ s = flip s
nil ⊙ s = nil
above ⊙ s = s

-- ---- tests on signs, as formulas: constructors, so that antt finds the parts. `up` above 0, `dn` below, `ze` 0, `lo` at most, `hi` at least, `ne` not 0
infixr 2 ◌⇒◌
infixr 4 ◌&◌
infixr 3 ◌or◌
pub data Fm : Type 0 where
  up dn ze lo hi ne : S → Fm
  fail : Fm
  ◌⇒◌ ◌&◌ ◌or◌ : Fm → Fm → Fm

unfoldable pub ev : Fm → Bool
ev (up below) = false
ev (up nil) = false
ev (up above) = true
ev (dn below) = true
ev (dn nil) = false
ev (dn above) = false
ev (ze below) = false
ev (ze nil) = true
ev (ze above) = false
ev (lo below) = true
ev (lo nil) = true
ev (lo above) = false
ev (hi below) = false
ev (hi nil) = true
ev (hi above) = true
ev (ne below) = true
ev (ne nil) = false
ev (ne above) = true
ev fail = false
ev (a ⇒ b) = not (ev a) || ev b
ev (a & b) = ev a && ev b
ev (a or b) = ev a || ev b

-- ---- a formula that holds
pub record Is (f : Fm) : Type 0 where
  pub is : T (ev f)

pub record Pos (z : ℤ) : Type 0 where
  pub is : Is (up (sg z))

pub record Neg (z : ℤ) : Type 0 where
  pub is : Is (dn (sg z))

pub record Zero (z : ℤ) : Type 0 where
  pub is : Is (ze (sg z))

pub record Low (z : ℤ) : Type 0 where
  pub is : Is (lo (sg z))

pub record High (z : ℤ) : Type 0 where
  pub is : Is (hi (sg z))

pub record Off (z : ℤ) : Type 0 where
  pub is : Is (ne (sg z))

fire-T : (a b : Bool) → T (not a || b) → T a → T b
fire-T true b h t = h
fire-T false b h t = absurd t

left-T : (a b : Bool) → T (a && b) → T a
left-T true b h = tt
left-T false b h = h

right-T : (a b : Bool) → T (a && b) → T b
right-T true b h = h
right-T false b h = absurd h

both-T : (a b : Bool) → T a → T b → T (a && b)
both-T true b h k = k
both-T false b h k = h

pub fire : {a b : Fm} → Is (a ⇒ b) → Is a → Is b
unfolding ev
fire {a} {b} h k = record { is = fire-T (ev a) (ev b) h.is k.is }

pub left : {a b : Fm} → Is (a & b) → Is a
unfolding ev
left {a} {b} h = record { is = left-T (ev a) (ev b) h.is }

pub right : {a b : Fm} → Is (a & b) → Is b
unfolding ev
right {a} {b} h = record { is = right-T (ev a) (ev b) h.is }

pub both : {a b : Fm} → Is a → Is b → Is (a & b)
unfolding ev
both {a} {b} h k = record { is = both-T (ev a) (ev b) h.is k.is }

or-T : (a b : Bool) → T (a || b) → T a ⊎ T b
or-T true b h = inl tt
or-T false b h = inr h

pub either : {a b : Fm} → Is (a or b) → Is a ⊎ Is b
unfolding ev
either {a} {b} h = pick (or-T (ev a) (ev b) h.is)
  where
    pick : T (ev a) ⊎ T (ev b) → Is a ⊎ Is b
    pick (inl t) = inl (record { is = t })
    pick (inr t) = inr (record { is = t })

pub never : {X : Type 0} → Is fail → X
unfolding ev
never h = absurd h.is

-- ---- a test of all signs
unfoldable pub all : (S → Bool) → Bool
all p = p below && (p nil && p above)

all-T : (p : S → Bool) (s : S) → T (all p) → T (p s)
unfolding all
all-T p below h = left-T (p below) (p nil && p above) h
all-T p nil h = left-T (p nil) (p above) (right-T (p below) (p nil && p above) h)
all-T p above h = right-T (p nil) (p above) (right-T (p below) (p nil && p above) h)

unfoldable pub test1 : (S → Fm) → Bool
unfolding all ev
test1 p = all (λ a. ev (p a))

pub every1 : (p : S → Fm) → T (test1 p) → (a : S) → Is (p a)
unfolding test1
every1 p t a = record { is = all-T (λ x. ev (p x)) a t }

unfoldable pub test2 : (S → S → Fm) → Bool
unfolding all ev
test2 p = all (λ a. all (λ b. ev (p a b)))

pub every2 : (p : S → S → Fm) → T (test2 p) → (a b : S) → Is (p a b)
unfolding test2 test1
every2 p t a b = every1 (p a) (all-T (λ x. all (λ b. ev (p x b))) a t) b

unfoldable pub test3 : (S → S → S → Fm) → Bool
unfolding all ev
test3 p = all (λ a. all (λ b. all (λ c. ev (p a b c))))

pub every3 : (p : S → S → S → Fm) → T (test3 p) → (a b c : S) → Is (p a b c)
unfolding test3 test2
every3 p t a b c = every2 (p a) (all-T (λ x. all (λ b. all (λ c. ev (p x b c)))) a t) b c

unfoldable pub test4 : (S → S → S → S → Fm) → Bool
unfolding all ev
test4 p = all (λ a. all (λ b. all (λ c. all (λ d. ev (p a b c d)))))

pub every4 : (p : S → S → S → S → Fm) → T (test4 p) → (a b c d : S) → Is (p a b c d)
unfolding test4 test3
every4 p t a b c d = every3 (p a) (all-T (λ x. all (λ b. all (λ c. all (λ d. ev (p x b c d))))) a t) b c d

unfoldable pub test5 : (S → S → S → S → S → Fm) → Bool
unfolding all ev
test5 p = all (λ a. all (λ b. all (λ c. all (λ d. all (λ e. ev (p a b c d e))))))

pub every5 : (p : S → S → S → S → S → Fm) → T (test5 p) → (a b c d e : S) → Is (p a b c d e)
unfolding test5 test4
every5 p t a b c d e = every4 (p a) (all-T (λ x. all (λ b. all (λ c. all (λ d. all (λ e. ev (p x b c d e)))))) a t) b c d e

unfoldable pub test6 : (S → S → S → S → S → S → Fm) → Bool
unfolding all ev
test6 p = all (λ a. all (λ b. all (λ c. all (λ d. all (λ e. all (λ f. ev (p a b c d e f)))))))

pub every6 : (p : S → S → S → S → S → S → Fm) → T (test6 p) → (a b c d e f : S) → Is (p a b c d e f)
unfolding test6 test5
every6 p t a b c d e f = every5 (p a) (all-T (λ x. all (λ b. all (λ c. all (λ d. all (λ e. all (λ f. ev (p x b c d e f))))))) a t) b c d e f

-- ---- zero
pub zero-eq : {z : ℤ} → Zero z → z ≡ pos 0
unfolding sg ev
zero-eq {z = pos zero} h = refl
zero-eq {z = pos (suc n)} h = absurd h.is.is
zero-eq {z = negsuc n} h = absurd h.is.is

pub eq-zero : {z : ℤ} → z ≡ pos 0 → Zero z
unfolding sg ev
eq-zero {z} e = subst Zero (sym e) (record { is = record { is = tt } })

-- ---- the sign of a product
pos-suc : (m n : ℕ) → sg (pos (suc m * suc n)) ≡ above
unfolding sg
pos-suc m n = let e : suc m * suc n ≡ suc (m * suc n + n) = omega arith in ap (λ (k : ℕ). sg (pos k)) e

neg-suc : (m n : ℕ) → sg (neg_ℤ (pos (suc m * suc n))) ≡ below
unfolding sg
neg-suc m n = let e : suc m * suc n ≡ suc (m * suc n + n) = omega arith in ap (λ (k : ℕ). sg (neg_ℤ (pos k))) e

zero-l : (m : ℕ) → sg (pos (zero * m)) ≡ nil
unfolding sg
zero-l m = let e : zero * m ≡ zero = omega arith in ap (λ (k : ℕ). sg (pos k)) e

zero-r : (m : ℕ) → sg (pos (m * zero)) ≡ nil
unfolding sg
zero-r m = let e : m * zero ≡ zero = omega arith in ap (λ (k : ℕ). sg (pos k)) e

neg-zero-l : (m : ℕ) → sg (neg_ℤ (pos (zero * m))) ≡ nil
unfolding sg
neg-zero-l m = let e : zero * m ≡ zero = omega arith in ap (λ (k : ℕ). sg (neg_ℤ (pos k))) e

neg-zero-r : (m : ℕ) → sg (neg_ℤ (pos (m * zero))) ≡ nil
unfolding sg
neg-zero-r m = let e : m * zero ≡ zero = omega arith in ap (λ (k : ℕ). sg (neg_ℤ (pos k))) e

pub sg-mul : (a b : ℤ) → sg (a *ℤ b) ≡ sg a ⊙ sg b
unfolding sg ◌⊙◌ flip
sg-mul (pos zero) (pos b) = zero-l b
sg-mul (pos zero) (negsuc b) = neg-zero-l (suc b)
sg-mul (pos (suc a)) (pos zero) = zero-r (suc a)
sg-mul (pos (suc a)) (pos (suc b)) = pos-suc a b
sg-mul (pos (suc a)) (negsuc b) = neg-suc a b
sg-mul (negsuc a) (pos zero) = neg-zero-r (suc a)
sg-mul (negsuc a) (pos (suc b)) = neg-suc a b
sg-mul (negsuc a) (negsuc b) = pos-suc a b

pub sg-neg : (a : ℤ) → sg (neg_ℤ a) ≡ flip (sg a)
unfolding sg flip
sg-neg (pos zero) = refl
sg-neg (pos (suc n)) = refl
sg-neg (negsuc n) = refl

-- ---- what signs a sum can have
abbrev pub poss : S → S → S → Fm
poss a b c = (lo a & lo b ⇒ lo c & (ze c ⇒ ze a & ze b)) & (hi a & hi b ⇒ hi c & (ze c ⇒ ze a & ze b))

sum-at : (a b : S) (z : ℤ) (n : ℕ) → z ≡ pos (suc n) → T (ev (poss a b above)) → Is (poss a b (sg z))
unfolding sg
sum-at a b z n e t = subst (λ (x : ℤ). Is (poss a b (sg x))) (sym e) (record { is = t })

pub sum-ok : (a b : ℤ) → Is (poss (sg a) (sg b) (sg (a +ℤ b)))
unfolding sg ev
sum-ok (pos zero) (pos zero) = record { is = tt }
sum-ok (pos zero) (pos (suc b)) = sum-at nil above (pos (zero + suc b)) b (ap pos (omega arith)) tt
sum-ok (pos (suc a)) (pos zero) = sum-at above nil (pos (suc a + zero)) a (ap pos (omega arith)) tt
sum-ok (pos (suc a)) (pos (suc b)) = sum-at above above (pos (suc a + suc b)) (a + suc b) (ap pos (omega arith)) tt
sum-ok (pos zero) (negsuc b) =
    subst (λ (x : ℤ). Is (poss nil below (sg x))) (sym (+ℤ_idl (negsuc b))) (record { is = tt })
sum-ok (pos (suc a)) (negsuc b) = record { is = tt }
sum-ok (negsuc a) (pos zero) =
    subst (λ (x : ℤ). Is (poss below nil (sg x))) (sym (+ℤ_idr (negsuc a))) (record { is = tt })
sum-ok (negsuc a) (pos (suc b)) = record { is = tt }
sum-ok (negsuc a) (negsuc b) = record { is = tt }

-- ---- four numbers whose sum is 0: not all on one side
abbrev pub bal : S → S → S → S → Fm
bal a b c d =
    (lo a & lo b & lo c & lo d ⇒ ze a & ze b & ze c & ze d) & (hi a & hi b & hi c & hi d ⇒ ze a & ze b & ze c & ze d)

bal-test : (a b c d e f : S) → Is (poss a b e ⇒ poss e c f ⇒ poss f d nil ⇒ bal a b c d)
unfolding test6
bal-test = every6 (λ a b c d e f. poss a b e ⇒ poss e c f ⇒ poss f d nil ⇒ bal a b c d) tt

pub bal-sum : (a b c d : ℤ) → a +ℤ b +ℤ c +ℤ d ≡ pos 0 → Is (bal (sg a) (sg b) (sg c) (sg d))
unfolding sg
bal-sum a b c d e =
    fire (fire (fire (bal-test (sg a) (sg b) (sg c) (sg d) (sg (a +ℤ b)) (sg (a +ℤ b +ℤ c))) (sum-ok a b)) (sum-ok (a +ℤ b) c))
    (subst (λ (x : ℤ). Is (poss (sg (a +ℤ b +ℤ c)) (sg d) (sg x))) e (sum-ok (a +ℤ b +ℤ c) d))

-- and four products
pub bal-mul : (a x b y c z d w : ℤ) → a *ℤ x +ℤ b *ℤ y +ℤ c *ℤ z +ℤ d *ℤ w ≡ pos 0 → Is (bal (sg a ⊙ sg x) (sg b ⊙ sg y) (sg c ⊙ sg z) (sg d ⊙ sg w))
bal-mul a x b y c z d w e =
    rw (← sg-mul a x, ← sg-mul b y, ← sg-mul c z, ← sg-mul d w) (bal-sum (a *ℤ x) (b *ℤ y) (c *ℤ z) (d *ℤ w) e)

cancel : (x y z : ℤ) → neg_ℤ (x +ℤ y +ℤ z) +ℤ x +ℤ y +ℤ z ≡ pos 0
unfolding agree
cancel x y z =
    ap (λ (u : ℤ). u +ℤ x +ℤ y +ℤ z) (sym (+ℤ_idl (neg_ℤ (x +ℤ y +ℤ z))))
    ∙ solve! (env (x ∷ y ∷ z ∷ [])) (con (pos 0) ⊖ (var 0 ⊕ var 1 ⊕ var 2) ⊕ var 0 ⊕ var 1 ⊕ var 2) (con (pos 0)) tt

-- a number that is a sum of three products
pub lin : (x b y c z d w : ℤ) → x ≡ b *ℤ y +ℤ c *ℤ z +ℤ d *ℤ w → Is (bal (flip (sg x)) (sg b ⊙ sg y) (sg c ⊙ sg z) (sg d ⊙ sg w))
lin x b y c z d w e =
    rw (← sg-neg x, ← sg-mul b y, ← sg-mul c z, ← sg-mul d w)
    (bal-sum (neg_ℤ x) (b *ℤ y) (c *ℤ z) (d *ℤ w)
    (ap (λ (u : ℤ). neg_ℤ u +ℤ b *ℤ y +ℤ c *ℤ z +ℤ d *ℤ w) e ∙ cancel (b *ℤ y) (c *ℤ z) (d *ℤ w)))

-- a sum of three products that is 0
pub bal-mul3 : (a x b y c z : ℤ) → a *ℤ x +ℤ b *ℤ y +ℤ c *ℤ z ≡ pos 0 → Is (bal (sg a ⊙ sg x) (sg b ⊙ sg y) (sg c ⊙ sg z) nil)
unfolding sg
bal-mul3 a x b y c z e =
    rw (← sg-mul a x, ← sg-mul b y, ← sg-mul c z)
    (bal-sum (a *ℤ x) (b *ℤ y) (c *ℤ z) (pos 0) (+ℤ_idr (a *ℤ x +ℤ b *ℤ y +ℤ c *ℤ z) ∙ e))

-- a sum of three
pub add3 : (d x y z : ℤ) → d ≡ x +ℤ y +ℤ z → Is (bal (flip (sg d)) (sg x) (sg y) (sg z))
add3 d x y z e = rw (← sg-neg d) (bal-sum (neg_ℤ d) x y z (ap (λ (u : ℤ). neg_ℤ u +ℤ x +ℤ y +ℤ z) e ∙ cancel x y z))

or-L : (a b : Bool) → T a → T (a || b)
or-L true b h = tt
or-L false b h = absurd h

or-R : (a b : Bool) → T b → T (a || b)
or-R true b h = tt
or-R false b h = h

pub or_l : {a b : Fm} → Is a → Is (a or b)
unfolding ev
or_l {a} {b} h = record { is = or-L (ev a) (ev b) h.is }

pub or_r : {a b : Fm} → Is b → Is (a or b)
unfolding ev
or_r {a} {b} h = record { is = or-R (ev a) (ev b) h.is }

-- an implication from a function
imp-T : (a b : Bool) → (T a → T b) → T (not a || b)
imp-T true b f = f tt
imp-T false b f = tt

pub imp : {a b : Fm} → (Is a → Is b) → Is (a ⇒ b)
unfolding ev
imp {a} {b} f = record { is = imp-T (ev a) (ev b) (λ t. (f (record { is = t })).is) }

pub failed : {a : Fm} → (Is a → ⊥) → Is (a ⇒ fail)
failed f = imp (λ h. absurd (f h))

-- ---- a formula as a test
pub holds : (f : Fm) → ev f ≡ true → Is f
holds f e = record { is = subst T (sym e) tt }

pub tests : (f : Fm) → Is f → ev f ≡ true
tests f h = is_true (ev f) h.is
  where
    is_true : (b : Bool) → T b → b ≡ true
    is_true true t = refl
    is_true false t = absurd t

pub fails : (f : Fm) → (Is f → ⊥) → ev f ≡ false
fails f h = is_false (ev f) (λ e. h (holds f e))

pub refuted : (f : Fm) → ev f ≡ false → Is (f ⇒ fail)
refuted f e = failed (λ h. subst T e h.is)
