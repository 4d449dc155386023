-- Finite sums of whole numbers: added, negated, exchanged, in another order, one summand apart. Assumes nothing.
use Rattle.std.specs.Prelude.{◌≡◌, refl, Bool, true, false, cond, ℕ, zero, suc, ◌<◌, ◌≤◌, eqb, ℤ, pos, neg_ℤ, ◌+ℤ◌, [], ◌∷◌, ◌⊎◌}
use Rattle.std.proofs.Common.{sym, subst, ap, ◌∙◌, lt_irrefl, arith, eq-eqb, ne_eqb, eqb-true, inl, inr}
use Rattle.std.proofs.Math.IntN.{+ℤ_idl, +ℤ_idr, neg_ℤ-+ℤ}
use Rattle.std.proofs.lemmas.Bool.{eqb-false}
use Rattle.whole.specs.Bools.{same_test}
use Rattle.whole.specs.Poly.{var, ◌⊕◌, env, agree, solve! }
use Rattle.signs.specs.Signs.{Pos, Neg, Zero, Low, High, eq-zero}
use Rattle.signs.specs.Order.{sign_of, zero_high, low-or-pos, low-high, pos-low, pos-zero, add-high, add_low, add-pos, pos-neg, neg-neg, neg-pos}

-- two sums, added term by term
swap_mid : (a b c d : ℤ) → (a +ℤ b) +ℤ (c +ℤ d) ≡ (a +ℤ c) +ℤ (b +ℤ d)
unfolding agree
swap_mid a b c d = solve! (env (a ∷ b ∷ c ∷ d ∷ [])) (var 0 ⊕ var 1 ⊕ (var 2 ⊕ var 3)) (var 0 ⊕ var 2 ⊕ (var 1 ⊕ var 3)) tt

unfoldable pub sum : (ℕ → ℤ) → ℕ → ℤ
sum g zero = pos 0
sum g (suc n) = sum g n +ℤ g n

pub sum-ext : (g k : ℕ → ℤ) (n : ℕ) → ((i : ℕ) → i < n → g i ≡ k i) → sum g n ≡ sum k n
unfolding sum
sum-ext g k zero h = refl
sum-ext g k (suc n) h =
    ap (λ (x : ℤ). x +ℤ g n) (sum-ext g k n (λ i l. h i (omega arith))) ∙ ap (λ (x : ℤ). sum k n +ℤ x) (h n (omega arith))

pub sum-add : (g k : ℕ → ℤ) (n : ℕ) → sum (λ i. g i +ℤ k i) n ≡ sum g n +ℤ sum k n
unfolding sum
sum-add g k zero = refl
sum-add g k (suc n) = ap (λ (x : ℤ). x +ℤ (g n +ℤ k n)) (sum-add g k n) ∙ swap_mid (sum g n) (sum k n) (g n) (k n)

pub sum-neg : (g : ℕ → ℤ) (n : ℕ) → sum (λ i. neg_ℤ (g i)) n ≡ neg_ℤ (sum g n)
unfolding sum
sum-neg g zero = refl
sum-neg g (suc n) = ap (λ (x : ℤ). x +ℤ neg_ℤ (g n)) (sum-neg g n) ∙ sym (neg_ℤ-+ℤ (sum g n) (g n))

pub sum-zero : (n : ℕ) → sum (λ i. pos 0) n ≡ pos 0
unfolding sum
sum-zero zero = refl
sum-zero (suc n) = ap (λ (x : ℤ). x +ℤ pos 0) (sum-zero n)

pub sum-swap : (g : ℕ → ℕ → ℤ) (n m : ℕ) → sum (λ i. sum (g i) m) n ≡ sum (λ j. sum (λ i. g i j) n) m
unfolding sum
sum-swap g zero m = sym (sum-zero m)
sum-swap g (suc n) m =
    ap (λ (x : ℤ). x +ℤ sum (g n) m) (sum-swap g n m) ∙ sym (sum-add (λ j. sum (λ i. g i j) n) (g n) m)

-- one of the summands
abbrev pub only : ℕ → ℤ → ℕ → ℤ
only k z i = cond (eqb i k) z (pos 0)

abbrev pub without : ℕ → (ℕ → ℤ) → ℕ → ℤ
without k g i = cond (eqb i k) (pos 0) (g i)

only_at : (k : ℕ) (z : ℤ) (i : ℕ) → i ≡ k → only k z i ≡ z
only_at k z i e = rw (eq-eqb i k e)

only-off : (k : ℕ) (z : ℤ) (i : ℕ) → (i ≡ k → ⊥) → only k z i ≡ pos 0
only-off k z i e = rw (ne_eqb i k e)

only-past : (k : ℕ) (z : ℤ) (n : ℕ) → n ≤ k → sum (only k z) n ≡ pos 0
only-past k z n l =
    sum-ext (only k z) (λ i. pos 0) n (λ i h. only-off k z i (λ e. lt_irrefl i (omega arith))) ∙ sum-zero n

pub sum-only : (k : ℕ) (z : ℤ) (n : ℕ) → k < n → sum (only k z) n ≡ z
unfolding sum
sum-only k z zero l = absurd (omega arith)
sum-only k z (suc n) l = step (eqb n k) refl (sum-only k z n)
  where
    step : (b : Bool) → eqb n k ≡ b → (k < n → sum (only k z) n ≡ z) → sum (only k z) n +ℤ only k z n ≡ z
    step true e ih =
        let q : n ≡ k = eqb-true n k e in
        ap (λ (x : ℤ). x +ℤ only k z n) (only-past k z n (omega arith)) ∙ +ℤ_idl (only k z n) ∙ only_at k z n q
    step false e ih =
        let q : n ≡ k → ⊥ = eqb-false n k e in
        ap (λ (x : ℤ). x +ℤ only k z n) (ih (omega arith)) ∙ ap (λ (x : ℤ). z +ℤ x) (only-off k z n q) ∙ +ℤ_idr z

split_at : (b : Bool) (x y : ℤ) → (b ≡ true → x ≡ y) → x ≡ cond b y (pos 0) +ℤ cond b (pos 0) x
split_at true x y h = h refl ∙ sym (+ℤ_idr y)
split_at false x y h = sym (+ℤ_idl x)

pub sum-pull : (g : ℕ → ℤ) (k n : ℕ) → k < n → sum g n ≡ g k +ℤ sum (without k g) n
sum-pull g k n l =
    sum-ext g (λ i. only k (g k) i +ℤ without k g i) n (λ i h. split_at (eqb i k) (g i) (g k) (λ e. ap g (eqb-true i k e)))
    ∙ sum-add (only k (g k)) (without k g) n
    ∙ ap (λ (x : ℤ). x +ℤ sum (without k g) n) (sum-only k (g k) n l)

pub without_other : (k : ℕ) (g : ℕ → ℤ) (i : ℕ) → (i ≡ k → ⊥) → without k g i ≡ g i
without_other k g i e = rw (ne_eqb i k e)

-- a sum in another order
same-eqb : (i j k l : ℕ) → (i ≡ j → k ≡ l) → (k ≡ l → i ≡ j) → eqb i j ≡ eqb k l
same-eqb i j k l f g = same_test (eqb i j) (eqb k l) (λ e. eq-eqb k l (f (eqb-true i j e))) (λ e. eq-eqb i j (g (eqb-true k l e)))

pub sum-perm : (g : ℕ → ℤ) (p r : ℕ → ℕ) (n : ℕ) → ((i : ℕ) → i < n → p i < n) → ((i : ℕ) → i < n → r i < n) → ((i : ℕ) → i < n → r (p i) ≡ i) → ((i : ℕ) → i < n → p (r i) ≡ i) → sum (λ i. g (p i)) n ≡ sum g n
sum-perm g p r n pi ri rp pr =
    sum-ext (λ i. g (p i)) (λ i. sum (λ k. only (p i) (g k) k) n) n (λ i l. sym (spread i l))
    ∙ sum-swap (λ i k. only (p i) (g k) k) n n
    ∙ sum-ext (λ k. sum (λ i. only (p i) (g k) k) n) g n (λ k l. gather k l)
  where
    spread : (i : ℕ) → i < n → sum (λ k. only (p i) (g k) k) n ≡ g (p i)
    spread i l =
        sum-ext (λ k. only (p i) (g k) k) (only (p i) (g (p i))) n (λ k h. same (eqb k (p i)) k (eqb-true k (p i))) ∙ sum-only (p i) (g (p i)) n (pi i l)
      where
        same : (b : Bool) (k : ℕ) → (b ≡ true → k ≡ p i) → cond b (g k) (pos 0) ≡ cond b (g (p i)) (pos 0)
        same true k e = ap g (e refl)
        same false k e = refl

    gather : (k : ℕ) → k < n → sum (λ i. only (p i) (g k) k) n ≡ g k
    gather k l =
        sum-ext (λ i. only (p i) (g k) k) (only (r k) (g k)) n
        (λ i h. ap (λ (b : Bool). cond b (g k) (pos 0)) (same-eqb k (p i) i (r k) (λ e. sym (rp i h) ∙ sym (ap r e)) (λ e. sym (pr k l) ∙ sym (ap p e))))
        ∙ sum-only (r k) (g k) n (ri k l)

-- ---- sums of numbers that are at least 0
pub sum-high : (g : ℕ → ℤ) (n : ℕ) → ((i : ℕ) → i < n → High (g i)) → High (sum g n)
unfolding sum
sum-high g zero h = zero_high (eq-zero refl)
sum-high g (suc n) h = add-high (sum-high g n (λ i l. h i (omega arith))) (h n (omega arith))

without-high : (g : ℕ → ℤ) (k i : ℕ) → High (g i) → High (without k g i)
without-high g k i h = step (eqb i k)
  where
    step : (b : Bool) → High (cond b (pos 0) (g i))
    step true = zero_high (eq-zero refl)
    step false = h

pub rest-high : (g : ℕ → ℤ) (k n : ℕ) → ((i : ℕ) → i < n → High (g i)) → (i : ℕ) → i < n → High (without k g i)
rest-high g k n h i l = without-high g k i (h i l)

-- where it is 0, so is each of them
pub sum-none : (g : ℕ → ℤ) (n : ℕ) → ((i : ℕ) → i < n → High (g i)) → sum g n ≡ pos 0 → (k : ℕ) → k < n → Zero (g k)
sum-none g n h e k l = pick (low-or-pos (g k))
  where
    pick : Low (g k) ⊎ Pos (g k) → Zero (g k)
    pick (inl s) = low-high s (h k l)
    pick (inr s) =
        let t : Pos (sum g n) = subst Pos (sym (sum-pull g k n l)) (add-pos s (sum-high (without k g) n (rest-high g k n h))) in
        absurd (pos-zero t (eq-zero e))

-- four of them that are 1
pub four-ones : (g : ℕ → ℤ) (n i j k l : ℕ) → ((h : ℕ) → h < n → High (g h)) → i < n → j < n → k < n → l < n → (j ≡ i → ⊥) → (k ≡ i → ⊥) → (k ≡ j → ⊥) → (l ≡ i → ⊥) → (l ≡ j → ⊥) → (l ≡ k → ⊥) → g i ≡ pos 1 → g j ≡ pos 1 → g k ≡ pos 1 → g l ≡ pos 1 → (x : ℤ) × (sum g n ≡ pos 1 +ℤ (pos 1 +ℤ (pos 1 +ℤ (pos 1 +ℤ x)))) × High x
four-ones g n i j k l hg il jl kl ll ji ki kj li lj lk gi gj gk gl =
    let g1 = without i g in
    let g2 = without j g1 in
    let g3 = without k g2 in
    let g4 = without l g3 in
    let h1 = rest-high g i n hg in
    let h2 = rest-high g1 j n h1 in
    let h3 = rest-high g2 k n h2 in
    let h4 = rest-high g3 l n h3 in
    let e1 : sum g n ≡ pos 1 +ℤ sum g1 n = sum-pull g i n il ∙ ap (λ (x : ℤ). x +ℤ sum g1 n) gi in
    let e2 : sum g1 n ≡ pos 1 +ℤ sum g2 n = sum-pull g1 j n jl ∙ ap (λ (x : ℤ). x +ℤ sum g2 n) (without_other i g j ji ∙ gj) in
    let e3 : sum g2 n ≡ pos 1 +ℤ sum g3 n =
    sum-pull g2 k n kl ∙ ap (λ (x : ℤ). x +ℤ sum g3 n) (without_other j g1 k kj ∙ without_other i g k ki ∙ gk) in
    let e4 : sum g3 n ≡ pos 1 +ℤ sum g4 n =
    sum-pull g3 l n ll ∙ ap (λ (x : ℤ). x +ℤ sum g4 n) (without_other k g2 l lk ∙ without_other j g1 l lj ∙ without_other i g l li ∙ gl) in
    (sum g4 n, e1 ∙ ap (λ (x : ℤ). pos 1 +ℤ x) (e2 ∙ ap (λ (x : ℤ). pos 1 +ℤ x) (e3 ∙ ap (λ (x : ℤ). pos 1 +ℤ x) e4)), sum-high g4 n h4)

-- ---- a sum above 0 has a summand above 0
pub sum-some : (g : ℕ → ℤ) (n : ℕ) → Pos (sum g n) → (i : ℕ) × (i < n) × Pos (g i)
unfolding sum
sum-some g zero h = absurd (pos-zero h (eq-zero refl))
sum-some g (suc n) h = step (low-or-pos (g n)) (low-or-pos (sum g n)) (sum-some g n)
  where
    step : Low (g n) ⊎ Pos (g n) → Low (sum g n) ⊎ Pos (sum g n) → (Pos (sum g n) → (i : ℕ) × (i < n) × Pos (g i)) → (i : ℕ) × (i < suc n) × Pos (g i)
    step (inr p) s ih = (n, omega arith, p)
    step (inl p) (inl s) ih = absurd (pos-low h (add_low s p))
    step (inl p) (inr s) ih = let r = ih s in let l : r.0 < n = r.1 in (r.0, omega arith, r.2)

-- a number that is its own negation
pub self-neg : (z : ℤ) → z ≡ neg_ℤ z → Zero z
self-neg z e = pick (sign_of z)
  where
    pick : Neg z ⊎ (Zero z ⊎ Pos z) → Zero z
    pick (inl s) = absurd (pos-neg (neg-neg e s) s)
    pick (inr (inl s)) = s
    pick (inr (inr s)) = absurd (pos-neg s (neg-pos e s))
