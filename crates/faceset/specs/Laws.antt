-- Laws of sets of numbers and of their counts, for what is built on them. Assumes nothing.
use Rattle.std.specs.Prelude.{◌≡◌, refl, ◌⊎◌, Bool, true, false, ◌||◌, ℕ, zero, suc, ◌+◌, ◌-◌, ◌≤◌, ◌<◌, eqb}
use Rattle.std.proofs.Common.{sym, ap, ap₂, ◌∙◌, inl, inr, ⊎_elim, add-zero, add-suc, arith, eqb-true, ne_eqb}
use Rattle.std.proofs.lemmas.Bool.{false≢true, eqb-false}
use Rattle.faceset.specs.Set.{none, add, one, count_below, Below}

-- a bool is one of the two, with the equation
pub cases : (b : Bool) → (b ≡ true) ⊎ (b ≡ false)
cases true = inl refl
cases false = inr refl

-- two sets that agree below n have one count
pub count-ext : (n : ℕ) (p q : ℕ → Bool) → ((k : ℕ) → k < n → p k ≡ q k) → count_below n p ≡ count_below n q
unfolding count_below
count-ext zero p q h = refl
count-ext (suc n) p q h = ap₂ (λ (a b : ℕ). a + b) (ap one (h n (omega arith))) (count-ext n p q (λ k l. h k (omega arith)))

one-le : (b : Bool) → one b ≤ 1
one-le true = omega arith
one-le false = omega arith

pub count-le : (n : ℕ) (p : ℕ → Bool) → count_below n p ≤ n
unfolding count_below
count-le zero p = omega arith
count-le (suc n) p = omega (arith, count-le n p, one-le (p n))

-- the numbers below n, and the m from n on
pub count_add : (n m : ℕ) (p : ℕ → Bool) → count_below (n + m) p ≡ count_below n p + count_below m (λ k. p (n + k))
unfolding count_below
count_add n zero p = ap (λ (x : ℕ). count_below x p) (add-zero n) ∙ sym (add-zero (count_below n p))
count_add n (suc m) p = ap (λ (x : ℕ). count_below x p) (add-suc n m) ∙ omega (arith, count_add n m p)

-- the least number first
pub count_low : (n : ℕ) (p : ℕ → Bool) → count_below (suc n) p ≡ one (p 0) + count_below n (λ k. p (suc k))
unfolding count_below
count_low zero p = refl
count_low (suc n) p =
    let h : count_below (suc n) p ≡ one (p 0) + count_below n (λ k. p (suc k)) = count_low n p in
    omega arith

-- f is not below n: the same count
pub count-out : (n f : ℕ) (p : ℕ → Bool) → n ≤ f → count_below n (add f p) ≡ count_below n p
unfolding add
count-out n f p h = count-ext n (add f p) p (λ k l. ap (λ (b : Bool). b || p k) (ne_eqb k f (λ e. omega arith)))

-- f below n, not in p: one more
pub count-new : (n f : ℕ) (p : ℕ → Bool) → f < n → p f ≡ false → count_below n (add f p) ≡ suc (count_below n p)
unfolding count_below add
count-new zero f p h e = absurd (omega arith)
count-new (suc n) f p h e =
    ⊎_elim
    (λ (q : eqb n f ≡ true).
    let same : n ≡ f = eqb-true n f q in
    let z : one (p n) ≡ 0 = ap one (ap p same ∙ e) in
    ap₂ (λ (a b : ℕ). a + b) (ap one (ap (λ (b : Bool). b || p n) q)) (count-out n f p (omega arith)) ∙ omega arith)
    (λ (q : eqb n f ≡ false).
    let other : n ≡ f → ⊥ = eqb-false n f q in
    ap₂ (λ (a b : ℕ). a + b) (ap one (ap (λ (b : Bool). b || p n) q)) (count-new n f p (omega arith) e)
    ∙ add-suc (one (p n)) (count_below n p))
    (cases (eqb n f))

-- a set within another has no larger count
one-sub : (a b : Bool) → (a ≡ true → b ≡ true) → one a ≤ one b
one-sub true b h = rw (h refl) (omega arith)
one-sub false b h = omega arith

pub count-sub : (n : ℕ) (p q : ℕ → Bool) → ((k : ℕ) → p k ≡ true → q k ≡ true) → count_below n p ≤ count_below n q
unfolding count_below
count-sub zero p q h = omega arith
count-sub (suc n) p q h = omega (arith, one-sub (p n) (q n) (h n), count-sub n p q h)

-- the empty set
pub count_none : (n : ℕ) → count_below n none ≡ 0
unfolding count_below none
count_none zero = refl
count_none (suc n) = omega (arith, count_none n)

count-false : (m : ℕ) (p : ℕ → Bool) → ((g : ℕ) → p g ≡ false) → count_below m p ≡ 0
unfolding count_below
count-false zero p h = refl
count-false (suc m) p h = ap₂ (λ (a b : ℕ). a + b) (ap one (h m)) (count-false m p h)

-- two different numbers below n
pub count-two : (n f g : ℕ) (p : ℕ → Bool) → f < n → g < n → (g ≡ f → ⊥) → p f ≡ true → p g ≡ true → 2 ≤ count_below n p
unfolding add none
count-two n f g p l m d x y =
    let one : count_below n (add f none) ≡ suc (count_below n none) = count-new n f none l refl in
    let two : count_below n (add g (add f none)) ≡ suc (count_below n (add f none)) = count-new n g (add f none) m (ap (λ (b : Bool). b || false) (ne_eqb g f d)) in
    omega (arith, count_none n, count-sub n (add g (add f none)) p within)
  where
    at : (k : ℕ) (b d : Bool) → eqb k g ≡ b → eqb k f ≡ d → (b || (d || false)) ≡ true → p k ≡ true
    at k true d e i h = ap p (eqb-true k g e) ∙ y
    at k false true e i h = ap p (eqb-true k f i) ∙ x
    at k false false e i h = absurd (false≢true h)

    within : (k : ℕ) → add g (add f none) k ≡ true → p k ≡ true
    within k = at k (eqb k g) (eqb k f) refl refl

-- nothing from n on is in p, so the numbers below n are all that there are
pub count-below : (n m : ℕ) (p : ℕ → Bool) → n ≤ m → Below n p → count_below m p ≡ count_below n p
count-below n m p l h =
    let s : m ≡ n + (m - n) = omega arith in
    ap (λ (k : ℕ). count_below k p) s
    ∙ count_add n (m - n) p
    ∙ ap (λ (x : ℕ). count_below n p + x) (count-false (m - n) (λ k. p (n + k)) (λ g. h (n + g) (omega arith)))
    ∙ add-zero (count_below n p)

-- the sets below n: the empty one, and one more number below n
pub below_none : (n : ℕ) → Below n none
unfolding none
below_none n g l = refl

pub below-add : (n f : ℕ) (p : ℕ → Bool) → f < n → Below n p → Below n (add f p)
unfolding add
below-add n f p h b g l = ap₂ ◌||◌ (ne_eqb g f (λ e. omega arith)) (b g l)
