-- A step that is one-to-one on the numbers below n comes back to where it began, within n steps. Assumes nothing.
use Rattle.std.specs.Prelude.{◌≡◌, refl, Bool, true, false, cond, ℕ, zero, suc, ◌+◌, ◌-◌, ◌≤◌, ◌<◌, eqb}
use Rattle.std.proofs.Common.{sym, subst, ◌∙◌, not-suc-le-zero, zero-add, suc-add, le_refl, arith, eq-eqb, eqb-true, ltb-true}
use Rattle.std.proofs.lemmas.Bool.{eqb-false}
use Rattle.whole.specs.First.{first, some, some_at, none-at, first_found, first-before}

-- ---- of n + 1 numbers below n two are equal
pub record Twice (g : ℕ → ℕ) (n : ℕ) : Type 0 where
  pub i : ℕ
  pub j : ℕ
  pub order : i < j
  pub within : j ≤ n
  pub same : g i ≡ g j

-- x, and l in place of n
swap : ℕ → ℕ → ℕ → ℕ
swap n l x = cond (eqb x n) l x

-- is below n, where x and l are different numbers up to n
swap-below : (n l x : ℕ) → x < suc n → l < suc n → (x ≡ l → ⊥) → swap n l x < n
unfolding swap
swap-below n l x p q d = go (eqb x n) refl
  where
    differ : (a b : ℕ) → a < suc b → (a ≡ b → ⊥) → a < b
    differ a b h e = lt_of (eqb a b) refl
      where
        lt_of : (t : Bool) → eqb a b ≡ t → a < b
        lt_of true k = absurd (e (eqb-true a b k))
        lt_of false k = omega (arith, eqb-false a b k)

    go : (b : Bool) → eqb x n ≡ b → cond b l x < n
    go true e = differ l n q (λ k. d (eqb-true x n e ∙ sym k))
    go false e = differ x n p (eqb-false x n e)

-- and tells numbers other than l apart
swap-same : (n l x y : ℕ) → (x ≡ l → ⊥) → (y ≡ l → ⊥) → swap n l x ≡ swap n l y → x ≡ y
unfolding swap
swap-same n l x y d k e = go (eqb x n) (eqb y n) refl refl e
  where
    go : (a b : Bool) → eqb x n ≡ a → eqb y n ≡ b → cond a l x ≡ cond b l y → x ≡ y
    go true true p q s = eqb-true x n p ∙ sym (eqb-true y n q)
    go true false p q s = absurd (k (sym s))
    go false true p q s = absurd (d s)
    go false false p q s = s

-- one number more
more : (n : ℕ) → ((g : ℕ → ℕ) → ((i : ℕ) → i ≤ n → g i < n) → Twice g n) → (g : ℕ → ℕ) → ((i : ℕ) → i ≤ suc n → g i < suc n) → Twice g (suc n)
more n fewer g h = choose (some p (suc n)) refl
  where
    p : ℕ → Bool
    p i = eqb (g i) (g (suc n))

    choose : (b : Bool) → some p (suc n) ≡ b → Twice g (suc n)
    choose true e =
        let l = ltb-true (first p (suc n)) (suc n) e in
        record { i = first p (suc n); j = suc n; order = l; within = le_refl (suc n); same = eqb-true _ _ (first_found p (suc n) l) }
    choose false e =
        let apart : (i : ℕ) → i ≤ n → g i ≡ g (suc n) → ⊥ = λ i l. eqb-false (g i) (g (suc n)) (none-at p (suc n) e i (omega arith)) in
        let t = fewer (λ i. swap n (g (suc n)) (g i)) (λ i l. swap-below n (g (suc n)) (g i) (h i (omega arith)) (h (suc n) (le_refl (suc n))) (apart i l)) in
        let o = t.order in
        let w = t.within in
        record {
          i = t.i;
          j = t.j;
          order = o;
          within = omega arith;
          same = swap-same n (g (suc n)) (g t.i) (g t.j) (apart t.i (omega arith)) (apart t.j w) t.same;
        }

-- the pigeons' holes
pub pigeons : (n : ℕ) (g : ℕ → ℕ) → ((i : ℕ) → i ≤ n → g i < n) → Twice g n
pigeons zero g h = absurd (not-suc-le-zero (h 0 (le_refl 0)))
pigeons (suc n) g h = more n (pigeons n) g h

-- ---- k steps from s
abbrev pub after : (ℕ → ℕ) → ℕ → ℕ → ℕ
after f zero s = s
after f (suc k) s = f (after f k s)

-- back at s after that many steps, and not before
pub record Back (f : ℕ → ℕ) (n s : ℕ) : Type 0 where
  pub steps : ℕ
  pub some-step : 0 < steps
  pub within : steps ≤ n
  pub back : after f steps s ≡ s
  pub not-before : (k : ℕ) → 0 < k → k < steps → after f k s ≡ s → ⊥

module _ (f : ℕ → ℕ) (n : ℕ) (below : (i : ℕ) → i < n → f i < n) (one : (i j : ℕ) → i < n → j < n → f i ≡ f j → i ≡ j) (s : ℕ) (l : s < n) where
  -- the steps stay below n
  after-below : (k : ℕ) → after f k s < n
  after-below zero = l
  after-below (suc k) = below (after f k s) (after-below k)

  -- steps that both sides have made are taken back
  cancel : (i d : ℕ) → after f i s ≡ after f (i + d) s → after f d s ≡ s
  cancel zero d e = subst (λ (k : ℕ). after f k s ≡ s) (zero-add d) (sym e)
  cancel (suc i) d e =
      cancel i d
      (one (after f i s) (after f (i + d) s) (after-below i) (after-below (i + d)) (e ∙ subst (λ (k : ℕ). after f k s ≡ f (after f (i + d) s)) (sym (suc-add i d)) refl))

  -- the step comes back
  pub comes_back : Back f n s
  comes_back =
      let t = pigeons n (λ k. after f k s) (λ k m. after-below k) in
      let o = t.order in
      let w = t.within in
      let d : t.i + (t.j - t.i) ≡ t.j = omega arith in
      let e : after f (t.j - t.i) s ≡ s = cancel t.i (t.j - t.i) (subst (λ (k : ℕ). after f t.i s ≡ after f k s) (sym d) t.same) in
      let a : suc (t.j - t.i - 1) ≡ t.j - t.i = omega arith in
      let hit = some_at p n (t.j - t.i - 1) (omega arith) (eq-eqb _ _ (subst (λ (k : ℕ). after f k s ≡ s) (sym a) e)) in
      let m = ltb-true (first p n) n hit in
      record {
        steps = suc (first p n);
        some-step = omega arith;
        within = m;
        back = eqb-true _ _ (first_found p n m);
        not-before = early;
      }
    where
      p : ℕ → Bool
      p k = eqb (after f (suc k) s) s

      early : (k : ℕ) → 0 < k → k < suc (first p n) → after f k s ≡ s → ⊥
      early zero z q e = let o : ⊥ = omega arith in absurd o
      early (suc k) z q e = eqb-false _ _ (first-before p n k (omega arith)) e
