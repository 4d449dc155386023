-- Of n numbers below m that all differ, n is at most m; and with extras that are none of them. Assumes nothing.
use Rattle.std.specs.Prelude.{◌≡◌, refl, cond, List, [], ◌∷◌, length, ℕ, suc, ◌+◌, ◌≤◌, ◌<◌, eqb}
use Rattle.std.proofs.Common.{sym, subst, ◌∙◌, arith, eq-eqb, ne_eqb}
use Rattle.std.proofs.Math.Decide.{ℕ_discrete, dec_le}
use Rattle.whole.specs.Orbit.{pigeons}

-- n different numbers below m
pub fit : (n m : ℕ) (g : ℕ → ℕ) → ((i : ℕ) → i < n → g i < m) → ((i j : ℕ) → i < n → j < n → g i ≡ g j → i ≡ j) → n ≤ m
fit n m g below one = pick (dec_le n m)
  where
    pick : Dec (n ≤ m) → n ≤ m
    pick (yes h) = h
    pick (no h) =
        let t = pigeons m g (λ i l. below i (omega arith)) in
        let o = t.order in
        let w = t.within in
        let e = one t.i t.j (omega arith) (omega arith) t.same in
        absurd (omega arith)

pub data None (x : ℕ) : List ℕ → Type 0 where
  nil : None x []
  cons : {y : ℕ} {ys : List ℕ} → (x ≡ y → ⊥) → None x ys → None x (y ∷ ys)

-- ---- extras, none of them twice and none among the n
pub data Extra (n m : ℕ) (g : ℕ → ℕ) : List ℕ → Type 0 where
  nil : Extra n m g []
  cons : {x : ℕ} {xs : List ℕ} → x < m → ((i : ℕ) → i < n → g i ≡ x → ⊥) → None x xs → Extra n m g xs → Extra n m g (x ∷ xs)

-- one more number behind the others
also : (ℕ → ℕ) → ℕ → ℕ → ℕ → ℕ
also g n x i = cond (eqb i n) x (g i)

also-at : (g : ℕ → ℕ) (n x : ℕ) → also g n x n ≡ x
unfolding also
also-at g n x = simp (eq-eqb n n refl)

also-other : (g : ℕ → ℕ) (n x i : ℕ) → (i ≡ n → ⊥) → also g n x i ≡ g i
unfolding also
also-other g n x i e = simp (ne_eqb i n e)

push : (n m : ℕ) (g : ℕ → ℕ) (x : ℕ) (xs : List ℕ) → None x xs → Extra n m g xs → Extra (suc n) m (also g n x) xs
push n m g x [] nil nil = Extra.nil
push n m g x (y ∷ ys) (cons d ds) (cons l h e es) = Extra.cons l (λ i k q. go i k q (ℕ_discrete i n)) e (push n m g x ys ds es)
  where
    go : (i : ℕ) → i < suc n → also g n x i ≡ y → Dec (i ≡ n) → ⊥
    go i k q (yes w) = d (sym (also-at g n x) ∙ subst (λ (j : ℕ). also g n x j ≡ y) w q)
    go i k q (no w) = h i (omega arith) (sym (also-other g n x i w) ∙ q)

pub fit-extra : (xs : List ℕ) (n m : ℕ) (g : ℕ → ℕ) → ((i : ℕ) → i < n → g i < m) → ((i j : ℕ) → i < n → j < n → g i ≡ g j → i ≡ j) → Extra n m g xs → n + length xs ≤ m
fit-extra [] n m g below one nil = let h = fit n m g below one in omega arith
fit-extra (x ∷ xs) n m g below one (cons l h d es) =
    let k = fit-extra xs (suc n) m (also g n x) (λ i p. under i p (ℕ_discrete i n)) (λ i j p q e. same i j p q e (ℕ_discrete i n) (ℕ_discrete j n)) (push n m g x xs d es) in
    omega arith
  where
    under : (i : ℕ) → i < suc n → Dec (i ≡ n) → also g n x i < m
    under i p (yes w) = subst (λ (k : ℕ). k < m) (sym (subst (λ (j : ℕ). also g n x j ≡ x) (sym w) (also-at g n x))) l
    under i p (no w) = subst (λ (k : ℕ). k < m) (sym (also-other g n x i w)) (below i (omega arith))

    same : (i j : ℕ) → i < suc n → j < suc n → also g n x i ≡ also g n x j → Dec (i ≡ n) → Dec (j ≡ n) → i ≡ j
    same i j p q e (yes w) (yes u) = w ∙ sym u
    same i j p q e (yes w) (no u) =
        absurd (h j (omega arith) (sym (also-other g n x j u) ∙ sym e ∙ subst (λ (k : ℕ). also g n x k ≡ x) (sym w) (also-at g n x)))
    same i j p q e (no w) (yes u) =
        absurd (h i (omega arith) (sym (also-other g n x i w) ∙ e ∙ subst (λ (k : ℕ). also g n x k ≡ x) (sym u) (also-at g n x)))
    same i j p q e (no w) (no u) = one i j (omega arith) (omega arith) (sym (also-other g n x i w) ∙ e ∙ also-other g n x j u)
