-- Lists of numbers: how many pass a test, how often one stands there, and closed rings, where each is tied to the one after it and the last to the first.
-- Assumes nothing.
use Rattle.std.specs.Prelude.{◌≡◌, refl, Bool, true, false, ℕ, suc, ◌+◌, ◌<◌, ◌≤◌, eqb, length}
use Rattle.std.proofs.Common.{sym, subst, ap, ◌∙◌, ⊎_elim, arith, eqb-true, eq-eqb}
use mathlib.Core.List.{List, [], ◌∷◌, ◌++◌, map, reverse, reverse-cons}
use Rattle.whole.specs.Among.{among}
use Rattle.faceset.specs.Set.{none, add, one, count_below}
use Rattle.faceset.specs.Laws.{cases, count-le, count_none, count-new, count-ext}
use Rattle.neighbors.specs.Each.{Each, done, also}

-- how many of a list pass a test
unfoldable pub how_many : (ℕ → Bool) → List ℕ → ℕ
how_many p [] = 0
how_many p (x ∷ l) = one (p x) + how_many p l

-- how often x stands in a list
abbrev pub times : ℕ → List ℕ → ℕ
times x l = how_many (eqb x) l

pub many-append : (p : ℕ → Bool) (s t : List ℕ) → how_many p (s ++ t) ≡ how_many p s + how_many p t
unfolding how_many
many-append p [] t = omega arith
many-append p (x ∷ s) t = omega (arith, many-append p s t)

pub many-reverse : (p : ℕ → Bool) (l : List ℕ) → how_many p (reverse l) ≡ how_many p l
unfolding how_many
many-reverse p [] = refl
many-reverse p (x ∷ l) = ap (how_many p) (reverse-cons x l) ∙ many-append p (reverse l) (x ∷ []) ∙ omega (arith, many-reverse p l)

pub many-map : (p : ℕ → Bool) (f : ℕ → ℕ) (l : List ℕ) → how_many p (map f l) ≡ how_many (λ x. p (f x)) l
unfolding how_many
many-map p f [] = refl
many-map p f (x ∷ l) = ap (λ (n : ℕ). one (p (f x)) + n) (many-map p f l)

-- a test that passes wherever another does
one_less : (a b : Bool) → (a ≡ true → b ≡ true) → one a ≤ one b
one_less true b h = rw (h refl) (omega arith)
one_less false b h = omega arith

pub many-less : {P : ℕ → Type 0} (p r : ℕ → Bool) {l : List ℕ} → ((x : ℕ) → P x → p x ≡ true → r x ≡ true) → Each P l → how_many p l ≤ how_many r l
unfolding how_many
many-less p r h done = omega arith
many-less p r h (also {x} e a) = omega (arith, one_less (p x) (r x) (h x e), many-less p r h a)

-- what holds of each holds of what stands in the list
pub each-times : {P : ℕ → Type 0} {l : List ℕ} (x : ℕ) → Each P l → 0 < times x l → P x
unfolding how_many
each-times x done h = absurd (omega arith)
each-times {P} x (also {x = y} {l = l} p a) h =
    ⊎_elim (λ (e : eqb x y ≡ true). subst P (sym (eqb-true x y e)) p)
    (λ (e : eqb x y ≡ false). let z : one (eqb x y) ≡ 0 = ap one e in each-times x a (omega arith)) (cases (eqb x y))

-- a fact of each, where it holds of what stands in the list
pub each-standing : {R P : ℕ → Type 0} (l : List ℕ) → Each R l → ((x : ℕ) → R x → 0 < times x l → P x) → Each P l
unfolding how_many
each-standing [] done h = done
each-standing (y ∷ l) (also r a) h =
    let z : one (eqb y y) ≡ 1 = ap one (eq-eqb y y refl) in
    also (h y r (omega arith)) (each-standing l a (λ x s t. h x s (omega arith)))

-- of different numbers below n there are n at most
not_there : (x : ℕ) (l : List ℕ) → times x l ≡ 0 → among l x ≡ false
unfolding how_many
not_there x [] e = refl
not_there x (y ∷ l) e =
    ⊎_elim (λ (d : eqb x y ≡ true). let z : one (eqb x y) ≡ 1 = ap one d in absurd (omega arith))
    (λ (d : eqb x y ≡ false). rw d (not_there x l (omega arith))) (cases (eqb x y))

count-there : (n : ℕ) (l : List ℕ) → Each (λ x. x < n) l → ((v : ℕ) → v < n → times v l ≤ 1) → count_below n (among l) ≡ length l
unfolding how_many add none
count-there n [] done h = count-ext n (among []) none (λ k m. refl) ∙ count_none n
count-there n (x ∷ l) (also m a) h =
    let z : one (eqb x x) ≡ 1 = ap one (eq-eqb x x refl) in
    let y = h x m in
    count-ext n (among (x ∷ l)) (add x (among l)) (λ k o. refl) ∙ count-new n x (among l) m (not_there x l (omega arith))
    ∙ ap suc (count-there n l a (λ v o. omega (arith, h v o)))

pub different-few : (n : ℕ) (l : List ℕ) → Each (λ x. x < n) l → ((v : ℕ) → v < n → times v l ≤ 1) → length l ≤ n
different-few n l a h = omega (arith, count-there n l a h, count-le n (among l))

-- a chain: from a through a list to b, each tied to the next
pub data Chain (P : ℕ → ℕ → Type 0) : ℕ → List ℕ → ℕ → Type 0 where
  tie : {a b : ℕ} → P a b → Chain P a [] b
  link : {a b x : ℕ} {l : List ℕ} → P a x → Chain P x l b → Chain P a (x ∷ l) b

-- a closed ring: a chain from the first through the others back to the first
pub data Ring (P : ℕ → ℕ → Type 0) : List ℕ → Type 0 where
  closed : {x : ℕ} {l : List ℕ} → Chain P x l x → Ring P (x ∷ l)
