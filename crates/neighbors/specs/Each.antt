-- A fact of each number of a list. Assumes nothing.
use Rattle.std.proofs.Common.{sym, subst, not-suc-le-zero, le_of_suc-le-suc}
use mathlib.Core.List.{List, [], ◌∷◌, ◌++◌, map, reverse, reverse-cons}
use Rattle.std.specs.Prelude.{ℕ, zero, suc, ◌<◌, length, get_or}

pub data Each (P : ℕ → Type 0) : List ℕ → Type 0 where
  done : Each P []
  also : {x : ℕ} {l : List ℕ} → P x → Each P l → Each P (x ∷ l)

-- two lists one after the other, and either of them
pub each_append : {P : ℕ → Type 0} {s t : List ℕ} → Each P s → Each P t → Each P (s ++ t)
each_append done b = b
each_append (also p a) b = also p (each_append a b)

pub each_left : {P : ℕ → Type 0} (s t : List ℕ) → Each P (s ++ t) → Each P s
each_left [] t a = done
each_left (x ∷ s) t (also p a) = also p (each_left s t a)

pub each_right : {P : ℕ → Type 0} (s t : List ℕ) → Each P (s ++ t) → Each P t
each_right [] t a = a
each_right (x ∷ s) t (also p a) = each_right s t a

pub each-head : {P : ℕ → Type 0} {x : ℕ} {l : List ℕ} → Each P (x ∷ l) → P x
each-head (also p a) = p

pub each_tail : {P : ℕ → Type 0} {x : ℕ} {l : List ℕ} → Each P (x ∷ l) → Each P l
each_tail (also p a) = a

-- backwards
pub each-reverse : {P : ℕ → Type 0} (l : List ℕ) → Each P l → Each P (reverse l)
each-reverse [] a = done
each-reverse {P} (x ∷ l) (also p a) = subst (Each P) (sym (reverse-cons x l)) (each_append (each-reverse l a) (also p done))

-- of what a function makes of each
pub each-made : {P Q : ℕ → Type 0} (f : ℕ → ℕ) {l : List ℕ} → ((x : ℕ) → P x → Q (f x)) → Each P l → Each Q (map f l)
each-made f h done = done
each-made f h (also {x} p a) = also (h x p) (each-made f h a)

-- by position
pub each_at : {P : ℕ → Type 0} {l : List ℕ} → Each P l → (k : ℕ) → k < length l → P (get_or l k 0)
each_at done k h = absurd (not-suc-le-zero h)
each_at (also p a) zero h = p
each_at (also p a) (suc k) h = each_at a k (le_of_suc-le-suc h)
