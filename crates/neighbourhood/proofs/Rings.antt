-- Lists of numbers: how many pass a test, how often one stands there, and closed rings, where each is tied to the one after it and the last to the first.
-- Assumes nothing.
use Rattle.std.specs.Prelude.{ℕ}
use Rattle.std.proofs.Common.{sym, subst}
use mathlib.Core.List.{List, [], ◌∷◌, ◌++◌, reverse, append-nil, reverse-cons}
use Rattle.neighbors.specs.Each.{Each, also}
use Rattle.neighbourhood.specs.Rings.{Chain, tie, link, Ring, closed}

pub chain-of : {P : ℕ → ℕ → Type 0} {x : ℕ} {l : List ℕ} → Ring P (x ∷ l) → Chain P x l x
chain-of (closed c) = c

chain-join : {P : ℕ → ℕ → Type 0} {a b d : ℕ} {s t : List ℕ} → Chain P a s b → Chain P b t d → Chain P a (s ++ b ∷ t) d
chain-join (tie p) r = link p r
chain-join (link p c) r = link p (chain-join c r)

chain-split : {P : ℕ → ℕ → Type 0} {a b d : ℕ} (s t : List ℕ) → Chain P a (s ++ b ∷ t) d → Chain P a s b × Chain P b t d
chain-split [] t (link p c) = (tie p, c)
chain-split (x ∷ s) t (link p c) = let r = chain-split s t c in (link p r.0, r.1)

-- a ring begun elsewhere
ring-turn : (P : ℕ → ℕ → Type 0) (s t : List ℕ) → Ring P (s ++ t) → Ring P (t ++ s)
ring-turn P [] t c = subst (Ring P) (sym (append-nil t)) c
ring-turn P (x ∷ s) [] c = subst (Ring P) (append-nil (x ∷ s)) c
ring-turn P (x ∷ s) (y ∷ t) (closed c) = let r = chain-split s t c in closed (chain-join r.1 r.0)

-- backwards
chain_back : {P : ℕ → ℕ → Type 0} {a b : ℕ} {l : List ℕ} → Chain P a l b → Chain (λ x y. P y x) b (reverse l) a
chain_back (tie p) = tie p
chain_back {P} {a} {b} (link {x = x} {l = l} p c) =
    subst (λ (s : List ℕ). Chain (λ u v. P v u) b s a) (sym (reverse-cons x l)) (chain-join (chain_back c) (tie p))

pub ring-back : (P : ℕ → ℕ → Type 0) (l : List ℕ) → Ring P l → Ring (λ x y. P y x) (reverse l)
ring-back P [] x' = elim x' [ ]
ring-back P (x ∷ l) (closed c) =
    subst (Ring (λ u v. P v u)) (sym (reverse-cons x l)) (ring-turn (λ u v. P v u) (x ∷ []) (reverse l) (closed (chain_back c)))

-- ---- one element replaced by two; the ring had at least two
tails : {P Q : ℕ → ℕ → Type 0} {x h a : ℕ} {l : List ℕ} → ((u v : ℕ) → P u v → Q u v) → ((u : ℕ) → P u h → Q u a) → Chain P x l h → Chain Q x l a
tails {x = x} m f (tie p) = tie (f x p)
tails {x = x} m f (link {x = y} p c) = link (m x y p) (tails m f c)

ends : {P Q : ℕ → ℕ → Type 0} {h a b : ℕ} {l : List ℕ} → (P h h → ⊥) → ((u v : ℕ) → P u v → Q u v) → ((v : ℕ) → P h v → Q b v) → ((u : ℕ) → P u h → Q u a) → Chain P h l h → Chain Q b l a
ends n m g f (tie p) = absurd (n p)
ends n m g f (link {x = y} p c) = link (g y p) (tails m f c)

pub ring-split : {P Q : ℕ → ℕ → Type 0} {h a b : ℕ} (s t : List ℕ) → (P h h → ⊥) → ((u v : ℕ) → P u v → Q u v) → ((v : ℕ) → P h v → Q b v) → ((u : ℕ) → P u h → Q u a) → Q a b → Ring P (s ++ h ∷ t) → Ring Q (s ++ a ∷ b ∷ t)
ring-split {P} {Q} {h} {a} {b} s t n m g f k r =
    ring-turn Q (a ∷ b ∷ t) s (closed (link k (ends n m g f (chain-of (ring-turn P s (h ∷ t) r)))))

-- ---- other ties, each by its first element
chain-map : {R : ℕ → Type 0} {P Q : ℕ → ℕ → Type 0} {a b : ℕ} {l : List ℕ} → ((x y : ℕ) → R x → P x y → Q x y) → R a → Each R l → Chain P a l b → Chain Q a l b
chain-map {a = a} {b = b} f r e (tie p) = tie (f a b r p)
chain-map {a = a} f r (also s e) (link {x = x} p d) = link (f a x r p) (chain-map f s e d)

pub ring-map : (R : ℕ → Type 0) (P Q : ℕ → ℕ → Type 0) (l : List ℕ) → ((x y : ℕ) → R x → P x y → Q x y) → Each R l → Ring P l → Ring Q l
ring-map R P Q [] f _ x4 = elim x4 [ ]
ring-map R P Q (x ∷ l) f (also s e) (closed r) = closed (chain-map {R = R} f s e r)
