-- What a lent slice holds as a call returns, and the laws of a run of writes. Assumes nothing.
use Rattle.std.specs.Prelude.{◌≡◌, refl, List, ◌++◌, cond, ℕ, zero, suc, ◌+◌, ◌≤◌, ◌<◌, ltb, length, take, drop}
use Rattle.std.proofs.Common.{ap, ◌∙◌, arith, take_at, lt-ltb, le-ltb}
use Rattle.std.proofs.Math.Seq.{paste, take-length, drop-append-add}
use Rattle.accounts.specs.Batch.{overlay}

-- by the call's number: where it is accepted the new elements in front, those past the last of them unchanged; a refused call writes nothing
abbrev pub kept : {A : Type 0} → ℕ → List A → List A → List A
kept zero new lent = overlay new lent
kept (suc n) new lent = lent

-- a call's number, and its one slice as it returns
pub record Left (A : Type 0) : Type 0 where
  pub answer : ℕ
  pub slice : List A

-- for the contracts alone: no call's definition is stated in its terms
abbrev pub left : {A : Type 0} → ℕ → List A → Left A
left n l = record { answer = n; slice = l }

-- ---- laws
-- a list written right after those in front
pub paste-after : {A : Type 0} (front rest new : List A) (n : ℕ) → length front ≡ n → paste (front ++ rest) n new (length new) ≡ front ++ new ++ drop (length new) rest
paste-after front rest new n e =
    rw (← e) (rw (take_at front rest (length front) refl, take-length new, drop-append-add front rest (length new)))

-- and in front
pub paste-front : {A : Type 0} (new lent : List A) → paste lent 0 new (length new) ≡ overlay new lent
paste-front {A} new lent =
    let e : 0 + length new ≡ length new = omega arith in
    ap (λ (n : ℕ). take (length new) new ++ drop n lent) e ∙ ap (λ (l : List A). l ++ drop (length new) lent) (take-length new)

pub kept-refused : {A : Type 0} (n : ℕ) (new lent : List A) → (n ≡ 0 → ⊥) → kept n new lent ≡ lent
kept-refused zero new lent h = absurd (h refl)
kept-refused (suc n) new lent h = refl

-- by the length of a slice
pub short : {B : Type 0} (n m : ℕ) (a b : B) → n < m → a ≡ cond (ltb n m) a b
short n m a b h = rw (lt-ltb n m h)

pub enough : {B : Type 0} (n m : ℕ) (a b : B) → m ≤ n → b ≡ cond (ltb n m) a b
enough n m a b h = rw (le-ltb n m h)
