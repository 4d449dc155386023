-- What was read of known bytes, up to a limit, is the first of them.
use Rattle.std.proofs.Common.{◌≡◌, ◌≤◌, ◌<◌, ◌⊎◌, inl, inr, ℕ, List, [], ◌++◌, length, take, Option, Some, None, IfSome, sym, ◌∙◌, ap, append-nil}
use Rattle.std.proofs.Math.Nat.{eq-or-lt_of_le}
use Rattle.std.proofs.Math.Seq.{take-append_seam}
use Rattle.std.specs.Io.KnownBytes.{Consumes, IsAtEnd}
use Rattle.std.proofs.lemmas.List.{take_all}

cases : (most : ℕ) (xs ys : List ℕ) → length xs ≤ most → (length xs < most → ys ≡ []) → (length xs ≡ most) ⊎ (length xs < most) → xs ≡ take most (xs ++ ys)
cases most xs ys h e (inl full) = sym (ap (λ n. take n (xs ++ ys)) (sym full) ∙ take-append_seam xs ys)
cases most xs ys h e (inr less) = sym (ap (λ l. take most (xs ++ l)) (e less) ∙ ap (take most) (append-nil xs) ∙ take_all most xs h)

pub first-read : (known rest : Option (List ℕ)) (most : ℕ) (xs : List ℕ) → length xs ≤ most → Consumes known rest xs → (length xs < most → IsAtEnd rest) → IfSome known (λ bytes. xs ≡ take most bytes)
first-read None rest most xs h c e = tt
first-read (Some bytes) None most xs h c e = absurd c
first-read (Some bytes) (Some ys) most xs h c e = cases most xs ys h e (eq-or-lt_of_le h) ∙ ap (take most) (sym c)

pub mapped : (known : Option (List ℕ)) (P Q : List ℕ → Type 0) → ((bytes : List ℕ) → P bytes → Q bytes) → IfSome known P → IfSome known Q
mapped None P Q f h = tt
mapped (Some bytes) P Q f h = f bytes h
