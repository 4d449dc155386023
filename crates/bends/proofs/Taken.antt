-- What was read of known bytes, up to a limit, is the first of them; and what was counted are all of them.
use Rattle.std.proofs.Common.{◌≡◌, ◌+◌, ◌≤◌, ◌<◌, ◌⊎◌, inl, inr, ℕ, List, [], ◌++◌, length, take, Option, Some, None, IfSome, sym, ◌∙◌, ap, append-nil, arith, length-append}
use Rattle.std.proofs.Math.Nat.{eq-or-lt_of_le}
use Rattle.std.proofs.Math.Seq.{take-append_seam}
use Rattle.std.proofs.lemmas.List.{take_all}
use Rattle.std.specs.Io.Iter.{u64_saturate}
use Rattle.std.specs.Io.KnownBytes.{Consumes, IsAtEnd}
use Rattle.bends.specs.Input.{Whole}

cases : (most : ℕ) (xs ys : List ℕ) → length xs ≤ most → (length xs < most → ys ≡ []) → (length xs ≡ most) ⊎ (length xs < most) → xs ≡ take most (xs ++ ys)
cases most xs ys h e (inl full) = sym (ap (λ n. take n (xs ++ ys)) (sym full) ∙ take-append_seam xs ys)
cases most xs ys h e (inr less) = sym (ap (λ l. take most (xs ++ l)) (e less) ∙ ap (take most) (append-nil xs) ∙ take_all most xs h)

first : (most : ℕ) (bytes xs ys : List ℕ) → length xs ≤ most → bytes ≡ xs ++ ys → (length xs < most → ys ≡ []) → xs ≡ take most bytes
first most bytes xs ys h c e = cases most xs ys h e (eq-or-lt_of_le h) ∙ ap (take most) (sym c)

pub first-read : (known rest : Option (List ℕ)) (most : ℕ) (xs : List ℕ) → length xs ≤ most → Consumes known rest xs → (length xs < most → IsAtEnd rest) → IfSome known (λ bytes. xs ≡ take most bytes)
first-read None rest most xs h c e = tt
first-read (Some bytes) None most xs h c e = absurd c
first-read (Some bytes) (Some ys) most xs h c e = first most bytes xs ys h c e

pub mapped : (known : Option (List ℕ)) (P Q : List ℕ → Type 0) → ((bytes : List ℕ) → P bytes → Q bytes) → IfSome known P → IfSome known Q
mapped None P Q f h = tt
mapped (Some bytes) P Q f h = f bytes h

long : (bytes xs ys : List ℕ) → bytes ≡ xs ++ ys → length bytes ≡ length xs + length ys
long bytes xs ys c = ap length c ∙ length-append xs ys

-- Of a log that ends before the limit.
pub all-read : (known rest : Option (List ℕ)) (xs : List ℕ) (size : ℕ) → length xs < 65536 → Consumes known rest xs → (length xs < 65536 → IsAtEnd rest) → size ≡ length xs → IfSome known (λ bytes. Whole 65536 bytes xs size)
all-read None rest xs size h c e s = tt
all-read (Some bytes) None xs size h c e s = absurd c
all-read (Some bytes) (Some ys) xs size h c e s =
    let l : length bytes ≡ length xs + length ys = long bytes xs ys c in
    let none : length ys ≡ 0 = ap length (e h) in
    (first 65536 bytes xs ys (omega arith) c e, omega arith)

-- Of one that is longer: what came after it is counted.
pub all-counted : (known rest : Option (List ℕ)) (xs : List ℕ) (more size : ℕ) → length xs ≡ 65536 → Consumes known rest xs → IfSome rest (λ bytes. more ≡ u64_saturate (length bytes)) → size ≡ u64_saturate (65536 + more) → IfSome known (λ bytes. Whole 65536 bytes xs size)
all-counted None rest xs more size h c m s = tt
all-counted (Some bytes) None xs more size h c m s = absurd c
all-counted (Some bytes) (Some ys) xs more size h c m s =
    let l : length bytes ≡ length xs + length ys = long bytes xs ys c in
    (first 65536 bytes xs ys (omega arith) c (λ less. let no : ⊥ = omega (arith, less) in absurd no), omega arith)
