-- What `parse` returns, by the definitions of specs/.
use Rattle.std.proofs.Common.{◌≡◌, ◌≢◌, ℕ, ◌<◌, ◌^◌, List, [], ◌∷◌, true, false, length, take, get_or, Result, Ok, Err, None, arith, rules, eqb}
use Rattle.std.specs.Cmp.Lexicographic.{pointwise}
use Rattle.std.specs.Result.{result_ok, OkIff}
use Rattle.std.specs.Str.{IsUtf8, IsAscii}
use Rattle.std.specs.Str.Parse.{ParsesUnsigned}
use Rattle.std.proofs.lemmas.Str.{IsUtf8-from_ascii}
use Rattle.std.proofs.lemmas.Str.Ascii.{IsAscii-nil, IsAscii-cons}
use Rattle.std.proofs.lemmas.Str.Parse.{IsNumeralModel, numerals_by_fold, parse_plain}
use Rattle.std.proofs.lemmas.Bool.Decides.{nat_tests}
use Rattle.text.specs.Field.{value_of}
use Rattle.text.specs.Natural.{figures}
use Rattle.case_text.specs.Decimal.{natural_of}

-- The digits of specs/, and what they make, are the library's.
own : IsNumeralModel (λ ds. figures ds ≡ true) (value_of 0)
unfolding figures value_of
own = numerals_by_fold _ (search rules) value_of (search rules)

no_digits : (s : List ℕ) → (figures s ≡ true → ⊥) → natural_of s ≡ None
unfolding natural_of
no_digits s h = grind (arith, nat_tests)

pub plus-none : (s : List ℕ) → pointwise eqb (43 ∷ []) (take 1 s) ≡ true → natural_of s ≡ None
unfolding figures
plus-none [] e = cc
plus-none (b ∷ s) e = no_digits (b ∷ s) (λ h. grind (arith, nat_tests))

ascii : (s : List ℕ) → figures s ≡ true → IsAscii s
unfolding figures
ascii [] h = IsAscii-nil
ascii (b ∷ s) h = IsAscii-cons b s (grind (arith, nat_tests)) (ascii s (grind (arith, nat_tests)))

pub foreign-none : (s : List ℕ) → (IsUtf8 s → ⊥) → natural_of s ≡ None
foreign-none s h = no_digits s (λ e. h (IsUtf8-from_ascii s (ascii s e)))

natural-parsed : {E : Type 0} (s : List ℕ) (r : Result ℕ E) → OkIff r ((figures s ≡ true) × (0 < length s) × (value_of 0 s < 2 ^ 64)) (value_of 0 s) → result_ok r ≡ natural_of s
unfolding natural_of
natural-parsed s (Ok x) h = grind (arith, nat_tests)
natural-parsed s (Err e) h = grind (arith, nat_tests)

no_plus : (s : List ℕ) → pointwise eqb (43 ∷ []) (take 1 s) ≡ false → get_or s 0 0 ≢ 43
no_plus [] e = λ h. omega arith
no_plus (b ∷ s) e = grind (arith, nat_tests)

pub parsed : {E : Type 0} (s : List ℕ) (r : Result ℕ E) → ParsesUnsigned 64 10 s r → pointwise eqb (43 ∷ []) (take 1 s) ≡ false → result_ok r ≡ natural_of s
parsed s r h p = natural-parsed s r (parse_plain own 64 s r h (no_plus s p))

pub ruleset naturals = (plus-none, foreign-none, parsed)
