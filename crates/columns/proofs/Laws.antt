-- Laws of specs/: a column at a time.
use Prim.Native.Nat.{ℕ, zero, suc, ◌+◌, ◌-◌, ◌/◌, ◌%◌, ◌≤◌, ◌<◌}
use mathlib.Core.List.{List, [], ◌∷◌, ◌++◌, append_assoc}
use mathlib.Core.Path.{◌≡◌, refl, ap, sym, ◌∙◌}
use native.Mathlib.Omega.{arith}
use lib.IntN.{ℤ, pos, negsuc, nat_abs}
use lib.ListN.{length, drop, set, length-set}
use Rattle.std.proofs.Math.Seq.{drop-length}
use lib.Seq.{drop-cons, get_or-set_same, drop-set-lt}
use Rattle.text.specs.Field.{columns, last_digit, field_text}
use Rattle.columns.specs.Column.{column_byte, sign_left, sign_of}

-- One column more of a number.
columns-step : (k g n : ℕ) → columns (suc k) g n ≡ columns k (sign_left g n) (n / 10) ++ (column_byte g n ∷ [])
unfolding columns
columns-step k g zero = refl
columns-step k g (suc m) = refl

-- No column.
pub columns-none : (g n : ℕ) → columns 0 g n ≡ []
unfolding columns
columns-none g n = refl

last-by : (k w : ℕ) → w ≡ suc k → (g n : ℕ) → last_digit w g n ≡ columns k g (n / 10) ++ ((48 + n % 10) ∷ [])
unfolding last_digit
last-by k w e g n = rw e refl

-- The last column of a field.
pub last-column : (w g n : ℕ) → 0 < w → last_digit w g n ≡ columns (w - 1) g (n / 10) ++ ((48 + n % 10) ∷ [])
last-column w g n h = last-by (w - 1) w (omega arith) g n

-- A column that is written: what stands from it on.
pub column-put : (s : List ℕ) (k b : ℕ) → 0 < k → k ≤ length s → drop (k - 1) (set s (k - 1) b) ≡ b ∷ drop k s
column-put s k b h l =
    let k' : suc (k - 1) ≡ k = omega arith in
    let i : k - 1 < length (set s (k - 1) b) = simp length-set (omega arith) in
    drop-cons (set s (k - 1) b) (k - 1) 0 i
    ∙ rw (get_or-set_same s (k - 1) b 0 (omega arith), k', drop-set-lt k s (k - 1) b (omega arith)) refl

-- The last column, once it is written.
pub last-put : (s : List ℕ) (g n : ℕ) → 0 < length s → last_digit (length s) g n ≡ columns (length s - 1) g (n / 10) ++ drop (length s - 1) (set s (length s - 1) (48 + n % 10))
last-put s g n h =
    last-column (length s) g n h
    ∙ ap (λ (t : List ℕ). columns (length s - 1) g (n / 10) ++ t) (sym (column-put s (length s) (48 + n % 10) h (omega arith) ∙ ap (λ (t : List ℕ). (48 + n % 10) ∷ t) (drop-length s)))

-- One column more, once it is written.
pub next-put : (s : List ℕ) (k g n : ℕ) → 0 < k → k ≤ length s
    → columns k g n ++ drop k s ≡ columns (k - 1) (sign_left g n) (n / 10) ++ drop (k - 1) (set s (k - 1) (column_byte g n))
next-put s k g n h l =
    let k' : suc (k - 1) ≡ k = omega arith in
    ap (λ (t : List ℕ). t ++ drop k s) (rw k' at (columns-step (k - 1) g n))
    ∙ append_assoc (columns (k - 1) (sign_left g n) (n / 10)) (column_byte g n ∷ []) (drop k s)
    ∙ ap (λ (t : List ℕ). columns (k - 1) (sign_left g n) (n / 10) ++ t) (sym (column-put s k (column_byte g n) h l))

-- A number's text by its sign and its magnitude.
pub text-signed : (w : ℕ) (z : ℤ) → last_digit w (sign_of z) (nat_abs z) ≡ field_text w z
unfolding field_text
text-signed w (pos n) = refl
text-signed w (negsuc n) = refl

-- The same, under a name that `using` can say.
pub text_signed : (w : ℕ) (z : ℤ) → last_digit w (sign_of z) (nat_abs z) ≡ field_text w z
text_signed w z = text-signed w z

-- what the search is given
pub ruleset puts = (columns-none, last-put, next-put, length-set)
