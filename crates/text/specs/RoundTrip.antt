-- 02, CR 1: "One proof covers a field of any kind": a field that was read is its number's text (`field-read`), and a number's text is read as that number
-- (`field_back`). Both hold of a field of any width. Assumes nothing.
use Rattle.std.specs.Prelude.{ℕ, zero, suc, ◌+◌, ◌-◌, ◌*◌, ◌/◌, ◌%◌, ◌^◌, ◌≤◌, ◌<◌, List, [], ◌∷◌, ◌++◌, Bool, true, false, cond, Some, None, ◌≡◌, refl, length, get_or, ℤ, pos, negsuc, eqb}
use Rattle.std.proofs.Common.{append_assoc, ap, ◌∙◌, arith, length-append, eq-eqb, ne_eqb}
use Rattle.std.proofs.Math.Decide.{ℕ_discrete}
use Rattle.std.proofs.Math.Nat.{pow-succ'}
use Rattle.text.specs.Field.{spaces_of, digits_of, value_of, columns, columns-length, last_digit, field_of, field_text, candidate}
use Rattle.text.specs.Bytes.{eqs, eqs-true}

-- ---- read, then written
-- a field that holds a number is the text it was compared with
picked : (s : List ℕ) (y z : ℤ) (b : Bool) → eqs s (field_text (length s) y) ≡ b → cond b (Some y) None ≡ Some z → s ≡ field_text (length s) z
picked s y z true e p = let q : y ≡ z = cc in eqs-true s _ e ∙ ap (field_text (length s)) q
picked s y z false e p = cc

-- a field that was read is the text of its number in as many columns
pub field-read : (s : List ℕ) (z : ℤ) → field_of s ≡ Some z → s ≡ field_text (length s) z
unfolding field_of
field-read s z e = picked s (candidate s) z (eqs s (field_text (length s) (candidate s))) refl e

-- ---- written, then read
-- a power of ten is above 0
ten-pos : (k : ℕ) → 0 < 10 ^ k
ten-pos zero = omega arith
ten-pos (suc k) = rw (pow-succ' 10 k) (omega (arith, ten-pos k))

-- a space before a field changes none of its digits
digits-space : (b : ℕ) (s : List ℕ) → b ≡ 32 → digits_of (b ∷ s) ≡ digits_of s
unfolding digits_of spaces_of
digits-space b s e = rw (eq-eqb b 32 e) refl

-- any other byte begins the digits
digits-other : (b : ℕ) (s : List ℕ) → (b ≡ 32 → ⊥) → digits_of (b ∷ s) ≡ b ∷ s
unfolding digits_of spaces_of
digits-other b s e = rw (ne_eqb b 32 e) refl

-- a byte before a field, where it is a space and where it is none
value-digits-by : (b : ℕ) (s : List ℕ) → value_of 0 (digits_of s) ≡ value_of 0 s → Dec (b ≡ 32) → value_of 0 (digits_of (b ∷ s)) ≡ value_of 0 (b ∷ s)
unfolding value_of
value-digits-by b s h (yes e) = rw (digits-space b s e, h, e) refl
value-digits-by b s h (no e) = rw (digits-other b s e) refl

-- spaces count nothing: the digits make the number that the whole field makes
value-digits : (s : List ℕ) → value_of 0 (digits_of s) ≡ value_of 0 s
unfolding value_of digits_of spaces_of
value-digits [] = refl
value-digits (b ∷ s) = value-digits-by b s (value-digits s) (ℕ_discrete b 32)

-- one digit more at the end
value-snoc : (a : ℕ) (s : List ℕ) (b : ℕ) → value_of a (s ++ (b ∷ [])) ≡ value_of a s * 10 + (b - 48)
unfolding value_of
value-snoc a [] b = refl
value-snoc a (x ∷ s) b = value-snoc (a * 10 + (x - 48)) s b

-- columns make the number that they were made of, where it has room in them
value-columns : (k g n : ℕ) → n < 10 ^ k → g ≤ 48 → value_of 0 (columns k g n) ≡ n
unfolding columns value_of
value-columns zero g n h l = omega arith
value-columns (suc k) g zero h l = rw (value-snoc 0 (columns k 32 zero) g, value-columns k 32 zero (ten-pos k) (omega arith)) (omega arith)
value-columns (suc k) g (suc m) h l =
    let p = rw (pow-succ' 10 k) at h in
    rw (value-snoc 0 (columns k g (suc m / 10)) (48 + suc m % 10), value-columns k g (suc m / 10) (omega arith) l) (omega arith)

-- and so does a field
value-text : (k g n : ℕ) → n < 10 ^ suc k → g ≤ 48 → value_of 0 (last_digit (suc k) g n) ≡ n
unfolding last_digit
value-text k g n h l =
    let p = rw (pow-succ' 10 k) at h in
    rw (value-snoc 0 (columns k g (n / 10)) (48 + n % 10), value-columns k g (n / 10) (omega arith) l) (omega arith)

-- whether the digits begin with a minus sign
abbrev minus : List ℕ → Bool
minus s = eqb (get_or (digits_of s) 0 0) 45

-- a space hides no minus sign
minus-space : (t : List ℕ) → minus (32 ∷ t) ≡ minus t
minus-space t = rw (digits-space 32 t refl) refl

-- a digit is none
minus-figure : (d : ℕ) (t : List ℕ) → minus ((48 + d) ∷ t) ≡ false
minus-figure d t = rw (digits-other (48 + d) t (λ e. omega arith)) (ne_eqb (48 + d) 45 (λ e. omega arith))

-- nor do many spaces hide one
minus-blank : (k : ℕ) (t : List ℕ) → minus (columns k 32 0 ++ t) ≡ minus t
unfolding columns
minus-blank zero t = refl
minus-blank (suc k) t = rw (append_assoc (columns k 32 0) (32 ∷ []) t) (minus-blank k (32 ∷ t) ∙ minus-space t)

-- a number with no sign: none is found
minus_pos : (k n d : ℕ) (t : List ℕ) → minus (columns k 32 n ++ ((48 + d) ∷ t)) ≡ false
unfolding columns
minus_pos zero n d t = minus-figure d t
minus_pos (suc k) zero d t = rw (append_assoc (columns k 32 0) (32 ∷ []) ((48 + d) ∷ t)) (minus-blank k (32 ∷ (48 + d) ∷ t) ∙ minus-space ((48 + d) ∷ t) ∙ minus-figure d t)
minus_pos (suc k) (suc m) d t = rw (append_assoc (columns k 32 (suc m / 10)) ((48 + suc m % 10) ∷ []) ((48 + d) ∷ t)) (minus_pos k (suc m / 10) (suc m % 10) ((48 + d) ∷ t))

-- the sign alone is found
minus-sign : (k : ℕ) (t : List ℕ) → minus (columns (suc k) 45 0 ++ t) ≡ true
unfolding columns
minus-sign k t = rw (append_assoc (columns k 32 0) (45 ∷ []) t) (minus-blank k (45 ∷ t) ∙ rw (digits-other 45 t (λ e. omega arith)) refl)

-- a number with a sign: it is found, where number and sign have room
minus-neg : (k n : ℕ) (t : List ℕ) → n < 10 ^ k → minus (columns (suc k) 45 n ++ t) ≡ true
unfolding columns
minus-neg zero zero t h = minus-sign 0 t
minus-neg (suc k) zero t h = minus-sign (suc k) t
minus-neg zero (suc m) t h = let f : ⊥ = omega arith in absurd f
minus-neg (suc k) (suc m) t h =
    let p = rw (pow-succ' 10 k) at h in
    rw (append_assoc (columns (suc k) 45 (suc m / 10)) ((48 + suc m % 10) ∷ []) t) (minus-neg k (suc m / 10) ((48 + suc m % 10) ∷ t) (omega arith))

-- the text of n with a sign is as wide as it should be
pub signed-length : (w g n : ℕ) → length (last_digit w g n) ≡ w
unfolding last_digit
signed-length zero g n = refl
signed-length (suc k) g n = simp (length-append, columns-length k g (n / 10)) (omega arith)

-- and so is a field
pub field-length : (w : ℕ) (z : ℤ) → length (field_text w z) ≡ w
unfolding field_text
field-length w (pos n) = signed-length w 32 n
field-length w (negsuc n) = signed-length w 45 (suc n)

-- z has a text in w columns: a digit at least, and below 0 a column more for the sign
abbrev pub Fits : ℕ → ℤ → Type 0
Fits w (pos n) = (0 < w) × (n < 10 ^ w)
Fits w (negsuc n) = (1 < w) × (suc n < 10 ^ (w - 1))

-- the text of a number from 0 on has no minus sign
minus-pos-text : (k n : ℕ) → minus (last_digit (suc k) 32 n) ≡ false
unfolding last_digit
minus-pos-text k n = minus_pos k (n / 10) (n % 10) []

-- the text of one below 0 has it
minus-neg-text : (k n : ℕ) → n < 10 ^ suc k → minus (last_digit (suc (suc k)) 45 n) ≡ true
unfolding last_digit
minus-neg-text k n h = let p = rw (pow-succ' 10 k) at h in minus-neg k (n / 10) ((48 + n % 10) ∷ []) (omega arith)

-- the only number whose text this can be is z
pub candidate-text : (w : ℕ) (z : ℤ) → Fits w z → candidate (field_text w z) ≡ z
unfolding candidate field_text
candidate-text zero (pos n) h = let f : ⊥ = omega arith in absurd f
candidate-text (suc k) (pos n) h = rw (value-digits (last_digit (suc k) 32 n), value-text k 32 n h.1 (omega arith), minus-pos-text k n) refl
candidate-text zero (negsuc n) h = let f : ⊥ = omega arith in absurd f
candidate-text (suc zero) (negsuc n) h = let f : ⊥ = omega arith in absurd f
candidate-text (suc (suc k)) (negsuc n) h =
    let w : suc (suc k) - 1 ≡ suc k = omega arith in
    let f : suc n < 10 ^ (suc (suc k) - 1) = h.1 in
    let p : suc n < 10 ^ suc k = rw w at f in
    let q : suc n < 10 ^ suc (suc k) = rw (pow-succ' 10 (suc k)) (omega arith) in
    rw (value-digits (last_digit (suc (suc k)) 45 (suc n)), value-text (suc k) 45 (suc n) q (omega arith), minus-neg-text k (suc n) p) refl

-- bytes that are the text of their candidate hold it
pub number-yes : (s : List ℕ) (z : ℤ) → candidate s ≡ z → eqs s (field_text (length s) z) ≡ true → field_of s ≡ Some z
unfolding field_of
number-yes s z c e = rw (c, e) refl
