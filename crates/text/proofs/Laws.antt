-- Laws of specs/: a byte at a time; then, that a field is the text of its number exactly when its digits are plain, after a minus sign or with none.
use Prim.Native.Nat.{ℕ, zero, suc, ◌+◌, ◌-◌, ◌*◌, ◌/◌, ◌%◌, ◌^◌, ◌≤◌, ◌<◌}
use mathlib.Core.List.{List, [], ◌∷◌, ◌++◌, append_assoc, append-nil}
use mathlib.Core.Bool.{Bool, true, false, not, cond, ◌&&◌, true≢false}
use mathlib.Core.Logic.{◌⊎◌, inl, inr, ⊎_elim}
use mathlib.Core.Path.{◌≡◌, refl, ap, sym, ◌∙◌}
use native.Mathlib.Omega.{arith}
use native.Mathlib.Decide.{ℕ_discrete}
use native.Mathlib.Nat.{pow-succ', pow-le-pow_right, zero-add}
use native.Mathlib.Numerals.{add-one, one-add}
use mir.Facts.{to_z_pos}
use lib.ListN.{length, take, drop, get_or, length-append, length-drop, drop_of_length-le}
use lib.IntN.{ℤ, pos, negsuc}
use lib.Seq.{take_all, drop-cons, drop-drop}
use lib.Dec.{eqb, leb, lit<}
use borrow.Author.Tests.{eq-eqb, ne_eqb, eqb-true, eqb-false, not-true, le-leb, leb-true, lt-ltb}
use Rattle.whole.specs.Bools.{and-true, is_false}
use Rattle.text.specs.Bytes.{eqs-refl, eqs-other}
use Rattle.std.specs.Prelude.{None, Some}
use Rattle.std.specs.List.{prefix_len}
use Rattle.std.proofs.lemmas.List.Sums.{prefix_len-le-length}
use Rattle.text.specs.Field.{field_width, spaces_of, digits_of, value_of, columns, columns-length, last_digit, field_of, field_text, candidate, signed}
use Rattle.text.specs.Natural.{is_figure, figures, plain, number_if, below_zero}

-- ---- a byte at a time

-- The part from i on is all that is left of a list of bytes.
pub part-all : (s : List ℕ) (i : ℕ) → take (length s - i) (drop i s) ≡ drop i s
part-all s i = take_all (length s - i) (drop i s) (simp length-drop (omega arith))

-- The spaces that bytes begin with are all before the first byte that is none.
spaces-prefix : (s : List ℕ) → prefix_len (λ b. eqb b 32) s ≡ spaces_of s
unfolding spaces_of
spaces-prefix [] = refl
spaces-prefix (b ∷ s) = rw (spaces-prefix s, one-add) refl

-- So a count of them up to there is theirs.
pub spaces-counted : (s : List ℕ) (n : ℕ) → n ≡ prefix_len (λ b. eqb b 32) s → (n ≡ spaces_of s) × (n ≤ length s)
spaces-counted s n e = (e ∙ spaces-prefix s, rw e (prefix_len-le-length (λ b. eqb b 32) s))

-- A space more.
pub spaces-more : (s : List ℕ) (i : ℕ) → i < length s → get_or s i 0 ≡ 32 → spaces_of (drop i s) ≡ suc (spaces_of (drop (suc i) s))
unfolding spaces_of
spaces-more s i h e = rw (drop-cons s i 0 h, eq-eqb (get_or s i 0) 32 e)

-- No space more.
pub spaces-end : (s : List ℕ) (i : ℕ) → i < length s → (get_or s i 0 ≡ 32 → ⊥) → spaces_of (drop i s) ≡ 0
unfolding spaces_of
spaces-end s i h e = rw (drop-cons s i 0 h, ne_eqb (get_or s i 0) 32 e)

-- Fewer than five spaces, where five would be wrong.
pub fewer-spaces : (s : List ℕ) → (5 ≤ spaces_of s → ⊥) → leb 5 (spaces_of s) ≡ false
fewer-spaces s f = is_false (leb 5 (spaces_of s)) (λ e. f (leb-true 5 (spaces_of s) e))

-- One of the spaces that a field begins with.
pub space-at : (s : List ℕ) (i : ℕ) → i < spaces_of s → get_or s i 0 ≡ 32
unfolding spaces_of
space-at [] i h = absurd (omega arith)
space-at (b ∷ s) i h = pick (space-at s) i (ℕ_discrete b 32) h
  where
    pick : ((i : ℕ) → i < spaces_of s → get_or s i 0 ≡ 32) → (i : ℕ) → Dec (b ≡ 32) → i < spaces_of (b ∷ s) → get_or (b ∷ s) i 0 ≡ 32
    pick rest zero (yes e) l = e
    pick rest (suc i) (yes e) l = rest i (let m = rw (eq-eqb b 32 e) at l in omega arith)
    pick rest i (no e) l = let m = rw (ne_eqb b 32 e) at l in absurd (omega arith)

-- Spaces passed, and those that begin the rest.
pub spaces-pass : (s : List ℕ) (i : ℕ) → i ≤ length s → ((k : ℕ) → k < i → get_or s k 0 ≡ 32) → spaces_of s ≡ i + spaces_of (drop i s)
spaces-pass s zero l h = sym (zero-add (spaces_of s))
spaces-pass s (suc i) l h = spaces-pass s i (omega arith) (λ k m. h k (omega arith)) ∙ omega (arith, spaces-more s i (omega arith) (h i (omega arith)))

-- Bytes that make the word of four spaces are four spaces.
pub word-spaces : (s : List ℕ) → get_or s 0 0 < 256 → get_or s 1 0 < 256 → get_or s 2 0 < 256
    → get_or s 0 0 + get_or s 1 0 * 256 + get_or s 2 0 * 65536 + get_or s 3 0 * 16777216 ≡ 538976288
    → (get_or s 0 0 ≡ 32) × (get_or s 1 0 ≡ 32) × (get_or s 2 0 ≡ 32) × (get_or s 3 0 ≡ 32)
word-spaces s p q r e = (omega arith, omega arith, omega arith, omega arith)

-- After four spaces the fifth column decides whether there are five.
pub five-spaces : (s : List ℕ) → 4 < length s → (get_or s 0 0 ≡ 32) × (get_or s 1 0 ≡ 32) × (get_or s 2 0 ≡ 32) × (get_or s 3 0 ≡ 32)
    → eqb (get_or s 4 0) 32 ≡ leb 5 (spaces_of s)
five-spaces s h (a, b, c, d) = by (ℕ_discrete (get_or s 4 0) 32)
  where
    first : spaces_of s ≡ 1 + spaces_of (drop 1 s)
    first = omega (arith, spaces-more s 0 (omega arith) a)

    four : spaces_of s ≡ 4 + spaces_of (drop 4 s)
    four = omega (arith, first, spaces-more s 1 (omega arith) b, spaces-more s 2 (omega arith) c, spaces-more s 3 (omega arith) d)

    by : Dec (get_or s 4 0 ≡ 32) → eqb (get_or s 4 0) 32 ≡ leb 5 (spaces_of s)
    by (yes p) = eq-eqb (get_or s 4 0) 32 p ∙ sym (le-leb 5 (spaces_of s) (omega (arith, four, spaces-more s 4 h p)))
    by (no p) = ne_eqb (get_or s 4 0) 32 p ∙ sym (fewer-spaces s (λ l. omega (arith, four, spaces-end s 4 h p)))

-- Nothing begins with no space.
pub spaces-none : spaces_of [] ≡ 0
unfolding spaces_of
spaces-none = refl

-- Where spaces are passed, the digits are those of the rest.
pub digits-after : (s : List ℕ) (i : ℕ) → spaces_of s ≡ i + spaces_of (drop i s) → digits_of (drop i s) ≡ digits_of s
unfolding digits_of
digits-after s i e = drop-drop (spaces_of (drop i s)) i s ∙ ap (λ (k : ℕ). drop k s) (sym e)

-- And the rest, where it begins with none.
pub digits-at : (s : List ℕ) (i : ℕ) → i < length s → spaces_of s ≡ i + spaces_of (drop i s) → (get_or s i 0 ≡ 32 → ⊥) → digits_of s ≡ drop i s
unfolding digits_of
digits-at s i h e n = let z : spaces_of s ≡ i = omega (arith, spaces-end s i h n) in ap (λ (k : ℕ). drop k s) z

-- A digit more.
pub value-more : (s : List ℕ) (i a : ℕ) → i < length s → value_of a (drop i s) ≡ value_of (a * 10 + (get_or s i 0 - 48)) (drop (suc i) s)
unfolding value_of
value-more s i a h = rw (drop-cons s i 0 h)

-- No digit more.
pub value_none : (a : ℕ) → value_of a [] ≡ a
unfolding value_of
value_none a = refl

-- A byte more, a digit or not.
pub figures-more : (s : List ℕ) (i : ℕ) → i < length s → figures (drop i s) ≡ (is_figure (get_or s i 0) && figures (drop (suc i) s))
unfolding figures
figures-more s i h = rw (drop-cons s i 0 h)

-- No byte more.
pub figures-none : figures [] ≡ true
unfolding figures
figures-none = refl

-- A digit is '0' to '9'.
pub figure-range : (b : ℕ) → is_figure b ≡ true → (48 ≤ b) × (b ≤ 57)
figure-range b e = let p = and-true (leb 48 b) (leb b 57) e in (leb-true 48 b p.0, leb-true b 57 p.1)

-- The number of i digits stays below 10 ^ i.
pub value_grows : (i v f : ℕ) → v < 10 ^ i → f < 10 → v * 10 + f < 10 ^ (i + 1)
value_grows i v f b g = rw (add-one i, pow-succ' 10 i) (omega arith)

-- So the number of a field's digits is small.
pub value-fits : (i v : ℕ) → i ≤ field_width → v < 10 ^ i → v < 10 ^ field_width
value-fits i v h b = omega (arith, pow-le-pow_right {n = 10} (lit< tt) {i = i} {j = field_width} h)

-- Nothing is not plain.
pub plain-none : (d : List ℕ) → length d ≡ 0 → plain d ≡ false
unfolding plain
plain-none [] h = refl
plain-none (b ∷ d) h = absurd (omega arith)

-- A 0 before others is not plain.
pub plain-zero : (d : List ℕ) → get_or d 0 0 ≡ 48 → 1 < length d → plain d ≡ false
unfolding plain
plain-zero [] e h = absurd (omega arith)
plain-zero (b ∷ []) e h = absurd (omega arith)
plain-zero (b ∷ c ∷ s) e h = rw (eq-eqb b 48 e)

-- With no 0 before others, bytes are plain where all are digits.
pub plain-figures : (d : List ℕ) → 0 < length d → (get_or d 0 0 ≡ 48 → 1 < length d → ⊥) → plain d ≡ figures d
unfolding plain
plain-figures [] h e = absurd (omega arith)
plain-figures (b ∷ []) h e = refl
plain-figures (b ∷ c ∷ s) h e = rw (ne_eqb b 48 (λ q. e q (omega arith)))

-- ---- plain digits are the text of their number

-- The last column of a number above 0.
columns-figure : (k g n : ℕ) → 0 < n → columns (suc k) g n ≡ columns k g (n / 10) ++ ((48 + n % 10) ∷ [])
unfolding columns
columns-figure k g zero h = absurd (omega arith)
columns-figure k g (suc m) h = refl

-- One digit x after those of a.
columns-more : (k g a x : ℕ) → is_figure x ≡ true → 0 < a * 10 + (x - 48) → columns (suc k) g (a * 10 + (x - 48)) ≡ columns k g a ++ (x ∷ [])
columns-more k g a x f h =
    let p = figure-range x f in
    let q : (a * 10 + (x - 48)) / 10 ≡ a = omega arith in
    let r : 48 + (a * 10 + (x - 48)) % 10 ≡ x = omega arith in
    columns-figure k g (a * 10 + (x - 48)) h ∙ rw (q, r) refl

-- Digits d after those of a.
columns-digits : (d : List ℕ) (w k g a : ℕ) → k + length d ≡ w → 0 < a → figures d ≡ true → columns w g (value_of a d) ≡ columns k g a ++ d
unfolding value_of figures
columns-digits [] w k g a e h f = let q : w ≡ k = omega arith in rw (q, append-nil (columns k g a)) refl
columns-digits (x ∷ d) w k g a e h f =
    let p = and-true (is_figure x) (figures d) f in
    columns-digits d w (suc k) g (a * 10 + (x - 48)) (omega arith) (omega arith) p.1
    ∙ ap (λ (l : List ℕ). l ++ d) (columns-more k g a x p.0 (omega arith))
    ∙ append_assoc (columns k g a) (x ∷ []) d

-- A number above 0 stays above it.
value_pos : (d : List ℕ) (a : ℕ) → 0 < a → 0 < value_of a d
unfolding value_of
value_pos [] a h = h
value_pos (x ∷ d) a h = value_pos d (a * 10 + (x - 48)) (omega arith)

-- The first digit.
value-first : (x : ℕ) (s : List ℕ) → value_of 0 (x ∷ s) ≡ value_of (x - 48) s
unfolding value_of
value-first x s = ap (λ (a : ℕ). value_of a s) (zero-add (x - 48))

-- The text of one digit.
last_one : (k g x : ℕ) → is_figure x ≡ true → last_digit (suc k) g (x - 48) ≡ columns k g 0 ++ (x ∷ [])
unfolding last_digit
last_one k g x f =
    let p = figure-range x f in
    let q : (x - 48) / 10 ≡ 0 = omega arith in
    let r : 48 + (x - 48) % 10 ≡ x = omega arith in
    rw (q, r) refl

-- The text of a number above 0 is columns alone.
last-columns : (w g n : ℕ) → 0 < n → 0 < w → last_digit w g n ≡ columns w g n
unfolding last_digit
last-columns zero g n h l = absurd (omega arith)
last-columns (suc k) g n h l = sym (columns-figure k g n h)

-- Plain digits, after columns with no digit, are the text of their number.
plain-text : (d : List ℕ) (w k g : ℕ) → k + length d ≡ w → plain d ≡ true → last_digit w g (value_of 0 d) ≡ columns k g 0 ++ d
unfolding plain figures
plain-text [] w k g e p = absurd (true≢false (sym p))
plain-text (x ∷ []) w k g e p =
    let q : w ≡ suc k = omega arith in
    rw (q, value-first x [], value_none (x - 48)) (last_one k g x (and-true (is_figure x) true p).0)
plain-text (x ∷ y ∷ s) w k g e p =
    let q = and-true (not (eqb x 48)) (figures (x ∷ y ∷ s)) p in
    let f = and-true (is_figure x) (figures (y ∷ s)) q.1 in
    let b = figure-range x f.0 in
    let z = eqb-false x 48 (not-true (eqb x 48) q.0) in
    let h : 0 < x - 48 = omega arith in
    ap (last_digit w g) (value-first x (y ∷ s))
    ∙ last-columns w g (value_of (x - 48) (y ∷ s)) (value_pos (y ∷ s) (x - 48) h) (omega arith)
    ∙ columns-digits (y ∷ s) w (suc k) g (x - 48) (omega arith) h f.1
    ∙ ap (λ (l : List ℕ). l ++ (y ∷ s)) (rw (zero-add (x - 48)) at (columns-more k g 0 x f.0 (omega arith)))
    ∙ append_assoc (columns k g 0) (x ∷ []) (y ∷ s)

-- Columns with no digit and no sign are spaces.
blank : (k : ℕ) → columns (suc k) 32 0 ≡ 32 ∷ columns k 32 0
unfolding columns
blank zero = refl
blank (suc k) = ap (λ (l : List ℕ). l ++ (32 ∷ [])) (blank k)

-- A space before a field.
digits-space : (b : ℕ) (s : List ℕ) → b ≡ 32 → (spaces_of (b ∷ s) ≡ suc (spaces_of s)) × (digits_of (b ∷ s) ≡ digits_of s)
unfolding digits_of spaces_of
digits-space b s e = rw (eq-eqb b 32 e) (refl, refl)

-- A first byte that is no space.
digits-other : (b : ℕ) (s : List ℕ) → (b ≡ 32 → ⊥) → (spaces_of (b ∷ s) ≡ 0) × (digits_of (b ∷ s) ≡ b ∷ s)
unfolding digits_of spaces_of
digits-other b s e = rw (ne_eqb b 32 e) (refl, refl)

-- The step of `pad`.
pad-by : (b : ℕ) (s : List ℕ) → Dec (b ≡ 32) → columns (spaces_of s) 32 0 ++ digits_of s ≡ s → columns (spaces_of (b ∷ s)) 32 0 ++ digits_of (b ∷ s) ≡ b ∷ s
unfolding columns
pad-by b s (yes e) h = let q = digits-space b s e in rw (q.0, q.1, blank (spaces_of s), h, e) refl
pad-by b s (no e) h = let q = digits-other b s e in rw (q.0, q.1) refl

-- A field is its spaces, and then its digits.
pad : (s : List ℕ) → columns (spaces_of s) 32 0 ++ digits_of s ≡ s
unfolding columns spaces_of digits_of
pad [] = refl
pad (b ∷ s) = pad-by b s (ℕ_discrete b 32) (pad s)

-- A field is as long as its spaces and its digits.
pub pad-length : (s : List ℕ) → spaces_of s + length (digits_of s) ≡ length s
pad-length s = simp (length-append, columns-length) at (ap length (pad s))

-- ---- what is a number's text has plain digits

-- A digit more at the end.
value-snoc : (s : List ℕ) (a b : ℕ) → value_of a (s ++ (b ∷ [])) ≡ value_of a s * 10 + (b - 48)
unfolding value_of
value-snoc [] a b = refl
value-snoc (x ∷ s) a b = value-snoc s (a * 10 + (x - 48)) b

-- The same of the test on digits.
figures-snoc : (s : List ℕ) (b : ℕ) → figures s ≡ true → is_figure b ≡ true → figures (s ++ (b ∷ [])) ≡ true
unfolding figures
figures-snoc [] b h f = rw f refl
figures-snoc (x ∷ s) b h f = let p = and-true (is_figure x) (figures s) h in rw p.0 (figures-snoc s b p.1 f)

-- What the text has for a digit is one.
figure-of : (n : ℕ) → is_figure (48 + n % 10) ≡ true
figure-of n = rw (le-leb 48 (48 + n % 10) (omega arith), le-leb (48 + n % 10) 57 (omega arith)) refl

-- A column b before a text u of n: a space, or one before digits alone; and a space or the sign g where n fits u.
record Lead (b : ℕ) (u : List ℕ) (g n : ℕ) : Type 0 where
  sort : (b ≡ 32) ⊎ (((b ≡ g) ⊎ (is_figure b ≡ true)) × (figures u ≡ true))
  fit : value_of 0 u ≡ n → (b ≡ 32) ⊎ (b ≡ g)

-- A text t of n that has one column more than the text u.
record Wider (t u : List ℕ) (g n : ℕ) : Type 0 where
  first : ℕ
  split : t ≡ first ∷ u
  lead : Lead first u g n

-- One digit more at the end of u.
lead_snoc : (b : ℕ) (u : List ℕ) (g n : ℕ) → Lead b u g (n / 10) → Lead b (u ++ ((48 + n % 10) ∷ [])) g n
lead_snoc b u g n r = record {
  sort = ⊎_elim (λ e. inl e) (λ p. inr (p.0, figures-snoc u (48 + n % 10) p.1 (figure-of n))) r.sort;
  fit = λ e. r.fit (omega (arith, e, value-snoc u 0 (48 + n % 10)));
}

-- One digit more at the end of both.
wider-snoc : (t u : List ℕ) (g n : ℕ) → Wider t u g (n / 10) → Wider (t ++ ((48 + n % 10) ∷ [])) (u ++ ((48 + n % 10) ∷ [])) g n
wider-snoc t u g n r = record {
  first = r.first;
  split = ap (λ (l : List ℕ). l ++ ((48 + n % 10) ∷ [])) r.split;
  lead = lead_snoc r.first u g n r.lead;
}

-- One column more on the left.
columns-wider : (k g n : ℕ) → Wider (columns (suc k) g n) (columns k g n) g n
unfolding columns value_of figures
columns-wider zero g zero = record { first = g; split = refl; lead = record { sort = inr (inl refl, refl); fit = λ e. inr refl } }
columns-wider zero g (suc m) = record { first = 48 + suc m % 10; split = refl; lead = record { sort = inr (inr (figure-of (suc m)), refl); fit = λ e. absurd (omega arith) } }
columns-wider (suc k) g zero = record { first = 32; split = ap (λ (l : List ℕ). l ++ (g ∷ [])) (blank k); lead = record { sort = inl refl; fit = λ e. inl refl } }
columns-wider (suc k) g (suc m) = wider-snoc (columns (suc k) g (suc m / 10)) (columns k g (suc m / 10)) g (suc m) (columns-wider k g (suc m / 10))

-- The same of whole texts.
last_wider : (k g n : ℕ) → Wider (last_digit (suc (suc k)) g n) (last_digit (suc k) g n) g n
unfolding last_digit
last_wider k g n = wider-snoc (columns (suc k) g (n / 10)) (columns k g (n / 10)) g n (columns-wider k g (n / 10))

-- A text of one column is a digit.
text-one : (b g n : ℕ) → b ∷ [] ≡ last_digit 1 g n → is_figure b ≡ true
unfolding last_digit columns
text-one b g n e = let q : b ≡ 48 + n % 10 = cc in rw q (figure-of n)

-- A text of more columns is its first one, and the text of the rest.
text-more : (b c : ℕ) (t : List ℕ) (g n : ℕ) → b ∷ c ∷ t ≡ last_digit (length (b ∷ c ∷ t)) g n → (c ∷ t ≡ last_digit (length (c ∷ t)) g n) × Lead b (c ∷ t) g n
text-more b c t g n e =
    let r = last_wider (length t) g n in
    let q : b ∷ c ∷ t ≡ r.first ∷ last_digit (suc (length t)) g n = e ∙ r.split in
    let h : b ≡ r.first = cc in
    let l : c ∷ t ≡ last_digit (suc (length t)) g n = cc in
    (l, rw (h, l) r.lead)

-- Bytes that are the text of n, and do not begin with a space.
record Solid (d : List ℕ) (g n : ℕ) : Type 0 where
  some : 0 < length d
  text : d ≡ last_digit (length d) g n
  head : get_or d 0 0 ≡ 32 → ⊥

-- The step of `text-digits`.
text-digits-by : (b : ℕ) (s : List ℕ) (g n : ℕ) → b ∷ s ≡ last_digit (length (b ∷ s)) g n → Dec (b ≡ 32)
    → (0 < length s → s ≡ last_digit (length s) g n → Solid (digits_of s) g n) → Solid (digits_of (b ∷ s)) g n
text-digits-by b s g n e (no h) f = rw (digits-other b s h).1 (record { some = omega arith; text = e; head = h })
text-digits-by b [] g n e (yes h) f = let q = figure-range b (text-one b g n e) in absurd (omega arith)
text-digits-by b (c ∷ t) g n e (yes h) f = rw (digits-space b (c ∷ t) h).1 (f (omega arith) (text-more b c t g n e).0)

-- The digits of a text are a text of the same number.
text-digits : (s : List ℕ) (g n : ℕ) → 0 < length s → s ≡ last_digit (length s) g n → Solid (digits_of s) g n
text-digits [] g n h e = absurd (omega arith)
text-digits (b ∷ s) g n h e = text-digits-by b s g n e (ℕ_discrete b 32) (text-digits s g n)

-- A leading 0 counts nothing.
value-zero : (b : ℕ) (u : List ℕ) → b ≡ 48 → value_of 0 (b ∷ u) ≡ value_of 0 u
unfolding value_of
value-zero b u e = rw e refl

-- Digits that are the text of their number are plain: after a leading 0 the number would fit the rest, and so have no digit there.
text-plain : (d : List ℕ) (g n : ℕ) → g < 48 → 0 < length d → d ≡ last_digit (length d) g n → value_of 0 d ≡ n → figures d ≡ true → plain d ≡ true
unfolding plain
text-plain [] g n l h e v f = absurd (omega arith)
text-plain (b ∷ []) g n l h e v f = f
text-plain (b ∷ c ∷ t) g n l h e v f =
    rw (ne_eqb b 48 (λ z. ⊎_elim (λ q. omega arith) (λ q. omega arith) ((text-more b c t g n e).1.fit (sym (value-zero b (c ∷ t) z) ∙ v)))) f

-- A text with no sign, after its spaces, is digits alone.
text-figures : (d : List ℕ) (n : ℕ) → Solid d 32 n → figures d ≡ true
unfolding figures
text-figures [] n r = absurd (omega arith)
text-figures (b ∷ []) n r = rw (text-one b 32 n r.text) refl
text-figures (b ∷ c ∷ t) n r =
    ⊎_elim
    (λ q. absurd (r.head q))
    (λ q. ⊎_elim (λ z. absurd (r.head z)) (λ z. rw z q.1) q.0)
    (text-more b c t 32 n r.text).1.sort

-- What follows a minus sign.
record Signed (e : List ℕ) (g n : ℕ) : Type 0 where
  sign : g ≡ 45
  some : 0 < length e
  text : e ≡ last_digit (length e) g n
  all : figures e ≡ true

-- A text that begins with a minus sign has it for its sign, and is digits alone after it.
text-signed : (e : List ℕ) (g n : ℕ) → Solid (45 ∷ e) g n → Signed e g n
text-signed [] g n r = let q = figure-range 45 (text-one 45 g n r.text) in absurd (omega arith)
text-signed (c ∷ t) g n r =
    let p = text-more 45 c t g n r.text in
    ⊎_elim
    (λ q. absurd (r.head q))
    (λ q. record {
      sign = ⊎_elim (λ z. sym z) (λ z. let f = figure-range 45 z in absurd (omega arith)) q.0;
      some = omega arith;
      text = p.0;
      all = q.1;
    })
    p.1.sort

-- ---- what a field holds

-- A field that is its candidate's text.
field-yes : (s : List ℕ) (z : ℤ) → candidate s ≡ z → field_text (length s) z ≡ s → field_of s ≡ Some z
unfolding field_of
field-yes s z e t = rw (e, t, eqs-refl s) refl

-- A field that is not.
field-no : (s : List ℕ) (z : ℤ) → candidate s ≡ z → (s ≡ field_text (length s) z → ⊥) → field_of s ≡ None
unfolding field_of
field-no s z e t = rw (e, eqs-other s (field_text (length s) z) t) refl

-- The cases of `field-unsigned`.
unsigned_by : (s : List ℕ) → 0 < length s → candidate s ≡ pos (value_of 0 (digits_of s)) → (t : Bool) → plain (digits_of s) ≡ t → field_of s ≡ number_if t (digits_of s)
unfolding field_text
unsigned_by s h c true p = field-yes s (pos (value_of 0 (digits_of s))) c (plain-text (digits_of s) (length s) (spaces_of s) 32 (pad-length s) p ∙ pad s)
unsigned_by s h c false p =
    let n = value_of 0 (digits_of s) in
    field-no s (pos n) c (λ q.
    let r = text-digits s 32 n h q in
    true≢false (sym (text-plain (digits_of s) 32 n (lit< tt) r.some r.text refl (text-figures (digits_of s) n r)) ∙ p))

-- A field whose digits have no minus sign.
pub field-unsigned : (s : List ℕ) → 0 < length s → eqb (get_or (digits_of s) 0 0) 45 ≡ false → field_of s ≡ number_if (plain (digits_of s)) (digits_of s)
unfolding candidate
field-unsigned s h m = unsigned_by s h (rw m refl) (plain (digits_of s)) refl

-- A field whose digits begin with '1' to '9', or a byte after them.
pub field-first : (s d : List ℕ) → 0 < length s → digits_of s ≡ d → 48 < get_or d 0 0 → number_if (figures d) d ≡ field_of s
field-first s [] h e l = absurd (omega arith)
field-first s (b ∷ d) h e l =
    let m : eqb (get_or (digits_of s) 0 0) 45 ≡ false = rw e (ne_eqb b 45 (λ q. omega arith)) in
    let p : plain (b ∷ d) ≡ figures (b ∷ d) = plain-figures (b ∷ d) (omega arith) (λ q r. omega arith) in
    sym (field-unsigned s h m ∙ ap (λ (t : List ℕ). number_if (plain t) t) e ∙ ap (λ (t : Bool). number_if t (b ∷ d)) p)

-- A number after a minus sign is the candidate.
minus-candidate : (s e : List ℕ) (n : ℕ) → digits_of s ≡ 45 ∷ e → value_of 0 e ≡ n → candidate s ≡ signed true n
unfolding candidate
minus-candidate s e n d v = rw (d, value-first 45 e, v) refl

-- Spaces, a minus sign and plain digits are a text.
minus-text : (s e : List ℕ) → digits_of s ≡ 45 ∷ e → plain e ≡ true → last_digit (length s) 45 (value_of 0 e) ≡ s
unfolding columns
minus-text s e d p =
    let k = spaces_of s in
    plain-text e (length s) (suc k) 45 (omega (arith, pad-length s, ap length d)) p
    ∙ append_assoc (columns k 32 0) (45 ∷ []) e
    ∙ ap (λ (l : List ℕ). columns k 32 0 ++ l) (sym d)
    ∙ pad s

-- A text with a minus sign has that sign, and plain digits after it.
minus-plain : (s e : List ℕ) (g n : ℕ) → g < 48 → 0 < length s → digits_of s ≡ 45 ∷ e → value_of 0 e ≡ n → s ≡ last_digit (length s) g n → (g ≡ 45) × (plain e ≡ true)
minus-plain s e g n l h d v q =
    let r = text-signed e g n (rw d at (text-digits s g n h q)) in
    (r.sign, text-plain e g n l r.some r.text v r.all)

-- The cases of `field-minus`: -0 is no text, since 0 is written with no sign.
minus-by : (s e : List ℕ) → 0 < length s → digits_of s ≡ 45 ∷ e → (n : ℕ) → value_of 0 e ≡ n → (t : Bool) → plain e ≡ t → field_of s ≡ below_zero (cond t (Some (pos n)) None)
unfolding field_text
minus-by s e h d zero v true p = field-no s (pos 0) (minus-candidate s e 0 d v) (λ q. omega (arith, (minus-plain s e 32 0 (lit< tt) h d v q).0))
minus-by s e h d zero v false p = field-no s (pos 0) (minus-candidate s e 0 d v) (λ q. omega (arith, (minus-plain s e 32 0 (lit< tt) h d v q).0))
minus-by s e h d (suc m) v true p =
    rw (lt-ltb 0 (suc m) (omega arith)) (field-yes s (negsuc m) (minus-candidate s e (suc m) d v) (ap (last_digit (length s) 45) (sym v) ∙ minus-text s e d p))
minus-by s e h d (suc m) v false p =
    field-no s (negsuc m) (minus-candidate s e (suc m) d v) (λ q. true≢false (sym (minus-plain s e 45 (suc m) (lit< tt) h d v q).1 ∙ p))

-- Bytes that begin with a minus sign.
minus-first : (d : List ℕ) → eqb (get_or d 0 0) 45 ≡ true → d ≡ 45 ∷ drop 1 d
minus-first [] e = absurd (true≢false (sym e))
minus-first (b ∷ d) e = rw (eqb-true b 45 e) refl

-- A field whose digits begin with a minus sign.
pub field-minus : (s : List ℕ) → 0 < length s → eqb (get_or (digits_of s) 0 0) 45 ≡ true
    → field_of s ≡ below_zero (number_if (plain (drop 1 (digits_of s))) (drop 1 (digits_of s)))
field-minus s h m = let e = drop 1 (digits_of s) in minus-by s e h (minus-first (digits_of s) m) (value_of 0 e) refl (plain e) refl

-- The cases of `field-last`.
last-by : (s : List ℕ) (b : ℕ) → 0 < length s → digits_of s ≡ digits_of (b ∷ []) → Dec (b ≡ 32) → Dec (b ≡ 45) → number_if (figures (b ∷ [])) (b ∷ []) ≡ field_of s
unfolding figures plain digits_of spaces_of
last-by s b h e (yes p) q =
    let d : digits_of s ≡ [] = e ∙ (digits-space b [] p).1 in
    rw p (sym (field-unsigned s h (rw d refl) ∙ rw d refl))
last-by s b h e (no p) (yes q) =
    let d : digits_of s ≡ b ∷ [] = e ∙ (digits-other b [] p).1 in
    rw q (sym (field-minus s h (rw (d, q) refl) ∙ rw d refl))
last-by s b h e (no p) (no q) =
    let d : digits_of s ≡ b ∷ [] = e ∙ (digits-other b [] p).1 in
    sym (field-unsigned s h (rw d (ne_eqb b 45 q)) ∙ rw d refl)

-- A field with spaces in all columns but the last.
pub field-last : (s : List ℕ) (b : ℕ) → 0 < length s → digits_of s ≡ digits_of (b ∷ []) → number_if (figures (b ∷ [])) (b ∷ []) ≡ field_of s
field-last s b h e = last-by s b h e (ℕ_discrete b 32) (ℕ_discrete b 45)

-- ---- a field of which spaces are passed

-- Spaces passed, of those that a field begins with.
past : (s : List ℕ) (i : ℕ) → i ≤ length s → i ≤ spaces_of s → spaces_of s ≡ i + spaces_of (drop i s)
past s i l h = spaces-pass s i l (λ k m. space-at s k (omega arith))

-- One more.
one-past : (s : List ℕ) (i : ℕ) → i < length s → i ≤ spaces_of s → get_or s i 0 ≡ 32 → i + 1 ≤ spaces_of s
one-past s i l h e = omega (arith, past s i (omega arith) h, spaces-more s i l e)

pub six : (s : List ℕ) → length s ≡ 8 → 5 ≤ spaces_of s → get_or s 5 0 ≡ 32 → 6 ≤ spaces_of s
six s l h e = one-past s 5 (omega arith) h e

pub seven : (s : List ℕ) → length s ≡ 8 → 6 ≤ spaces_of s → get_or s 6 0 ≡ 32 → 7 ≤ spaces_of s
seven s l h e = one-past s 6 (omega arith) h e

-- The digits, where the next byte is none.
digits-part : (s : List ℕ) (i : ℕ) → i < length s → i ≤ spaces_of s → (get_or s i 0 ≡ 32 → ⊥) → take (length s - i) (drop i s) ≡ digits_of s
digits-part s i l h e = part-all s i ∙ sym (digits-at s i l (past s i (omega arith) h) e)

-- What is read, where a digit from '1' on stands there.
first-part : (s : List ℕ) (i : ℕ) → i < length s → i ≤ spaces_of s → 48 < get_or s i 0 → number_if (figures (take (length s - i) (drop i s))) (take (length s - i) (drop i s)) ≡ field_of s
first-part s i l h e =
    rw (part-all s i) (field-first s (drop i s) (omega arith) (digits-at s i l (past s i (omega arith) h) (λ q. omega arith)) (rw (drop-cons s i 0 l) e))

-- What is read from the last column.
pub last-part : (s : List ℕ) → length s ≡ 8 → 7 ≤ spaces_of s → number_if (figures (take (length s - 7) (drop 7 s))) (take (length s - 7) (drop 7 s)) ≡ field_of s
last-part s l h =
    let o : drop 7 s ≡ get_or s 7 0 ∷ [] = drop-cons s 7 0 (omega arith) ∙ ap (λ (t : List ℕ). get_or s 7 0 ∷ t) (drop_of_length-le s {i = 8} (omega arith)) in
    rw (part-all s 7, o) (field-last s (get_or s 7 0) (omega arith) (sym (digits-after s 7 (past s 7 (omega arith) h)) ∙ ap digits_of o))

-- The same of the columns at which the code looks.
pub digits-5 : (s : List ℕ) → length s ≡ 8 → 5 ≤ spaces_of s → (get_or s 5 0 ≡ 32 → ⊥) → take (length s - 5) (drop 5 s) ≡ digits_of s
digits-5 s l h e = digits-part s 5 (omega arith) h e

pub digits-6 : (s : List ℕ) → length s ≡ 8 → 6 ≤ spaces_of s → (get_or s 6 0 ≡ 32 → ⊥) → take (length s - 6) (drop 6 s) ≡ digits_of s
digits-6 s l h e = digits-part s 6 (omega arith) h e

pub first-5 : (s : List ℕ) → length s ≡ 8 → 5 ≤ spaces_of s → 48 < get_or s 5 0 → number_if (figures (take (length s - 5) (drop 5 s))) (take (length s - 5) (drop 5 s)) ≡ field_of s
first-5 s l h e = first-part s 5 (omega arith) h e

pub first-6 : (s : List ℕ) → length s ≡ 8 → 6 ≤ spaces_of s → 48 < get_or s 6 0 → number_if (figures (take (length s - 6) (drop 6 s))) (take (length s - 6) (drop 6 s)) ≡ field_of s
first-6 s l h e = first-part s 6 (omega arith) h e

-- ---- what the search is given

-- for a pass over digits
pub ruleset passes = (figures-more, figures-none, value_none, drop_of_length-le, to_z_pos)

-- for digits with no sign
pub ruleset plains = (plain-none, plain-zero, plain-figures)

pub ruleset unsigned = field-unsigned

-- for the spaces of a field, and for its digits
pub ruleset gaps = (five-spaces, fewer-spaces, word-spaces, space-at)

pub ruleset parts = (part-all, pad-length)

-- for a field that begins with five spaces
pub ruleset shorts = (six, seven, digits-5, digits-6, first-5, first-6, last-part)
