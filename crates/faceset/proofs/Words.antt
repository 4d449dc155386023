-- Laws of the words that hold a set of faces: their digits, a digit that is set, and their ones. Assumes nothing.
use mathlib.Core.Path.{◌≡◌, refl, sym, ap, ap₂, ◌∙◌, subst}
use mathlib.Core.Logic.{◌⊎◌, inl, inr, ⊎_elim}
use mathlib.Core.Bool.{Bool, true, false, ◌||◌}
use mathlib.Core.List.{List, [], ◌∷◌}
use Prim.Native.Nat.{ℕ, zero, suc, ◌+◌, ◌*◌, ◌/◌, ◌%◌, ◌^◌, ◌<◌}
use native.Mathlib.Nat.{div-one, zero-div, one-mul}
use native.Mathlib.Numerals.{add-one, one-add}
use native.Mathlib.Omega.{arith}
use lib.ListN.{length, get_or, set, replicate}
use lib.Seq.{get_or-set_same, get_or-set_other}
use lib.Dec.{eqb, eqb-zero-suc, eqb-suc-zero, eqb-suc-suc}
use lib.Arith.{lt-one}
use lib.Pow.{shr-shr, shr_lt, shl_exact}
use lib.Bits.{bit_or, or_mod, or_shr, or_zero_r, shifted_half, shifted_even}
use lib.Count.{ones, ones_step}
use borrow.Author.Tests.{eqb-true, eqb-false, eq-eqb, ne_eqb}
use Rattle.faceset.specs.Set.{none, add, one, count_below, bit, has}
use Rattle.faceset.specs.Laws.{cases, count-ext, count_add, count_low}

-- ---- digits

pub mod2 : (a : ℕ) → (a % 2 ≡ 0) ⊎ (a % 2 ≡ 1)
mod2 a = ⊎_elim (λ (q : eqb (a % 2) 0 ≡ true). inl (eqb-true (a % 2) 0 q)) (λ (q : eqb (a % 2) 0 ≡ false). let other : a % 2 ≡ 0 → ⊥ = eqb-false (a % 2) 0 q in inr (omega arith)) (cases (eqb (a % 2) 0))

pub bit-zero : (w : ℕ) → bit w 0 ≡ eqb (w % 2) 1
unfolding bit
bit-zero w = ap (λ (x : ℕ). eqb (x % 2) 1) (div-one w)

pub bit-suc : (w k : ℕ) → bit w (suc k) ≡ bit (w / 2) k
unfolding bit
bit-suc w k = ap (λ (x : ℕ). eqb (x % 2) 1) (ap (λ (y : ℕ). w / 2 ^ y) (sym (one-add k)) ∙ sym (shr-shr w 1 k))

pow-half : (k : ℕ) → 2 ^ suc k / 2 ≡ 2 ^ k
pow-half k = ap (λ (x : ℕ). x / 2) (sym (one-mul (2 ^ suc k))) ∙ shifted_half 1 k ∙ one-mul (2 ^ k)

pow_even : (k : ℕ) → 2 ^ suc k % 2 ≡ 0
pow_even k = ap (λ (x : ℕ). x % 2) (sym (one-mul (2 ^ suc k))) ∙ shifted_even 1 k

or-half : (a b : ℕ) → bit_or a b / 2 ≡ bit_or (a / 2) (b / 2)
or-half a b = or_shr a b 1

or-odd : (a b : ℕ) → bit_or a b % 2 ≡ bit_or (a % 2) (b % 2)
or-odd a b = or_mod a b 1

-- `w | 1 << k` sets digit k and keeps the others
pub bit-or : (k j w : ℕ) → bit (bit_or w (2 ^ k)) j ≡ (eqb j k || bit w j)
bit-or zero zero w =
    bit-zero (bit_or w 1) ∙ ap (λ (x : ℕ). eqb x 1) (or-odd w 1)
    ∙ ⊎_elim (λ (q : w % 2 ≡ 0). ap (λ (x : ℕ). eqb (bit_or x 1) 1) q) (λ (q : w % 2 ≡ 1). ap (λ (x : ℕ). eqb (bit_or x 1) 1) q) (mod2 w)
bit-or zero (suc j) w =
    bit-suc (bit_or w 1) j ∙ ap (λ (x : ℕ). bit x j) (or-half w 1 ∙ or_zero_r (w / 2)) ∙ sym (bit-suc w j)
    ∙ ap (λ (b : Bool). b || bit w (suc j)) (sym (eqb-suc-zero j))
bit-or (suc k) zero w =
    bit-zero (bit_or w (2 ^ suc k)) ∙ ap (λ (x : ℕ). eqb x 1) (or-odd w (2 ^ suc k) ∙ ap (bit_or (w % 2)) (pow_even k) ∙ or_zero_r (w % 2)) ∙ sym (bit-zero w)
    ∙ ap (λ (b : Bool). b || bit w 0) (sym (eqb-zero-suc k))
bit-or (suc k) (suc j) w =
    bit-suc (bit_or w (2 ^ suc k)) j ∙ ap (λ (x : ℕ). bit x j) (or-half w (2 ^ suc k) ∙ ap (bit_or (w / 2)) (pow-half k))
    ∙ bit-or k j (w / 2) ∙ ap₂ ◌||◌ (sym (eqb-suc-suc j k)) (sym (bit-suc w j))

one-odd : (w : ℕ) → one (eqb (w % 2) 1) ≡ w % 2
one-odd w = ⊎_elim (λ (q : w % 2 ≡ 0). ap (λ (x : ℕ). one (eqb x 1)) q ∙ sym q) (λ (q : w % 2 ≡ 1). ap (λ (x : ℕ). one (eqb x 1)) q ∙ sym q) (mod2 w)

-- the set digits of a number of k digits
pub ones-count : (k w : ℕ) → w < 2 ^ k → ones w ≡ count_below k (bit w)
unfolding count_below ones
ones-count zero w h = ap ones (lt-one h)
ones-count (suc k) w h =
    ones_step w
    ∙ ap₂ (λ (a b : ℕ). a + b) (sym (ap one (bit-zero w) ∙ one-odd w))
    (ones-count k (w / 2) (shr_lt k 1 (subst (λ (x : ℕ). w < 2 ^ x) (sym (add-one k)) h)) ∙ count-ext k (bit (w / 2)) (λ j. bit w (suc j)) (λ j l. sym (bit-suc w j)))
    ∙ sym (count_low k (bit w))

-- ---- words

zero_bit : (k : ℕ) → bit 0 k ≡ false
unfolding bit
zero_bit k = ap (λ (x : ℕ). eqb (x % 2) 1) (zero-div (2 ^ k))

-- two tests that hold together
eqb_same : (a b c d : ℕ) → (a ≡ b → c ≡ d) → (c ≡ d → a ≡ b) → eqb a b ≡ eqb c d
eqb_same a b c d f g =
    ⊎_elim (λ (q : eqb a b ≡ true). q ∙ sym (eq-eqb c d (f (eqb-true a b q))))
    (λ (q : eqb a b ≡ false). q ∙ sym (ne_eqb c d (λ e. eqb-false a b q (g e)))) (cases (eqb a b))

-- the words after `w[f / 64] |= 1 << f % 64` hold f besides
pub has_or : (ws : List ℕ) (f : ℕ) → length ws ≡ 4 → f < 256
    → has (set ws (f / 64) (bit_or (get_or ws (f / 64) 0) ((1 * 2 ^ (f % 64)) % 2 ^ 64))) ≡ add f (has ws)
unfolding has add
has_or ws f e b = λ i g. at g i
  where
    h : f / 64 < length ws
    h = omega arith

    v : ℕ
    v = bit_or (get_or ws (f / 64) 0) ((1 * 2 ^ (f % 64)) % 2 ^ 64)

    shl : (1 * 2 ^ (f % 64)) % 2 ^ 64 ≡ 2 ^ (f % 64)
    shl = shl_exact 1 (f % 64) 64 (omega arith) (omega arith) ∙ one-mul (2 ^ (f % 64))

    at : (g : ℕ) → bit (get_or (set ws (f / 64) v) (g / 64) 0) (g % 64) ≡ (eqb g f || bit (get_or ws (g / 64) 0) (g % 64))
    at g =
        ⊎_elim
        (λ (q : eqb (g / 64) (f / 64) ≡ true).
        let same : g / 64 ≡ f / 64 = eqb-true (g / 64) (f / 64) q in
        ap (λ (n : ℕ). bit (get_or (set ws (f / 64) v) n 0) (g % 64)) same
        ∙ ap (λ (x : ℕ). bit x (g % 64)) (get_or-set_same ws (f / 64) v 0 h ∙ ap (bit_or (get_or ws (f / 64) 0)) shl)
        ∙ bit-or (f % 64) (g % 64) (get_or ws (f / 64) 0)
        ∙ ap₂ (λ (b : Bool) (n : ℕ). b || bit (get_or ws n 0) (g % 64)) (eqb_same (g % 64) (f % 64) g f (λ e. omega arith) (λ e. ap (λ (x : ℕ). x % 64) e)) (sym same))
        (λ (q : eqb (g / 64) (f / 64) ≡ false).
        let other : g / 64 ≡ f / 64 → ⊥ = eqb-false (g / 64) (f / 64) q in
        ap (λ (x : ℕ). bit x (g % 64)) (get_or-set_other ws (f / 64) (g / 64) v 0 other)
        ∙ ap (λ (b : Bool). b || bit (get_or ws (g / 64) 0) (g % 64)) (sym (ne_eqb g f (λ e. other (ap (λ (x : ℕ). x / 64) e)))))
        (cases (eqb (g / 64) (f / 64)))

-- the four words' ones are the count of the set
pub has-count : (ws : List ℕ) → ((i : ℕ) → get_or ws i 0 < 2 ^ 64)
    → ones (get_or ws 0 0) + ones (get_or ws 1 0) + ones (get_or ws 2 0) + ones (get_or ws 3 0) ≡ count_below 256 (has ws)
unfolding has
has-count ws h =
    let part : (b i : ℕ) → b ≡ 64 * i → ones (get_or ws i 0) ≡ count_below 64 (λ k. has ws (b + k)) =
    λ b i e. ones-count 64 (get_or ws i 0) (h i)
    ∙ count-ext 64 (bit (get_or ws i 0)) (λ k. has ws (b + k)) (λ k l. ap₂ (λ (x y : ℕ). bit (get_or ws x 0) y) (omega arith) (omega arith)) in
    omega (
      arith,
      part 0 0 refl,
      part 64 1 refl,
      part 128 2 refl,
      part 192 3 refl,
      count_add 192 64 (has ws),
      count_add 128 64 (has ws),
      count_add 64 64 (has ws),
      count-ext 64 (λ k. has ws (0 + k)) (has ws) (λ k l. ap (has ws) (omega arith)),
    )

get_d-zeros : (n i : ℕ) → get_or {A = ℕ} (replicate n 0) i 0 ≡ 0
get_d-zeros zero i = refl
get_d-zeros (suc n) zero = refl
get_d-zeros (suc n) (suc i) = get_d-zeros n i

-- words that are all 0 hold no number
pub zeros_hold_none : has (0 ∷ 0 ∷ 0 ∷ 0 ∷ []) ≡ none
unfolding has none
zeros_hold_none = λ i g. (ap (λ (x : ℕ). bit x (g % 64)) (get_d-zeros 4 (g / 64)) ∙ zero_bit (g % 64)) i
