-- The book's laws: row 1 as plain facts (`valid-book`, `book-valid`), what a bend and a splice do to each section and to the total, and that both keep the
-- book valid under what row 17 leaves. Assumes nothing.
use Rattle.std.specs.Prelude.{◌≡◌, refl, List, Bool, true, false, not, ◌||◌, ℕ, ◌+◌, ◌≤◌, ◌<◌, ltb, leb, eqb, length, get_or, set}
use Rattle.std.proofs.Common.{sym, ap, ◌∙◌, subst, arith, length-set, get_or-set_same, get_or-set_other, ltb-false, eqb-true, le-ltb, le-leb, eq-eqb}
use Rattle.std.proofs.Math.Decide.{dec_lt, ℕ_discrete}
use Rattle.std.proofs.lemmas.List.{get_or-replicate}
use Rattle.std.proofs.Math.ListN.{get_or-eq_default}
use Rattle.std.proofs.lemmas.Bool.{lt-leb, not-false}
use Rattle.whole.specs.Bools.{or-false, and_left}
use Rattle.whole.specs.First.{some, some-none, none-at}
use Rattle.book.specs.declared.Book.{Book}
use Rattle.book.specs.Books.{account_max, section_max, wear_of, count_of, total_wear, charge_book, splice_book, ChargeFits, SpliceFits, bad_sections, wear_above, count_above, stray_numbers, stray_at, bad_book, book_refusal, ValidBook, zero_book}
use Rattle.book.specs.Sums.{at-le-sum, sum-set}

-- ---- row 1 as plain facts
-- a place that is not stray, at or past the section count
stray-wear : (s i w c : ℕ) → stray_numbers s i w c ≡ false → s ≤ i → w ≡ 0
stray-wear s i w c e h = eqb-true w 0 (not-false (eqb w 0) (or-false (not (eqb w 0)) (not (eqb c 0)) (and_left (leb s i) _ e (le-leb s i h))).0)

stray-count : (s i w c : ℕ) → stray_numbers s i w c ≡ false → s ≤ i → c ≡ 0
stray-count s i w c e h = eqb-true c 0 (not-false (eqb c 0) (or-false (not (eqb w 0)) (not (eqb c 0)) (and_left (leb s i) _ e (le-leb s i h))).1)

not-stray : (s i w c : ℕ) → (s ≤ i → w ≡ 0) → (s ≤ i → c ≡ 0) → stray_numbers s i w c ≡ false
not-stray s i w c f g = go (dec_lt i s)
  where
    go : Dec (i < s) → stray_numbers s i w c ≡ false
    go (yes h) = rw (lt-leb s i h)
    go (no h) = let l : s ≤ i = omega arith in rw (le-leb s i l, eq-eqb w 0 (f l), eq-eqb c 0 (g l))

-- what holds below n, and from n on, holds
reach : (P : ℕ → Type 0) (n : ℕ) → ((i : ℕ) → i < n → P i) → ((i : ℕ) → n ≤ i → P i) → (i : ℕ) → P i
reach P n f g i = elim (dec_lt i n) [ yes h ↦ f i h | no h ↦ g i (omega arith) ]

-- a book that 1 does not meet is valid
module _ (b : Book) (hw : length b.wear ≡ section_max) (hb : length b.bends ≡ section_max) (e : bad_book b ≡ false) where
  parts : (bad_sections b.sections ≡ false)
      × ((wear_above b.wear b.retired
      || (some (count_above b.bends) section_max || some (stray_at b.sections b.wear b.bends) section_max)) ≡ false)
  unfolding bad_book
  parts = or-false _ _ e

  rest : (some (count_above b.bends) section_max || some (stray_at b.sections b.wear b.bends) section_max) ≡ false
  rest = (or-false (wear_above b.wear b.retired) _ parts.1).1

  past-wear : (i : ℕ) → section_max ≤ i → wear_of b i ≡ 0
  past-wear i h = get_or-eq_default b.wear 0 (omega arith)

  past-count : (i : ℕ) → section_max ≤ i → count_of b i ≡ 0
  past-count i h = get_or-eq_default b.bends 0 (omega arith)

  counts : (i : ℕ) → i < section_max → count_of b i ≤ account_max
  counts i h = ltb-false account_max (count_of b i) (none-at (count_above b.bends) section_max (or-false _ _ rest).0 i h)

  strays : (i : ℕ) → i < section_max → stray_at b.sections b.wear b.bends i ≡ false
  strays = none-at (stray_at b.sections b.wear b.bends) section_max (or-false (some (count_above b.bends) section_max) _ rest).1

  pub book-valid : ValidBook b
  book-valid = record {
    some-section = ltb-false b.sections 1 (or-false _ _ parts.0).0;
    few-sections = ltb-false section_max b.sections (or-false (ltb b.sections 1) _ parts.0).1;
    total-within = ltb-false account_max (total_wear b) (or-false _ _ parts.1).0;
    counts-within = reach (λ (i : ℕ). count_of b i ≤ account_max) section_max counts (λ i h. omega (arith, past-count i h));
    wear-past = reach (λ (i : ℕ). b.sections ≤ i → wear_of b i ≡ 0) section_max
        (λ i h. stray-wear b.sections i (wear_of b i) (count_of b i) (strays i h)) (λ i h l. past-wear i h);
    count_past = reach (λ (i : ℕ). b.sections ≤ i → count_of b i ≡ 0) section_max
        (λ i h. stray-count b.sections i (wear_of b i) (count_of b i) (strays i h)) (λ i h l. past-count i h);
    wear-long = hw;
    bends-long = hb;
  }

-- no number is no refusal
pub refusal-none : (b : Book) → book_refusal b ≡ 0 → bad_book b ≡ false
refusal-none b e = go (bad_book b) refl
  where
    go : (t : Bool) → bad_book b ≡ t → bad_book b ≡ false
    go true h = let z : ◌≡◌ {A = ℕ} 1 0 = rw h at e in absurd (omega arith)
    go false h = h

-- a number is one
pub refusal-some : (b : Book) → (book_refusal b ≡ 0 → ⊥) → bad_book b ≡ true
refusal-some b e = go (bad_book b) refl
  where
    go : (t : Bool) → bad_book b ≡ t → bad_book b ≡ true
    go true h = h
    go false h = absurd (e (rw h))

-- and 1 does not meet a valid book
pub valid-book : (b : Book) → ValidBook b → bad_book b ≡ false
unfolding bad_book
valid-book b v =
    rw (
      le-ltb b.sections 1 v.some-section,
      le-ltb section_max b.sections v.few-sections,
      le-ltb account_max (total_wear b) v.total-within,
      some-none (count_above b.bends) section_max (λ i h. le-ltb account_max (count_of b i) (v.counts-within i)),
      some-none (stray_at b.sections b.wear b.bends) section_max
          (λ i h. not-stray b.sections i (wear_of b i) (count_of b i) (v.wear-past i) (v.count_past i)),
    )

-- where some section is known, it has a place in the arrays
pub in-wear : {b : Book} → ValidBook b → (s : ℕ) → s < b.sections → s < length b.wear
in-wear v s h = omega (arith, v.few-sections, v.wear-long)

pub in-bends : {b : Book} → ValidBook b → (s : ℕ) → s < b.sections → s < length b.bends
in-bends v s h = omega (arith, v.few-sections, v.bends-long)

-- the fresh book's wear and counts are 0
pub fresh-wear : (k s : ℕ) → wear_of (zero_book k) s ≡ 0
fresh-wear k s = go (dec_lt s section_max)
  where
    go : Dec (s < section_max) → wear_of (zero_book k) s ≡ 0
    go (yes h) = get_or-replicate section_max s 0 0 h
    go (no h) = let l : section_max ≤ s = omega arith in get_or-eq_default (zero_book k).wear 0 l

pub fresh-count : (k s : ℕ) → count_of (zero_book k) s ≡ 0
fresh-count k s = fresh-wear k s

-- 1 does not meet a fresh book
pub fresh-valid : (s : ℕ) → bad_sections s ≡ false → ValidBook (zero_book s)
fresh-valid s e = record {
  some-section = ltb-false s 1 (or-false _ _ e).0;
  few-sections = ltb-false section_max s (or-false (ltb s 1) _ e).1;
  total-within = omega arith;
  counts-within = λ i. omega (arith, fresh-count s i);
  wear-past = λ i h. fresh-wear s i;
  count_past = λ i h. fresh-count s i;
  wear-long = refl;
  bends-long = refl;
}

-- ---- what a bend does to each section, and to the total
module _ {b : Book} (v : ValidBook b) (s : ℕ) (h : s < b.sections) (n : ℕ) where
  pub charge-wear : wear_of (charge_book b s n) s ≡ wear_of b s + n
  charge-wear = get_or-set_same b.wear s (wear_of b s + n) 0 (in-wear v s h)

  pub charge-count : count_of (charge_book b s n) s ≡ count_of b s + 1
  charge-count = get_or-set_same b.bends s (count_of b s + 1) 0 (in-bends v s h)

  pub charge-other-wear : (i : ℕ) → (i ≡ s → ⊥) → wear_of (charge_book b s n) i ≡ wear_of b i
  charge-other-wear i d = get_or-set_other b.wear s i (wear_of b s + n) 0 d

  pub charge-other-count : (i : ℕ) → (i ≡ s → ⊥) → count_of (charge_book b s n) i ≡ count_of b i
  charge-other-count i d = get_or-set_other b.bends s i (count_of b s + 1) 0 d

  pub charge-total : total_wear (charge_book b s n) ≡ total_wear b + n
  charge-total = omega (arith, sum-set b.wear s (wear_of b s + n) (in-wear v s h))

-- ---- and a splice
module _ {b : Book} (v : ValidBook b) (s : ℕ) (h : s < b.sections) where
  pub splice-wear : wear_of (splice_book b s) s ≡ 0
  splice-wear = get_or-set_same b.wear s 0 0 (in-wear v s h)

  pub splice-count : count_of (splice_book b s) s ≡ 0
  splice-count = get_or-set_same b.bends s 0 0 (in-bends v s h)

  pub splice-other-wear : (i : ℕ) → (i ≡ s → ⊥) → wear_of (splice_book b s) i ≡ wear_of b i
  splice-other-wear i d = get_or-set_other b.wear s i 0 0 d

  pub splice-other-count : (i : ℕ) → (i ≡ s → ⊥) → count_of (splice_book b s) i ≡ count_of b i
  splice-other-count i d = get_or-set_other b.bends s i 0 0 d

  pub splice-total : total_wear (splice_book b s) ≡ total_wear b
  splice-total = omega (arith, sum-set b.wear s 0 (in-wear v s h))

-- ---- both leave the book valid
-- what holds of the stored number and of every old one, holds after a store
stored : (P : ℕ → Type 0) (l : List ℕ) (i x j : ℕ) → i < length l → (j ≡ i → P x) → P (get_or l j 0) → P (get_or (set l i x) j 0)
stored P l i x j h f g =
    elim (ℕ_discrete j i) [
      | yes e ↦ subst P (sym (ap (λ (k : ℕ). get_or (set l i x) k 0) e ∙ get_or-set_same l i x 0 h)) (f e)
      | no d ↦ subst P (sym (get_or-set_other l i j x 0 d)) g
    ]

-- what row 17 leaves of a bend of charge n
pub record Room (b : Book) (s n : ℕ) : Type 0 where
  pub total-room : total_wear b + n ≤ account_max
  pub count_room : count_of b s < account_max

module _ {b : Book} (v : ValidBook b) (s : ℕ) (h : s < b.sections) where
  pub charge-valid : (n : ℕ) → Room b s n → ValidBook (charge_book b s n)
  charge-valid n r = record {
    some-section = v.some-section;
    few-sections = v.few-sections;
    total-within = rw (charge-total v s h n) r.total-room;
    counts-within = λ i. stored (λ (x : ℕ). x ≤ account_max) b.bends s (count_of b s + 1) i (in-bends v s h) (λ e. omega (arith, r.count_room)) (v.counts-within i);
    wear-past = λ i l. stored (λ (x : ℕ). x ≡ 0) b.wear s (wear_of b s + n) i (in-wear v s h) (λ e. omega arith) (v.wear-past i l);
    count_past = λ i l. stored (λ (x : ℕ). x ≡ 0) b.bends s (count_of b s + 1) i (in-bends v s h) (λ e. omega arith) (v.count_past i l);
    wear-long = length-set b.wear s (wear_of b s + n) ∙ v.wear-long;
    bends-long = length-set b.bends s (count_of b s + 1) ∙ v.bends-long;
  }

  pub splice-valid : ValidBook (splice_book b s)
  splice-valid = record {
    some-section = v.some-section;
    few-sections = v.few-sections;
    total-within = rw (splice-total v s h) v.total-within;
    counts-within = λ i. stored (λ (x : ℕ). x ≤ account_max) b.bends s 0 i (in-bends v s h) (λ e. omega arith) (v.counts-within i);
    wear-past = λ i l. stored (λ (x : ℕ). x ≡ 0) b.wear s 0 i (in-wear v s h) (λ e. refl) (v.wear-past i l);
    count_past = λ i l. stored (λ (x : ℕ). x ≡ 0) b.bends s 0 i (in-bends v s h) (λ e. refl) (v.count_past i l);
    wear-long = length-set b.wear s 0 ∙ v.wear-long;
    bends-long = length-set b.bends s 0 ∙ v.bends-long;
  }

  -- and no sum of theirs wraps
  pub charge-fits : (n : ℕ) → Room b s n → ChargeFits b s n
  charge-fits n r =
      let w = at-le-sum b.wear s in
      record {
        section-fits = omega (arith, v.few-sections);
        wear-fits = omega (arith, r.total-room);
        count_fits = omega (arith, r.count_room);
      }

  pub splice-fits : SpliceFits b s
  splice-fits =
      let w = at-le-sum b.wear s in
      record { section-fits = omega (arith, v.few-sections); retired-fits = omega (arith, v.total-within) }
