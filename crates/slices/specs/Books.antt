-- The book as 34 numbers, in 01's order: sections, 16 wears, 16 bend counts, retired wear.
use Rattle.std.specs.Prelude.{◌≡◌, refl, List, [], ◌∷◌, ◌++◌, ℕ, suc, ◌+◌, ◌-◌, ◌≤◌, length, take, drop, get_or, replicate}
use Rattle.std.proofs.Common.{sym, ap, ◌∙◌, append_assoc, append-nil, le_of_eq, arith, length-append, length-drop, length-take-le, take_all, take_at, drop_at, drop-drop}
use Rattle.std.proofs.Math.Seq.{paste}
use Rattle.std.proofs.lemmas.List.{get_or_at}
use Rattle.book.specs.declared.Book.{Book}
use Rattle.book.specs.Books.{section_max}
use Rattle.accounts.specs.Batch.{overlay}
use Rattle.slices.specs.Lent.{paste-after}

abbrev pub wear_at : ℕ
wear_at = 1

abbrev pub bends_at : ℕ
bends_at = 17

abbrev pub retired_at : ℕ
retired_at = 33

abbrev pub book_numbers : ℕ
book_numbers = 34

abbrev book_with : ℕ → List ℕ → List ℕ → ℕ → Book
book_with s w b r = record { sections = s; wear = w; bends = b; retired = r }

-- the book whose numbers stand in front of a list
abbrev pub book_at : List ℕ → Book
book_at l = book_with (get_or l 0 0) (take section_max (drop wear_at l)) (take section_max (drop bends_at l)) (get_or l retired_at 0)

-- a book's numbers
abbrev pub numbers_of : Book → List ℕ
numbers_of b = b.sections ∷ b.wear ++ b.bends ++ b.retired ∷ []

-- ---- laws
-- 16 numbers copied out
pub sixteen-copied : (s : List ℕ) (at : ℕ) → at + section_max ≤ length s
    → paste (replicate section_max 0) 0 (take (at + section_max - at) (drop at s)) (length (take (at + section_max - at) (drop at s))) ≡ take section_max (drop at s)
sixteen-copied s at h =
    let e : at + section_max - at ≡ section_max = omega arith in
    let p : List ℕ = take section_max (drop at s) in
    let l : length p ≡ section_max = length-take-le section_max (drop at s) (simp length-drop (omega arith)) in
    ap (λ (n : ℕ). paste (replicate section_max 0) 0 (take n (drop at s)) (length (take n (drop at s)))) e
    ∙ (ap (λ (n : ℕ). paste (replicate section_max 0) 0 p n) l ∙ (append-nil (take section_max p) ∙ take_all section_max p (le_of_eq l)))

module _ (b : Book) (hw : length b.wear ≡ section_max) (hb : length b.bends ≡ section_max) where
  wear-end : length (b.sections ∷ b.wear) ≡ bends_at
  wear-end = ap suc hw

  bends-end : length (b.sections ∷ b.wear ++ b.bends) ≡ retired_at
  bends-end = length-append (b.sections ∷ b.wear) b.bends ∙ (ap (λ (n : ℕ). n + length b.bends) wear-end ∙ ap (λ (n : ℕ). bends_at + n) hb)

  pub numbers-long : length (numbers_of b) ≡ book_numbers
  numbers-long = length-append (b.sections ∷ b.wear ++ b.bends) (b.retired ∷ []) ∙ ap (λ (n : ℕ). n + 1) bends-end

  -- a book that was written is read back
  pub read_back : (rest : List ℕ) → book_at (numbers_of b ++ rest) ≡ b
  read_back rest =
      let l : List ℕ = numbers_of b ++ rest in
      let e : l ≡ (b.sections ∷ b.wear ++ b.bends) ++ b.retired ∷ rest = append_assoc (b.sections ∷ b.wear ++ b.bends) (b.retired ∷ []) rest in
      let f : l ≡ b.sections ∷ b.wear ++ (b.bends ++ b.retired ∷ rest) = e ∙ append_assoc (b.sections ∷ b.wear) b.bends (b.retired ∷ rest) in
      let w : take section_max (drop wear_at l) ≡ b.wear = ap (λ (k : List ℕ). take section_max (drop wear_at k)) f ∙ take_at b.wear (b.bends ++ b.retired ∷ rest) section_max hw in
      let c : take section_max (drop bends_at l) ≡ b.bends =
      ap (λ (k : List ℕ). take section_max (drop bends_at k)) f
      ∙ (ap (take section_max) (drop_at (b.sections ∷ b.wear) (b.bends ++ b.retired ∷ rest) bends_at wear-end) ∙ take_at b.bends (b.retired ∷ rest) section_max hb)
      in
      let r : get_or l retired_at 0 ≡ b.retired = ap (λ (k : List ℕ). get_or k retired_at 0) e ∙ get_or_at (b.sections ∷ b.wear ++ b.bends) b.retired rest 0 retired_at bends-end in
      ap (λ (x : List ℕ). book_with b.sections x (take section_max (drop bends_at l)) (get_or l retired_at 0)) w
      ∙ (ap (λ (x : List ℕ). book_with b.sections b.wear x (get_or l retired_at 0)) c ∙ ap (book_with b.sections b.wear b.bends) r)

  -- the four writes of a book are one
  pub book-written : (d : List ℕ)
      → paste (paste (paste (paste d 0 (b.sections ∷ []) 1) wear_at b.wear (length b.wear)) bends_at b.bends (length b.bends)) retired_at (b.retired ∷ []) 1
      ≡ overlay (numbers_of b) d
  book-written d =
      let x : List ℕ = drop (length b.wear) (drop 1 d) in
      let y : List ℕ = drop (length b.bends) x in
      let e : drop 1 y ≡ drop (length (numbers_of b)) d =
      ap (λ (n : ℕ). drop 1 (drop (length b.bends) (drop n (drop 1 d)))) hw
      ∙ (ap (λ (n : ℕ). drop 1 (drop n (drop section_max (drop 1 d)))) hb
      ∙ (ap (λ (l : List ℕ). drop 1 (drop section_max l)) (drop-drop section_max wear_at d)
      ∙ (ap (drop 1) (drop-drop section_max bends_at d) ∙ (drop-drop 1 retired_at d ∙ sym (ap (λ (n : ℕ). drop n d) numbers-long)))))
      in
      ap (λ (l : List ℕ). paste (paste l bends_at b.bends (length b.bends)) retired_at (b.retired ∷ []) 1) (paste-after (b.sections ∷ []) (drop 1 d) b.wear wear_at refl)
      ∙ (ap (λ (l : List ℕ). paste l retired_at (b.retired ∷ []) 1) (paste-after (b.sections ∷ b.wear) x b.bends bends_at wear-end)
      ∙ (paste-after (b.sections ∷ b.wear ++ b.bends) y (b.retired ∷ []) retired_at bends-end ∙ ap (λ (l : List ℕ). numbers_of b ++ l) e))
