-- An entry's row, as `chunks_exact` gives it: it is the next entry, and what is left begins past it. Assumes nothing.
use Rattle.std.proofs.Common.{◌≡◌, ℕ, ℤ, pos, List, ◌++◌, drop, get_or, length, ◌+◌, ◌*◌, ◌/◌, ◌<◌, sym, ap, ◌∙◌, arith, length-append, refl}
use Rattle.std.proofs.lemmas.List.{get_or_append_left, get_or-drop, drop_at, drop-drop, length-drop}
use Rattle.entries.specs.Entry.{entry_width, entry_at}

module _ (es row rest : List ℤ) (i : ℕ) (parts : drop (i * entry_width) es ≡ row ++ rest) (long : length row ≡ entry_width) where
  cell : (k at : ℕ) → k < entry_width → i * entry_width + k ≡ at → get_or row k (pos 0) ≡ get_or es at (pos 0)
  cell k at h e =
      sym (get_or_append_left row rest (pos 0) k (omega (arith, long))) ∙ ap (λ (l : List ℤ). get_or l k (pos 0)) (sym parts) ∙ get_or-drop (i * entry_width) es k (pos 0)
      ∙ ap (λ (n : ℕ). get_or es n (pos 0)) e

  pub row-entry : entry_at row 0 ≡ entry_at es (i * entry_width)
  row-entry = rw (cell 0 (i * entry_width) (omega arith) (omega arith), cell 1 _ (omega arith) refl, cell 2 _ (omega arith) refl, cell 3 _ (omega arith) refl, cell 4 _ (omega arith) refl) refl

  pub row-rest : rest ≡ drop ((i + 1) * entry_width) es
  row-rest =
      let e : i * entry_width + entry_width ≡ (i + 1) * entry_width = omega arith in
      sym (drop_at row rest entry_width long) ∙ ap (λ (l : List ℤ). drop entry_width l) (sym parts) ∙ drop-drop entry_width (i * entry_width) es ∙ ap (λ (n : ℕ). drop n es) e

  pub row-inside : i < length es / entry_width
  row-inside =
      let e : length (drop (i * entry_width) es) ≡ length row + length rest = ap length parts ∙ length-append row rest in
      omega (arith, length-drop (i * entry_width) es)
