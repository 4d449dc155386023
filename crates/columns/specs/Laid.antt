-- Bytes put into a buffer, one after the other. Assumes nothing.
use Rattle.std.specs.Prelude.{ℕ, ◌+◌, ◌≤◌, List, [], ◌++◌, ◌≡◌, refl, length, take, drop}
use Rattle.std.proofs.Common.{append_assoc, sym, ◌∙◌, arith, add-zero, length-append, take-append-drop, take_at, drop_at, drop-drop, length-take-le}

-- the buffer with s in the place of as many bytes from `at` on; every other byte is as it was
abbrev pub laid : List ℕ → ℕ → List ℕ → List ℕ
laid old at s = take at old ++ (s ++ drop (at + length s) old)

-- nothing put
pub laid_none : (old : List ℕ) (at : ℕ) → old ≡ laid old at []
laid_none old at = sym (rw (add-zero at) (take-append-drop at old))

module _ (old : List ℕ) (at : ℕ) (s t : List ℕ) (room : at + length s ≤ length old) where
  -- what stands before the end of s
  head-length : length (take at old ++ s) ≡ at + length s
  head-length = simp (length-append, length-take-le at old (omega arith))

  -- t right after s is both, one after the other
  laid_then : laid (laid old at s) (at + length s) t ≡ laid old at (s ++ t)
  laid_then =
      let n = at + length s in
      let rest = drop n old in
      let tail = t ++ drop (at + length (s ++ t)) old in
      let e : laid old at s ≡ (take at old ++ s) ++ rest = sym (append_assoc (take at old) s rest) in
      let f : take n (laid old at s) ≡ take at old ++ s = rw e (take_at (take at old ++ s) rest n head-length) in
      let g : drop n (laid old at s) ≡ rest = rw e (drop_at (take at old ++ s) rest n head-length) in
      let l : n + length t ≡ at + length (s ++ t) = simp length-append (omega arith) in
      let h : drop (n + length t) (laid old at s) ≡ drop (at + length (s ++ t)) old =
      sym (drop-drop (length t) n (laid old at s)) ∙ rw (g, drop-drop (length t) n old, l) refl in
      let k : t ++ drop (n + length t) (laid old at s) ≡ tail = rw h refl in
      let first : laid (laid old at s) n t ≡ (take at old ++ s) ++ tail = rw (f, k) refl in
      let last : (take at old ++ s) ++ tail ≡ laid old at (s ++ t) = simp append_assoc in
      first ∙ last

-- the same of two calls: the first put n bytes and ended at m
pub then-laid : (old : List ℕ) (at : ℕ) (s t : List ℕ) (n m : ℕ) (mid new : List ℕ) → length s ≡ n → at + n ≤ length old → m ≡ at + n → mid ≡ laid old at s
    → new ≡ laid mid m t → new ≡ laid old at (s ++ t)
then-laid old at s t n m mid new l room e p q =
    let f : m ≡ at + length s = omega arith in
    q ∙ rw (f, p) (laid_then old at s t (omega arith))
