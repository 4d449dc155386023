-- Laws of specs/: a column and a line at a time.
use Prim.Native.Nat.{ℕ, suc, ◌+◌, ◌*◌, ◌≤◌, ◌<◌}
use mathlib.Core.List.{List, [], ◌∷◌, ◌++◌, append_assoc, append-nil}
use mathlib.Core.Path.{◌≡◌, refl, ap, sym, ◌∙◌}
use native.Mathlib.Omega.{arith}
use native.Mathlib.Nat.{add-zero}
use native.Mathlib.Numerals.{add-one}
use lib.ListN.{length, take, get_or}
use lib.Seq.{take-suc, length-take-le}
use Rattle.text.specs.RoundTrip.{field-length}
use Rattle.columns.specs.Laid.{laid, laid_none, then-laid}
use Rattle.report.specs.Lines.{answer_bytes, answer_line, answer_lines, section_line, section_lines}
use Rattle.report.specs.Laws.{answers-length, sections-length}

-- One answer more at the end.
answers-snoc : (j a : ℕ) (s : List ℕ) → answer_lines j (s ++ (a ∷ [])) ≡ answer_lines j s ++ answer_line (j + length s) a
unfolding answer_lines
answers-snoc j a [] = append-nil (answer_line j a) ∙ rw (add-zero j) refl
answers-snoc j a (x ∷ s) =
    let e : suc j + length s ≡ j + suc (length s) = omega arith in
    ap (λ (l : List ℕ). answer_line j x ++ l) (answers-snoc (suc j) a s ∙ ap (λ (n : ℕ). answer_lines (suc j) s ++ answer_line n a) e)
    ∙ sym (append_assoc (answer_line j x) (answer_lines (suc j) s) (answer_line (j + suc (length s)) a))

-- The answers of one entry more.
pub answers_next : (s : List ℕ) (i : ℕ) → i < length s → answer_lines 1 (take (i + 1) s) ≡ answer_lines 1 (take i s) ++ answer_line (i + 1) (get_or s i 0)
answers_next s i h =
    let l : 1 + length (take i s) ≡ i + 1 = omega (arith, length-take-le i s (omega arith)) in
    rw (add-one i, take-suc s i 0 h) (answers-snoc 1 (get_or s i 0) (take i s) ∙ ap (λ (n : ℕ). answer_lines 1 (take i s) ++ answer_line n (get_or s i 0)) (l ∙ add-one i))

-- No answer.
pub answers-none : (i : ℕ) → answer_lines i [] ≡ []
unfolding answer_lines
answers-none i = refl

-- No section, and one more.
pub sections-none : (wear bends : List ℕ) → section_lines wear bends 0 ≡ []
unfolding section_lines
sections-none wear bends = refl

pub sections-next : (wear bends : List ℕ) (k : ℕ) → section_lines wear bends (k + 1) ≡ section_lines wear bends k ++ section_line k (get_or wear k 0) (get_or bends k 0)
unfolding section_lines
sections-next wear bends k = rw (add-one k) refl

-- ---- in the words in which the check takes them: nothing put, and a text right after a text; from a place on, and from 0 on
pub put_none : (old : List ℕ) (at : ℕ) (s : List ℕ) → s ≡ [] → laid old at s ≡ old
put_none old at s e = rw e (sym (laid_none old at))

pub put_after : (old : List ℕ) (at m : ℕ) (s t : List ℕ) → m ≡ at + length s → at + length s ≤ length old → laid (laid old at s) m t ≡ laid old at (s ++ t)
put_after old at m s t e room = then-laid old at s t (length s) m (laid old at s) (laid (laid old at s) m t) refl room e refl refl

pub first_none : (old s : List ℕ) → s ≡ [] → laid old 0 s ≡ old
first_none old s e = put_none old 0 s e

pub first_after : (old : List ℕ) (m : ℕ) (s t : List ℕ) → m ≡ length s → length s ≤ length old → laid (laid old 0 s) m t ≡ laid old 0 (s ++ t)
first_after old m s t e room = put_after old 0 m s t (omega arith) (omega arith)

pub taken_length : (s : List ℕ) (i : ℕ) → i ≤ length s → length (answer_lines 1 (take i s)) ≡ answer_bytes * i
taken_length s i h = rw (answers-length, length-take-le i s h) refl

pub ruleset texts = (put_none, put_after, first_none, first_after, field-length, answers-length, sections-length, taken_length, answers-none, answers_next, sections-none, sections-next)
