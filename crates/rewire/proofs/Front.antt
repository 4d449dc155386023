-- What is written into arrays, seen in their first elements.
use Rattle.std.specs.Prelude.{◌≡◌, refl, List, [], ◌∷◌, ℕ, ◌+◌, ◌*◌, ◌<◌, ℤ, pos, length, get_or, set, take, reverse}
use Rattle.std.proofs.Common.{sym, ap, ◌∙◌, arith, length-take}
use Rattle.std.proofs.Math.Seq.{take-set-lt}
use Rattle.std.proofs.Math.Decide.{dec_lt}
use Rattle.std.proofs.lemmas.List.{set_past, take-set-le, take_more, reverse-append}
use Rattle.patches.specs.declared.Row.{Row}
use Rattle.rewire.specs.Tables.{row_in, triangle_in, triangles_in, faces_in, out_in}

take_set : {A : Type 0} (m : ℕ) (l : List A) (i : ℕ) (a : A) → take m (set l i a) ≡ set (take m l) i a
take_set m l i a = pick (dec_lt i m)
  where
    pick : Dec (i < m) → take m (set l i a) ≡ set (take m l) i a
    pick (yes p) = take-set-lt m l i a p
    pick (no p) = take-set-le m l i a (omega arith) ∙ sym (set_past (take m l) i a (omega (arith, length-take m l)))

pub take_row : {A : Type 0} (m : ℕ) (l : List A) (h : ℕ) (o n p f : A) → take m (row_in l h o n p f) ≡ row_in (take m l) h o n p f
unfolding row_in
take_row m l h o n p f =
    take_set m (set (set (set l (h * 4) o) (h * 4 + 1) n) (h * 4 + 2) p) (h * 4 + 3) f
    ∙ ap (λ (t : List _). set t (h * 4 + 3) f) (take_set m (set (set l (h * 4) o) (h * 4 + 1) n) (h * 4 + 2) p
    ∙ ap (λ (t : List _). set t (h * 4 + 2) p) (take_set m (set l (h * 4) o) (h * 4 + 1) n
    ∙ ap (λ (t : List _). set t (h * 4 + 1) n) (take_set m l (h * 4) o)))

pub take_out : (m : ℕ) (vs : List ℤ) (v h : ℕ) → take m (out_in vs v h) ≡ out_in (take m vs) v h
unfolding out_in
take_out m vs v h = take_set m vs (v * 4 + 3) (pos h)

pub take_triangle : (m : ℕ) (es : List ℕ) (r : Row) → take m (triangle_in es r) ≡ triangle_in (take m es) r
unfolding triangle_in
take_triangle m es r =
    take_row m (row_in (row_in es r.prev r.apex r.key r.next r.face) r.next r.to r.prev r.key r.face) r.key r.from r.next r.prev r.face
    ∙ ap (λ (t : List ℕ). row_in t r.key r.from r.next r.prev r.face) (take_row m (row_in es r.prev r.apex r.key r.next r.face) r.next r.to r.prev r.key r.face
    ∙ ap (λ (t : List ℕ). row_in t r.next r.to r.prev r.key r.face) (take_row m es r.prev r.apex r.key r.next r.face))

pub take_triangles : (m : ℕ) (es : List ℕ) (rs : List Row) → take m (triangles_in es rs) ≡ triangles_in (take m es) rs
unfolding triangles_in
take_triangles m es [] = refl
take_triangles m es (r ∷ rs) = take_triangle m (triangles_in es rs) r ∙ ap (λ (t : List ℕ). triangle_in t r) (take_triangles m es rs)

pub take_faces : (m : ℕ) (fs : List ℕ) (rs : List Row) → take m (faces_in fs rs) ≡ faces_in (take m fs) rs
unfolding faces_in
take_faces m fs [] = refl
take_faces m fs (r ∷ rs) = take_set m (faces_in fs rs) r.face r.key ∙ ap (λ (t : List ℕ). set t r.face r.key) (take_faces m fs rs)

-- the triangles written, with one more
pub one_more : (rs : List Row) (i : ℕ) (d : Row) → i < length rs → reverse (take (i + 1) rs) ≡ get_or rs i d ∷ reverse (take i rs)
one_more rs i d l = ap reverse (take_more rs i d l) ∙ reverse-append (take i rs) (get_or rs i d ∷ [])
