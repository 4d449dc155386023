-- `flip_cw`: the chart that it leaves, from the tables that it writes.
use Rattle.std.specs.Prelude.{◌≡◌, cond, List, [], ◌∷◌, ℕ, ◌*◌, ◌/◌, ◌<◌, eqb, ℤ, take}
use Rattle.std.proofs.Common.{sym, ap, subst, ◌∙◌}
use Rattle.chart.specs.Tables.{rows}
use Rattle.chart.specs.Chart.{Chart, chart_of, partner, InRange, partner-in}
use Rattle.patches.specs.declared.Row.{Row}
use Rattle.patches.specs.Flip.{flip_row, flip_rows, flipped}
use Rattle.rewire.specs.Front.{front_of}
use Rattle.rewire.proofs.Front.{take_out, take_triangles, take_faces}
use Rattle.rewire.specs.Tables.{triangles_in, faces_in, out_in, Fits, length-triangles, length-faces, triangles-origin, triangles-next, triangles-prev, triangles-face, faces-adjacent, length-out, out-place, out-value, out-out}

-- ---- `flip_cw`
module _ (vs : List ℤ) (es fs : List ℕ) (r : InRange (chart_of vs es fs)) (e : ℕ) (l : e < rows es) where
  abbrev c : Chart
  c = chart_of vs es fs

  abbrev t : ℕ
  t = partner e

  abbrev flip_vertices : List ℤ
  flip_vertices = out_in (out_in vs (c.origin e) (c.next t)) (c.origin t) (c.next e)

  m : t < rows es
  m = partner-in r e l

  fits : Fits es fs (flip_rows c e)
  fits =
      Fits.cons (record { key_in = l; next-in = r.prevs t m; prev-in = r.nexts e l }) (r.face-numbers e l)
      (Fits.cons (record { key_in = m; next-in = r.prevs e l; prev-in = r.nexts t m }) (r.face-numbers t m) Fits.nil)

  a_in : c.origin e < rows vs
  a_in = r.origins e l

  b-in : c.origin t < rows (out_in vs (c.origin e) (c.next t))
  b-in = subst (λ (k : ℕ). c.origin t < k / 4) (sym (length-out vs (c.origin e) (c.next t))) (r.origins t m)

  abbrev v₁ : List ℤ
  v₁ = out_in vs (c.origin e) (c.next t)

  pub flip-tables : chart_of flip_vertices (triangles_in es (flip_rows c e)) (faces_in fs (flip_rows c e)) ≡ flipped c e
  flip-tables =
      λ i.
      record {
        vertices = ap (λ (k : ℕ). k / 4) (length-out v₁ (c.origin t) (c.next e) ∙ length-out vs (c.origin e) (c.next t)) i;
        half_edges = ap (λ (k : ℕ). k / 4) (length-triangles es (flip_rows c e)) i;
        faces = length-faces fs (flip_rows c e) i;
        place = λ v. (out-place v₁ (c.origin t) (c.next e) v ∙ out-place vs (c.origin e) (c.next t) v) i;
        value = λ v. (out-value v₁ (c.origin t) (c.next e) v ∙ out-value vs (c.origin e) (c.next t) v) i;
        out =
            λ v.
            (out-out v₁ (c.origin t) (c.next e) v b-in
            ∙ ap (λ (k : ℕ). cond (eqb v (c.origin t)) (c.next e) k) (out-out vs (c.origin e) (c.next t) v a_in))
            i;
        origin = λ h. triangles-origin es fs (flip_rows c e) fits h i;
        next = λ h. triangles-next es fs (flip_rows c e) fits h i;
        prev = λ h. triangles-prev es fs (flip_rows c e) fits h i;
        face = λ h. triangles-face es fs (flip_rows c e) fits h i;
        adjacent = λ f. faces-adjacent es fs (flip_rows c e) fits f i;
      }

-- what `flip_cw` writes into arrays, in whose first elements the chart stands
module _ (n h f : ℕ) (vs : List ℤ) (es fs : List ℕ) (r : InRange (front_of n h f vs es fs)) (e : ℕ) (l : e < (front_of n h f vs es fs).half_edges) (x y : Row) where
  abbrev b : Chart
  b = front_of n h f vs es fs

  module _ (t : ℕ) (pt : t ≡ partner e) (px : x ≡ flip_row b e t) (py : y ≡ flip_row b t e) where
    rows_are : (x ∷ y ∷ []) ≡ flip_rows b e
    rows_are = λ i. (px ∙ ap (λ (k : ℕ). flip_row b e k) pt) i ∷ (py ∙ ap (λ (k : ℕ). flip_row b k e) pt) i ∷ []

    pub flip_done : (v₁ us : List ℤ) (gs hs : List ℕ) → gs ≡ triangles_in es (x ∷ y ∷ []) → hs ≡ faces_in fs (x ∷ y ∷ []) → v₁ ≡ out_in vs y.apex y.prev → us ≡ out_in v₁ x.apex x.prev
        → front_of n h f us gs hs ≡ flipped b e
    flip_done v₁ us gs hs pg ph pv pu =
        (λ i. chart_of (vertices i) (edges i) (faces i)) ∙ flip-tables (take (4 * n) vs) (take (4 * h) es) (take f fs) r e l
      where
        edges : take (4 * h) gs ≡ triangles_in (take (4 * h) es) (flip_rows b e)
        edges = ap (take (4 * h)) pg ∙ take_triangles (4 * h) es (x ∷ y ∷ []) ∙ ap (triangles_in (take (4 * h) es)) rows_are

        faces : take f hs ≡ faces_in (take f fs) (flip_rows b e)
        faces = ap (take f) ph ∙ take_faces f fs (x ∷ y ∷ []) ∙ ap (faces_in (take f fs)) rows_are

        vertices : take (4 * n) us ≡ out_in (out_in (take (4 * n) vs) (b.origin e) (b.next (partner e))) (b.origin (partner e)) (b.next e)
        vertices =
            ap (take (4 * n)) pu ∙ take_out (4 * n) v₁ x.apex x.prev
            ∙ ap (λ (s : List ℤ). out_in s x.apex x.prev) (ap (take (4 * n)) pv ∙ take_out (4 * n) vs y.apex y.prev)
            ∙ ap (λ (q : Row). out_in (out_in (take (4 * n) vs) y.apex y.prev) q.apex q.prev) (px ∙ ap (λ (k : ℕ). flip_row b e k) pt)
            ∙ ap (λ (q : Row). out_in (out_in (take (4 * n) vs) q.apex q.prev) (b.origin (partner e)) (b.next e)) (py ∙ ap (λ (k : ℕ). flip_row b k e) pt)
