-- The charts that a vertex more leaves in arrays, whose first elements hold the old one.
use Rattle.std.specs.Prelude.{◌≡◌, refl, Bool, true, false, ℕ, ◌+◌, ◌*◌, ◌/◌, ◌<◌, ◌≤◌, eqb, pos, get_or, take, reverse, All}
use Rattle.std.proofs.Common.{sym, subst, ◌∙◌, arith, get_or-take, length-take, length-take-le, eqb-true}
use Rattle.std.proofs.Math.Path.{ap}
use Rattle.std.proofs.Math.Bool.{cond}
use mathlib.Core.List.{List, [], ◌∷◌}
use Rattle.std.proofs.Math.Decide.{dec_lt}
use Rattle.std.proofs.Math.IntN.{ℤ}
use Rattle.std.proofs.Math.ListN.{length, get_or-eq_default}
use Rattle.std.proofs.lemmas.Bool.{eqb-false}
use Rattle.std.proofs.lemmas.List.Elements.{All-nil, All-cons}
use Rattle.geometry.specs.declared.Place.{Place}
use Rattle.chart.specs.Tables.{unsigned, rows, place_of, value_of, out_of, origin_of, next_of, prev_of, face_of, adjacent_of}
use Rattle.chart.specs.Chart.{Chart, chart_of, partner}
use Rattle.sound.specs.Sound.{Inner}
use Rattle.patches.specs.declared.Row.{Row}
use Rattle.patches.specs.Rows.{row_from, row_at, Hit, none, hit, hit_of, face_hit}
use Rattle.patches.specs.Wired.{Wired}
use Rattle.patches.specs.Patch.{from_by, next_by, prev_by, face_by, key_by, put, grown_with, Patch}
use Rattle.patches.specs.Insert.{insert_row₀, insert_row₁, insert_row₂, insert_rows, inserted}
use Rattle.patches.proofs.Insert.{insert-patch}
use Rattle.patches.specs.Split.{split_row₀, split_row₁, split_row₂, split_row₃, split_rows, split_out, split}
use Rattle.patches.proofs.Split.{split-patch}
use Rattle.rewire.specs.Tables.{Inside, row_in, triangles_in, faces_in, out_in, Within, Fits, length-row, length-triangles, length-faces, triangles-origin, triangles-next, triangles-prev, triangles-face, faces-adjacent, length-out, out-place, out-value, out-out, skip, at₀, at₁, at₂, at₃, row_of}
use Rattle.rewire.specs.Front.{front_of, Long}
use Rattle.rewire.proofs.Front.{take_row, take_out, take_triangles, take_faces}

three : (P : Row → Type 0) {x y z : Row} → P x → P y → P z → All P (x ∷ y ∷ z ∷ [])
three P {x} {y} {z} a b d = All-cons P x (y ∷ z ∷ []) a (All-cons P y (z ∷ []) b (All-cons P z [] d (All-nil P)))

-- a number of the longer front that is not among those added is that of the shorter one
front : {A : Type 0} (l : List A) (k m j : ℕ) (d : A) → k ≤ m → (k ≤ j → j < m → ⊥) → get_or (take m l) j d ≡ get_or (take k l) j d
front l k m j d more out = pick (dec_lt j k)
  where
    pick : Dec (j < k) → get_or (take m l) j d ≡ get_or (take k l) j d
    pick (yes p) = get_or-take m l j d (omega arith) ∙ sym (get_or-take k l j d p)
    pick (no p) =
        let far : m ≤ j = far-of (dec_lt j m) in
        let a : length (take m l) ≤ j = omega (arith, length-take m l) in
        let b : length (take k l) ≤ j = omega (arith, length-take k l) in
        get_or-eq_default (take m l) d {n = j} a ∙ sym (get_or-eq_default (take k l) d {n = j} b)
      where
        far-of : Dec (j < m) → m ≤ j
        far-of (yes q) = absurd (out (omega arith) q)
        far-of (no q) = omega arith

quarter : (n k : ℕ) → k ≡ 4 * n → k / 4 ≡ n
quarter n k e = omega arith

-- what stands at a hit does not look behind
by-hit : (By : Hit → ℕ → ℕ) → ((r : Row) (a b : ℕ) → By (hit r) a ≡ By (hit r) b) → ((a : ℕ) → By none a ≡ a) → (t : Hit) (a b : ℕ) → (t ≡ none → a ≡ b) → By t a ≡ By t b
by-hit By same id none a b e = id a ∙ e refl ∙ sym (id b)
by-hit By same id (hit r) a b e = same r a b

-- of arrays, which hold the chart of n vertices, h half-edges and f faces in front, the elements that the grown one takes
module _ (vs : List ℤ) (es fs : List ℕ) (n h f : ℕ) (long : Long vs es fs n h f) where
  abbrev c : Chart
  c = front_of n h f vs es fs

  abbrev V : List ℤ
  V = take (4 * (n + 1)) vs

  abbrev E : List ℕ
  E = take (4 * (h + 6)) es

  abbrev F : List ℕ
  F = take (f + 2) fs

  pub n-is : c.vertices ≡ n
  n-is = quarter n (length (take (4 * n) vs)) (length-take-le (4 * n) vs (let e = long.vertices in omega arith))

  pub h-is : c.half_edges ≡ h
  h-is = quarter h (length (take (4 * h) es)) (length-take-le (4 * h) es (let e = long.half_edges in omega arith))

  pub f-is : c.faces ≡ f
  f-is = length-take-le f fs (let e = long.faces in omega arith)

  V-long : length V ≡ 4 * (n + 1)
  V-long = length-take-le (4 * (n + 1)) vs long.vertices

  E-long : length E ≡ 4 * (h + 6)
  E-long = length-take-le (4 * (h + 6)) es long.half_edges

  F-long : length F ≡ f + 2
  F-long = length-take-le (f + 2) fs long.faces

  -- a half-edge that is not one of the six
  edge-front : (k i : ℕ) → i < 4 → (k < h + 6 → k < h) → get_or E (k * 4 + i) 0 ≡ get_or (take (4 * h) es) (k * 4 + i) 0
  edge-front k i p q = front es (4 * h) (4 * (h + 6)) (k * 4 + i) 0 (omega arith) (λ a b. let r = q (omega arith) in omega arith)

  edge-front₀ : (k : ℕ) → (k < h + 6 → k < h) → get_or E (k * 4) 0 ≡ get_or (take (4 * h) es) (k * 4) 0
  edge-front₀ k q = front es (4 * h) (4 * (h + 6)) (k * 4) 0 (omega arith) (λ a b. let r = q (omega arith) in omega arith)

  face-front : (k : ℕ) → (k < f + 2 → k < f) → get_or F k 0 ≡ get_or (take f fs) k 0
  face-front k q = front fs f (f + 2) k 0 (omega arith) (λ a b. let r = q b in omega arith)

  vertex-front : (u i : ℕ) → i < 4 → (u ≡ n → ⊥) → get_or V (u * 4 + i) (pos 0) ≡ get_or (take (4 * n) vs) (u * 4 + i) (pos 0)
  vertex-front u i p q = front vs (4 * n) (4 * (n + 1)) (u * 4 + i) (pos 0) (omega arith) (λ a b. q (omega arith))

  vertex-front₀ : (u : ℕ) → (u ≡ n → ⊥) → get_or V (u * 4) (pos 0) ≡ get_or (take (4 * n) vs) (u * 4) (pos 0)
  vertex-front₀ u q = front vs (4 * n) (4 * (n + 1)) (u * 4) (pos 0) (omega arith) (λ a b. q (omega arith))

  -- ---- the new vertex's row
  module _ (q : Place) (z : ℤ) (o : ℕ) where
    abbrev pub vs' : List ℤ
    vs' = row_in V n q.x q.y z (pos o)

    n-in : n < rows V
    n-in = let e = V-long in omega arith

    pub new-length : length vs' ≡ length V
    new-length = length-row V n q.x q.y z (pos o)

    other : (u j : ℕ) (i : ℕ) → i < 4 → j ≡ u * 4 + i → (u ≡ n → ⊥) → get_or vs' j (pos 0) ≡ get_or V j (pos 0)
    other u j i p e m =
        skip (pos 0) V n q.x q.y z (pos o) j (λ r. m (omega arith)) (λ r. m (omega arith)) (λ r. m (omega arith)) (λ r. m (omega arith))

    pub new-place : (u : ℕ) → place_of vs' u ≡ cond (eqb u c.vertices) q (c.place u)
    new-place u = subst (λ (k : ℕ). place_of vs' u ≡ cond (eqb u k) q (c.place u)) (sym n-is) (pick (eqb u n) refl)
      where
        pick : (b : Bool) → eqb u n ≡ b → place_of vs' u ≡ cond b q (c.place u)
        pick true e = ap (place_of vs') (eqb-true u n e) ∙ (λ i. record { x = at₀ (pos 0) V n q.x q.y z (pos o) n-in i; y = at₁ (pos 0) V n q.x q.y z (pos o) n-in i })
        pick false e =
            let m = eqb-false u n e in
            λ i. record {
              x = (other u (u * 4) 0 (omega arith) (omega arith) m ∙ vertex-front₀ u m) i;
              y = (other u (u * 4 + 1) 1 (omega arith) refl m ∙ vertex-front u 1 (omega arith) m) i;
            }

    pub new-value : (u : ℕ) → value_of vs' u ≡ cond (eqb u c.vertices) z (c.value u)
    new-value u = subst (λ (k : ℕ). value_of vs' u ≡ cond (eqb u k) z (c.value u)) (sym n-is) (pick (eqb u n) refl)
      where
        pick : (b : Bool) → eqb u n ≡ b → value_of vs' u ≡ cond b z (c.value u)
        pick true e = ap (value_of vs') (eqb-true u n e) ∙ at₂ (pos 0) V n q.x q.y z (pos o) n-in
        pick false e = let m = eqb-false u n e in other u (u * 4 + 2) 2 (omega arith) refl m ∙ vertex-front u 2 (omega arith) m

    pub new-out : (u : ℕ) → out_of vs' u ≡ put c.vertices o c.out u
    new-out u = subst (λ (k : ℕ). out_of vs' u ≡ cond (eqb u k) o (c.out u)) (sym n-is) (pick (eqb u n) refl)
      where
        pick : (b : Bool) → eqb u n ≡ b → out_of vs' u ≡ cond b o (c.out u)
        pick true e = ap (out_of vs') (eqb-true u n e) ∙ ap unsigned (at₃ (pos 0) V n q.x q.y z (pos o) n-in)
        pick false e = let m = eqb-false u n e in ap unsigned (other u (u * 4 + 3) 3 (omega arith) refl m ∙ vertex-front u 3 (omega arith) m)

  -- ---- the chart, with triangles that hold all that is new
  module _ (rs : List Row) (fits : Fits E F rs) (new-e : (k : ℕ) → k < c.half_edges + 6 → hit_of rs k ≡ none → k < c.half_edges) (new-f : (k : ℕ) → k < c.faces + 2 → face_hit rs k ≡ none → k < c.faces) where
    old-e : (k : ℕ) → hit_of rs k ≡ none → k < h + 6 → k < h
    old-e k e l = subst (λ (j : ℕ). k < j) h-is (new-e k (subst (λ (j : ℕ). k < j + 6) (sym h-is) l) e)

    old-f : (k : ℕ) → face_hit rs k ≡ none → k < f + 2 → k < f
    old-f k e l = subst (λ (j : ℕ). k < j) f-is (new-f k (subst (λ (j : ℕ). k < j + 2) (sym f-is) l) e)

    pub grown-origin : (k : ℕ) → origin_of (triangles_in E rs) k ≡ from_by (hit_of rs k) (c.origin k)
    grown-origin k = triangles-origin E F rs fits k ∙ by-hit from_by (λ r a b. refl) (λ a. refl) (hit_of rs k) (origin_of E k) (c.origin k) (λ e. edge-front₀ k (old-e k e))

    pub grown-next : (k : ℕ) → next_of (triangles_in E rs) k ≡ next_by (hit_of rs k) (c.next k)
    grown-next k = triangles-next E F rs fits k ∙ by-hit next_by (λ r a b. refl) (λ a. refl) (hit_of rs k) (next_of E k) (c.next k) (λ e. edge-front k 1 (omega arith) (old-e k e))

    pub grown-prev : (k : ℕ) → prev_of (triangles_in E rs) k ≡ prev_by (hit_of rs k) (c.prev k)
    grown-prev k = triangles-prev E F rs fits k ∙ by-hit prev_by (λ r a b. refl) (λ a. refl) (hit_of rs k) (prev_of E k) (c.prev k) (λ e. edge-front k 2 (omega arith) (old-e k e))

    pub grown-face : (k : ℕ) → face_of (triangles_in E rs) k ≡ face_by (hit_of rs k) (c.face k)
    grown-face k = triangles-face E F rs fits k ∙ by-hit face_by (λ r a b. refl) (λ a. refl) (hit_of rs k) (face_of E k) (c.face k) (λ e. edge-front k 3 (omega arith) (old-e k e))

    pub grown-adjacent : (k : ℕ) → adjacent_of (faces_in F rs) k ≡ key_by (face_hit rs k) (c.adjacent k)
    grown-adjacent k = faces-adjacent E F rs fits k ∙ by-hit key_by (λ r a b. refl) (λ a. refl) (face_hit rs k) (adjacent_of F k) (c.adjacent k) (λ e. face-front k (old-f k e))

    pub grown-tables : (q : Place) (z : ℤ) (out : ℕ → ℕ) (us : List ℤ) → length us ≡ length V → ((u : ℕ) → place_of us u ≡ cond (eqb u c.vertices) q (c.place u)) → ((u : ℕ) → value_of us u ≡ cond (eqb u c.vertices) z (c.value u)) → ((u : ℕ) → out_of us u ≡ out u) → chart_of us (triangles_in E rs) (faces_in F rs) ≡ grown_with c rs out q z
    grown-tables q z out us same places values outs =
        λ i.
        record {
          vertices = v-is i;
          half_edges = e-is i;
          faces = g-is i;
          place = λ u. places u i;
          value = λ u. values u i;
          out = λ u. outs u i;
          origin = λ k. grown-origin k i;
          next = λ k. grown-next k i;
          prev = λ k. grown-prev k i;
          face = λ k. grown-face k i;
          adjacent = λ k. grown-adjacent k i;
        }
      where
        v-is : rows us ≡ c.vertices + 1
        v-is = let e = V-long in (let g : rows us ≡ n + 1 = omega (arith, same) in g) ∙ ap (λ (k : ℕ). k + 1) (sym n-is)

        e-is : rows (triangles_in E rs) ≡ c.half_edges + 6
        e-is = let e = E-long in (let g : rows (triangles_in E rs) ≡ h + 6 = omega (arith, length-triangles E rs) in g) ∙ ap (λ (k : ℕ). k + 6) (sym h-is)

        g-is : length (faces_in F rs) ≡ c.faces + 2
        g-is = length-faces F rs ∙ F-long ∙ ap (λ (k : ℕ). k + 2) (sym f-is)

module _ {vs : List ℤ} {es fs : List ℕ} {n h f : ℕ} (long : Long vs es fs n h f) (w : Wired (front_of n h f vs es fs)) where
  abbrev o : Chart
  o = front_of n h f vs es fs

  below-h : {k : ℕ} → k < o.half_edges → k < h
  below-h {k} l = subst (λ (j : ℕ). k < j) (h-is vs es fs n h f long) l

  in-front : (k i : ℕ) → k < h → i < 4 → get_or es (k * 4 + i) 0 ≡ get_or (take (4 * h) es) (k * 4 + i) 0
  in-front k i l m = sym (get_or-take (4 * h) es (k * 4 + i) 0 (omega arith))

  in-front₀ : (k : ℕ) → k < h → get_or es (k * 4) 0 ≡ get_or (take (4 * h) es) (k * 4) 0
  in-front₀ k l = sym (get_or-take (4 * h) es (k * 4) 0 (omega arith))

  pub row-front : (e : ℕ) → e < o.half_edges → row_of es e ≡ row_at o e
  row-front e l =
      let a = below-h l in
      let p : next_of es e ≡ o.next e = in-front e 1 a (omega arith) in
      let q : prev_of es e ≡ o.prev e = in-front e 2 a (omega arith) in
      let x : origin_of es (next_of es e) ≡ o.origin (o.next e) = ap (origin_of es) p ∙ in-front₀ (o.next e) (below-h (w.nexts e l)) in
      let y : origin_of es (prev_of es e) ≡ o.origin (o.prev e) = ap (origin_of es) q ∙ in-front₀ (o.prev e) (below-h (w.prevs e l)) in
      λ i. row_from e (p i) (q i) (in-front e 3 a (omega arith) i) (in-front₀ e a i) (x i) (y i)

  -- what `row_of` asks
  pub row-asks : (e : ℕ) → e < o.half_edges → (e < rows es) × (next_of es e < rows es) × (prev_of es e < rows es)
  row-asks e l =
      let r = row-front e l in
      let g = long.half_edges in
      let a = below-h l in
      let b = below-h (w.nexts e l) in
      let d = below-h (w.prevs e l) in
      (omega arith, rw (ap (λ (r : Row). r.next) r) (omega arith), rw (ap (λ (r : Row). r.prev) r) (omega arith))

  hh : h ≡ o.half_edges
  hh = sym (h-is vs es fs n h f long)

  nn : n ≡ o.vertices
  nn = sym (n-is vs es fs n h f long)

  ff : f ≡ o.faces
  ff = sym (f-is vs es fs n h f long)

  -- tables long enough for the new numbers
  module _ (es' fs' : List ℕ) (e-more : h + 6 ≤ rows es') (f-more : f + 2 ≤ length fs') where
    abbrev In : Row → Type 0
    In = Inside es' fs'

    pub insert-in : (e : ℕ) (r : Row) → Inner o e → r ≡ row_at o e → (In (insert_row₀ r n h)) × (In (insert_row₁ r n h f)) × (In (insert_row₂ r n h f))
    insert-in e r ie p =
        subst (λ (x : Row). (In (insert_row₀ x n h)) × (In (insert_row₁ x n h f)) × (In (insert_row₂ x n h f))) (sym p)
        (let a = below-h ie.0 in
        let b = below-h (w.nexts e ie.0) in
        let d = below-h (w.prevs e ie.0) in
        let g : o.face e < f = subst (λ (j : ℕ). o.face e < j) (sym ff) (w.face-numbers e ie.0) in
        ((omega arith, omega arith, omega arith, omega arith), (omega arith, omega arith, omega arith, omega arith), (omega arith, omega arith, omega arith, omega arith)))

    pub split-in : (e : ℕ) (r s : Row) → Inner o e → Inner o (partner e) → r ≡ row_at o e → s ≡ row_at o (partner e) → (In (split_row₀ r n h)) × (In (split_row₁ r s n h)) × (In (split_row₂ s n h f)) × (In (split_row₃ r s n h f))
    split-in e r s ie it p q =
        subst (λ (x : Row). (In (split_row₀ x n h)) × (In (split_row₁ x s n h)) × (In (split_row₂ s n h f)) × (In (split_row₃ x s n h f))) (sym p)
        (subst (λ (x : Row). (In (split_row₀ (row_at o e) n h)) × (In (split_row₁ (row_at o e) x n h)) × (In (split_row₂ x n h f)) × (In (split_row₃ (row_at o e) x n h f))) (sym q)
        (let a = below-h ie.0 in
        let b = below-h (w.nexts e ie.0) in
        let d = below-h (w.prevs e ie.0) in
        let a' = below-h it.0 in
        let b' = below-h (w.nexts (partner e) it.0) in
        let d' = below-h (w.prevs (partner e) it.0) in
        let g : o.face e < f = subst (λ (j : ℕ). o.face e < j) (sym ff) (w.face-numbers e ie.0) in
        let g' : o.face (partner e) < f = subst (λ (j : ℕ). o.face (partner e) < j) (sym ff) (w.face-numbers (partner e) it.0) in
        ((omega arith, omega arith, omega arith, omega arith), (omega arith, omega (arith, a', e-more), omega arith, omega arith), (omega arith, omega arith, omega arith, omega arith), (omega arith, omega arith, omega arith, omega arith))))

  within : (es' fs' : List ℕ) {x : Row} → Inside es' fs' x → Within es' x
  within es' fs' (a, b, d, g) = record { key_in = a; next-in = b; prev-in = d }

  module _ (e : ℕ) (ie : Inner o e) (r : Row) (pr : r ≡ row_of es e) where
    r-is : r ≡ row_at o e
    r-is = pr ∙ row-front e ie.0

    e-more : h + 6 ≤ rows (E vs es fs n h f long)
    e-more = let e = E-long vs es fs n h f long in omega arith

    f-more : f + 2 ≤ length (F vs es fs n h f long)
    f-more = let e = F-long vs es fs n h f long in omega arith

    -- what is written, seen in front
    edges : (gs : List ℕ) (rs : List Row) {ts : List Row} → gs ≡ triangles_in es rs → rs ≡ ts → take (4 * (h + 6)) gs ≡ triangles_in (E vs es fs n h f long) ts
    edges gs rs p q = ap (take (4 * (h + 6))) p ∙ take_triangles (4 * (h + 6)) es rs ∙ ap (triangles_in _) q

    faces : (hs : List ℕ) (rs : List Row) {ts : List Row} → hs ≡ faces_in fs rs → rs ≡ ts → take (f + 2) hs ≡ faces_in (F vs es fs n h f long) ts
    faces hs rs p q = ap (take (f + 2)) p ∙ take_faces (f + 2) fs rs ∙ ap (faces_in _) q

    -- ---- `insert_into_triangle`
    rows_are : (insert_row₀ r n h ∷ insert_row₁ r n h f ∷ insert_row₂ r n h f ∷ []) ≡ insert_rows o e
    rows_are = λ i. insert_row₀ (r-is i) (nn i) (hh i) ∷ insert_row₁ (r-is i) (nn i) (hh i) (ff i) ∷ insert_row₂ (r-is i) (nn i) (hh i) (ff i) ∷ []

    insert_all : Fits (E vs es fs n h f long) (F vs es fs n h f long) (insert_rows o e)
    insert_all =
        let t = insert-in _ _ e-more f-more e r ie r-is in
        subst (Fits _ _) rows_are (Fits.cons (within _ _ t.0) t.0.3 (Fits.cons (within _ _ t.1) t.1.3 (Fits.cons (within _ _ t.2) t.2.3 Fits.nil)))

    module _ (ts : List Row) (pt : ts ≡ insert_row₂ r n h f ∷ insert_row₁ r n h f ∷ insert_row₀ r n h ∷ []) where
      pub insert-fits : All (Inside es fs) ts
      insert-fits =
          let t = insert-in es fs (let g = long.half_edges in omega arith) long.faces e r ie r-is in
          rw pt (three (Inside es fs) t.2 t.1 t.0)

      insert-are : reverse ts ≡ insert_rows o e
      insert-are = ap reverse pt ∙ rows_are

      pub insert-done : (q : Place) (z : ℤ) (us : List ℤ) (gs hs : List ℕ) → gs ≡ triangles_in es (reverse ts) → hs ≡ faces_in fs (reverse ts)
          → us ≡ row_in vs n q.x q.y z (pos (h + 1)) → front_of (n + 1) (h + 6) (f + 2) us gs hs ≡ inserted o e q z
      insert-done q z us gs hs pg ph pu =
          let p : Patch o (insert_rows o e) (inserted o e q z) = insert-patch o w e ie q z in
          let us-is : take (4 * (n + 1)) us ≡ vs' vs es fs n h f long q z (h + 1) = ap (take (4 * (n + 1))) pu ∙ take_row (4 * (n + 1)) vs n q.x q.y z (pos (h + 1)) in
          (λ i. chart_of (us-is i) (edges gs _ pg insert-are i) (faces hs _ ph insert-are i))
          ∙ grown-tables vs es fs n h f long (insert_rows o e) insert_all p.new-edges p.new-faces q z (put o.vertices (o.half_edges + 1) o.out) _ (new-length vs es fs n h f long q z (h + 1))
          (new-place vs es fs n h f long q z (h + 1))
          (new-value vs es fs n h f long q z (h + 1))
          (λ u. new-out vs es fs n h f long q z (h + 1) u ∙ ap (λ (k : ℕ). put o.vertices (k + 1) o.out u) hh)

    -- ---- `split_edge`
    module _ (t : ℕ) (pt : t ≡ partner e) (it : Inner o (partner e)) (s : Row) (ps : s ≡ row_of es t) where
      s-is : s ≡ row_at o (partner e)
      s-is = ps ∙ ap (row_of es) pt ∙ row-front (partner e) it.0

      split-are : (split_row₀ r n h ∷ split_row₁ r s n h ∷ split_row₂ s n h f ∷ split_row₃ r s n h f ∷ []) ≡ split_rows o e (partner e)
      split-are =
          λ i. split_row₀ (r-is i) (nn i) (hh i) ∷ split_row₁ (r-is i) (s-is i) (nn i) (hh i) ∷ split_row₂ (s-is i) (nn i) (hh i) (ff i) ∷ split_row₃ (r-is i) (s-is i) (nn i) (hh i) (ff i) ∷ []

      split-all : Fits (E vs es fs n h f long) (F vs es fs n h f long) (split_rows o e (partner e))
      split-all =
          let t = split-in _ _ e-more f-more e r s ie it r-is s-is in
          subst (Fits _ _) split-are (Fits.cons (within _ _ t.0) t.0.3 (Fits.cons (within _ _ t.1) t.1.3 (Fits.cons (within _ _ t.2) t.2.3 (Fits.cons (within _ _ t.3) t.3.3 Fits.nil))))

      pub split-end : s.from < n
      split-end = subst (λ (k : ℕ). k < n) (sym (ap (λ (x : Row). x.from) s-is)) (subst (λ (k : ℕ). o.origin (partner e) < k) (sym nn) (w.origins (partner e) it.0))

      module _ (ts : List Row) (qt : ts ≡ split_row₃ r s n h f ∷ split_row₂ s n h f ∷ split_row₁ r s n h ∷ split_row₀ r n h ∷ []) where
        pub split-fits : All (Inside es fs) ts
        split-fits =
            let t = split-in es fs (let g = long.half_edges in omega arith) long.faces e r s ie it r-is s-is in
            rw qt (All-cons (Inside es fs) (split_row₃ r s n h f) (split_row₂ s n h f ∷ split_row₁ r s n h ∷ split_row₀ r n h ∷ []) t.3 (three (Inside es fs) t.2 t.1 t.0))

        split-written : reverse ts ≡ split_rows o e (partner e)
        split-written = ap reverse qt ∙ split-are

        pub split_done : (q : Place) (z : ℤ) (us u₁ : List ℤ) (gs hs : List ℕ)
            → gs ≡ triangles_in es (reverse ts) → hs ≡ faces_in fs (reverse ts)
            → u₁ ≡ row_in vs n q.x q.y z (pos t) → us ≡ out_in u₁ s.from (h + 2) → front_of (n + 1) (h + 6) (f + 2) us gs hs ≡ split o e q z
        split_done q z us u₁ gs hs pg ph pu₁ pu =
            let p : Patch o (split_rows o e (partner e)) (split o e q z) = split-patch o w e ie it q z in
            let v₁ : List ℤ = vs' vs es fs n h f long q z t in
            let v₁-long : length v₁ ≡ length (V vs es fs n h f long) = new-length vs es fs n h f long q z t in
            let us-is : take (4 * (n + 1)) us ≡ out_in v₁ s.from (h + 2) =
            ap (take (4 * (n + 1))) pu ∙ take_out (4 * (n + 1)) u₁ s.from (h + 2)
            ∙ ap (λ (l : List ℤ). out_in l s.from (h + 2)) (ap (take (4 * (n + 1))) pu₁ ∙ take_row (4 * (n + 1)) vs n q.x q.y z (pos t)) in
            let end-in : s.from < rows v₁ = let x = split-end in let y = V-long vs es fs n h f long in omega (arith, v₁-long) in
            (λ i. chart_of (us-is i) (edges gs _ pg split-written i) (faces hs _ ph split-written i))
            ∙ grown-tables vs es fs n h f long (split_rows o e (partner e)) split-all p.new-edges p.new-faces q z (split_out o (partner e)) _ (length-out v₁ s.from (h + 2) ∙ v₁-long)
            (λ u. out-place v₁ s.from (h + 2) u ∙ new-place vs es fs n h f long q z t u)
            (λ u. out-value v₁ s.from (h + 2) u ∙ new-value vs es fs n h f long q z t u)
            (λ u.
            out-out v₁ s.from (h + 2) u end-in
            ∙ ap (λ (k : ℕ). cond (eqb u s.from) (h + 2) k) (new-out vs es fs n h f long q z t u)
            ∙ (λ i. put (s-is i).from (hh i + 2) (put o.vertices (pt i) o.out) u))
