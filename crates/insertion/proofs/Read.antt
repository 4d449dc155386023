-- A chart that was read into tables, and a new vertex put into it there.
use Rattle.std.specs.Prelude.{◌≡◌, refl, Bool, true, false, cond, Ok, Err, List, ℕ, zero, suc, ◌+◌, ◌*◌, ◌≤◌, ◌<◌, ℤ, pos, negsuc, length, take}
use Rattle.std.proofs.Common.{sym, ap, subst, ◌∙◌, arith, get_or-take, length-take-le}
use Rattle.std.proofs.Math.Decide.{ℕ_discrete}
use Rattle.std.proofs.lemmas.Bool.{false≢true}
use Rattle.whole.specs.Bools.{or-false, never}
use Rattle.whole.specs.Bound.{outside}
use Rattle.whole.specs.First.{some, none-at}
use Rattle.geometry.specs.declared.Place.{Place}
use Rattle.geometry.specs.Plane.{off_grid}
use Rattle.refusal.specs.declared.Refusal.{Refusal}
use Rattle.refusal.specs.Number.{number, number-positive}
use Rattle.chart.specs.Limits.{most_vertices, most_half_edges, most_faces}
use Rattle.chart.specs.Tables.{unsigned_all, rows, place_of, value_of}
use Rattle.chart.specs.Chart.{Chart, chart_of}
use Rattle.ranges.specs.Passed.{Counted}
use Rattle.ranges.specs.Ranges.{value_max, not_below, cell, bad_vertex, out_of_range}
use Rattle.checks.specs.Checks.{chart_refusal, tables_refusal, Loaded, told}
use Rattle.checks.specs.Checks.Loaded.{loaded}
use Rattle.reading.specs.Reading.{Body, body_of, load_body, load_of}
use Rattle.reading.specs.Reading.Body.{body, malformed}
use Rattle.reading.specs.Laws.{told-other}
use Rattle.accepted.specs.Accepted.{Accepted}
use Rattle.accepted.proofs.Bytes.{load-accepted}
use Rattle.rewire.specs.declared.Tables.{Tables}
use Rattle.rewire.specs.Tables.{Natural, out_cell, KeepsOuts}
use Rattle.rewire.specs.Front.{front_of, shown, Long}
use Rattle.locate.specs.Location.{location_of}
use Rattle.sites.specs.Insertion.{no_site, vertex_refusal, insert_refusal}
use Rattle.sites.specs.Askable.{Askable, ask_refusal, asked, asked-first, asked-then}
use Rattle.sites.specs.Joined.{Joined}
use Rattle.insertion.specs.Outcome.{Extends}
use Rattle.euler.specs.Euler.{half-edges-few, faces-few}
use Rattle.insertion.proofs.Outcome.{quarter}

-- row 6 leaves no negative out half-edge
natural-of : (n : ℕ) (z : ℤ) → not_below n z ≡ false → Natural z
unfolding not_below
natural-of n (pos k) e = refl
natural-of n (negsuc k) e = absurd (false≢true (sym e))

table-natural : (x y z : List ℤ) → tables_refusal x y z ≡ 0 → (u : ℕ) → u < rows x → Natural (out_cell x u)
unfolding tables_refusal out_of_range bad_vertex
table-natural x y z h u l = pick (out_of_range x y z) refl h
  where
    pick : (b : Bool) → out_of_range x y z ≡ b → ◌≡◌ {A = ℕ} (cond b 6 (chart_refusal (chart_of x (unsigned_all y) (unsigned_all z)))) 0 → Natural (out_cell x u)
    pick true e k = let o : ⊥ = omega arith in absurd o
    pick false e k =
        let a = (or-false (some (bad_vertex (rows y) x) (rows x)) _ e).0 in
        let b = none-at (bad_vertex (rows y) x) (rows x) a u l in
        let d = (or-false (off_grid (place_of x u)) _ b).1 in
        natural-of (rows y) (cell x u 3) (or-false (outside (pos 0) (pos value_max) (value_of x u)) (not_below (rows y) (cell x u 3)) d).1

told-natural : (r : ℕ) (x y z vs : List ℤ) (a b es fs : List ℕ) → r ≡ tables_refusal x y z → told r x a b ≡ loaded vs es fs → (u : ℕ) → u < rows vs → Natural (out_cell vs u)
told-natural zero x y z vs a b es fs p h u l = let e : x ≡ vs = cc in subst (λ (t : List ℤ). u < rows t → Natural (out_cell t u)) e (table-natural x y z (sym p) u) l
told-natural (suc r) x y z vs a b es fs p h u l = never (cc)

pub load-natural : (v e f : ℕ) (s : List ℕ) (vs : List ℤ) (es fs : List ℕ) → load_of v e f s ≡ loaded vs es fs → (u : ℕ) → u < rows vs → Natural (out_cell vs u)
unfolding load_of
load-natural v e f s vs es fs h = by (body_of v e f s) h
  where
    by : (b : Body) → load_body b ≡ loaded vs es fs → (u : ℕ) → u < rows vs → Natural (out_cell vs u)
    by (body x y z) k = told-natural (tables_refusal x y z) x y z vs (unsigned_all y) (unsigned_all z) es fs refl k
    by (malformed n) k = never (cc)

-- ---- the code's arms
-- a refusal
extends-not : (l : Loaded) (q : Place) (z : ℤ) (r : Refusal) → number r ≡ insert_refusal l q z → Extends l q z (Err r)
extends-not l q z r e = record { answered = e; joined = tt; naturals = tt }

-- of the chart
pub load-not : (l : Loaded) (q : Place) (z : ℤ) (r : Refusal) (vs : List ℤ) (es fs : List ℕ) → l ≡ told (number r) vs es fs → Extends l q z (Err r)
unfolding insert_refusal
load-not l q z r vs es fs e =
    let p = number-positive r in
    extends-not l q z r (sym (ap (λ (k : Loaded). insert_refusal k q z) (e ∙ told-other (number r) vs es fs (λ o. omega arith))))

module _ (v e f : ℕ) (vs : List ℤ) (es fs : List ℕ) (n : Counted v e f) (long : 4 * v ≤ length vs) (s : List ℕ) (q : Place) (z : ℤ)
    (was : load_of v e f s ≡ loaded (take (4 * v) vs) (take (4 * e) es) (take f fs)) where
  abbrev l : Loaded
  l = load_of v e f s

  -- the chart in front
  abbrev o : Chart
  o = front_of v e f vs es fs

  n-is : o.vertices ≡ v
  n-is = quarter v (length (take (4 * v) vs)) (length-take-le (4 * v) vs long)

  pub read-accepted : Accepted o
  read-accepted = load-accepted _ _ _ s _ _ _ n was

  -- there is room for one vertex more, by Euler's inequality
  pub room-of : 4 * most_vertices ≤ length vs → 4 * most_half_edges ≤ length es → most_faces ≤ length fs → o.vertices < most_vertices → Long vs es fs v e f
  room-of a b d few =
      let x : o.half_edges + 12 ≤ 6 * o.vertices = half-edges-few o read-accepted.sound in
      let y : 3 * o.faces ≤ o.half_edges = faces-few o read-accepted.sound in
      let i = n-is in
      let j : o.half_edges ≡ e = quarter e (length (take (4 * e) es)) (length-take-le (4 * e) es (omega (arith, b, n.e-most))) in
      let k : o.faces ≡ f = length-take-le f fs (omega (arith, d, n.f-most)) in
      record { vertices = omega (arith, a, i, few); half_edges = omega (arith, b, x, i, j, few); faces = omega (arith, d, x, y, i, j, k, few) }

  by-chart : insert_refusal l q z ≡ vertex_refusal o q z
  unfolding insert_refusal
  by-chart = ap (λ (k : Loaded). insert_refusal k q z) was

  asks : ask_refusal q z v ≡ ask_refusal q z o.vertices
  asks = ap (ask_refusal q z) (sym n-is)

  -- 13 or 25
  pub ask-not : (r : Refusal) → number r ≡ ask_refusal q z v → Extends l q z (Err r)
  ask-not r p =
      let k = number-positive r in
      let m = p ∙ asks in
      extends-not l q z r (m ∙ sym (by-chart ∙ asked-first o q z (λ i. omega (arith, k, m, i))))

  -- as the code has the place and the value
  module _ (x : Place) (w : ℤ) (same : x ≡ q) (kept : w ≡ z) (none : ◌≡◌ {A = ℕ} 0 (ask_refusal q w v)) where
    unasked : ask_refusal q z o.vertices ≡ 0
    unasked = sym (none ∙ ap (λ (i : ℤ). ask_refusal q i v) kept ∙ asks)

    pub read-askable : Askable o x w
    read-askable = subst (λ (p : Place). Askable o p w) (sym same) (subst (Askable o q) (sym kept) (asked o q z read-accepted.counts.v-most unasked))

    then : insert_refusal l q z ≡ cond (no_site o (location_of o x)) 26 0
    then = by-chart ∙ asked-then o q z unasked ∙ ap (λ (p : Place). cond (no_site o (location_of o p)) 26 0) (sym same)

    -- 26
    pub site-not : (r : Refusal) → number r ≡ cond (no_site o (location_of o x)) 26 0 → Extends l q z (Err r)
    site-not r p = extends-not l q z r (p ∙ sym then)

    -- the vertex is in
    pub extended : (t' : Tables) → ◌≡◌ {A = ℕ} 0 (cond (no_site o (location_of o x)) 26 0)
        → Joined o x w (shown t') → KeepsOuts vs t'.vertices.now → Natural (out_cell t'.vertices.now v) → Extends l q z (Ok t')
    extended t' p joined keeps new =
        record {
          answered = p ∙ sym then;
          joined =
              λ ws ds bs h.
              let x : loaded (take (4 * v) vs) (take (4 * e) es) (take f fs) ≡ loaded ws ds bs = sym was ∙ h in
              let i : take (4 * v) vs ≡ ws = cc in
              let k : take (4 * e) es ≡ ds = cc in
              let b : take f fs ≡ bs = cc in
              subst (λ (c : Chart). Joined c q z (shown t')) (λ m. chart_of (i m) (k m) (b m)) j;
          naturals = λ u h. by u (omega (arith, h, more)) (ℕ_discrete u v);
        }
      where
        j : Joined o q z (shown t')
        j = subst (λ (i : Place). Joined o i z (shown t')) same (subst (λ (i : ℤ). Joined o x i (shown t')) kept joined)

        more : (shown t').vertices ≡ v + 1
        more = j.extended.vertices-more ∙ ap (λ (k : ℕ). k + 1) n-is

        old : (u : ℕ) → u < v → Natural (out_cell vs u)
        old u h =
            subst Natural (get_or-take (4 * v) vs (u * 4 + 3) (pos 0) (omega arith))
            (load-natural _ _ _ s _ _ _ was u (subst (λ (i : ℕ). u < i) (sym n-is) h))

        by : (u : ℕ) → u < v + 1 → Dec (u ≡ v) → Natural (out_cell t'.vertices.now u)
        by u h (yes k) = subst (λ (i : ℕ). Natural (out_cell t'.vertices.now i)) (sym k) new
        by u h (no k) = keeps u (old u (omega arith))
