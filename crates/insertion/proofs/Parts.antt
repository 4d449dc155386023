-- Tables as lists that are longer than the chart in front: the part that a new vertex needs, what an insertion into that part leaves of the whole,
-- and what an extension of a chart that was read comes to. Assumes nothing.
use Rattle.std.specs.Prelude.{◌≡◌, Ok, Err, cond, List, ◌++◌, ℕ, ◌+◌, ◌*◌, ◌/◌, ◌≤◌, ◌<◌, ℤ, pos, length, take, drop}
use Rattle.std.proofs.Math.Path.{sym, ap}
use Rattle.std.proofs.Common.{subst, ◌∙◌, arith, length-append, length-take-le, take-take, take_at, get_or-take}
use Rattle.std.proofs.Math.ListN.{get_or-append}
use Rattle.std.proofs.Math.Decide.{ℕ_discrete}
use Rattle.geometry.specs.declared.Place.{Place}
use Rattle.refusal.specs.declared.Refusal.TheVariants.{NoSite}
use Rattle.chart.specs.Limits.{most_vertices, most_half_edges, most_faces}
use Rattle.chart.specs.Tables.{rows}
use Rattle.chart.specs.Chart.{Chart, chart_of, InRange}
use Rattle.ranges.specs.Passed.{Counted}
use Rattle.checks.specs.Checks.{Loaded, told}
use Rattle.checks.specs.Checks.Loaded.{loaded}
use Rattle.reading.specs.Reading.{load_of}
use Rattle.reading.specs.Laws.{told-zero, told-other}
use Rattle.accepted.specs.Accepted.{Accepted}
use Rattle.accepted.proofs.Bytes.{load-accepted}
use Rattle.euler.specs.Euler.{half-edges-few, faces-few}
use Rattle.patches.specs.Insert.{inserted}
use Rattle.patches.specs.Split.{split}
use Rattle.rewire.specs.Tables.{Natural, out_cell, KeepsOuts}
use Rattle.rewire.specs.Front.{front_of, Long}
use Rattle.stars.specs.Star.{Growing}
use Rattle.legal.specs.Legal.{Legal}
use Rattle.locate.specs.Location.{location_of}
use Rattle.sites.specs.declared.Site.TheVariants.{Inside, Across}
use Rattle.sites.specs.Insertion.{no_site, vertex_refusal, insert_refusal}
use Rattle.sites.specs.Askable.{Askable, ask_refusal, asked, asked-first, asked-then}
use Rattle.sites.specs.Site.{site_at, FaceSite, EdgeSite}
use Rattle.sites.specs.Joined.{Joined}
use Rattle.sites.proofs.Joined.{face-growing, face-range, face-joined, edge-growing, edge-range, edge-joined}
use Rattle.insertion.proofs.Outcome.{site-refusal}
use Rattle.insertion.proofs.Read.{load-natural}

-- 26 or 0, and where it is 0 the chart that was asked for
pub record Outcome (c : Chart) (q : Place) (z : ℤ) (r : ℕ) (d : Chart) : Type 0 where
  pub refusal : r ≡ cond (no_site c (location_of c q)) 26 0
  pub joined : r ≡ 0 → Joined c q z d

module _ (c : Chart) (q : Place) (z : ℤ) (d : Chart) where
  pub went-inside : (e : ℕ) → site_at c q ≡ Ok (Inside e) → Joined c q z d → Outcome c q z 0 d
  went-inside e s j = record { refusal = site-refusal c q s; joined = λ p. j }

  pub went-across : (e : ℕ) → site_at c q ≡ Ok (Across e) → Joined c q z d → Outcome c q z 0 d
  went-across e s j = record { refusal = site-refusal c q s; joined = λ p. j }

  pub stayed : site_at c q ≡ Err NoSite → Outcome c q z 26 d
  stayed s = record { refusal = site-refusal c q s; joined = λ p. let o : ⊥ = omega arith in absurd o }

-- ---- what `legalize` asks and leaves of a chart with n vertices
module _ (c : Chart) (n : ℕ) (n-is : c.vertices ≡ n) (a : Accepted c) (q : Place) (z : ℤ) (k : Askable c q z) where
  -- from any chart with the vertex joined
  asked-of : (s d : Chart) → d ≡ s → InRange s → Growing s c.vertices → InRange d × Growing d n
  asked-of s d m r g = (subst InRange (sym m) r, subst (Growing d) n-is (subst (λ (x : Chart). Growing x c.vertices) (sym m) g))

  leaves : (s d d' : Chart) → d ≡ s → Legal d n d' → Legal s c.vertices d'
  leaves s d d' m l = subst (λ (x : Chart). Legal x c.vertices d') m (subst (λ (i : ℕ). Legal d i d') (sym n-is) l)

  -- in a face
  module _ (e : ℕ) (s : FaceSite c q e) (d : Chart) (m : d ≡ inserted c e q z) where
    pub face-asks : InRange d × Growing d n
    face-asks = asked-of (inserted c e q z) d m (face-range c a q z k e s) (face-growing c a q z k e s)

    pub face-leaves : (d' : Chart) → Legal d n d' → Joined c q z d'
    face-leaves d' l = face-joined c a q z k e s d' (leaves (inserted c e q z) d d' m l)

  -- on an inner edge
  module _ (e : ℕ) (s : EdgeSite c q e) (d : Chart) (m : d ≡ split c e q z) where
    pub edge-asks : InRange d × Growing d n
    edge-asks = asked-of (split c e q z) d m (edge-range c a q z k e s) (edge-growing c a q z k e s)

    pub edge-leaves : (d' : Chart) → Legal d n d' → Joined c q z d'
    edge-leaves d' l = edge-joined c a q z k e s d' (leaves (split c e q z) d d' m l)

-- tables as long as a chart with a vertex more
pub record Room (vs : List ℤ) (es fs : List ℕ) (n h f : ℕ) : Type 0 where
  pub v-long : length vs ≡ 4 * n + 4
  pub e-long : length es ≡ 4 * h + 24
  pub f-long : length fs ≡ f + 2

-- which are long enough for `Tables`
pub room_long : {vs : List ℤ} {es fs : List ℕ} {n h f : ℕ} → Room vs es fs n h f → Long vs es fs n h f
room_long r = record { vertices = let e = r.v-long in omega arith; half_edges = let e = r.e-long in omega arith; faces = let e = r.f-long in omega arith }

-- the arrays are those of the largest chart
pub record Roomy (v e f a b g : ℕ) : Type 0 where
  pub v-room : a ≡ 4 * most_vertices
  pub e-room : b ≡ 4 * most_half_edges
  pub f-room : g ≡ most_faces
  pub v-few : v ≤ most_vertices
  pub e-few : e ≤ most_half_edges
  pub f-few : f ≤ most_faces

-- the new counts fit the arrays
pub record Fits (v e f a b g : ℕ) : Type 0 where
  pub v-fits : 4 * (v + 1) ≤ a
  pub e-fits : 4 * (e + 6) ≤ b
  pub f-fits : f + 2 ≤ g

-- what `grow` leaves: the new chart in front, where it answers 0
pub record Grew (v e f : ℕ) (q : Place) (z : ℤ) (vs : List ℤ) (es fs : List ℕ) (r : ℕ) (us : List ℤ) (gs hs : List ℕ) : Type 0 where
  pub answered : r ≡ cond (no_site (front_of v e f vs es fs) (location_of (front_of v e f vs es fs) q)) 26 0
  pub fits : Fits v e f (length us) (length gs) (length hs)
  pub joined : r ≡ 0 → Joined (front_of v e f vs es fs) q z (front_of (v + 1) (e + 6) (f + 2) us gs hs)
  pub naturals : r ≡ 0 → ((u : ℕ) → u < v → Natural (out_cell vs u)) → (u : ℕ) → u < v + 1 → Natural (out_cell us u)

-- ---- the counts fit, by Euler's inequality
module _ (v e f : ℕ) (vs : List ℤ) (es fs : List ℕ) (r : Roomy v e f (length vs) (length es) (length fs)) (a : Accepted (front_of v e f vs es fs)) (few : (front_of v e f vs es fs).vertices < most_vertices) where
  abbrev c : Chart
  c = front_of v e f vs es fs

  quarter : (n k : ℕ) → k ≡ 4 * n → k / 4 ≡ n
  quarter n k e = omega arith

  v-is : c.vertices ≡ v
  v-is = quarter v (length (take (4 * v) vs)) (length-take-le (4 * v) vs (let x = r.v-room in let y = r.v-few in omega arith))

  e-is : c.half_edges ≡ e
  e-is = quarter e (length (take (4 * e) es)) (length-take-le (4 * e) es (let x = r.e-room in let y = r.e-few in omega arith))

  f-is : c.faces ≡ f
  f-is = length-take-le f fs (let x = r.f-room in let y = r.f-few in omega arith)

  v_low : v < most_vertices
  v_low = subst (λ (k : ℕ). k < most_vertices) v-is few

  e-low : e + 6 ≤ most_half_edges
  e-low =
      let x : c.half_edges + 12 ≤ 6 * c.vertices = half-edges-few c a.sound in
      let y = e-is in
      let z = v-is in
      let w = v_low in
      omega (arith, x, y, z, w)

  f-low : f + 2 ≤ most_faces
  f-low =
      let x : c.half_edges + 12 ≤ 6 * c.vertices = half-edges-few c a.sound in
      let p : 3 * c.faces ≤ c.half_edges = faces-few c a.sound in
      let y = f-is in
      let z = v-is in
      let w = v_low in
      omega (arith, x, p, y, z, w)

  pub v-part : 4 * v + 4 ≤ length vs
  v-part = let x = r.v-room in let y = v_low in omega arith

  pub e-part : 4 * e + 24 ≤ length es
  e-part = let x = r.e-room in let y = e-low in omega arith

  pub f-part : f + 2 ≤ length fs
  f-part = let x = r.f-room in let y = f-low in omega arith

  pub part_room : Room (take (4 * v + 4) vs) (take (4 * e + 24) es) (take (f + 2) fs) v e f
  part_room = record { v-long = length-take-le (4 * v + 4) vs v-part; e-long = length-take-le (4 * e + 24) es e-part; f-long = length-take-le (f + 2) fs f-part }

  pub part-old : front_of v e f (take (4 * v + 4) vs) (take (4 * e + 24) es) (take (f + 2) fs) ≡ c
  part-old = λ i. chart_of (take-take (4 * v) (4 * v + 4) vs (omega arith) i) (take-take (4 * e) (4 * e + 24) es (omega arith) i) (take-take f (f + 2) fs (omega arith) i)

  -- what the parts hold, put back in front
  pub grow-left : (q : Place) (z : ℤ) (r : ℕ) (us : List ℤ) (gs hs : List ℕ) → length us ≡ length (take (4 * v + 4) vs) → length gs ≡ length (take (4 * e + 24) es) → length hs ≡ length (take (f + 2) fs)
      → Outcome (front_of v e f (take (4 * v + 4) vs) (take (4 * e + 24) es) (take (f + 2) fs)) q z r (chart_of us gs hs) → KeepsOuts (take (4 * v + 4) vs) us → (r ≡ 0 → Natural (out_cell us v))
      → Grew v e f q z vs es fs r (us ++ drop (4 * v + 4) vs) (gs ++ drop (4 * e + 24) es) (hs ++ drop (f + 2) fs)
  grow-left q z r us gs hs lu lg lh o keeps new =
      record {
        answered = o.refusal ∙ ap (λ (x : Chart). cond (no_site x (location_of x q)) 26 0) part-old;
        fits = record { v-fits = longer us (drop (4 * v + 4) vs) (4 * (v + 1)) u-long; e-fits = longer gs (drop (4 * e + 24) es) (4 * (e + 6)) g-long; f-fits = longer hs (drop (f + 2) fs) (f + 2) h-long };
        joined = λ p. subst (λ (x : Chart). Joined x q z (front_of (v + 1) (e + 6) (f + 2) (us ++ drop (4 * v + 4) vs) (gs ++ drop (4 * e + 24) es) (hs ++ drop (f + 2) fs))) part-old (subst (Joined (front_of v e f (take (4 * v + 4) vs) (take (4 * e + 24) es) (take (f + 2) fs)) q z) (sym parts) (o.joined p));
        naturals = λ p old u l. subst Natural (sym (at_front u l)) (cell-natural p old u l (ℕ_discrete u v));
      }
    where
      longer : {A : Type 0} (xs ys : List A) (n : ℕ) → length xs ≡ n → n ≤ length (xs ++ ys)
      longer xs ys n e = simp length-append (omega arith)

      u-long : length us ≡ 4 * (v + 1)
      u-long = lu ∙ length-take-le (4 * v + 4) vs v-part ∙ (let k : 4 * v + 4 ≡ 4 * (v + 1) = omega arith in k)

      g-long : length gs ≡ 4 * (e + 6)
      g-long = lg ∙ length-take-le (4 * e + 24) es e-part ∙ (let k : 4 * e + 24 ≡ 4 * (e + 6) = omega arith in k)

      h-long : length hs ≡ f + 2
      h-long = lh ∙ length-take-le (f + 2) fs f-part

      parts : front_of (v + 1) (e + 6) (f + 2) (us ++ drop (4 * v + 4) vs) (gs ++ drop (4 * e + 24) es) (hs ++ drop (f + 2) fs) ≡ chart_of us gs hs
      parts = λ i. chart_of (take_at us (drop (4 * v + 4) vs) (4 * (v + 1)) u-long i) (take_at gs (drop (4 * e + 24) es) (4 * (e + 6)) g-long i) (take_at hs (drop (f + 2) fs) (f + 2) h-long i)

      at_front : (u : ℕ) → u < v + 1 → out_cell (us ++ drop (4 * v + 4) vs) u ≡ out_cell us u
      at_front u l = get_or-append us (drop (4 * v + 4) vs) (pos 0) (u * 4 + 3) (let k = u-long in omega arith)

      cell-natural : r ≡ 0 → ((u : ℕ) → u < v → Natural (out_cell vs u)) → (u : ℕ) → u < v + 1 → Dec (u ≡ v) → Natural (out_cell us u)
      cell-natural p old u l (yes k) = subst (λ (i : ℕ). Natural (out_cell us i)) (sym k) (new p)
      cell-natural p old u l (no k) = keeps u (subst Natural (sym (get_or-take (4 * v + 4) vs (u * 4 + 3) (pos 0) (omega arith))) (old u (omega arith)))

-- ---- the chart that was read
-- what `extend` leaves: the new chart in front, where it answers 0, and its out half-edges are natural numbers
pub record Extends (v e f : ℕ) (l : Loaded) (q : Place) (z : ℤ) (r : ℕ) (us : List ℤ) (gs hs : List ℕ) : Type 0 where
  pub answered : r ≡ insert_refusal l q z
  pub fits : r ≡ 0 → Fits v e f (length us) (length gs) (length hs)
  pub joined : r ≡ 0 → (vs : List ℤ) (es fs : List ℕ) → l ≡ loaded vs es fs → Joined (chart_of vs es fs) q z (front_of (v + 1) (e + 6) (f + 2) us gs hs)
  pub naturals : r ≡ 0 → (u : ℕ) → u < v + 1 → Natural (out_cell us u)

-- ---- the code's arms
module _ (v e f : ℕ) (s : List ℕ) (q : Place) (z : ℤ) (n : Counted v e f) (k : ℕ) (vs : List ℤ) (es fs : List ℕ) (said : load_of v e f s ≡ told k (take (4 * v) vs) (take (4 * e) es) (take f fs)) where
  -- the chart is refused
  pub extend-refused : (us : List ℤ) (gs hs : List ℕ) → (k ≡ 0 → ⊥) → Extends v e f (load_of v e f s) q z k us gs hs
  unfolding insert_refusal
  extend-refused us gs hs h =
      record {
        answered = sym (ap (λ (l : Loaded). insert_refusal l q z) (said ∙ told-other k (take (4 * v) vs) (take (4 * e) es) (take f fs) h));
        fits = λ p. absurd (h p);
        joined = λ p. absurd (h p);
        naturals = λ p. absurd (h p);
      }

  module _ (o : k ≡ 0) where
    was : load_of v e f s ≡ loaded (take (4 * v) vs) (take (4 * e) es) (take f fs)
    was = said ∙ told-zero k (take (4 * v) vs) (take (4 * e) es) (take f fs) o

    pub extend-accepted : Accepted (front_of v e f vs es fs)
    extend-accepted = load-accepted v e f s (take (4 * v) vs) (take (4 * e) es) (take f fs) n was

    by-chart : insert_refusal (load_of v e f s) q z ≡ vertex_refusal (front_of v e f vs es fs) q z
    unfolding insert_refusal
    by-chart = ap (λ (l : Loaded). insert_refusal l q z) was

    module _ (long : 4 * v ≤ length vs) (a : ℕ) (pa : a ≡ ask_refusal q z v) where
      v-rows : rows (take (4 * v) vs) ≡ v
      v-rows = let t = length-take-le (4 * v) vs long in omega arith

      asks : a ≡ ask_refusal q z (rows (take (4 * v) vs))
      asks = pa ∙ ap (ask_refusal q z) (sym v-rows)

      pub extend-askable : a ≡ 0 → Askable (front_of v e f vs es fs) q z
      extend-askable h = asked (front_of v e f vs es fs) q z extend-accepted.counts.v-most (sym asks ∙ h)

      -- 13 or 25
      pub extend-asked : (us : List ℤ) (gs hs : List ℕ) → (a ≡ 0 → ⊥) → Extends v e f (load_of v e f s) q z a us gs hs
      extend-asked us gs hs h =
          record {
            answered = asks ∙ sym (by-chart ∙ asked-first (front_of v e f vs es fs) q z (λ p. h (asks ∙ p)));
            fits = λ p. absurd (h p);
            joined = λ p. absurd (h p);
            naturals = λ p. absurd (h p);
          }

      -- 26, or the vertex is in
      pub extend-grew : (r : ℕ) (us : List ℤ) (gs hs : List ℕ) → a ≡ 0 → Grew v e f q z vs es fs r us gs hs → Extends v e f (load_of v e f s) q z r us gs hs
      extend-grew r us gs hs h g =
          record {
            answered = g.answered ∙ sym (by-chart ∙ asked-then (front_of v e f vs es fs) q z (sym asks ∙ h));
            fits = λ p. g.fits;
            joined =
                λ p ws ds bs w.
                let x : loaded (take (4 * v) vs) (take (4 * e) es) (take f fs) ≡ loaded ws ds bs = sym was ∙ w in
                let i : take (4 * v) vs ≡ ws = cc in
                let j : take (4 * e) es ≡ ds = cc in
                let b : take f fs ≡ bs = cc in
                subst (λ (t : Chart). Joined t q z (front_of (v + 1) (e + 6) (f + 2) us gs hs)) (λ t. chart_of (i t) (j t) (b t)) (g.joined p);
            naturals =
                λ p.
                g.naturals p
                (λ u l. subst Natural (get_or-take (4 * v) vs (u * 4 + 3) (pos 0) (omega arith)) (load-natural v e f s (take (4 * v) vs) (take (4 * e) es) (take f fs) was u (subst (λ (i : ℕ). u < i) (sym v-rows) l)));
          }
