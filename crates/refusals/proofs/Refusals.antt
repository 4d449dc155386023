-- Which refusals each public call can give, for all arguments: every chart's bytes, good or bad, every load, slice, book and entry. 02, CR 11: "15 leaves the
-- table". None is 0, the number that says 'accepted'. Assumes nothing.
use Rattle.std.specs.Prelude.{◌≡◌, refl, Bool, true, false, cond, ◌||◌, List, [], ◌∷◌, ◌++◌, ℕ, zero, suc, ltb, eqb, Float, ℤ, pos, length}
use Rattle.std.proofs.Common.{sym, subst}
use Rattle.whole.specs.Among.{among, among-within, among-cond, among-rest}
use Rattle.geometry.specs.declared.Place.{Place}
use Rattle.geometry.specs.Plane.{off_grid}
use Rattle.chart.specs.Limits.{most_vertices}
use Rattle.chart.specs.Tables.{rows}
use Rattle.chart.specs.Chart.{Chart, chart_of}
use Rattle.ranges.specs.Ranges.{counts_refused}
use Rattle.checks.specs.Checks.{tables_refusal, Loaded}
use Rattle.checks.specs.Checks.Loaded.{loaded, refused}
use Rattle.checks.specs.Numbers.{of_tables}
use Rattle.checks.proofs.Numbers.{tables-among}
use Rattle.reading.specs.Reading.{Head}
use Rattle.reading.specs.Reading.{Head as H}
use Rattle.reading.specs.Reading.{head_of, load_of, chart_in, refusal_of, chart_refusal_of}
use Rattle.reading.specs.Text.{chart_text}
use Rattle.reading.specs.Laws.{of_chart, head-among, load-among, chart-among}
use Rattle.locate.specs.declared.Location.{Location}
use Rattle.locate.specs.declared.Location.TheVariants.{OnVertex, OnEdge, OnFace, OutsideOfConvexHull}
use Rattle.locate.specs.Location.{location_of}
use Rattle.neighbors.specs.Neighbors.{neighbors_of}
use Rattle.weights.specs.Barycentric.{Weights, weigh_two, weigh_three}
use Rattle.charge.specs.Charging.{Cost, off_scale, rounded, charge_of}
use Rattle.values.specs.Located.{place_refusal, barycentric_at}
use Rattle.values.specs.Value.{Answer, method_of, barycentric_value, natural_value, value_at, value_from, located_value, value_on}
use Rattle.query.specs.Location as L
use Rattle.query.specs.Weights as W
use Rattle.query.specs.Gradient as G
use Rattle.query.specs.Natural as N
use Rattle.query.specs.Value as I
use Rattle.writing.specs.Writing as S
use Rattle.sites.specs.Insertion.{no_site, out_of_bounds, vertex_refusal, insert_refusal}
use Rattle.inserting.specs.Inserting.{Inserts}
use Rattle.book.specs.declared.Book.{Book}
use Rattle.book.specs.Returned.{Returned}
use Rattle.book.specs.Books.{zero_book, bad_sections, bad_book}
use Rattle.entries.specs.declared.Entry.{Entry}
use Rattle.entries.specs.Entry.{place_in}
use Rattle.entries.specs.Ruling.{with17}
use Rattle.accounts.specs.Rulings.{entry_ruling}
use Rattle.accounts.specs.Batch.{bad_slices, batch_refusal, by_refusal}
use Rattle.estivolh.specs.Account.{queries}
use Rattle.refusals.specs.Entries.{of_entry, OnlyBy, ValueBy, value-within, either}
use Rattle.refusals.proofs.Entries.{entry-by}
use Rattle.refusals.specs.Refusals.{Refusals, of_inserting, PlaceBy, WeightsBy, TallyBy, SlopeBy, CostBy, WrittenBy, ChartBy, of_natural, of_query, of_writing}

-- ---- the chart's
chart-by : (s : List ℕ) → ChartBy of_chart (chart_in s)
chart-by s = go (chart_in s) refl
  where
    go : (l : Loaded) → chart_in s ≡ l → ChartBy of_chart l
    go (loaded vs es fs) q = tt
    go (refused n) q = chart-among s n q

load-by : (v e f : ℕ) (s : List ℕ) → ChartBy of_chart (load_of v e f s)
load-by v e f s = go (load_of v e f s) refl
  where
    go : (l : Loaded) → load_of v e f s ≡ l → ChartBy of_chart l
    go (loaded vs es fs) q = tt
    go (refused n) q = load-among v e f s n q

check-by : (l : Loaded) → ChartBy of_chart l → among (0 ∷ of_chart) (refusal_of l) ≡ true
check-by (loaded vs es fs) h = refl
check-by (refused n) h = among-within of_chart (0 ∷ of_chart) refl n h

-- ---- locate
locate-in : (l : Loaded) (q : Place) → ChartBy of_chart l → PlaceBy (of_chart ++ 13 ∷ []) (L.locate_in l q)
unfolding L.locate_on
locate-in (loaded vs es fs) q h = either (PlaceBy (of_chart ++ 13 ∷ [])) (off_grid q) (L.Located.turned_down 13) (L.Located.at (location_of (chart_of vs es fs) q)) refl tt
locate-in (refused n) q h = among-within of_chart (of_chart ++ 13 ∷ []) refl n h

-- ---- barycentric weights
weights-at : (ns : List ℕ) → among ns 14 ≡ true → (c : Chart) (q : Place) (l : Location) → WeightsBy ns (barycentric_at c q l)
unfolding weigh_two weigh_three
weights-at ns h c q (OnVertex v) = tt
weights-at ns h c q (OnEdge e) = tt
weights-at ns h c q (OnFace f) = tt
weights-at ns h c q (OutsideOfConvexHull e) = h

weights-in : (l : Loaded) (q : Place) → ChartBy of_chart l → WeightsBy (of_chart ++ 13 ∷ 14 ∷ []) (W.barycentric_in l q)
unfolding W.barycentric_on
weights-in (loaded vs es fs) q h =
    let c = chart_of vs es fs in
    either (WeightsBy (of_chart ++ 13 ∷ 14 ∷ [])) (off_grid q) (Weights.turned_down 13) (barycentric_at c q (location_of c q)) refl (weights-at (of_chart ++ 13 ∷ 14 ∷ []) refl c q (location_of c q))
weights-in (refused n) q h = among-within of_chart (of_chart ++ 13 ∷ 14 ∷ []) refl n h

-- ---- gradient
gradient-in : (l : Loaded) (v : ℕ) → ChartBy of_chart l → SlopeBy (of_chart ++ 12 ∷ []) (G.gradient_in l v)
unfolding G.gradient_on
gradient-in (loaded vs es fs) v h = either (SlopeBy (of_chart ++ 12 ∷ [])) (ltb v (chart_of vs es fs).vertices) (G.Slope.slope _ _) (G.Slope.turned_down 12) tt refl
gradient-in (refused n) v h = among-within of_chart (of_chart ++ 12 ∷ []) refl n h

-- ---- natural neighbours: 2 as well

of-chart : (n : ℕ) → among of_chart n ≡ true → among of_natural n ≡ true
of-chart n h = among-within of_chart of_natural refl n h

edges-from : (c : Chart) (q : Place) (l : Location) (lent : List ℕ) → TallyBy of_natural (N.edges_from (place_refusal l) c q l lent).answer
edges-from c q (OnVertex v) lent = tt
edges-from c q (OnEdge h) lent = tt
edges-from c q (OnFace f) lent = tt
edges-from c q (OutsideOfConvexHull h) lent = refl

edges-in : (l : Loaded) (q : Place) (lent : List ℕ) → ChartBy of_chart l → TallyBy of_natural (N.edges_in l q lent).answer
unfolding N.edges_on
edges-in (loaded vs es fs) q lent h =
    let c = chart_of vs es fs in
    let p = location_of c q in
    either (λ (e : N.Edges). TallyBy of_natural e.answer) (off_grid q) (N.edges_refused 13 lent) (N.edges_from (place_refusal p) c q p lent) refl (edges-from c q p lent)
edges-in (refused n) q lent h = of-chart n h

edges-after : (s : List ℕ) (q : Place) (lent : List ℕ) (h : Head) → head_of s ≡ h → TallyBy of_natural (N.edges_after h s q lent).answer
edges-after s q lent (H.Refused n) e = of-chart n (head-among s n e)
edges-after s q lent (H.Counts v e f) h =
    either (λ (e : N.Edges). TallyBy of_natural e.answer) (ltb (length lent) e) (N.edges_refused 2 lent) (N.edges_in (load_of v e f s) q lent) refl (edges-in (load_of v e f s) q lent (load-by v e f s))

shares-from : (c : Chart) (q : Place) (l : Location) (os : List ℕ) (ws : List Float) → TallyBy of_natural (N.shares_from (place_refusal l) c q l os ws).answer
shares-from c q (OnVertex v) os ws = tt
shares-from c q (OnEdge h) os ws = tt
shares-from c q (OnFace f) os ws = tt
shares-from c q (OutsideOfConvexHull h) os ws = refl

shares-in : (l : Loaded) (q : Place) (os : List ℕ) (ws : List Float) → ChartBy of_chart l → TallyBy of_natural (N.shares_in l q os ws).answer
unfolding N.shares_on
shares-in (loaded vs es fs) q os ws h =
    let c = chart_of vs es fs in
    let p = location_of c q in
    either (λ (e : N.Shares). TallyBy of_natural e.answer) (off_grid q) (N.shares_refused 13 os ws) (N.shares_from (place_refusal p) c q p os ws) refl (shares-from c q p os ws)
shares-in (refused n) q os ws h = of-chart n h

shares-after : (s : List ℕ) (q : Place) (os : List ℕ) (ws : List Float) (h : Head) → head_of s ≡ h → TallyBy of_natural (N.shares_after h s q os ws).answer
shares-after s q os ws (H.Refused n) e = of-chart n (head-among s n e)
shares-after s q os ws (H.Counts v e f) h =
    either (λ (e : N.Shares). TallyBy of_natural e.answer) (ltb (length os) e || ltb (length ws) e) (N.shares_refused 2 os ws) (N.shares_in (load_of v e f s) q os ws) refl
    (shares-in (load_of v e f s) q os ws (load-by v e f s))

-- ---- values

weighed-by : (c : Chart) (w : Weights) → WeightsBy of_query w → ValueBy of_query (barycentric_value c w)
weighed-by c (Weights.weights l) h = tt
weighed-by c (Weights.turned_down n) h = h

value-at : (m : ℕ) (c : Chart) (q : Place) (l : Location) → ValueBy of_query (value_at m c q l)
value-at m c q l =
    either (ValueBy of_query) (eqb m 1) (barycentric_value c (barycentric_at c q l)) (natural_value m c q (neighbors_of c q l).edges) (weighed-by c (barycentric_at c q l) (weights-at of_query refl c q l)) tt

value-from : (m : ℕ) (c : Chart) (q : Place) (l : Location) → ValueBy of_query (value_from (place_refusal l) m c q l)
value-from m c q (OnVertex v) = value-at m c q (OnVertex v)
value-from m c q (OnEdge h) = value-at m c q (OnEdge h)
value-from m c q (OnFace f) = value-at m c q (OnFace f)
value-from m c q (OutsideOfConvexHull h) = refl

pub value_on_lem : (m : ℕ) (c : Chart) (q : Place) → ValueBy of_query (value_on m c q)
unfolding value_on located_value
value_on_lem m c q =
    either (ValueBy of_query) (eqb m 0) (Answer.turned_down 12) (cond (off_grid q) (Answer.turned_down 13) (located_value m c q)) refl
    (either (ValueBy of_query) (off_grid q) (Answer.turned_down 13) (located_value m c q) refl (value-from m c q (location_of c q)))

value_in_lem : (l : Loaded) (m : ℕ) (q : Place) → ChartBy of_chart l → ValueBy (of_chart ++ of_query) (I.value_in l m q)
value_in_lem (loaded vs es fs) m q h = value-within of_query (of_chart ++ of_query) refl (value_on m (chart_of vs es fs) q) (value_on_lem m (chart_of vs es fs) q)
value_in_lem (refused n) m q h = among-within of_chart (of_chart ++ of_query) refl n h

-- ---- charge, writer, book
charge-by : (v : Float) → CostBy (16 ∷ []) (charge_of v)
charge-by v = either (CostBy (16 ∷ [])) (off_scale v) (Cost.turned_down 16) (Cost.whole (rounded v)) refl tt

numbers-by : (vs es fs : List ℤ) → among (0 ∷ of_writing) (S.numbers_refusal vs es fs) ≡ true
unfolding S.numbers_refusal
numbers-by vs es fs =
    among-cond (0 ∷ of_writing) (S.uneven vs es) 2 _ refl
    (among-cond (0 ∷ of_writing) (counts_refused (pos (rows vs)) (pos (rows es)) (pos (length fs))) 4 _ refl (among-within (0 ∷ of_tables) (0 ∷ of_writing) refl (tables_refusal vs es fs) (tables-among vs es fs)))

saved-by : (ns : List ℕ) → among ns 18 ≡ true → (n : ℕ) (text lent : List ℕ) → among (0 ∷ ns) n ≡ true → WrittenBy ns (S.saved_by (S.room_refusal n text lent) text lent).answer
saved-by ns r zero text lent h = go (ltb (length lent) (length text))
  where
    go : (b : Bool) → WrittenBy ns (S.saved_by (cond b 18 0) text lent).answer
    go true = r
    go false = tt
saved-by ns r (suc n) text lent h = among-rest ns n h

-- ---- a new bench test
insert-by : (l : Loaded) (q : Place) (z : ℤ) → ChartBy of_chart l → among (0 ∷ of_inserting) (insert_refusal l q z) ≡ true
unfolding insert_refusal vertex_refusal
insert-by (loaded vs es fs) q z h =
    among-cond (0 ∷ of_inserting) (out_of_bounds q z) 13 _ refl
    (among-cond (0 ∷ of_inserting) (eqb (rows vs) most_vertices) 25 _ refl
    (among-cond (0 ∷ of_inserting) (no_site (chart_of vs es fs) (location_of (chart_of vs es fs) q)) 26 0 refl refl))
insert-by (refused n) q z h = among-within of_chart (0 ∷ of_inserting) refl n h

inserts-by : (l : Loaded) (q : Place) (z : ℤ) (lent : List ℕ) (done : S.Saved) → ChartBy of_chart l → Inserts l q z lent done → WrittenBy of_inserting done.answer
inserts-by l q z lent done h i =
    subst (λ (d : S.Saved). WrittenBy of_inserting d.answer) (sym i.left) (saved-by of_inserting refl (insert_refusal l q z) i.text lent (insert-by l q z h))

batch-by : (b : Book) (s : List ℕ) (es : List ℤ) (lent : List ℕ) → among (0 ∷ 1 ∷ 2 ∷ of_chart) (batch_refusal b s (length es) (length lent)) ≡ true
batch-by b s es lent =
    among-cond (0 ∷ 1 ∷ 2 ∷ of_chart) (bad_book b) 1 _ refl
    (among-cond (0 ∷ 1 ∷ 2 ∷ of_chart) (bad_slices (length es) (length lent)) 2 _ refl (among-within (0 ∷ of_chart) (0 ∷ 1 ∷ 2 ∷ of_chart) refl (chart_refusal_of s) (check-by (chart_in s) (chart-by s))))

-- a batch's number is its refusal
batch-number : (k : ℕ) (b : Book) (s : List ℕ) (es : List ℤ) (lent : List ℕ) → (by_refusal queries k b s es lent).refusal ≡ k
batch-number zero b s es lent = refl
batch-number (suc k) b s es lent = refl

-- ---- an entry under an accepted chart
pub entry-refused : (s : List ℕ) (vs : List ℤ) (es fs : List ℕ) → chart_in s ≡ loaded vs es fs → (sections : ℕ) (e : Entry) (total : ℕ) (count : ℕ → ℕ) → OnlyBy of_entry (with17 total count (entry_ruling queries sections s e))
entry-refused s vs es fs read sections e total count =
    entry-by queries sections s e
    (subst (λ (l : Loaded). ValueBy of_entry (I.value_in l (method_of e.method) (place_in e))) (sym read)
    (value-within of_query of_entry refl (value_on (method_of e.method) (chart_of vs es fs) (place_in e)) (value_on_lem (method_of e.method) (chart_of vs es fs) (place_in e))))
    total count

-- ---- all of them
pub refusals : Refusals
unfolding S.write_of S.write_refusal
refusals =
    record {
      check = λ s. check-by (chart_in s) (chart-by s);
      locate = λ s x y n e. subst (PlaceBy (of_chart ++ 13 ∷ [])) e (locate-in (chart_in s) (record { x = x; y = y }) (chart-by s));
      barycentric = λ s x y n e. subst (WeightsBy (of_chart ++ 13 ∷ 14 ∷ [])) e (weights-in (chart_in s) (record { x = x; y = y }) (chart-by s));
      edges = λ s x y lent n e. subst (TallyBy of_natural) e (edges-after s (record { x = x; y = y }) lent (head_of s) refl);
      natural = λ s x y os ws n e. subst (TallyBy of_natural) e (shares-after s (record { x = x; y = y }) os ws (head_of s) refl);
      gradient = λ s v n e. subst (SlopeBy (of_chart ++ 12 ∷ [])) e (gradient-in (chart_in s) v (chart-by s));
      value = λ s m x y n e. subst (ValueBy (of_chart ++ of_query)) e (value_in_lem (chart_in s) (method_of m) (record { x = x; y = y }) (chart-by s));
      charge = λ v n e. subst (CostBy (16 ∷ [])) e (charge-by v);
      write = λ vs es fs lent n e. subst (WrittenBy of_writing) e (saved-by of_writing refl (S.numbers_refusal vs es fs) (chart_text vs es fs) lent (numbers-by vs es fs));
      insert = λ s x y z lent done i n e. subst (WrittenBy of_inserting) e (inserts-by (chart_in s) (record { x = x; y = y }) z lent done (chart-by s) i);
      fresh = λ s. either (λ (r : Returned). among (0 ∷ 1 ∷ []) r.refusal ≡ true) (bad_sections s) (record { refusal = 1; book = zero_book 0 }) (record { refusal = 0; book = zero_book s }) refl refl;
      batch = λ b s es lent. rw (batch-number (batch_refusal b s (length es) (length lent)) b s es lent) (batch-by b s es lent);
      entry = λ s vs es fs read sections e total count n q. subst (OnlyBy of_entry) q (entry-refused s vs es fs read sections e total count);
    }
