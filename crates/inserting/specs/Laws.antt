-- What the call's arms come to: a refusal before 18, and the text of the new tables. Assumes nothing.
use Rattle.std.specs.Prelude.{◌≡◌, refl, Ok, List, [], map, ℕ, ◌+◌, ◌*◌, ◌/◌, ◌<◌, ℤ, pos, length, take}
use Rattle.std.proofs.Common.{sym, subst, ap, ◌∙◌, arith, get_or-take}
use Rattle.std.proofs.lemmas.List.{length-map}
use Rattle.geometry.specs.declared.Place.{Place}
use Rattle.chart.specs.Tables.{rows}
use Rattle.chart.specs.Chart.{Chart, chart_of, InRange}
use Rattle.checks.specs.Checks.{Loaded}
use Rattle.checks.specs.Checks.Loaded.{loaded, refused}
use Rattle.reading.specs.Reading.{file_length, load_of, refusal_of, chart_in}
use Rattle.reading.specs.Laws.{load-refusal}
use Rattle.reading.specs.Text.{chart_text}
use Rattle.reading.specs.RoundTrip.{text-length}
use Rattle.writing.specs.Writing.{Saved, numbers_refusal, room_refusal, saved_by, write_of}
use Rattle.writing.specs.Writing.Written.{turned_down}
use Rattle.writing.proofs.Laws.{refused-by, written-by}
use Rattle.written.specs.WrittenBack.{text-read}
use Rattle.rewire.specs.Tables.{Natural, out_cell}
use Rattle.sites.specs.Insertion.{insert_refusal, Extended}
use Rattle.sites.specs.Joined.{Joined}
use Rattle.rewire.specs.declared.Tables.{Tables}
use Rattle.rewire.specs.Front.{shown}
use Rattle.insertion.specs.Outcome.{Extends}
use Rattle.inserting.specs.Inserting.{Inserts}
use Rattle.inserting.specs.Numbers.{Small, unsigned_back, edges-small, faces-small, numbers-pass}

-- a chart that was read
pub record Read (l : Loaded) : Type 0 where
  pub vs : List ℤ
  pub es : List ℕ
  pub fs : List ℕ
  pub was : l ≡ loaded vs es fs

-- a chart that is refused is refused with its own number
pub refused-first : (l : Loaded) (n : ℕ) (q : Place) (z : ℤ) → l ≡ refused n → insert_refusal l q z ≡ n
unfolding insert_refusal
refused-first l n q z w = ap (λ (k : Loaded). insert_refusal k q z) w

-- the tables of one, whichever way they are named
pub same-chart : (vs ws : List ℤ) (es ds fs bs : List ℕ) → loaded vs es fs ≡ loaded ws ds bs → chart_of vs es fs ≡ chart_of ws ds bs
same-chart vs ws es ds fs bs e =
    let i : vs ≡ ws = cc in
    let j : es ≡ ds = cc in
    let k : fs ≡ bs = cc in
    λ t. chart_of (i t) (j t) (k t)

-- ---- refused before 18
pub refused-inserts : (l : Loaded) (q : Place) (z : ℤ) (lent : List ℕ) (r : ℕ) → r ≡ insert_refusal l q z → (r ≡ 0 → ⊥) → Inserts l q z lent (record { answer = turned_down r; buffer = lent })
refused-inserts l q z lent r e h =
    record {
      text = [];
      inserted = λ p. absurd (h (e ∙ p));
      left = sym (ap (λ (n : ℕ). saved_by (room_refusal n [] lent) [] lent) (sym e) ∙ refused-by r [] lent h);
    }

-- the chart itself
pub chart-inserts : (l : Loaded) (q : Place) (z : ℤ) (lent : List ℕ) (n : ℕ) → l ≡ refused n → (n ≡ 0 → ⊥) → Inserts l q z lent (record { answer = turned_down n; buffer = lent })
chart-inserts l q z lent n w h = refused-inserts l q z lent n (sym (refused-first l n q z w)) h

-- ---- the new tables
module _ (v e f : ℕ) (s : List ℕ) (q : Place) (z : ℤ) (lent : List ℕ) (t : Tables) (x : Extends (load_of v e f s) q z (Ok t)) where
  -- the old chart was read
  read : Read (load_of v e f s)
  read = by (load_of v e f s) refl
    where
      by : (l : Loaded) → load_of v e f s ≡ l → Read (load_of v e f s)
      by (loaded vs es fs) w = record { vs = vs; es = es; fs = fs; was = w }
      by (refused n) w = absurd (load-refusal v e f s n w (sym (refused-first (load_of v e f s) n q z w) ∙ sym x.answered))

  pub new-range : InRange (shown t)
  new-range = (x.joined read.vs read.es read.fs read.was).accepted.sound.range

  -- in front
  module _ (us' : List ℤ) (gs' hs' : List ℕ) (now : chart_of us' gs' hs' ≡ shown t) (front : us' ≡ take (4 * t.vertex_count) t.vertices.now) (u-long : length us' ≡ 4 * t.vertex_count) (g-long : length gs' ≡ 4 * t.half_edge_count) where
    quarter : (n m : ℕ) → m ≡ 4 * n → m ≡ 4 * (m / 4)
    quarter n m e = omega arith

    u-rows : length us' ≡ 4 * rows us'
    u-rows = quarter t.vertex_count (length us') u-long

    g-rows : length gs' ≡ 4 * rows gs'
    g-rows = quarter t.half_edge_count (length gs') g-long

    joins : (vs : List ℤ) (es fs : List ℕ) → load_of v e f s ≡ loaded vs es fs → Joined (chart_of vs es fs) q z (chart_of us' gs' hs')
    joins vs es fs w = subst (Joined (chart_of vs es fs) q z) (sym now) (x.joined vs es fs w)

    joined : Joined (chart_of read.vs read.es read.fs) q z (chart_of us' gs' hs')
    joined = joins read.vs read.es read.fs read.was

    naturals : (u : ℕ) → u < rows us' → Natural (out_cell us' u)
    naturals u l =
        subst (λ (w : List ℤ). Natural (out_cell w u)) (sym front)
        (subst Natural (sym (get_or-take (4 * t.vertex_count) t.vertices.now (u * 4 + 3) (pos 0) (omega arith)))
        (x.naturals u (subst (λ (c : Chart). u < c.vertices) now l)))

    -- ---- what the writer asks
    pub small-edges : Small gs'
    small-edges = edges-small us' gs' hs' joined.accepted g-rows

    pub small-faces : Small hs'
    small-faces = faces-small us' gs' hs' joined.accepted

    pub new-pass : numbers_refusal us' (map pos gs') (map pos hs') ≡ 0
    new-pass = numbers-pass us' gs' hs' joined.accepted naturals u-rows g-rows

    -- ---- its text
    abbrev T : List ℕ
    T = chart_text us' (map pos gs') (map pos hs')

    T-read : chart_in T ≡ loaded us' gs' hs'
    T-read =
        text-read us' (map pos gs') (map pos hs') new-pass
        ∙ (λ i. loaded us' (unsigned_back gs' i) (unsigned_back hs' i))

    extends : (vs ws : List ℤ) (es fs ds bs : List ℕ) → load_of v e f s ≡ loaded vs es fs → chart_in T ≡ loaded ws ds bs → Extended (chart_of vs es fs) q z (chart_of ws ds bs)
    extends vs ws es fs ds bs w y =
        subst (Extended (chart_of vs es fs) q z) (same-chart us' ws gs' ds hs' bs (sym T-read ∙ y)) (joins vs es fs w).extended

    G-rows : rows (map pos gs') ≡ rows gs'
    G-rows = ap (λ (k : ℕ). k / 4) (length-map gs' pos)

    long : (vs : List ℤ) (es fs : List ℕ) → load_of v e f s ≡ loaded vs es fs → length T ≡ file_length (rows vs + 1) (rows es + 6) (length fs + 2)
    long vs es fs w =
        let j = (joins vs es fs w).extended in
        text-length us' (map pos gs') (map pos hs') u-rows (length-map gs' pos ∙ g-rows ∙ ap (λ (k : ℕ). 4 * k) (sym G-rows))
        ∙ (λ i. file_length (j.vertices-more i) ((G-rows ∙ j.half-edges-more) i) ((length-map hs' pos ∙ j.faces-more) i))

    pub insert-written : (done : Saved) → done ≡ write_of us' (map pos gs') (map pos hs') lent → Inserts (load_of v e f s) q z lent done
    insert-written done w =
        record {
          text = T;
          inserted = λ p. record { passes = ap refusal_of T-read; extends = extends; long = long };
          left =
              w ∙ written-by us' (map pos gs') (map pos hs') lent new-pass
              ∙ ap (λ (n : ℕ). saved_by (room_refusal n T lent) T lent) x.answered;
        }

pub ruleset arms = (refused-inserts, new-pass, small-edges, small-faces)
