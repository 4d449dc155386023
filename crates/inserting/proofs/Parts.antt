-- What the writer is handed, of new tables that stand as lists in front of longer ones, and what its text comes to. Assumes nothing.
use Rattle.std.specs.Prelude.{◌≡◌, refl, List, map, ℕ, ◌+◌, ◌*◌, ◌/◌, ◌<◌, ℤ, pos, length, take}
use Rattle.std.proofs.Common.{sym, subst, ap, ◌∙◌, arith, length-take-le, get_or-take}
use Rattle.std.proofs.lemmas.List.{length-map}
use Rattle.geometry.specs.declared.Place.{Place}
use Rattle.chart.specs.Tables.{rows}
use Rattle.chart.specs.Chart.{chart_of}
use Rattle.checks.specs.Checks.{Loaded}
use Rattle.checks.specs.Checks.Loaded.{loaded, refused}
use Rattle.reading.specs.Reading.{file_length, load_of, refusal_of, chart_in}
use Rattle.reading.specs.Laws.{load-refusal}
use Rattle.reading.specs.Text.{chart_text}
use Rattle.reading.specs.RoundTrip.{text-length}
use Rattle.writing.specs.Writing.{Saved, numbers_refusal, room_refusal, saved_by, write_of}
use Rattle.writing.proofs.Laws.{written-by}
use Rattle.written.specs.WrittenBack.{text-read}
use Rattle.rewire.specs.Tables.{Natural, out_cell}
use Rattle.sites.specs.Insertion.{Extended}
use Rattle.sites.specs.Joined.{Joined}
use Rattle.insertion.proofs.Parts.{Extends}
use Rattle.inserting.specs.Inserting.{Inserts}
use Rattle.inserting.specs.Laws.{Read, refused-first, same-chart}
use Rattle.inserting.specs.Numbers.{Small, unsigned_back, edges-small, faces-small, numbers-pass}

module _ (v e f : ℕ) (s : List ℕ) (q : Place) (z : ℤ) (lent : List ℕ) (r : ℕ) (us : List ℤ) (gs hs : List ℕ) (x : Extends v e f (load_of v e f s) q z r us gs hs) where
  -- ---- the new tables
  module _ (o : r ≡ 0) where
    abbrev us' : List ℤ
    us' = take (4 * (v + 1)) us

    abbrev gs' : List ℕ
    gs' = take (4 * (e + 6)) gs

    abbrev hs' : List ℕ
    hs' = take (f + 2) hs

    quarter : (n m : ℕ) → m ≡ 4 * n → m ≡ 4 * (m / 4)
    quarter n m e = omega arith

    u-rows : length us' ≡ 4 * rows us'
    u-rows = quarter (v + 1) (length us') (length-take-le (4 * (v + 1)) us (x.fits o).v-fits)

    g-rows : length gs' ≡ 4 * rows gs'
    g-rows = quarter (e + 6) (length gs') (length-take-le (4 * (e + 6)) gs (x.fits o).e-fits)

    -- the old chart was read
    read : Read (load_of v e f s)
    read = by (load_of v e f s) refl
      where
        by : (l : Loaded) → load_of v e f s ≡ l → Read (load_of v e f s)
        by (loaded vs es fs) w = record { vs = vs; es = es; fs = fs; was = w }
        by (refused n) w = absurd (load-refusal v e f s n w (sym (refused-first (load_of v e f s) n q z w) ∙ sym x.answered ∙ o))

    joined : Joined (chart_of read.vs read.es read.fs) q z (chart_of us' gs' hs')
    joined = x.joined o read.vs read.es read.fs read.was

    naturals : (u : ℕ) → u < rows us' → Natural (out_cell us' u)
    naturals u l =
        let m : length us' ≡ 4 * (v + 1) = length-take-le (4 * (v + 1)) us (x.fits o).v-fits in
        let k : u < v + 1 = omega arith in
        subst Natural (sym (get_or-take (4 * (v + 1)) us (u * 4 + 3) (pos 0) (omega arith))) (x.naturals o u k)

    -- ---- what the writer asks
    pub small-edges : Small gs'
    small-edges = edges-small us' gs' hs' joined.accepted g-rows

    pub small-faces : Small hs'
    small-faces = faces-small us' gs' hs' joined.accepted

    pub new-pass : numbers_refusal us' (map pos gs') (map pos hs') ≡ 0
    new-pass = numbers-pass us' gs' hs' joined.accepted naturals u-rows g-rows

    -- ---- its text
    abbrev T : List ℕ
    T = chart_text us' (map pos gs') (map pos hs')

    T-read : chart_in T ≡ loaded us' gs' hs'
    T-read =
        text-read us' (map pos gs') (map pos hs') new-pass
        ∙ (λ i. loaded us' (unsigned_back gs' i) (unsigned_back hs' i))

    extends : (vs ws : List ℤ) (es fs ds bs : List ℕ) → load_of v e f s ≡ loaded vs es fs → chart_in T ≡ loaded ws ds bs → Extended (chart_of vs es fs) q z (chart_of ws ds bs)
    extends vs ws es fs ds bs w y =
        subst (Extended (chart_of vs es fs) q z) (same-chart us' ws gs' ds hs' bs (sym T-read ∙ y)) (x.joined o vs es fs w).extended

    G-rows : rows (map pos gs') ≡ rows gs'
    G-rows = ap (λ (k : ℕ). k / 4) (length-map gs' pos)

    long : (vs : List ℤ) (es fs : List ℕ) → load_of v e f s ≡ loaded vs es fs → length T ≡ file_length (rows vs + 1) (rows es + 6) (length fs + 2)
    long vs es fs w =
        let j = (x.joined o vs es fs w).extended in
        text-length us' (map pos gs') (map pos hs') u-rows (length-map gs' pos ∙ g-rows ∙ ap (λ (k : ℕ). 4 * k) (sym G-rows))
        ∙ (λ i. file_length (j.vertices-more i) ((G-rows ∙ j.half-edges-more) i) ((length-map hs' pos ∙ j.faces-more) i))

    pub insert-written : (done : Saved) → done ≡ write_of us' (map pos gs') (map pos hs') lent → Inserts (load_of v e f s) q z lent done
    insert-written done w =
        record {
          text = T;
          inserted = λ p. record { passes = ap refusal_of T-read; extends = extends; long = long };
          left =
              w ∙ written-by us' (map pos gs') (map pos hs') lent new-pass
              ∙ ap (λ (n : ℕ). saved_by (room_refusal n T lent) T lent) (sym o ∙ x.answered);
        }
