-- 02, CR 2: "Whether a bend by method 1 is accepted depends from now on upon 14, 16, 17 and the field checks", which are 12 and 13; since CR 11 this is so of every
-- bend. The ruling on one. Assumes nothing.
use Rattle.std.specs.Prelude.{◌≡◌, refl, Bool, true, false, List, ℕ, ◌≤◌, ℤ, pos, Float}
use Rattle.std.proofs.Common.{sym, subst, ap, ◌∙◌}
use Rattle.std.proofs.Math.Bool.{cond}
use Rattle.whole.specs.Among.{among}
use Rattle.geometry.specs.declared.Place.{Place}
use Rattle.geometry.specs.Plane.{off_grid}
use Rattle.chart.specs.Tables.{unsigned}
use Rattle.chart.specs.Chart.{Chart, chart_of}
use Rattle.checks.specs.Checks.{Loaded}
use Rattle.sound.specs.Sound.{Sound}
use Rattle.checks.specs.Checks.Loaded.{loaded}
use Rattle.reading.specs.Reading.{chart_in}
use Rattle.accepted.proofs.Bytes.{chart-accepted}
use Rattle.home.specs.Located.{left_of_rim}
use Rattle.values.specs.Value.{Answer, method_of, located_value, value-located}
use Rattle.values.specs.Value.Answer.{value}
use Rattle.query.specs.Value.{value_in}
use Rattle.charge.specs.Charging.{charge_max, off_scale}
use Rattle.entries.specs.declared.Entry.{Entry}
use Rattle.entries.specs.Ruling.{Ruling}
use Rattle.entries.specs.Ruling.Ruling.{Bend, Splice, Refused}
use Rattle.entries.specs.Entry.{is_splice, unknown, place_in}
use Rattle.entries.specs.Ruling.{meets17, with17}
use Rattle.accounts.specs.Rulings.{charged, bend_ruling, entry_ruling}
use Rattle.estivolh.specs.Account.{queries}
use Rattle.batch.specs.Laws.{known_method}
use Rattle.refusals.specs.Entries.{of_entry, OnlyBy, either}
use Rattle.refusals.proofs.Refusals.{entry-refused}
use Rattle.loads.specs.Calls.{value-inside, value-outside}

-- a bend, by any method
abbrev pub IsBend : Entry → Type 0
IsBend e = e.kind ≡ pos 1

-- with its charge, or refused with one of the five; no splice
abbrev pub BendOrRefused : Ruling → Type 0
BendOrRefused (Bend i n) = n ≤ charge_max
BendOrRefused (Splice i) = ⊥
BendOrRefused (Refused k) = among of_entry k ≡ true

-- what becomes of it in a book of s sections, under the accepted chart c of these bytes
pub record Bends (chart : List ℕ) (c : Chart) (s : ℕ) (e : Entry) : Type 0 where
  -- the field checks
  pub by-12 : unknown s e ≡ true → entry_ruling queries s chart e ≡ Refused 12
  pub by-13 : unknown s e ≡ false → off_grid (place_in e) ≡ true → entry_ruling queries s chart e ≡ Refused 13
  -- 14 meets a load strictly left of an outer half-edge
  pub by-14 : unknown s e ≡ false → off_grid (place_in e) ≡ false → left_of_rim c (place_in e) ≡ true → entry_ruling queries s chart e ≡ Refused 14
  -- every other load has a value, and 16 looks at that alone
  pub valued : unknown s e ≡ false → off_grid (place_in e) ≡ false → left_of_rim c (place_in e) ≡ false
      → (v : Float) × (queries chart e.method (place_in e) ≡ value v) × (entry_ruling queries s chart e ≡ charged (unsigned e.section) v)
  -- 17 comes last, by any total and counts: no other number refuses it
  pub no_other : (total : ℕ) (count : ℕ → ℕ) → BendOrRefused (with17 total count (entry_ruling queries s chart e))

-- ---- no splice: what 12, 13, the queries and 16 leave of a bend, and 17
abbrev NoSplice : Ruling → Type 0
NoSplice (Bend i n) = Unit {0}
NoSplice (Splice i) = ⊥
NoSplice (Refused k) = Unit {0}

bend-or-refused : (r : Ruling) → OnlyBy of_entry r → NoSplice r → BendOrRefused r
bend-or-refused (Bend i n) h k = h
bend-or-refused (Splice i) h k = k
bend-or-refused (Refused n) h k = h

no-splice : (i : ℕ) (a : Answer) → NoSplice (bend_ruling i a)
no-splice i (Answer.value v) = go (off_scale v) refl
  where
    go : (b : Bool) → off_scale v ≡ b → NoSplice (charged i v)
    go true e = rw e tt
    go false e = rw e tt
no-splice i (Answer.turned_down k) = tt

still-none : (total : ℕ) (count : ℕ → ℕ) (r : Ruling) → NoSplice r → NoSplice (with17 total count r)
still-none total count (Bend i n) h = either NoSplice (meets17 total (count i) n) (Refused 17) (Bend i n) tt tt
still-none total count (Splice i) h = h
still-none total count (Refused k) h = h

-- ---- the ruling
module _ (chart : List ℕ) (vs : List ℤ) (es fs : List ℕ) (read : chart_in chart ≡ loaded vs es fs) (s : ℕ) (e : Entry) (bends : IsBend e) where
  abbrev c : Chart
  c = chart_of vs es fs

  abbrev q : Place
  q = place_in e

  abbrev i : ℕ
  i = unsigned e.section

  snd : Sound c
  snd = (chart-accepted chart vs es fs read).sound

  abbrev m : ℕ
  m = method_of e.method

  bend : is_splice e.kind ≡ false
  bend = ap is_splice bends

  module _ (known : unknown s e ≡ false) (on : off_grid q ≡ false) where
    asked : queries chart e.method q ≡ located_value m c q
    asked = ap (λ (l : Loaded). value_in l m q) read ∙ value-located m c q (known_method s e known bend) on

    ruled : entry_ruling queries s chart e ≡ bend_ruling i (located_value m c q)
    unfolding entry_ruling
    ruled = rw (known, on, bend) (ap (bend_ruling i) asked)

    outside : left_of_rim c q ≡ true → entry_ruling queries s chart e ≡ Refused 14
    outside o = ruled ∙ ap (bend_ruling i) (value-outside c snd q m o)

    inside : left_of_rim c q ≡ false → (v : Float) × (queries chart e.method q ≡ value v) × (entry_ruling queries s chart e ≡ charged i v)
    inside o = let r = value-inside c snd q o m in (r.0, asked ∙ r.1, ruled ∙ ap (bend_ruling i) r.1)

  unknown-12 : unknown s e ≡ true → entry_ruling queries s chart e ≡ Refused 12
  unfolding entry_ruling
  unknown-12 u = rw u

  off-13 : unknown s e ≡ false → off_grid q ≡ true → entry_ruling queries s chart e ≡ Refused 13
  unfolding entry_ruling
  off-13 u o = rw (u, o)

  ruled-bend : NoSplice (entry_ruling queries s chart e)
  unfolding entry_ruling
  ruled-bend =
      let v = bend_ruling i (queries chart e.method q) in
      let w = cond (is_splice e.kind) (Splice i) v in
      either NoSplice (unknown s e) (Refused 12) (cond (off_grid q) (Refused 13) w) tt
      (either NoSplice (off_grid q) (Refused 13) w tt (subst (λ (b : Bool). NoSplice (cond b (Splice i) v)) (sym bend) (no-splice i (queries chart e.method q))))

  settled : Bends chart c s e
  settled =
      record {
        by-12 = unknown-12;
        by-13 = off-13;
        by-14 = outside;
        valued = inside;
        no_other = λ total count. bend-or-refused (with17 total count (entry_ruling queries s chart e)) (entry-refused chart vs es fs read s e total count) (still-none total count (entry_ruling queries s chart e) ruled-bend);
      }

-- of every accepted file, and every section count and bend
pub every-bend : (chart : List ℕ) (vs : List ℤ) (es fs : List ℕ) → chart_in chart ≡ loaded vs es fs → (s : ℕ) (e : Entry) → IsBend e → Bends chart (chart_of vs es fs) s e
every-bend = settled
