-- 01, rows 12 to 16: what follows for an entry from s, chart and entry alone.
use Rattle.std.specs.Prelude.{◌≡◌, refl, List, Bool, true, false, cond, ℕ, ◌≤◌, ◌<◌, ℤ, Float}
use Rattle.std.proofs.Common.{arith}
use Rattle.whole.specs.Bools.{or-false}
use Rattle.geometry.specs.declared.Place.{Place}
use Rattle.geometry.specs.Plane.{off_grid}
use Rattle.chart.specs.Tables.{unsigned}
use Rattle.ranges.specs.Passed.{below}
use Rattle.values.specs.Value.{Answer}
use Rattle.entries.specs.declared.Entry.{Entry}
use Rattle.entries.specs.Ruling.{Ruling}
use Rattle.entries.specs.Ruling.Ruling.{Bend, Splice, Refused}
use Rattle.entries.specs.Entry.{is_splice, unknown, place_in}
use Rattle.charge.specs.Charging.{charge_max, off_scale, charge_of, charge_case}
use Rattle.charge.specs.Nearest.{on-scale}

-- what the chart's queries say: from the chart's bytes, a method and a place
abbrev pub Queries : Type 0
Queries = List ℕ → ℤ → Place → Answer

-- 16, or a bend with its charge
abbrev pub charged : ℕ → Float → Ruling
charged i v = charge_case (Bend i) Refused (charge_of v)

-- what the queries say of a bend: 14, or the value, which 16 may meet
abbrev pub bend_ruling : ℕ → Answer → Ruling
bend_ruling i (Answer.value v) = charged i v
bend_ruling i (Answer.turned_down k) = Refused k

-- 12 to 16 in their order; 14 to 16 meet bends only, as no other kind is located or charged
unfoldable pub entry_ruling : Queries → ℕ → List ℕ → Entry → Ruling
entry_ruling Q s chart e =
    cond (unknown s e) (Refused 12)
    (cond (off_grid (place_in e)) (Refused 13)
    (cond (is_splice e.kind) (Splice (unsigned e.section)) (bend_ruling (unsigned e.section) (Q chart e.method (place_in e)))))

-- ---- what 12 and 16 leave: the section is one of s, the charge one of 0 to 1,000,000
abbrev pub Known : ℕ → Ruling → Type 0
Known s (Bend i n) = (i < s) × (n ≤ charge_max)
Known s (Splice i) = i < s
Known s (Refused k) = Unit {0}

charged-known : (s i : ℕ) → i < s → (v : Float) → Known s (charged i v)
charged-known s i h v = go (off_scale v) refl
  where
    go : (b : Bool) → off_scale v ≡ b → Known s (charged i v)
    go true e = rw e tt
    go false e = rw e (h, (on-scale v e).1)

bend-known : (s i : ℕ) → i < s → (a : Answer) → Known s (bend_ruling i a)
bend-known s i h (Answer.value v) = charged-known s i h v
bend-known s i h (Answer.turned_down k) = tt

pub known : (Q : Queries) (s : ℕ) (chart : List ℕ) (e : Entry) → Known s (entry_ruling Q s chart e)
unfolding entry_ruling
known Q s chart e = go (unknown s e) refl
  where
    i : ℕ
    i = unsigned e.section

    third : (b : Bool) → i < s → Known s (cond b (Splice i) (bend_ruling i (Q chart e.method (place_in e))))
    third true h = h
    third false h = bend-known s i h (Q chart e.method (place_in e))

    second : (b : Bool) → i < s
        → Known s (cond b (Refused 13) (cond (is_splice e.kind) (Splice i) (bend_ruling i (Q chart e.method (place_in e)))))
    second true h = tt
    second false h = third (is_splice e.kind) h

    go : (b : Bool) → unknown s e ≡ b → Known s (cond b (Refused 12)
        (cond (off_grid (place_in e)) (Refused 13) (cond (is_splice e.kind) (Splice i) (bend_ruling i (Q chart e.method (place_in e))))))
    go true h = tt
    go false h = let l : i < _ = below _ e.section (or-false _ _ h).0 in second (off_grid (place_in e)) (omega (arith, l))
