-- What an entry can be refused with, by what its query can be refused with. Assumes nothing.
use Rattle.std.specs.Prelude.{◌≡◌, refl, Bool, true, false, cond, List, ℕ, Float}
use Rattle.geometry.specs.Plane.{off_grid}
use Rattle.chart.specs.Tables.{unsigned}
use Rattle.values.specs.Value.{Answer}
use Rattle.charge.specs.Charging.{off_scale}
use Rattle.charge.specs.Nearest.{on-scale}
use Rattle.entries.specs.declared.Entry.{Entry}
use Rattle.entries.specs.Ruling.{Ruling}
use Rattle.entries.specs.Ruling.Ruling.{Bend, Splice, Refused}
use Rattle.entries.specs.Entry.{is_splice, unknown, place_in}
use Rattle.entries.specs.Ruling.{meets17, with17}
use Rattle.accounts.specs.Rulings.{Queries, charged, bend_ruling, entry_ruling}
use Rattle.refusals.specs.Entries.{of_entry, OnlyBy, ValueBy, either}

charged-by : (i : ℕ) (v : Float) → OnlyBy of_entry (charged i v)
charged-by i v = go (off_scale v) refl
  where
    go : (b : Bool) → off_scale v ≡ b → OnlyBy of_entry (charged i v)
    go true e = rw e refl
    go false e = rw e (on-scale v e).1

bend-by : (i : ℕ) (a : Answer) → ValueBy of_entry a → OnlyBy of_entry (bend_ruling i a)
bend-by i (Answer.value v) h = charged-by i v
bend-by i (Answer.turned_down k) h = h

ruling-by : (Q : Queries) (s : ℕ) (chart : List ℕ) (e : Entry) → ValueBy of_entry (Q chart e.method (place_in e)) → OnlyBy of_entry (entry_ruling Q s chart e)
unfolding entry_ruling
ruling-by Q s chart e h =
    let i = unsigned e.section in
    let v = bend_ruling i (Q chart e.method (place_in e)) in
    let w = cond (is_splice e.kind) (Splice i) v in
    either (OnlyBy of_entry) (unknown s e) (Refused 12) (cond (off_grid (place_in e)) (Refused 13) w) refl
    (either (OnlyBy of_entry) (off_grid (place_in e)) (Refused 13) w refl (either (OnlyBy of_entry) (is_splice e.kind) (Splice i) v tt (bend-by i (Q chart e.method (place_in e)) h)))

-- 17 comes last, by any total and counts
with17-by : (total : ℕ) (count : ℕ → ℕ) (r : Ruling) → OnlyBy of_entry r → OnlyBy of_entry (with17 total count r)
with17-by total count (Bend i n) h = either (OnlyBy of_entry) (meets17 total (count i) n) (Refused 17) (Bend i n) refl h
with17-by total count (Splice i) h = h
with17-by total count (Refused k) h = h

pub entry-by : (Q : Queries) (s : ℕ) (chart : List ℕ) (e : Entry) → ValueBy of_entry (Q chart e.method (place_in e)) → (total : ℕ) (count : ℕ → ℕ) → OnlyBy of_entry (with17 total count (entry_ruling Q s chart e))
entry-by Q s chart e h total count = with17-by total count (entry_ruling Q s chart e) (ruling-by Q s chart e h)
