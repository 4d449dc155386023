-- From `chart_refusal_of bytes ≡ 0` to `Accepted`: the theorem that carries everything later. Assumes nothing.
use Rattle.std.specs.Prelude.{◌≡◌, refl, Bool, true, false, cond, List, ℕ, zero, suc, ◌+◌, ◌*◌, ◌/◌, eqb, ℤ, length, drop}
use Rattle.std.proofs.Common.{sym, ap, ◌∙◌, one-mul, arith}
use Rattle.whole.specs.Bools.{never}
use Rattle.tables.specs.Table.{Cells, table_of, line_bytes}
use Rattle.tables.specs.Table.Cells.{cells, bad}
use Rattle.tables.specs.Size.{table-length}
use Rattle.chart.specs.Tables.{unsigned_all}
use Rattle.chart.specs.Chart.{chart_of}
use Rattle.ranges.specs.Ranges.{out_of_range}
use Rattle.checks.specs.Checks.{chart_refusal, tables_refusal, told}
use Rattle.checks.specs.Checks.Loaded.{loaded}
use Rattle.reading.specs.Reading.{head_length, head_of, file_length, Body, three, body_of, chart_in}
use Rattle.reading.specs.Reading.Body.{body, malformed}
use Rattle.reading.specs.Reading.Head.{Counts}
use Rattle.accepted.specs.Accepted.{Accepted}

-- ---- the tables of a body are as long as the counts say
pub record Sized (v e f : ℕ) (vs es fs : List ℤ) : Type 0 where
  pub v-size : length vs ≡ 4 * v
  pub e-size : length es ≡ 4 * e
  pub f-size : length fs ≡ f

three-sized : (v e f : ℕ) (a b c : Cells) (vs es fs : List ℤ) → ((l : List ℤ) → a ≡ cells l → length l ≡ 4 * v) → ((l : List ℤ) → b ≡ cells l → length l ≡ 4 * e) → ((l : List ℤ) → c ≡ cells l → length l ≡ 1 * f) → three a b c ≡ body vs es fs → Sized v e f vs es fs
three-sized v e f (cells x) (cells y) (cells z) vs es fs p q r h =
    let i : x ≡ vs = cc in
    let j : y ≡ es = cc in
    let k : z ≡ fs = cc in
    record { v-size = sym (ap length i) ∙ p x refl; e-size = sym (ap length j) ∙ q y refl; f-size = sym (ap length k) ∙ r z refl ∙ one-mul f }
three-sized v e f (cells x) (cells y) bad vs es fs p q r h = never (cc)
three-sized v e f (cells x) bad c vs es fs p q r h = never (cc)
three-sized v e f bad b c vs es fs p q r h = never (cc)

pick-body : (b : Bool) (x y : Body) (vs es fs : List ℤ) → y ≡ malformed 3 → cond b x y ≡ body vs es fs → x ≡ body vs es fs
pick-body true x y vs es fs m h = h
pick-body false x y vs es fs m h = never (cc)

pub body-sized : (v e f : ℕ) (s : List ℕ) (vs es fs : List ℤ) → body_of v e f s ≡ body vs es fs → Sized v e f vs es fs
unfolding body_of
body-sized v e f s vs es fs h =
    three-sized v e f (table_of 4 v (drop head_length s)) (table_of 4 e (drop (head_length + line_bytes 4 * v) s))
    (table_of 1 f (drop (head_length + line_bytes 4 * v + line_bytes 4 * e) s)) vs es fs
    (table-length 4 v (drop head_length s)) (table-length 4 e (drop (head_length + line_bytes 4 * v) s))
    (table-length 1 f (drop (head_length + line_bytes 4 * v + line_bytes 4 * e) s))
    (pick-body (eqb (length s) (file_length v e f)) _ _ vs es fs refl h)

-- ---- tables that no row refuses
pub tables-passed : (vs es fs : List ℤ) → tables_refusal vs es fs ≡ 0 → (out_of_range vs es fs ≡ false) × (chart_refusal (chart_of vs (unsigned_all es) (unsigned_all fs)) ≡ 0)
unfolding tables_refusal
tables-passed vs es fs h = split (out_of_range vs es fs) refl h
  where
    split : (b : Bool) → out_of_range vs es fs ≡ b → cond b 6 (chart_refusal (chart_of vs (unsigned_all es) (unsigned_all fs))) ≡ 0 → (out_of_range vs es fs ≡ false) × (chart_refusal (chart_of vs (unsigned_all es) (unsigned_all fs)) ≡ 0)
    split true e k = never (cc)
    split false e k = (e, k)

pub quarter : (n m : ℕ) → m ≡ 4 * n → m / 4 ≡ n
quarter n m e = omega arith

pub told-loaded : (r : ℕ) (x vs : List ℤ) (y z es fs : List ℕ) → told r x y z ≡ loaded vs es fs → (r ≡ 0) × ((x ≡ vs) × ((y ≡ es) × (z ≡ fs)))
told-loaded zero x vs y z es fs h = (refl, (cc, (cc, cc)))
told-loaded (suc r) x vs y z es fs h = never (cc)

-- ---- the whole file: its counts, its tables, and that they are accepted
pub record AcceptedBytes (s : List ℕ) : Type 0 where
  pub v : ℕ
  pub e : ℕ
  pub f : ℕ
  pub vs : List ℤ
  pub es : List ℕ
  pub fs : List ℕ
  pub counts : head_of s ≡ Counts v e f
  pub tables : chart_in s ≡ loaded vs es fs
  pub chart : Accepted (chart_of vs es fs)

-- the chart that every call takes from a file that it does not refuse
pub same-accepted : (us vs : List ℤ) (ds es gs fs : List ℕ) → loaded us ds gs ≡ loaded vs es fs → Accepted (chart_of us ds gs) → Accepted (chart_of vs es fs)
same-accepted us vs ds es gs fs e a =
    let x : us ≡ vs = cc in
    let y : ds ≡ es = cc in
    let z : gs ≡ fs = cc in
    rw (← x, ← y, ← z) a
