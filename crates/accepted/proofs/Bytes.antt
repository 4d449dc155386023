-- From `chart_refusal_of bytes ≡ 0` to `Accepted`: the theorem that carries everything later. Assumes nothing.
use Rattle.std.specs.Prelude.{◌≡◌, refl, List, ℕ, ◌/◌, ℤ, length}
use Rattle.std.proofs.Common.{sym, ap, ◌∙◌}
use Rattle.std.proofs.lemmas.List.{length-map}
use Rattle.whole.specs.Bools.{never}
use Rattle.chart.specs.Tables.{rows, unsigned, unsigned_all}
use Rattle.chart.specs.Chart.{chart_of}
use Rattle.ranges.specs.Passed.{Counted, in-range, values-in}
use Rattle.checks.specs.Checks.{tables_refusal, Loaded}
use Rattle.checks.specs.Checks.Loaded.{loaded, refused}
use Rattle.reading.specs.Reading.{head_of, Body, body_of, load_body, load_of, refusal_of, after_head, chart_in, chart_refusal_of}
use Rattle.reading.specs.Reading.Body.{body, malformed}
use Rattle.reading.specs.Reading.{Head}
use Rattle.reading.specs.Reading.Head.{Refused, Counts}
use Rattle.reading.specs.Laws.{head-counted, head-refusal, load-refusal, chart-body}
use Rattle.accepted.specs.Tests.{passed}
use Rattle.accepted.specs.Accepted.{Accepted, accepted}
use Rattle.accepted.specs.Bytes.{Sized, body-sized, tables-passed, quarter, told-loaded, AcceptedBytes, same-accepted}

tables-accepted : (v e f : ℕ) (vs es fs : List ℤ) → Counted v e f → Sized v e f vs es fs → tables_refusal vs es fs ≡ 0 → Accepted (chart_of vs (unsigned_all es) (unsigned_all fs))
tables-accepted v e f vs es fs n s h =
    let t = tables-passed vs es fs h in
    let a : rows vs ≡ v = quarter v (length vs) s.v-size in
    let b : rows es ≡ e = quarter e (length es) s.e-size in
    let d : rows (unsigned_all es) ≡ e = ap (λ (k : ℕ). k / 4) (length-map es unsigned) ∙ b in
    let g : length (unsigned_all fs) ≡ f = length-map fs unsigned ∙ s.f-size in
    accepted (chart_of vs (unsigned_all es) (unsigned_all fs)) (rw (a, d, g) n) (in-range vs es fs t.0 (rw b n.e-even)) (passed _ t.1) (values-in vs es fs t.0)

load-by : (v e f : ℕ) (b : Body) (vs : List ℤ) (es fs : List ℕ) → Counted v e f → ((x y z : List ℤ) → b ≡ body x y z → Sized v e f x y z) → load_body b ≡ loaded vs es fs → Accepted (chart_of vs es fs)
load-by v e f (body x y z) vs es fs n s h =
    let t = told-loaded (tables_refusal x y z) x vs (unsigned_all y) (unsigned_all z) es fs h in
    rw (← t.1.0, ← t.1.1.0, ← t.1.1.1) (tables-accepted v e f x y z n (s x y z refl) t.0)
load-by v e f (malformed m) vs es fs n s h = never (cc)

-- what a body that was read and checked gives: the form that callers of `load` use
pub load-accepted : (v e f : ℕ) (s : List ℕ) (vs : List ℤ) (es fs : List ℕ) → Counted v e f → load_of v e f s ≡ loaded vs es fs → Accepted (chart_of vs es fs)
unfolding load_of
load-accepted v e f s vs es fs n h = load-by v e f (body_of v e f s) vs es fs n (body-sized v e f s) h

pub bytes-accepted : (s : List ℕ) → chart_refusal_of s ≡ 0 → AcceptedBytes s
unfolding chart_in
bytes-accepted s h = by-head (head_of s) refl h
  where
    by-load : (v e f : ℕ) → head_of s ≡ Counts v e f → (l : Loaded) → load_of v e f s ≡ l → refusal_of l ≡ 0 → AcceptedBytes s
    by-load v e f q (loaded vs es fs) k z =
        record { v = v; e = e; f = f; vs = vs; es = es; fs = fs; counts = q; tables = chart-body s v e f q ∙ k; chart = load-accepted v e f s vs es fs (head-counted s v e f q) k }
    by-load v e f q (refused n) k z = absurd (load-refusal v e f s n k z)

    by-head : (d : Head) → head_of s ≡ d → refusal_of (after_head d s) ≡ 0 → AcceptedBytes s
    by-head (Refused n) q z = absurd (head-refusal s n q z)
    by-head (Counts v e f) q z = by-load v e f q (load_of v e f s) refl z

pub chart-accepted : (s : List ℕ) (vs : List ℤ) (es fs : List ℕ) → chart_in s ≡ loaded vs es fs → Accepted (chart_of vs es fs)
chart-accepted s vs es fs q =
    let a = bytes-accepted s (ap refusal_of q) in
    same-accepted a.vs vs a.es es a.fs fs (sym a.tables ∙ q) a.chart
