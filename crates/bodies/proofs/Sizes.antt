-- The half-edges of a body that was read are as many as its head says.
use Rattle.std.specs.Prelude.{◌≡◌, List, ℕ, ◌/◌, ℤ, length}
use Rattle.std.proofs.Common.{refl, sym, ap, ◌∙◌}
use Rattle.std.proofs.lemmas.List.{length-map}
use Rattle.chart.specs.Tables.{rows, unsigned, unsigned_all}
use Rattle.checks.specs.Checks.{tables_refusal}
use Rattle.checks.specs.Checks.Loaded.{loaded}
use Rattle.reading.specs.Reading.{Body, body_of, load_body, load_of}
use Rattle.reading.specs.Reading.Body.{body, malformed}
use Rattle.accepted.specs.Bytes.{Sized, body-sized, quarter, told-loaded}

by : (v e f : ℕ) (b : Body) (vs : List ℤ) (es fs : List ℕ) → ((x y z : List ℤ) → b ≡ body x y z → Sized v e f x y z) → load_body b ≡ loaded vs es fs → rows es ≡ e
by v e f (body x y z) vs es fs s h =
    let t = told-loaded (tables_refusal x y z) x vs (unsigned_all y) (unsigned_all z) es fs h in
    rw (← t.1.1.0) (ap (λ (k : ℕ). k / 4) (length-map y unsigned) ∙ quarter e (length y) (s x y z refl).e-size)
by v e f (malformed m) vs es fs s h = absurd (cc)

pub loaded-edges : (v e f : ℕ) (s : List ℕ) (vs : List ℤ) (es fs : List ℕ) → loaded vs es fs ≡ load_of v e f s → rows es ≡ e
unfolding load_of
loaded-edges v e f s vs es fs h = by v e f (body_of v e f s) vs es fs (body-sized v e f s) (sym h)
