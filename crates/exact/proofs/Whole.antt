-- Whole numbers in f64. `Whole x z`: the float x is the whole number z, where a zero may have either sign. Up to 2^53 either way the sum, the difference
-- and the product of two such floats are the exact whole results, and comparisons are those of the whole numbers. Assumes nothing.
use Rattle.std.specs.Prelude.{◌≡◌, not, ℤ, ◌+ℤ◌, ◌-ℤ◌, Float}
use Rattle.std.proofs.Common.{sym, ap, ◌∙◌}
use Rattle.std.specs.Float.{binary64}
use Rattle.whole.specs.Bound.{Within}
use Rattle.points.specs.Floats.{◌+f◌, ◌-f◌, real_of, exact_max}
use Rattle.exact.specs.Signed.{signed, neg-signed}
use Rattle.exact.specs.Values.{add-val, sub_val}
use Rattle.exact.specs.Whole.{Whole, of-int, value, plain-is, of-int-plain, sum-whole}

-- a difference
pub sub-exact : {x y : Float} {a b : ℤ} → Whole x a → Whole y b → Within exact_max a → Within exact_max b → Whole (x -f y) (a -ℤ b)
sub-exact {x} {y} v w p q =
    rw (sub_val binary64 x y v.sign w.sign v.size w.size (value v p) (value w q), v.int, w.int, neg-signed)
    (sum-whole v.sign v.size (not w.sign) w.size).0

-- a sum that starts from a whole number taken as f64 is one again, and never -0
pub plus-exact : (z : ℤ) {y : Float} {k : ℤ} → Whole y k → Within exact_max z → Within exact_max k → real_of z +f y ≡ real_of (z +ℤ k)
plus-exact z {y} {k} w p q =
    let v = of-int z in
    let r = sum-whole v.sign v.size w.sign w.size in
    add-val binary64 (real_of z) y v.sign w.sign v.size w.size (value v p) (value w q)
    ∙ plain-is r.0 (r.1 (of-int-plain z))
    ∙ ap (λ (i : ℤ). real_of i) (ap (λ (i : ℤ). i +ℤ signed w.sign w.size) (sym v.int) ∙ ap (λ (i : ℤ). z +ℤ i) (sym w.int))
