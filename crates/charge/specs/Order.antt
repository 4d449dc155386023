-- The order of whole numbers as the sign of a difference: a ≤ b where b - a is not below 0, a < b where it is above. Assumes nothing.
use Rattle.std.specs.Prelude.{ℕ, zero, suc, ◌+◌, ◌-◌, ◌<◌, ◌≤◌, ℤ, pos, negsuc, ◌-ℤ◌, ◌≤ℤ◌, ◌<ℤ◌}
use Rattle.std.proofs.Common.{zero-le, not-suc-le-zero, arith, le→leb, lt→ltb, leb→le, ltb→lt, lt-ltb, le-ltb}
use Rattle.std.proofs.Math.Decide.{dec_lt}
use Rattle.std.proofs.Math.IntN.{sub_ℕ}
use Rattle.signs.specs.Signs.{Pos, High}
use Rattle.signs.specs.Order.{nat-high, nat-pos, pos-nat, pos-high, not-high}

-- ---- differences of natural numbers
sub-atleast : (a b : ℕ) → suc b ≤ a → High (sub_ℕ a (suc b))
sub-atleast a b h = rw (le-ltb a (suc b) h) (nat-high (a - suc b))

sub-above : (a b : ℕ) → suc b < a → Pos (sub_ℕ a (suc b))
sub-above a b h = rw (le-ltb a (suc b) (omega arith)) (nat-pos (a - suc b) (omega arith))

atleast-sub : (a b : ℕ) → High (sub_ℕ a (suc b)) → suc b ≤ a
atleast-sub a b h = go (dec_lt a (suc b))
  where
    go : Dec (a < suc b) → suc b ≤ a
    go (yes p) = let z : High (negsuc (suc b - suc a)) = rw (lt-ltb a (suc b) p) at h in not-high z
    go (no p) = omega arith

pub above-sub : (a b : ℕ) → Pos (sub_ℕ a (suc b)) → suc b < a
above-sub a b h = go (dec_lt a (suc b))
  where
    go : Dec (a < suc b) → suc b < a
    go (yes p) = let z : Pos (negsuc (suc b - suc a)) = rw (lt-ltb a (suc b) p) at h in not-high (pos-high z)
    go (no p) = let z : Pos (pos (a - suc b)) = rw (le-ltb a (suc b) (omega arith)) at h in omega (arith, pos-nat (a - suc b) z)

-- ---- a ≤ b exactly where b - a is not below 0
pub le-atleast : (a b : ℤ) → a ≤ℤ b → High (b -ℤ a)
le-atleast (pos zero) (pos b) h = nat-high (b + 0)
le-atleast (pos (suc a)) (pos b) h = sub-atleast b a (leb→le (suc a) b h.le)
le-atleast (pos a) (negsuc b) h = absurd h.le
le-atleast (negsuc a) (pos b) h = nat-high (b + suc a)
le-atleast (negsuc a) (negsuc b) h = sub-atleast (suc a) b (omega (arith, leb→le b a h.le))

pub atleast-le : (a b : ℤ) → High (b -ℤ a) → a ≤ℤ b
atleast-le (pos zero) (pos b) h = record { le = le→leb 0 b zero-le }
atleast-le (pos (suc a)) (pos b) h = record { le = le→leb (suc a) b (atleast-sub b a h) }
atleast-le (pos zero) (negsuc b) h = absurd (not-suc-le-zero (atleast-sub 0 b h))
atleast-le (pos (suc a)) (negsuc b) h = not-high h
atleast-le (negsuc a) (pos b) h = record { le = tt }
atleast-le (negsuc a) (negsuc b) h = record { le = le→leb b a (omega (arith, atleast-sub (suc a) b h)) }

-- ---- a < b exactly where b - a is above 0
pub lt_above : (a b : ℤ) → a <ℤ b → Pos (b -ℤ a)
lt_above (pos zero) (pos b) h = nat-pos (b + 0) (omega (arith, ltb→lt 0 b h.lt))
lt_above (pos (suc a)) (pos b) h = sub-above b a (ltb→lt (suc a) b h.lt)
lt_above (pos a) (negsuc b) h = absurd h.lt
lt_above (negsuc a) (pos b) h = nat-pos (b + suc a) (omega arith)
lt_above (negsuc a) (negsuc b) h = sub-above (suc a) b (omega (arith, ltb→lt b a h.lt))

pub above-lt : (a b : ℤ) → Pos (b -ℤ a) → a <ℤ b
above-lt (pos zero) (pos b) h = record { lt = lt→ltb 0 b (omega (arith, pos-nat (b + 0) h)) }
above-lt (pos (suc a)) (pos b) h = record { lt = lt→ltb (suc a) b (above-sub b a h) }
above-lt (pos zero) (negsuc b) h = absurd (not-suc-le-zero (above-sub 0 b h))
above-lt (pos (suc a)) (negsuc b) h = not-high (pos-high h)
above-lt (negsuc a) (pos b) h = record { lt = tt }
above-lt (negsuc a) (negsuc b) h = record { lt = lt→ltb b a (omega (arith, above-sub (suc a) b h)) }
