-- 01, "Charge, entry, book": the charge of a value. A finite value is exactly x / d, with x = ± m * up e and d = down e.
use Rattle.std.specs.Prelude.{ℕ, ◌+◌, ◌*◌, ◌/◌, Bool, true, false, cond, ℤ, pos, ◌+ℤ◌, ◌-ℤ◌, ◌*ℤ◌, ◌≤ℤ◌, ◌<ℤ◌, nat_le, nat_lt, Float, Result, Ok, Err}
use Rattle.std.specs.Float.{nan, inf, fin}
use Rattle.std.specs.Float.Ieee.{up, down}
use Rattle.refusal.specs.declared.Refusal.{Refusal}
use Rattle.refusal.specs.Number.{number}

-- the largest charge: a value of at least 1,000,000.5 is refused (row 16)
abbrev pub charge_max : ℕ
charge_max = 1000000

-- the whole n with n - 0.5 <= x / d < n + 0.5: both sides doubled and times d
pub record Nearest (x : ℤ) (d : ℕ) (n : ℤ) : Type 0 where
  pub from : ((pos 2 *ℤ n -ℤ pos 1) *ℤ pos d) ≤ℤ (pos 2 *ℤ x)
  pub below : (pos 2 *ℤ x) <ℤ ((pos 2 *ℤ n +ℤ pos 1) *ℤ pos d)

-- x with its sign
abbrev pub signed : Bool → ℕ → ℤ
signed false a = pos a
signed true a = pos 0 -ℤ pos a

-- n is the charge of the value, whatever row 16 says of it
abbrev pub IsCharge : Float → ℤ → Type 0
IsCharge nan n = ⊥
IsCharge (inf s) n = ⊥
IsCharge (fin s m e) n = Nearest (signed s (m * up e)) (down e) n

-- 16: value not a number, below -0.5, or at least 1,000,000.5
abbrev pub off_scale : Float → Bool
off_scale nan = true
off_scale (inf s) = true
off_scale (fin false m e) = nat_le ((charge_max * 2 + 1) * down e) (m * up e * 2)
off_scale (fin true m e) = nat_lt (down e) (m * up e * 2)

-- the whole part of v + 1/2, of a value that 16 does not meet: 0 from -0.5 to 0
abbrev pub rounded : Float → ℕ
rounded nan = 0
rounded (inf s) = 0
rounded (fin false m e) = (m * up e * 2 + down e) / (down e * 2)
rounded (fin true m e) = 0

-- the whole number, or the number of the refusal
pub data Cost : Type 0 where
  whole : ℕ → Cost
  turned_down : ℕ → Cost

-- the charge of a value, or refusal 16. `charge-is` and `is-charge` prove that it is 01's n
abbrev pub charge_of : Float → Cost
charge_of v = cond (off_scale v) (turned_down 16) (whole (rounded v))

-- by cases
abbrev pub charge_case : {A : Type 0} → (ℕ → A) → (ℕ → A) → Cost → A
charge_case f g (whole n) = f n
charge_case f g (turned_down k) = g k

-- what each case of the call's answer says, in 01's numbers
abbrev pub charge_says : Result ℕ Refusal → Cost
charge_says (Ok n) = whole n
charge_says (Err r) = turned_down (number r)
