-- Charges of single values, computed from the definition; 01's own three ("Loads at the rim") are rows of `rim`. Assumes nothing.
use Rattle.std.specs.Prelude.{◌≡◌, refl}
use Rattle.std.specs.Float.{binary64}
use Rattle.std.specs.Float.Ieee.{of_bits}
use Rattle.charge.specs.Charging.{charge_of}
use Rattle.charge.specs.Charging.Cost.{whole, turned_down}

pub record ChargeRows : Type 0 where
  -- the values next below 149.5, -0.5 and 1,000,000.5
  pub below_half : charge_of (of_bits binary64 0x4062_afff_ffff_ffff) ≡ whole 149
  pub too-low : charge_of (of_bits binary64 0xbfe0_0000_0000_0001) ≡ turned_down 16
  pub highest : charge_of (of_bits binary64 0x412e_8480_ffff_ffff) ≡ whole 1000000
  -- -0, the value next below 0.5, 0.5, the infinities, a not-a-number
  pub minus-zero : charge_of (of_bits binary64 0x8000_0000_0000_0000) ≡ whole 0
  pub below-0½ : charge_of (of_bits binary64 0x3fdf_ffff_ffff_ffff) ≡ whole 0
  pub at-0½ : charge_of (of_bits binary64 0x3fe0_0000_0000_0000) ≡ whole 1
  pub infinite : charge_of (of_bits binary64 0x7ff0_0000_0000_0000) ≡ turned_down 16
  pub minus-infinite : charge_of (of_bits binary64 0xfff0_0000_0000_0000) ≡ turned_down 16
  pub not-a-number : charge_of (of_bits binary64 0x7ff8_0000_0000_0000) ≡ turned_down 16

pub charge-rows : ChargeRows
unfolding of_bits
charge-rows =
    record {
      below_half = refl;
      too-low = refl;
      highest = refl;
      minus-zero = refl;
      below-0½ = refl;
      at-0½ = refl;
      infinite = refl;
      minus-infinite = refl;
      not-a-number = refl;
    }
