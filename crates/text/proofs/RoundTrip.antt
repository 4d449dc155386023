-- 02, CR 1: "One proof covers a field of any kind": a field that was read is its number's text (`field-read`), and a number's text is read as that number
-- (`field_back`). Both hold of a field of any width. Assumes nothing.
use Rattle.std.specs.Prelude.{ℕ, ◌≡◌, ℤ, Some}
use Rattle.text.specs.Field.{field_of, field_text}
use Rattle.text.specs.Bytes.{eqs-refl}
use Rattle.text.specs.RoundTrip.{field-length, Fits, candidate-text, number-yes}

-- a number that fits its field, written, is read as it was
pub field_back : (w : ℕ) (z : ℤ) → Fits w z → field_of (field_text w z) ≡ Some z
field_back w z h = number-yes (field_text w z) z (candidate-text w z h) (rw (field-length w z) (eqs-refl (field_text w z)))
