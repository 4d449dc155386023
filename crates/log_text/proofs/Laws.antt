-- Laws of specs/Log.antt.
use Prim.Native.Nat.{ℕ, zero, suc, ◌*◌, ◌≤◌, ◌<◌}
use mathlib.Core.List.{List, [], ◌∷◌}
use mathlib.Core.Bool.{Bool, true, false}
use mathlib.Core.Path.{◌≡◌, refl, ap, ◌∙◌}
use native.Mathlib.Omega.{arith}
use native.Mathlib.Nat.{mul-suc}
use borrow.Author.Tests.{ltb-true, ltb-false}
use lib.Dec.{ltb}
use lib.ListN.{length, take, drop, length-drop}
use Rattle.text.specs.Field.{field_width, field_of}
use Rattle.tables.specs.Table.{Cells, join, cell_of, line_of, line_bytes, table_of}
use Rattle.tables.specs.Table.Cells.{cells, bad}

-- ---- bytes that are missing

join-bad : (c : Cells) → join c bad ≡ bad
join-bad (cells l) = refl
join-bad bad = refl

-- A line whose line end is missing.
line-short : (w : ℕ) (s : List ℕ) → length s ≤ field_width * w → line_of w s ≡ bad
unfolding line_of
line-short zero [] h = refl
line-short zero (b ∷ s) h = absurd (omega arith)
line-short (suc w) s h =
    ap (join (cell_of (field_of (take field_width s)))) (line-short w (drop field_width s) (simp length-drop (omega (arith, mul-suc field_width w))))
    ∙ join-bad (cell_of (field_of (take field_width s)))

table_short_by : (w n : ℕ) (s : List ℕ) (b : Bool) → ltb (length s) (line_bytes w) ≡ b
    → (line_bytes w ≤ length s → table_of w n (drop (line_bytes w) s) ≡ bad) → join (line_of w s) (table_of w n (drop (line_bytes w) s)) ≡ bad
table_short_by w n s true e f = rw (line-short w s (omega (arith, ltb-true (length s) (line_bytes w) e))) refl
table_short_by w n s false e f = rw (f (ltb-false (length s) (line_bytes w) e)) (join-bad (line_of w s))

-- Lines of which the last bytes are missing are malformed.
pub table_short : (w n : ℕ) (s : List ℕ) → length s < line_bytes w * n → table_of w n s ≡ bad
unfolding table_of
table_short w zero s h = absurd (omega arith)
table_short w (suc n) s h =
    table_short_by w n s _ refl (λ l. table_short w n (drop (line_bytes w) s) (simp length-drop (omega (arith, mul-suc (line_bytes w) n))))
