-- The text put, in the words of specs/.
use Rattle.std.specs.Prelude.{Ok}
use mathlib.Core.List.{List, ◌++◌}
use mathlib.Core.Path.{◌≡◌, sym, ap, ◌∙◌}
use Prim.Native.Nat.{ℕ, ◌+◌, ◌≤◌}
use native.Mathlib.Omega.{arith}
use lib.IntN.{ℤ}
use lib.ListN.{length, drop}
use Rattle.reading.specs.Text.{chart_text}
use Rattle.columns.specs.Laid.{laid}
use Rattle.writing.specs.Writing.{saved_left, numbers_refusal, write_of}
use Rattle.reading.specs.RoundTrip.{text-length}
use Rattle.writing.specs.Laws.{vertex-rows, edge-rows}
use Rattle.writing.proofs.Laws.{counts-in, uneven-none, written-short, written-room}

-- the text in front of the buffer, and its length
pub saved-put : (vs es fs : List ℤ) (lent new : List ℕ) (n : ℕ) → numbers_refusal vs es fs ≡ 0 → length (chart_text vs es fs) ≤ length lent → n ≡ length (chart_text vs es fs)
    → new ≡ laid lent 0 (chart_text vs es fs) → saved_left (Ok n) new ≡ write_of vs es fs lent
saved-put vs es fs lent new n h l e p =
    let t = chart_text vs es fs in
    let z : 0 + length t ≡ length t = omega arith in
    let q : new ≡ t ++ drop (length t) lent = p ∙ ap (λ (k : ℕ). t ++ drop k lent) z in
    rw (e, q) (sym (written-room vs es fs lent h l))

pub ruleset put = (counts-in, uneven-none, vertex-rows, edge-rows, written-short, text-length, saved-put)
