-- The refusals of an entry are at most 17. Assumes nothing.
use Rattle.std.specs.Prelude.{◌≡◌, refl, [], Bool, true, false, cond, ℕ, ◌≤◌, Float}
use Rattle.std.proofs.Common.{arith}
use Rattle.geometry.specs.Plane.{off_grid}
use Rattle.chart.specs.Chart.{Chart}
use Rattle.chart.specs.Tables.{unsigned}
use Rattle.values.specs.Value.{Answer, UpTo14, method_of, value_on, value-up-to-14}
use Rattle.charge.specs.Charging.{off_scale}
use Rattle.book.specs.declared.Book.{Book}
use Rattle.book.specs.Books.{total_wear, count_of}
use Rattle.entries.specs.declared.Entry.{Entry}
use Rattle.entries.specs.Entry.{is_splice, unknown, place_in}
use Rattle.entries.specs.Ruling.{Ruling, meets17, with17}
use Rattle.entries.specs.Ruling.Ruling.{Bend, Splice, Refused}
use Rattle.accounts.specs.Rulings.{charged, bend_ruling, entry_ruling}
use Rattle.accounts.specs.Batch.{book_verdict}
use Rattle.batch.specs.Tables.{on_tables}

-- the last of them
abbrev pub last_refusal : ℕ
last_refusal = 17

-- a refusal's number is at most that
abbrev pub UpTo17 : Ruling → Type 0
UpTo17 (Bend i n) = Unit {0}
UpTo17 (Splice i) = Unit {0}
UpTo17 (Refused k) = k ≤ last_refusal

module _ (c : Chart) (s : ℕ) (e : Entry) where
  -- ---- its number is at most 17
  charged-up-to-17 : (i : ℕ) (v : Float) → UpTo17 (charged i v)
  charged-up-to-17 i v = go (off_scale v) refl
    where
      go : (b : Bool) → off_scale v ≡ b → UpTo17 (charged i v)
      go true h = rw h (omega arith)
      go false h = rw h tt

  bend-up-to-17 : (i : ℕ) (a : Answer) → UpTo14 a → UpTo17 (bend_ruling i a)
  bend-up-to-17 i (Answer.value v) f = charged-up-to-17 i v
  bend-up-to-17 i (Answer.turned_down k) f = omega arith

  cond-up-to-17 : (b : Bool) (x y : Ruling) → UpTo17 x → UpTo17 y → UpTo17 (cond b x y)
  cond-up-to-17 true x y f g = f
  cond-up-to-17 false x y f g = g

  ruling-up-to-17 : UpTo17 (entry_ruling (on_tables c) s [] e)
  unfolding entry_ruling
  ruling-up-to-17 =
      let i = unsigned e.section in
      let v = bend_ruling i (value_on (method_of e.method) c (place_in e)) in
      let w = cond (is_splice e.kind) (Splice i) v in
      cond-up-to-17 (unknown s e) (Refused 12) (cond (off_grid (place_in e)) (Refused 13) w) (omega arith)
      (cond-up-to-17 (off_grid (place_in e)) (Refused 13) w (omega arith)
      (cond-up-to-17 (is_splice e.kind) (Splice i) v tt (bend-up-to-17 i (value_on (method_of e.method) c (place_in e)) (value-up-to-14 (method_of e.method) c (place_in e)))))

-- ---- the verdict
with17-up-to-17 : (total : ℕ) (count : ℕ → ℕ) (r : Ruling) → UpTo17 r → UpTo17 (with17 total count r)
with17-up-to-17 total count (Bend i n) h = go (meets17 total (count i) n)
  where
    go : (b : Bool) → UpTo17 (cond b (Refused 17) (Bend i n))
    go true = omega arith
    go false = tt
with17-up-to-17 total count (Splice i) h = h
with17-up-to-17 total count (Refused k) h = h

pub verdict-up-to-17 : (c : Chart) (b : Book) (e : Entry) → UpTo17 (book_verdict (on_tables c) [] b e)
verdict-up-to-17 c b e = with17-up-to-17 (total_wear b) (count_of b) (entry_ruling (on_tables c) b.sections [] e) (ruling-up-to-17 c b.sections e)
