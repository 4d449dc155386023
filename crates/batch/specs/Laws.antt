-- What the ruling on an entry is, by the entry that 12 lets pass, and that its verdict suits the book's sums and keeps it valid. Assumes nothing.
use Rattle.std.specs.Prelude.{◌≡◌, refl, List, [], ◌∷◌, Bool, true, false, ℕ, eqb, ℤ, pos, Float, Option, None, Some, option_map, ok_or, Result, Ok, Err}
use Rattle.std.proofs.Common.{sym, ap, ◌∙◌, true≢false}
use Rattle.std.proofs.lemmas.Bool.{not-false}
use Rattle.whole.specs.Test.{eq_z, eq_z-true}
use Rattle.geometry.specs.declared.Place.{Place}
use Rattle.geometry.specs.declared.grid.GridPlace.{GridPlace}
use Rattle.geometry.specs.Grid.{at, grid_place}
use Rattle.refusal.specs.declared.Refusal.{Refusal}
use Rattle.refusal.specs.declared.Refusal.TheVariants.{OffGrid}
use Rattle.refusal.specs.Number.{number}
use Rattle.entries.specs.declared.KnownEntry.{KnownEntry}
use Rattle.entries.specs.declared.KnownEntry.TheVariants as E
use Rattle.values.specs.declared.Method.{Method}
use Rattle.values.specs.Method.{number_of}
use Rattle.std.proofs.Math.Bool.{cond}
use Rattle.whole.specs.Bools.{or-false, and-true}
use Rattle.geometry.specs.Plane.{off_grid}
use Rattle.chart.specs.Chart.{Chart}
use Rattle.chart.specs.Tables.{unsigned}
use Rattle.ranges.specs.Ranges.{not_below}
use Rattle.values.specs.Value.{method_of, value_says, located_value, value_on, value-located}
use Rattle.charge.specs.Charging.{charge_says, charge_of, charge_case}
use Rattle.book.specs.declared.Book.{Book}
use Rattle.book.specs.Books.{total_wear, count_of, ValidBook}
use Rattle.book.specs.Laws.{charge-fits, splice-fits}
use Rattle.entries.specs.declared.Entry.{Entry}
use Rattle.entries.specs.Ruling.{Ruling}
use Rattle.entries.specs.Ruling.Ruling.{Bend, Splice, Refused}
use Rattle.entries.specs.Entry.{is_bend, is_splice, untidy, unknown_kind, unknown, place_in, Known, known_says, known_of}
use Rattle.entries.specs.Ruling.{meets17, with17}
use Rattle.accounts.specs.Rulings.{Queries, Known as Within, bend_ruling, entry_ruling, known}
use Rattle.accounts.specs.Batch.{book_verdict, book_change}
use Rattle.accounts.proofs.Agree.{room, entries-valid}
use Rattle.batch.specs.Tables.{on_tables, Changeable}

-- ---- a bend that 12 lets pass has a known method
known-kind : (splice bend untidy' none : Bool) → cond splice untidy' (cond bend none true) ≡ false → splice ≡ false → none ≡ false
known-kind true b u n e f = absurd (true≢false f)
known-kind false true u n e f = e
known-kind false false u n e f = absurd (true≢false e)

pub known_method : (s : ℕ) (e : Entry) → unknown s e ≡ false → is_splice e.kind ≡ false → eqb (method_of e.method) 0 ≡ false
known_method s e u f =
    known-kind (is_splice e.kind) (is_bend e.kind) (untidy e.x e.y e.method) (eqb (method_of e.method) 0)
    (or-false (not_below s e.section) (unknown_kind e.kind e.x e.y e.method) u).1 f

-- a splice that 12 lets pass has its load at 0, 0: on the grid
tidy-place : (x y m : ℤ) → untidy x y m ≡ false → off_grid (record { x = x; y = y }) ≡ false
unfolding off_grid
tidy-place x y m e =
    let all = and-true (eq_z x (pos 0)) _ (not-false _ e) in
    let rest = and-true (eq_z y (pos 0)) _ all.1 in
    rw (eq_z-true x (pos 0) all.0, eq_z-true y (pos 0) rest.0) refl

known-tidy : (splice u other : Bool) → cond splice u other ≡ false → splice ≡ true → u ≡ false
known-tidy true u o e f = e
known-tidy false u o e f = absurd (true≢false (sym f))

-- ---- the ruling, by the entry that 12 lets pass
abbrev pub by_known : Chart → Known → Ruling
by_known c (Known.turned_down k) = Refused k
by_known c (Known.splice i) = Splice i
by_known c (Known.bend i m q) = cond (off_grid q) (Refused 13) (bend_ruling i (located_value m c q))

module _ (c : Chart) (s : ℕ) (e : Entry) where
  abbrev i : ℕ
  i = unsigned e.section

  abbrev q : Place
  q = place_in e

  fourth : (o : Bool) → off_grid q ≡ o → unknown s e ≡ false → is_splice e.kind ≡ false
      → cond o (Refused 13) (bend_ruling i (value_on (method_of e.method) c q)) ≡ cond o (Refused 13) (bend_ruling i (located_value (method_of e.method) c q))
  fourth true h u k = refl
  fourth false h u k = ap (bend_ruling i) (value-located (method_of e.method) c q (known_method s e u k) h)

  third : (k : Bool) → is_splice e.kind ≡ k → unknown s e ≡ false
      → cond (off_grid q) (Refused 13) (cond k (Splice i) (bend_ruling i (value_on (method_of e.method) c q)))
      ≡ by_known c (cond k (Known.splice i) (Known.bend i (method_of e.method) q))
  third true k u =
      let t = known-tidy (is_splice e.kind) (untidy e.x e.y e.method) _ (or-false (not_below s e.section) (unknown_kind e.kind e.x e.y e.method) u).1 k in
      rw (tidy-place e.x e.y e.method t) refl
  third false k u = fourth (off_grid q) refl u k

  second : (u : Bool) → unknown s e ≡ u
      → cond u (Refused 12) (cond (off_grid q) (Refused 13) (cond (is_splice e.kind) (Splice i) (bend_ruling i (value_on (method_of e.method) c q))))
      ≡ by_known c (cond u (Known.turned_down 12) (cond (is_splice e.kind) (Known.splice i) (Known.bend i (method_of e.method) q)))
  second true u = refl
  second false u = third (is_splice e.kind) refl u

  pub ruling-known : entry_ruling (on_tables c) s [] e ≡ by_known c (known_of s e)
  unfolding entry_ruling
  ruling-known = second (unknown s e) refl

-- ---- the ruling at each test
module _ (c : Chart) (s : ℕ) (e : Entry) where
  pub ruling-unknown : unknown s e ≡ true → entry_ruling (on_tables c) s [] e ≡ Refused 12
  unfolding entry_ruling
  ruling-unknown u = rw u

  pub ruling-off-grid : unknown s e ≡ false → off_grid (place_in e) ≡ true → entry_ruling (on_tables c) s [] e ≡ Refused 13
  unfolding entry_ruling
  ruling-off-grid u o = rw (u, o)

  pub ruling-splice : unknown s e ≡ false → off_grid (place_in e) ≡ false → is_splice e.kind ≡ true
      → entry_ruling (on_tables c) s [] e ≡ Splice (unsigned e.section)
  unfolding entry_ruling
  ruling-splice u o k = rw (u, o, k)

  pub ruling-bend : unknown s e ≡ false → off_grid (place_in e) ≡ false → is_splice e.kind ≡ false
      → entry_ruling (on_tables c) s [] e ≡ bend_ruling (unsigned e.section) (located_value (method_of e.method) c (place_in e))
  unfolding entry_ruling
  ruling-bend u o k =
      rw (u, o, k) (ap (bend_ruling (unsigned e.section)) (value-located (method_of e.method) c (place_in e) (known_method s e u k) o))

-- ---- the load on the grid, or off it
off-from : (o : Option GridPlace) (p : Place) → option_map at o ≡ grid_place p.x p.y → o ≡ None → off_grid p ≡ true
off-from o p is none = go (off_grid p) refl
  where
    go : (b : Bool) → off_grid p ≡ b → off_grid p ≡ true
    go true h = h
    go false h = let e : None ≡ Some p = sym (ap (option_map at) none) ∙ (rw h at is) in cc

on-from : (o : Option GridPlace) (p : Place) (g : GridPlace) → option_map at o ≡ grid_place p.x p.y → o ≡ Some g → (off_grid p ≡ false) × (at g ≡ p)
on-from o p g is some = go (off_grid p) refl
  where
    go : (b : Bool) → off_grid p ≡ b → (off_grid p ≡ false) × (at g ≡ p)
    go true h = let e : Some (at g) ≡ None = sym (ap (option_map at) some) ∙ (rw h at is) in cc
    go false h = (h, let e : Some (at g) ≡ Some p = sym (ap (option_map at) some) ∙ (rw h at is) in cc)

-- what `ok_or` says of it
pub refused-off : (o : Option GridPlace) (r : Result GridPlace Refusal) (p : Place) (x : Refusal) → r ≡ ok_or o OffGrid → r ≡ Err x
    → option_map at o ≡ grid_place p.x p.y → (x ≡ OffGrid) × (off_grid p ≡ true)
refused-off None r p x is err places = (cc, off-from None p places refl)
refused-off (Some g) r p x is err places = cc

pub kept-on : (o : Option GridPlace) (r : Result GridPlace Refusal) (p : Place) (g : GridPlace) → r ≡ ok_or o OffGrid → r ≡ Ok g
    → option_map at o ≡ grid_place p.x p.y → (off_grid p ≡ false) × (at g ≡ p)
kept-on None r p g is ok places = cc
kept-on (Some k) r p g is ok places = on-from (Some k) p g places cc

-- ---- from what the code has worked out to the ruling
module _ (c : Chart) (s : ℕ) (e : Entry) (known : Result KnownEntry Refusal) (is : known_says known ≡ known_of s e) where
  pub from-known : (x : Result KnownEntry Refusal) → known ≡ x → by_known c (known_says x) ≡ entry_ruling (on_tables c) s [] e
  from-known x same = ap (by_known c) (sym (ap known_says same) ∙ is) ∙ sym (ruling-known c s e)

  module _ (i : ℕ) (m : Method) (q : Place) (same : known ≡ Ok (E.Bend i m q)) where
    bend-is : by_known c (Known.bend i (number_of m) q) ≡ entry_ruling (on_tables c) s [] e
    bend-is = from-known (Ok (E.Bend i m q)) same

    pub from_off : off_grid q ≡ true → Refused 13 ≡ entry_ruling (on_tables c) s [] e
    from_off o = rw o at bend-is

    module _ (o : off_grid q ≡ false) (v : Result Float Refusal) (says : value_says v ≡ located_value (number_of m) c q) where
      from-value : (x : Result Float Refusal) → v ≡ x → bend_ruling i (value_says x) ≡ entry_ruling (on_tables c) s [] e
      from-value x same-value = ap (bend_ruling i) (sym (ap value_says same-value) ∙ says) ∙ (rw o at bend-is)

      pub from-turned : (r : Refusal) → v ≡ Err r → Refused (number r) ≡ entry_ruling (on_tables c) s [] e
      from-turned r same-value = from-value (Err r) same-value

      pub from-charge : (f : Float) → v ≡ Ok f → (n x : Result ℕ Refusal) → charge_says n ≡ charge_of f → n ≡ x
          → charge_case (Bend i) Refused (charge_says x) ≡ entry_ruling (on_tables c) s [] e
      from-charge f same-value n x costs same-cost = ap (charge_case (Bend i) Refused) (sym (ap charge_says same-cost) ∙ costs) ∙ from-value (Ok f) same-value

-- ---- the verdict
-- what 17 lets pass fits the book
with17-fits : {b : Book} → ValidBook b → (r : Ruling) → Within b.sections r → Changeable b (with17 (total_wear b) (count_of b) r)
with17-fits {b} v (Bend i n) k = go (meets17 (total_wear b) (count_of b i) n) refl
  where
    go : (m : Bool) → meets17 (total_wear b) (count_of b i) n ≡ m → Changeable b (cond m (Refused 17) (Bend i n))
    go true h = tt
    go false h = charge-fits v i k.0 n (room v i n h)
with17-fits v (Splice i) k = splice-fits v i k
with17-fits v (Refused i) k = tt

pub verdict-fits : (Q : Queries) (bytes : List ℕ) (b : Book) → ValidBook b → (e : Entry) → Changeable b (book_verdict Q bytes b e)
verdict-fits Q bytes b v e = with17-fits v (entry_ruling Q b.sections bytes e) (known Q b.sections bytes e)

pub verdict-valid : (Q : Queries) (bytes : List ℕ) (b : Book) → ValidBook b → (e : Entry) → ValidBook (book_change b (book_verdict Q bytes b e))
verdict-valid Q bytes b v e = entries-valid Q bytes (e ∷ []) b v
