-- What an entry can be refused with, by what its query can be refused with. Assumes nothing.
use Rattle.std.specs.Prelude.{◌≡◌, Bool, true, false, cond, List, [], ◌∷◌, ℕ, ◌≤◌}
use Rattle.whole.specs.Among.{among, within, among-within}
use Rattle.values.specs.Value.{Answer}
use Rattle.charge.specs.Charging.{charge_max}
use Rattle.entries.specs.Ruling.{Ruling}
use Rattle.entries.specs.Ruling.Ruling.{Bend, Splice, Refused}

-- 01's rows of an entry or query, of a location, of a charge and of the book, as far as an entry can meet them
abbrev pub of_entry : List ℕ
of_entry = 12 ∷ 13 ∷ 14 ∷ 16 ∷ 17 ∷ []

-- a bend with a charge of 0 to 1,000,000, a splice, or refused with one of these
abbrev pub OnlyBy : List ℕ → Ruling → Type 0
OnlyBy ns (Bend i n) = n ≤ charge_max
OnlyBy ns (Splice i) = Unit {0}
OnlyBy ns (Refused k) = among ns k ≡ true

-- and a value
abbrev pub ValueBy : List ℕ → Answer → Type 0
ValueBy ns (Answer.value v) = Unit {0}
ValueBy ns (Answer.turned_down k) = among ns k ≡ true

pub value-within : (ms ns : List ℕ) → within ms ns ≡ true → (a : Answer) → ValueBy ms a → ValueBy ns a
value-within ms ns w (Answer.value v) h = tt
value-within ms ns w (Answer.turned_down k) h = among-within ms ns w k h

-- what holds of both holds of the one chosen
pub either : {X : Type 0} (P : X → Type 0) (t : Bool) (x y : X) → P x → P y → P (cond t x y)
either P true x y a b = a
either P false x y a b = b
