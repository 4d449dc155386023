-- 01, "Charge, entry, book" and row 12: an entry.
use Rattle.std.specs.Prelude.{List, [], ◌∷◌, Bool, true, not, cond, ◌&&◌, ◌||◌, ℕ, zero, suc, ◌+◌, ◌/◌, eqb, ℤ, pos, length, get_or, Result, Ok, Err}
use Rattle.whole.specs.Test.{eq_z}
use Rattle.geometry.specs.declared.Place.{Place}
use Rattle.ranges.specs.Ranges.{not_below}
use Rattle.values.specs.Method.{number_of}
use Rattle.values.specs.Value.{method_of}
use Rattle.chart.specs.Tables.{unsigned}
use Rattle.refusal.specs.declared.Refusal.{Refusal}
use Rattle.refusal.specs.Number.{number}
use Rattle.entries.specs.declared.Entry.{Entry}
use Rattle.entries.specs.declared.KnownEntry.{KnownEntry}
use Rattle.entries.specs.declared.KnownEntry.TheVariants.{Bend, Splice}

-- an entry is kind, section, x, y, method, five signed numbers in the entry slice
abbrev pub entry_width : ℕ
entry_width = 5

-- the entry whose first number stands at a place
abbrev pub entry_at : List ℤ → ℕ → Entry
entry_at es at =
    record {
      kind = get_or es at (pos 0);
      section = get_or es (at + 1) (pos 0);
      x = get_or es (at + 2) (pos 0);
      y = get_or es (at + 3) (pos 0);
      method = get_or es (at + 4) (pos 0);
    }

-- n entries from a place on
abbrev pub entries_from : List ℤ → ℕ → ℕ → List Entry
entries_from es at zero = []
entries_from es at (suc n) = entry_at es at ∷ entries_from es (at + entry_width) n

-- the entries of a slice
abbrev pub entries_of : List ℤ → List Entry
entries_of es = entries_from es 0 (length es / entry_width)

-- kind 1 bend, 2 splice
abbrev pub is_bend : ℤ → Bool
is_bend kind = eq_z kind (pos 1)

abbrev pub is_splice : ℤ → Bool
is_splice kind = eq_z kind (pos 2)

-- a splice whose x, y or method isn't 0
abbrev pub untidy : ℤ → ℤ → ℤ → Bool
untidy x y method = not (eq_z x (pos 0) && (eq_z y (pos 0) && eq_z method (pos 0)))

-- kind or (save a splice's) method unknown
abbrev pub unknown_kind : ℤ → ℤ → ℤ → ℤ → Bool
unknown_kind kind x y method = cond (is_splice kind) (untidy x y method) (cond (is_bend kind) (eqb (method_of method) 0) true)

-- 12: kind, section or method unknown; a splice whose x, y or method isn't 0
abbrev pub unknown : ℕ → Entry → Bool
unknown s e = not_below s e.section || unknown_kind e.kind e.x e.y e.method

-- the load
abbrev pub place_in : Entry → Place
place_in e = record { x = e.x; y = e.y }

-- an entry that 12 lets pass, by its kind: a bend of a section, with its method and its load, or a splice; or the number of the refusal
pub data Known : Type 0 where
  bend : ℕ → ℕ → Place → Known
  splice : ℕ → Known
  turned_down : ℕ → Known

-- what each case of the code's answer says, in 01's numbers
abbrev pub known_says : Result KnownEntry Refusal → Known
known_says (Ok (Bend i m q)) = bend i (number_of m) q
known_says (Ok (Splice i)) = splice i
known_says (Err r) = turned_down (number r)

abbrev pub known_of : ℕ → Entry → Known
known_of s e =
    cond (unknown s e) (turned_down 12)
    (cond (is_splice e.kind) (splice (unsigned e.section)) (bend (unsigned e.section) (method_of e.method) (place_in e)))
