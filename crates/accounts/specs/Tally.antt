-- 01, "Charge, entry, book": the tally. It is fed s, the chart's bytes and the entries, and nothing from the book.
use Rattle.std.specs.Prelude.{List, [], ◌∷◌, ◌++◌, map, Bool, false, cond, ◌||◌, ℕ, ◌+◌, eqb, length}
use Rattle.book.specs.Books.{sum_of}
use Rattle.entries.specs.declared.Entry.{Entry}
use Rattle.entries.specs.Ruling.{Ruling}
use Rattle.entries.specs.Ruling.Ruling.{Bend, Splice, Refused}
use Rattle.entries.specs.Ruling.{with17}
use Rattle.accounts.specs.Rulings.{Queries, entry_ruling}

-- ---- the history: what became of the entries so far, in order
-- the charge of an accepted bend; nothing else is charged
abbrev pub charge_in : Ruling → ℕ
charge_in (Bend i n) = n
charge_in (Splice i) = 0
charge_in (Refused k) = 0

-- all charges accepted
abbrev pub charges : List Ruling → ℕ
charges h = sum_of (map charge_in h)

-- an accepted bend of section i
abbrev pub bends : ℕ → Ruling → Bool
bends i (Bend j n) = eqb j i
bends i (Splice j) = false
bends i (Refused k) = false

-- an accepted splice of section i
abbrev pub splices : ℕ → Ruling → Bool
splices i (Bend j n) = false
splices i (Splice j) = eqb j i
splices i (Refused k) = false

-- those of which a test holds, in order
abbrev pub keep : (Ruling → Bool) → List Ruling → List Ruling
keep p [] = []
keep p (r ∷ h) = cond (p r) (r ∷ keep p h) (keep p h)

-- whether section i is spliced at all
abbrev pub any_splice : ℕ → List Ruling → Bool
any_splice i [] = false
any_splice i (r ∷ h) = splices i r || any_splice i h

-- what comes after the last accepted splice of section i, or from the start if there is none
abbrev pub since : ℕ → List Ruling → List Ruling
since i [] = []
since i (r ∷ h) = cond (any_splice i (r ∷ h)) (since i h) (r ∷ h)

-- the accepted bends of section i after its last accepted splice
abbrev pub live_bends : ℕ → List Ruling → List Ruling
live_bends i h = keep (bends i) (since i h)

-- the sum of their charges
abbrev pub wear_sum : ℕ → List Ruling → ℕ
wear_sum i h = charges (live_bends i h)

-- their number
abbrev pub bend_count : ℕ → List Ruling → ℕ
bend_count i h = length (live_bends i h)

-- ---- the tally
-- it holds a wear and a bend count for each section, and the retired wear; its history is what 17 looks at
pub record Tally : Type 0 where
  pub wear : ℕ → ℕ
  pub count : ℕ → ℕ
  pub retired : ℕ
  pub history : List Ruling

-- all 0 at first
abbrev pub start : Tally
start = record { wear = λ i. 0; count = λ i. 0; retired = 0; history = [] }

-- the number x for section s
abbrev pub put : ℕ → ℕ → (ℕ → ℕ) → ℕ → ℕ
put s x f i = cond (eqb i s) x (f i)

-- an accepted entry changes the tally's own numbers, as stated for the book's; a refused one changes nothing
abbrev pub noted : Tally → Ruling → Tally
noted t (Bend s n) =
    record {
      wear = put s (t.wear s + n) t.wear;
      count = put s (t.count s + 1) t.count;
      retired = t.retired;
      history = t.history ++ (Bend s n ∷ []);
    }
noted t (Splice s) =
    record {
      wear = put s 0 t.wear;
      count = put s 0 t.count;
      retired = t.retired + t.wear s;
      history = t.history ++ (Splice s ∷ []);
    }
noted t (Refused k) =
    record { wear = t.wear; count = t.count; retired = t.retired; history = t.history ++ (Refused k ∷ []) }

-- 17 by all charges accepted before, and by the accepted bends since the section's last accepted splice
abbrev pub verdict : Queries → ℕ → List ℕ → List Ruling → Entry → Ruling
verdict Q s chart h e = with17 (charges h) (λ i. bend_count i h) (entry_ruling Q s chart e)

-- one entry after the other
abbrev pub tally_from : Queries → ℕ → List ℕ → Tally → List Entry → Tally
tally_from Q s chart t [] = t
tally_from Q s chart t (e ∷ es) = tally_from Q s chart (noted t (verdict Q s chart t.history e)) es

-- the tally of a list of entries
abbrev pub tally : Queries → ℕ → List ℕ → List Entry → Tally
tally Q s chart es = tally_from Q s chart start es

-- whether an entry was accepted
abbrev pub IsAccepted : Ruling → Type 0
IsAccepted (Bend i n) = Unit {0}
IsAccepted (Splice i) = Unit {0}
IsAccepted (Refused k) = ⊥
