-- Demand 3 of the public calls `fresh` and `batch`: `demand`; of calls that were made, `demand-made`. Of the Results that they hand out: Called. Assumes nothing.
use Rattle.std.specs.Prelude.{◌≡◌, refl, List, [], ◌∷◌, ◌++◌, cond, ℕ, zero, suc, ◌+◌, ◌-◌, ◌*◌, ◌/◌, ◌%◌, ◌≤◌, eqb, ℤ, pos, length, take, drop}
use Rattle.std.proofs.Common.{sym, ◌∙◌, ap, subst, append-nil, arith, length-drop, get_or-take, get_or-drop, length-take-le, eq-eqb, le-ltb}
use Rattle.reading.specs.Reading.{chart_refusal_of}
use Rattle.book.specs.declared.Book.{Book}
use Rattle.book.specs.Returned.{Returned}
use Rattle.book.specs.Books.{section_max}
use Rattle.entries.specs.declared.Entry.{Entry}
use Rattle.entries.specs.Entry.{entry_width, entry_at, entries_from, entries_of}
use Rattle.accounts.specs.Batch.{bad_slices, outcome, batch_of}
use Rattle.accounts.specs.Tally.{tally}
use Rattle.accounts.specs.Demand.{Call, refusal_in, fresh, joined, OneChart, Accounted, Demand3, MadeCall, Made, calls_of, last_answers, Demand3Made}
use Rattle.accounts.proofs.Demand3.{entries-count, demand3, demand3-made}
use Rattle.estivolh.specs.Account.{queries}
use Rattle.demand.specs.declared.Both.{Both}

-- for every s from 1 to 16 and every list of calls, all not refused under one chart
pub demand : (s : ℕ) → 1 ≤ s → s ≤ section_max → (chart : List ℕ) (cs : List Call) → OneChart chart cs
    → Demand3 queries s chart cs (tally queries s chart (joined cs))
demand = demand3 queries

-- the same of calls that were made, each with its number, 0 for none, and the book that stands after it: `returned_of` reads both off the Result that
-- `estivolh::batch` hands out and the book that it was handed, so that each fact of `Made` is its contract. Of the Results themselves: Called, `demand-called`
pub demand-made : (s : ℕ) → 1 ≤ s → s ≤ section_max → (chart : List ℕ) (ts : List MadeCall) → Made queries (fresh s) ts → OneChart chart (calls_of ts)
    → Demand3Made queries s chart ts (tally queries s chart (joined (calls_of ts)))
demand-made = demand3-made queries

-- ---- a log worked as one batch and as two
-- no refusal of a call meets the whole log or its parts: an accepted chart, whole entries, room for the answers
pub record Divisible (chart : List ℕ) (numbers cut whole first second : ℕ) : Type 0 where
  pub accepted : chart_refusal_of chart ≡ 0
  pub entire : numbers % entry_width ≡ 0
  pub inside : cut ≤ numbers / entry_width
  pub whole_room : numbers / entry_width ≤ whole
  pub first-room : cut ≤ first
  pub second-room : numbers / entry_width - cut ≤ second

-- the same book and the same answers, and these are the tally's
pub record Alike (s : ℕ) (chart : List ℕ) (es : List ℤ) (cut : ℕ) (r : Both) (whole first second : List ℕ) : Type 0 where
  pub same-book : r.divided ≡ r.whole
  pub same-answers : take cut first ++ take (length es / entry_width - cut) second ≡ take (length es / entry_width) whole
  pub accounted : Accounted s (entries_of es) (tally queries s chart (entries_of es)) r.divided (take (length es / entry_width) whole)

-- ---- laws: the entries of the parts are those of the whole
entry-front : (n : ℕ) (es : List ℤ) (at : ℕ) → at + entry_width ≤ n → entry_at (take n es) at ≡ entry_at es at
entry-front n es at h =
    rw (
      get_or-take n es at (pos 0) (omega arith),
      get_or-take n es (at + 1) (pos 0) (omega arith),
      get_or-take n es (at + 2) (pos 0) (omega arith),
      get_or-take n es (at + 3) (pos 0) (omega arith),
      get_or-take n es (at + 4) (pos 0) (omega arith),
    )

entry-back : (n : ℕ) (es : List ℤ) (at : ℕ) → entry_at (drop n es) at ≡ entry_at es (n + at)
entry-back n es at =
    let k1 : n + (at + 1) ≡ n + at + 1 = omega arith in
    let k2 : n + (at + 2) ≡ n + at + 2 = omega arith in
    let k3 : n + (at + 3) ≡ n + at + 3 = omega arith in
    let k4 : n + (at + 4) ≡ n + at + 4 = omega arith in
    rw (
      get_or-drop n es at (pos 0),
      get_or-drop n es (at + 1) (pos 0),
      get_or-drop n es (at + 2) (pos 0),
      get_or-drop n es (at + 3) (pos 0),
      get_or-drop n es (at + 4) (pos 0),
      k1,
      k2,
      k3,
      k4,
    )

entries-front : (n : ℕ) (es : List ℤ) (k at : ℕ) → at + k * entry_width ≤ n → entries_from (take n es) at k ≡ entries_from es at k
entries-front n es zero at h = refl
entries-front n es (suc k) at h =
    ap (λ (e : Entry). e ∷ entries_from (take n es) (at + entry_width) k) (entry-front n es at (omega arith))
    ∙ ap (λ (l : List Entry). entry_at es at ∷ l) (entries-front n es k (at + entry_width) (omega arith))

entries-back : (n : ℕ) (es : List ℤ) (k at : ℕ) → entries_from (drop n es) at k ≡ entries_from es (n + at) k
entries-back n es zero at = refl
entries-back n es (suc k) at =
    let p : n + (at + entry_width) ≡ n + at + entry_width = omega arith in
    ap (λ (e : Entry). e ∷ entries_from (drop n es) (at + entry_width) k) (entry-back n es at)
    ∙ ap (λ (l : List Entry). entry_at es (n + at) ∷ l) (entries-back n es k (at + entry_width) ∙ ap (λ (i : ℕ). entries_from es i k) p)

entries-split : (es : List ℤ) (k m at : ℕ) → entries_from es at (k + m) ≡ entries_from es at k ++ entries_from es (at + k * entry_width) m
entries-split es zero m at =
    let p : 0 + m ≡ m = omega arith in
    let q : at ≡ at + 0 * entry_width = omega arith in
    ap (entries_from es at) p ∙ ap (λ (i : ℕ). entries_from es i m) q
entries-split es (suc k) m at =
    let p : suc k + m ≡ suc (k + m) = omega arith in
    let q : at + entry_width + k * entry_width ≡ at + suc k * entry_width = omega arith in
    ap (entries_from es at) p
    ∙ ap (λ (l : List Entry). entry_at es at ∷ l)
    (entries-split es k m (at + entry_width) ∙ ap (λ (i : ℕ). entries_from es (at + entry_width) k ++ entries_from es i m) q)

-- neither 2 nor the chart refuses a call
not-refused : (chart : List ℕ) (numbers room : ℕ) → chart_refusal_of chart ≡ 0 → numbers % entry_width ≡ 0 → numbers / entry_width ≤ room
    → cond (bad_slices numbers room) 2 (chart_refusal_of chart) ≡ 0
not-refused chart numbers room a h k = rw (eq-eqb (numbers % entry_width) 0 h, le-ltb room (numbers / entry_width) k, a)

-- what a call gives that was not refused
given : (r n : ℕ) (l : List ℕ) (m : ℕ) → r ≡ 0 → m ≡ n → cond (eqb r 0) (take m l) [] ≡ take n l
given r n l m z e = rw (z, e)

module _ (s : ℕ) (some-section : 1 ≤ s) (few-sections : s ≤ section_max) (chart : List ℕ) (es : List ℤ) (cut : ℕ)
    (lw lf lg : List ℕ) (r rf rg : Returned) (ow of og : List ℕ)
    (d : Divisible chart (length es) cut (length lw) (length lf) (length lg))
    (mw : outcome r ow ≡ batch_of queries (fresh s) chart es lw)
    (mf : outcome rf of ≡ batch_of queries (fresh s) chart (take (cut * entry_width) es) lf)
    (mg : outcome rg og ≡ batch_of queries rf.book chart (drop (cut * entry_width) es) lg) where
  abbrev front : List ℤ
  front = take (cut * entry_width) es

  abbrev back : List ℤ
  back = drop (cut * entry_width) es

  front_long : length front ≡ cut * entry_width
  front_long = length-take-le (cut * entry_width) es (omega (arith, d.inside))

  back_long : length back ≡ length es - cut * entry_width
  back_long = length-drop (cut * entry_width) es

  front-count : length front / entry_width ≡ cut
  front-count = omega (arith, front_long)

  back_count : length back / entry_width ≡ length es / entry_width - cut
  back_count = omega (arith, back_long, d.inside)

  abbrev cw : Call
  cw = record { chart = chart; entries = es; lent = lw }

  abbrev cf : Call
  cf = record { chart = chart; entries = front; lent = lf }

  abbrev cg : Call
  cg = record { chart = chart; entries = back; lent = lg }

  whole-passes : refusal_in cw ≡ 0
  whole-passes = not-refused chart (length es) (length lw) d.accepted d.entire d.whole_room

  front-passes : refusal_in cf ≡ 0
  front-passes = not-refused chart (length front) (length lf) d.accepted (omega (arith, front_long)) (omega (arith, front-count, d.first-room))

  back_passes : refusal_in cg ≡ 0
  back_passes =
      not-refused chart (length back) (length lg) d.accepted (omega (arith, back_long, d.entire, d.inside)) (omega (arith, back_count, d.second-room))

  -- the parts' entries, joined
  parts : entries_of front ++ entries_of back ≡ entries_of es
  parts =
      let p : 0 + cut * entry_width ≡ cut * entry_width + 0 = omega arith in
      let q : cut + (length es / entry_width - cut) ≡ length es / entry_width = omega (arith, d.inside) in
      ap (λ (k : ℕ). entries_from front 0 k ++ entries_of back) front-count
      ∙ (ap (λ (k : ℕ). entries_from front 0 cut ++ entries_from back 0 k) back_count
      ∙ (ap (λ (l : List Entry). l ++ entries_from back 0 (length es / entry_width - cut)) (entries-front (cut * entry_width) es cut 0 (omega arith))
      ∙ (ap (λ (l : List Entry). entries_from es 0 cut ++ l) (entries-back (cut * entry_width) es (length es / entry_width - cut) 0)
      ∙ (ap (λ (k : ℕ). entries_from es 0 cut ++ entries_from es k (length es / entry_width - cut)) (sym p)
      ∙ (sym (entries-split es cut (length es / entry_width - cut) 0) ∙ ap (entries_from es 0) q)))))

  abbrev one : List MadeCall
  one = record { call = cw; result = r; left = ow } ∷ []

  abbrev two : List MadeCall
  two = record { call = cf; result = rf; left = of } ∷ record { call = cg; result = rg; left = og } ∷ []

  kept : (c : Call) → refusal_in c ≡ 0 → (l : List Entry) → cond (eqb (refusal_in c) 0) (entries_of c.entries) [] ++ l ≡ entries_of c.entries ++ l
  kept c e l = rw e

  joined-one : joined (calls_of one) ≡ entries_of es
  joined-one = kept cw whole-passes [] ∙ append-nil (entries_of es)

  joined-two : joined (calls_of two) ≡ entries_of es
  joined-two =
      kept cf front-passes (joined (cg ∷ []))
      ∙ (ap (λ (l : List Entry). entries_of front ++ l) (kept cg back_passes [] ∙ append-nil (entries_of back)) ∙ parts)

  told-one : Demand3Made queries s chart one (tally queries s chart (joined (calls_of one)))
  told-one = demand-made s some-section few-sections chart one (mw, tt) (λ e. refl, tt)

  told-two : Demand3Made queries s chart two (tally queries s chart (joined (calls_of two)))
  told-two = demand-made s some-section few-sections chart two (mf, (mg, tt)) (λ e. refl, (λ e. refl, tt))

  answers_one : last_answers one ≡ take (length es / entry_width) ow
  answers_one =
      append-nil (cond (eqb r.refusal 0) (take (length (entries_of es)) ow) [])
      ∙ given r.refusal (length es / entry_width) ow (length (entries_of es)) (told-one.refused-exactly [] _ [] refl ∙ whole-passes) (entries-count es (length es / entry_width) 0)

  answers-two : last_answers two ≡ take cut of ++ take (length es / entry_width - cut) og
  answers-two =
      let z = told-two.refused-exactly [] _ (record { call = cg; result = rg; left = og } ∷ []) refl ∙ front-passes in
      let y = told-two.refused-exactly (record { call = cf; result = rf; left = of } ∷ []) _ [] refl ∙ back_passes in
      ap (λ (l : List ℕ). l ++ last_answers (record { call = cg; result = rg; left = og } ∷ []))
      (given rf.refusal cut of (length (entries_of front)) z (entries-count front (length front / entry_width) 0 ∙ front-count))
      ∙ ap (λ (l : List ℕ). take cut of ++ l)
      (append-nil (cond (eqb rg.refusal 0) (take (length (entries_of back)) og) [])
      ∙ given rg.refusal (length es / entry_width - cut) og (length (entries_of back)) y (entries-count back (length back / entry_width) 0 ∙ back_count))

  pub alike : Alike s chart es cut (record { whole = r.book; divided = rg.book }) ow of og
  alike =
      let v = told-two.division-does-not-matter one (mw, tt) (λ e. refl, tt) (joined-one ∙ sym joined-two) in
      let w : r.book ≡ rg.book = v.1 in
      let g : last_answers one ≡ last_answers two = v.0 in
      let acc : Accounted s (entries_of es) (tally queries s chart (entries_of es)) r.book (last_answers one) =
      subst (λ (l : List Entry). Accounted s l (tally queries s chart l) r.book (last_answers one)) joined-one told-one.accounted
      in
      record {
        same-book = sym w;
        same-answers = sym (sym answers_one ∙ (g ∙ answers-two));
        accounted =
            subst (λ (b : Book). Accounted s (entries_of es) (tally queries s chart (entries_of es)) b (take (length es / entry_width) ow)) w
            (subst (λ (l : List ℕ). Accounted s (entries_of es) (tally queries s chart (entries_of es)) r.book l) answers_one acc);
      }
