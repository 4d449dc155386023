-- What callers need of the definitions of Log. Assumes nothing.
use Rattle.std.specs.Prelude.{ℕ, ◌*◌, ◌/◌, ◌%◌, ◌≤◌, List, ◌++◌, Bool, true, false, not, cond, ◌≡◌, refl, eqb, ltb, ℤ, length, take, drop, Ok, Err}
use Rattle.std.proofs.Common.{ap, sym, arith, eqb-true, ltb-false, length-append, take_all, take_at}
use Rattle.std.proofs.lemmas.Bool.{not-false}
use Rattle.tables.specs.Table.{Cells, table_of}
use Rattle.tables.specs.Table.Cells.{cells, bad}
use Rattle.tables.specs.Size.{table-length}
use Rattle.entries.specs.Entry.{entry_width}
use Rattle.log_text.specs.Log.{entry_bytes, entries_max, log_max, Log, log_fields, log_of, whole_log, LogOutcome, said_log, log_left}
use Rattle.log_text.specs.Log.Log.{entries, refused}
use Rattle.refusal.specs.declared.Refusal.{Refusal}
use Rattle.refusal.specs.Number.{number, number-positive}
use Rattle.log_text.specs.Laws.{Held, Entered}

kept_by : (log : List ℕ) (k : ℕ) → log_max ≤ k → (a b : Bool) → not (eqb (length log % entry_bytes) 0) ≡ a → ltb entries_max (length log / entry_bytes) ≡ b
    → cond a (refused 3) (cond b (refused 4) (log_fields (table_of entry_width (length log / entry_bytes) (take k log))))
    ≡ cond a (refused 3) (cond b (refused 4) (log_fields (table_of entry_width (length log / entry_bytes) log)))
kept_by log k h true b p q = refl
kept_by log k h false true p q = refl
kept_by log k h false false p q =
    let m = eqb-true (length log % entry_bytes) 0 (not-false (eqb (length log % entry_bytes) 0) p) in
    let n = ltb-false entries_max (length log / entry_bytes) q in
    let l : length log ≤ k = omega arith in
    ap (λ (s : List ℕ). log_fields (table_of entry_width (length log / entry_bytes) s)) (take_all k log l)

-- 01 "Program": a log's length and its first bytes, at least as many as a log that is not refused can have, say all
pub kept-suffices : (log : List ℕ) (k : ℕ) → log_max ≤ k → log_of (length log) (take k log) ≡ whole_log log
unfolding log_of
kept-suffices log k h = kept_by log k h _ _ refl refl

-- ---- what a caller of the reader knows

held-fields : (n : ℕ) (bytes : List ℕ) → n ≤ entries_max → (c : Cells) → table_of entry_width n bytes ≡ c → Held (log_fields c)
held-fields n bytes h (cells l) e = let f = table-length entry_width n bytes l e in (omega arith, omega arith)
held-fields n bytes h bad e = λ z. omega arith

held_by : (size : ℕ) (bytes : List ℕ) (a b : Bool) → ltb entries_max (size / entry_bytes) ≡ b
    → Held (cond a (refused 3) (cond b (refused 4) (log_fields (table_of entry_width (size / entry_bytes) bytes))))
held_by size bytes true b q = λ z. omega arith
held_by size bytes false true q = λ z. omega arith
held_by size bytes false false q = held-fields (size / entry_bytes) bytes (ltb-false entries_max (size / entry_bytes) q) _ refl

held : (size : ℕ) (bytes : List ℕ) → Held (log_of size bytes)
unfolding log_of
held size bytes = held_by size bytes (not (eqb (size % entry_bytes) 0)) _ refl

entered_by : (n : ℕ) (left lent : List ℤ) (g : Log) → Held g → said_log (Ok n) left ≡ log_left g lent → Entered n left g
entered_by n left lent (entries l) h e =
    let m : n ≡ length l / entry_width = ap (λ (o : LogOutcome). o.count) e in
    let f : left ≡ l ++ drop (length l) lent = ap (λ (o : LogOutcome). o.numbers) e in
    let k : length l ≡ entry_width * n = omega arith in
    record {
      numbers = ap entries (sym (rw f (take_at l (drop (length l) lent) (entry_width * n) k)));
      few = omega arith;
      room = rw f (simp length-append (omega arith));
    }
entered_by n left lent (refused k) h e = absurd (h (sym (ap (λ (o : LogOutcome). o.refusal) e)))

-- the log is not refused
pub entered : (size : ℕ) (bytes : List ℕ) (n : ℕ) (left lent : List ℤ) → said_log (Ok n) left ≡ log_left (log_of size bytes) lent → Entered n left (log_of size bytes)
entered size bytes n left lent e = entered_by n left lent (log_of size bytes) (held size bytes) e

turned_down : (r : Refusal) (left lent : List ℤ) (g : Log) → said_log (Err r) left ≡ log_left g lent → g ≡ refused (number r)
turned_down r left lent (entries l) e = let p = number-positive r in let z : number r ≡ 0 = ap (λ (o : LogOutcome). o.refusal) e in absurd (omega arith)
turned_down r left lent (refused k) e = ap refused (sym (ap (λ (o : LogOutcome). o.refusal) e))

-- the log is refused: the reader's refusal is its
pub read-refused : (size : ℕ) (bytes : List ℕ) (r : Refusal) (left lent : List ℤ) → said_log (Err r) left ≡ log_left (log_of size bytes) lent
    → log_of size bytes ≡ refused (number r)
read-refused size bytes r left lent e = turned_down r left lent (log_of size bytes) e
