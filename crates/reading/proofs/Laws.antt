-- Laws of the definitions of specs/Reading.antt, a step at a time. Assumes nothing.
use Rattle.std.specs.Prelude.{Option, Some, None, is_some, ok_or, Result, Ok, Err, is_ok, IfOk, ℕ, zero, suc, ◌+◌, ◌*◌, ◌≤◌, ◌<◌, List, Bool, true, false, cond, ◌≡◌, length, drop, ℤ, pos, negsuc}
use Rattle.std.proofs.Common.{refl, sym, ap, ◌∙◌, arith, lt-ltb, le-ltb, eq-eqb, ne_eqb}
use Rattle.refusal.specs.declared.Refusal.{Refusal}
use Rattle.refusal.specs.Number.{refusal_of, number-positive}
use Rattle.tables.specs.Table.{Cells, given, line_of, table_of, line_bytes}
use Rattle.tables.specs.Table.Cells.{cells, bad}
use Rattle.chart.specs.Tables.{unsigned, unsigned_all}
use Rattle.ranges.specs.declared.counts.Counts.{Counts as KnownCounts}
use Rattle.ranges.specs.Ranges.{counts_refused}
use Rattle.checks.specs.Checks.{tables_refusal, Loaded, told}
use Rattle.reading.specs.Reading.Head.{Refused, Counts}
use Rattle.reading.specs.Reading.{counts_of, head_says, head_length, head_line, head_of, file_length, three, body_of, said_body, load_body, load_of}
use Rattle.reading.specs.Reading.Body.{body, malformed}

-- ---- line 1
pub head-short : (s : List ℕ) → length s < head_length → head_of s ≡ Refused 3
unfolding head_of
head-short s h = ap (λ (b : Bool). cond b (Refused 3) (head_line (line_of 3 s))) (lt-ltb (length s) head_length h)

pub head-line : (s : List ℕ) (c : Cells) → head_length ≤ length s → line_of 3 s ≡ c → head_of s ≡ head_line c
unfolding head_of
head-line s c h e = ap (λ (b : Bool). cond b (Refused 3) (head_line (line_of 3 s))) (le-ltb (length s) head_length h) ∙ ap head_line e

-- what `ok_or` makes of nothing, and of something
is_ok_or : {A E : Type 0} (o : Option A) (e : E) → is_ok (ok_or o e) ≡ is_some o
is_ok_or (Some a) e = refl
is_ok_or None e = refl

err_in : {A E : Type 0} → E → Result A E → E
err_in d (Ok a) = d
err_in d (Err x) = x

err-or : {A E : Type 0} (o : Option A) (e : E) → err_in e (ok_or o e) ≡ e
unfolding err_in
err-or (Some a) e = refl
err-or None e = refl

pub none-err : {A E : Type 0} (o : Option A) (e x : E) → Err x ≡ ok_or o e → (is_some o ≡ false) × (x ≡ e)
unfolding err_in
none-err o e x h = (sym (is_ok_or o e) ∙ sym (ap is_ok h), ap (err_in e) h ∙ err-or o e)

pub some-ok : {A E : Type 0} (o : Option A) (e : E) (a : A) → Ok a ≡ ok_or o e → is_some o ≡ true
some-ok o e a h = sym (is_ok_or o e) ∙ sym (ap is_ok h)

-- ---- the rest
pub body-length : (v e f : ℕ) (s : List ℕ) → (length s ≡ file_length v e f → ⊥) → body_of v e f s ≡ malformed 3
unfolding body_of
body-length v e f s h = rw (ne_eqb (length s) (file_length v e f) h) refl

pub body-three : (v e f : ℕ) (s : List ℕ) (a b c : Cells) → length s ≡ file_length v e f
    → table_of 4 v (drop head_length s) ≡ a → table_of 4 e (drop (head_length + line_bytes 4 * v) s) ≡ b → table_of 1 f (drop (head_length + line_bytes 4 * v + line_bytes 4 * e) s) ≡ c → body_of v e f s ≡ three a b c
unfolding body_of
body-three v e f s a b c h p q r = rw (eq-eqb (length s) (file_length v e f) h, p, q, r) refl

three-second : (a c : Cells) → three a bad c ≡ malformed 5
three-second (cells a) c = refl
three-second bad c = refl

pub body-second : (v e f : ℕ) (s : List ℕ) → length s ≡ file_length v e f → table_of 4 e (drop (head_length + line_bytes 4 * v) s) ≡ bad → body_of v e f s ≡ malformed 5
body-second v e f s h q =
    body-three v e f s (table_of 4 v (drop head_length s)) bad (table_of 1 f (drop (head_length + line_bytes 4 * v + line_bytes 4 * e) s)) h refl q refl
    ∙ three-second (table_of 4 v (drop head_length s)) (table_of 1 f (drop (head_length + line_bytes 4 * v + line_bytes 4 * e) s))

-- the last table, once the two before it are read
pub body-last : (v e f : ℕ) (s : List ℕ) (a b c : List ℤ) (ok : Bool) (r : ℕ) → length s ≡ file_length v e f
    → table_of 4 v (drop head_length s) ≡ cells a → table_of 4 e (drop (head_length + line_bytes 4 * v) s) ≡ cells b → table_of 1 f (drop (head_length + line_bytes 4 * v + line_bytes 4 * e) s) ≡ given ok c → r ≡ cond ok 0 5 → body_of v e f s ≡ said_body r a b c
body-last v e f s a b c true r h p q t n = rw n (body-three v e f s (cells a) (cells b) (cells c) h p q t)
body-last v e f s a b c false r h p q t n = rw n (body-three v e f s (cells a) (cells b) bad h p q t)

-- ---- the body read and checked
pub load-refused : (v e f : ℕ) (s : List ℕ) (r : ℕ) (a b c : List ℤ) (x : List ℤ) (y z : List ℕ) → 0 < r → body_of v e f s ≡ said_body r a b c → load_of v e f s ≡ told r x y z
unfolding load_of
load-refused v e f s zero a b c x y z n h = let o : ⊥ = omega arith in absurd o
load-refused v e f s (suc r) a b c x y z n h = ap load_body h

pub load-tables : (v e f : ℕ) (s : List ℕ) (a b c : List ℤ) (l : Loaded) → body_of v e f s ≡ body a b c → told (tables_refusal a b c) a (unsigned_all b) (unsigned_all c) ≡ l → load_of v e f s ≡ l
unfolding load_of
load-tables v e f s a b c l h t = ap load_body h ∙ t

-- ---- the counts
-- a negative count is refused, as 0 is
unsigned-refused : (v e f : ℤ) → counts_refused (pos (unsigned v)) (pos (unsigned e)) (pos (unsigned f)) ≡ counts_refused v e f
unfolding counts_refused
unsigned-refused (pos v) (pos e) (pos f) = refl
unsigned-refused (pos v) (pos e) (negsuc f) = refl
unsigned-refused (pos v) (negsuc e) f = grind arith
unsigned-refused (negsuc v) e f = refl

-- what the counts' maker says, in the words of line 1
said-counts : (b : Bool) (r : Result KnownCounts Refusal) (v e f : ℕ) → refusal_of r ≡ cond b 4 0 → IfOk r (λ c. (c.vertices ≡ v) × ((c.half_edges ≡ e) × (c.faces ≡ f))) → head_says r ≡ cond b (Refused 4) (Counts v e f)
said-counts true (Ok c) v e f n s = let o : ⊥ = omega arith in absurd o
said-counts true (Err r) v e f n s = ap Refused n
said-counts false (Ok c) v e f n s = rw (s.0, s.1.0, s.1.1)
said-counts false (Err r) v e f n s = let p = number-positive r in let o : ⊥ = omega arith in absurd o

pub counts-said : (r : Result KnownCounts Refusal) (v e f : ℤ) → refusal_of r ≡ cond (counts_refused (pos (unsigned v)) (pos (unsigned e)) (pos (unsigned f))) 4 0 → IfOk r (λ c. (c.vertices ≡ unsigned v) × ((c.half_edges ≡ unsigned e) × (c.faces ≡ unsigned f))) → head_says r ≡ counts_of v e f
unfolding counts_of
counts-said r v e f n s = said-counts (counts_refused v e f) r (unsigned v) (unsigned e) (unsigned f) (n ∙ rw (unsigned-refused v e f)) s

pub ruleset heads = (counts-said, none-err, some-ok)

pub ruleset bodies = (body-length, body-three, body-second, body-last)

pub ruleset loads = (load-refused, number-positive)
