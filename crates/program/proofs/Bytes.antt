-- The bytes that the program keeps of a chart and a log are enough. Assumes nothing.
use Rattle.std.specs.Prelude.{ℕ, zero, suc, ◌≤◌, ◌<◌, List, [], ◌++◌, Bool, true, false, ◌≡◌, refl, ltb, eqb, length, take, drop}
use Rattle.std.proofs.Common.{ap, ◌∙◌, arith, ltb-true, ltb-false, le-ltb, ne_eqb, length-append, length-drop, take-append-drop, take_all, length-take-le}
use Rattle.std.proofs.Math.ListN.{get_or-append}
use Rattle.std.proofs.lemmas.List.{take-append-le, drop-append-le}
use Rattle.text.specs.Field.{field_width, field_of}
use Rattle.tables.specs.Table.{given, join, cell_of, line_bytes, line_of}
use Rattle.reading.specs.Reading.Head.{Refused, Counts}
use Rattle.reading.specs.Reading.{Head, head_length, head_line, head_of, file_length, body_of, load_of, chart_in, chart_refusal_of}
use Rattle.reading.specs.Laws.{head-counted, head-refusal}
use Rattle.log_text.specs.Log.{Log, log_max, whole_log}
use Rattle.log_text.proofs.Callers.{kept-suffices}
use Rattle.program.specs.Program.{after_chart, printed_of, program_of}
use Rattle.program.specs.Laws.{chart_max, Long}

-- a line is in the first bytes
line-front : (w : ℕ) (p r : List ℕ) → line_bytes w ≤ length p → line_of w (p ++ r) ≡ line_of w p
unfolding line_of
line-front zero p r h = ap (λ (b : ℕ). given (eqb b 10) []) (get_or-append p r 0 0 (omega arith))
line-front (suc w) p r h =
    let l : line_bytes w ≤ length (drop field_width p) = simp length-drop (omega arith) in
    rw (take-append-le field_width p r (omega arith), drop-append-le field_width p r (omega arith))
    (ap (join (cell_of (field_of (take field_width p)))) (line-front w (drop field_width p) r l))

-- ---- a chart that is longer than the bytes that are kept

-- the length is what refuses it where line 1 does not
too_long : (s : List ℕ) (v e f : ℕ) → head_of s ≡ Counts v e f → chart_max < length s → chart_refusal_of s ≡ 3
unfolding chart_in load_of body_of
too_long s v e f q h =
    let n = head-counted s v e f q in
    let d : length s ≡ file_length v e f → ⊥ = λ z. omega arith in
    rw (q, ne_eqb (length s) (file_length v e f) d) refl

long-by : (s p : List ℕ) (h : Head) → head_of s ≡ h → head_of p ≡ h → chart_max < length s → chart_max < length p → Long s p
unfolding chart_in
long-by s p (Refused zero) e f l m = absurd (head-refusal s 0 e refl)
long-by s p (Refused (suc n)) e f l m = record { number = n; whole = rw e refl; kept = rw f refl }
long-by s p (Counts v d g) e f l m = record { number = 2; whole = too_long s v d g e l; kept = too_long p v d g f m }

-- line 1 is in the first bytes
head-front : (p r : List ℕ) → head_length ≤ length p → head_of (p ++ r) ≡ head_of p
unfolding head_of
head-front p r h =
    let l : head_length ≤ length (p ++ r) = simp length-append (omega arith) in
    rw (le-ltb (length p) head_length h, le-ltb (length (p ++ r)) head_length l) (ap head_line (line-front 3 p r h))

long : (p r : List ℕ) → chart_max < length p → Long (p ++ r) p
long p r h = long-by (p ++ r) p (head_of p) (head-front p r (omega arith)) refl (simp length-append (omega arith)) h

-- ---- what is printed

by-chart : (s p : List ℕ) (g : Log) → Long s p → after_chart (chart_refusal_of p) p g ≡ after_chart (chart_refusal_of s) s g
by-chart s p g l = rw (l.whole, l.kept) refl

chart-by : (s : List ℕ) (k : ℕ) (g : Log) (b : Bool) → chart_max < k → ltb k (length s) ≡ b → after_chart (chart_refusal_of (take k s)) (take k s) g ≡ after_chart (chart_refusal_of s) s g
chart-by s k g true h e =
    let l : length (take k s) ≡ k = length-take-le k s (omega (arith, ltb-true k (length s) e)) in
    by-chart s (take k s) g (rw (take-append-drop k s) at (long (take k s) (drop k s) (omega arith)))
chart-by s k g false h e = rw (take_all k s (ltb-false k (length s) e)) refl

-- 01 "Program": of a chart and a log, the first bytes, more than the largest chart and at least as many as the longest log has, and the log's length say all
pub bytes-suffice : (chart log : List ℕ) (k : ℕ) → chart_max < k → log_max ≤ k → printed_of (take k chart) (length log) (take k log) ≡ program_of chart log
unfolding printed_of
bytes-suffice chart log k h l =
    ap (after_chart (chart_refusal_of (take k chart)) (take k chart)) (kept-suffices log k l)
    ∙ chart-by chart k (whole_log log) _ h refl
