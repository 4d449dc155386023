-- 02, CR 1: "The bytes equal the file that was read, for every accepted file, and reading what it wrote yields the same tables." Assumes nothing.
use Rattle.std.specs.Prelude.{List, ◌++◌, Some, ◌≡◌, refl, ℕ, ◌≤◌, ℤ, length, take, drop}
use Rattle.std.proofs.Common.{sym, ap, subst, ◌∙◌, le_trans, le_of_eq, arith, take_at}
use Rattle.text.specs.Field.{field_of, field_text}
use Rattle.text.specs.RoundTrip.{Fits}
use Rattle.text.specs.RoundTrip as F
use Rattle.text.proofs.RoundTrip.{field_back}
use Rattle.chart.specs.Limits.{most_vertices, most_half_edges, most_faces}
use Rattle.chart.specs.Tables.{rows, unsigned_all}
use Rattle.ranges.specs.Passed.{Counted, counts-pass}
use Rattle.checks.specs.Checks.{tables_refusal}
use Rattle.checks.specs.Checks.Loaded.{loaded}
use Rattle.reading.specs.Reading.{Head}
use Rattle.reading.specs.Reading.Head.{Refused, Counts}
use Rattle.reading.specs.Reading.{head_of, file_length, Body, body_of, load_body, load_of, chart_in, refusal_of, chart_refusal_of}
use Rattle.reading.specs.Reading.Body.{body, malformed}
use Rattle.reading.specs.Laws.{told-refusal, told-zero, head-refusal, load-refusal}
use Rattle.reading.specs.Text.{chart_text, numbers_after, numbers_in}
use Rattle.reading.specs.RoundTrip.{text-length, file-is-text, text-is-file, chart-numbers}
use Rattle.reading.specs.Fitting.{tables-fit}
use Rattle.writing.specs.Writing.{numbers_refusal, write_of}
use Rattle.writing.specs.Writing.Written.{wrote, turned_down}
use Rattle.writing.specs.Laws.{range_none, vertex-rows, edge-rows, even-rows}
use Rattle.writing.proofs.Laws.{uneven-none, counts-in, tables-none, later-refusal, wrote-done, written-room, refused-nothing}

-- the tables that a file holds, as numbers in file order
pub record Numbers (s : List ℕ) : Type 0 where
  pub vertices : List ℤ
  pub edges : List ℤ
  pub faces : List ℤ
  pub held : numbers_in s ≡ body vertices edges faces

pub record WrittenBack : Type 0 where
  -- "One proof covers a field of any kind": of any width, bytes that hold a number are its text ..
  pub field-read : (s : List ℕ) (z : ℤ) → field_of s ≡ Some z → s ≡ field_text (length s) z
  -- .. and the text of a number that has one in w columns holds it
  pub field_back : (w : ℕ) (z : ℤ) → Fits w z → field_of (field_text w z) ≡ Some z
  -- "The bytes equal the file that was read, for every accepted file": each holds tables as numbers ..
  pub file-numbers : (s : List ℕ) → chart_refusal_of s ≡ 0 → Numbers s
  -- .. which are those that every other call reads ..
  pub file-tables : (s : List ℕ) (vs es fs : List ℤ) → chart_refusal_of s ≡ 0 → numbers_in s ≡ body vs es fs → chart_in s ≡ loaded vs (unsigned_all es) (unsigned_all fs)
  -- .. and, lent with room for the file, they are written as its bytes, with every byte past them as it was
  pub file-written :
      (s : List ℕ) (vs es fs : List ℤ) (lent : List ℕ) → chart_refusal_of s ≡ 0 → numbers_in s ≡ body vs es fs → length s ≤ length lent
      → write_of vs es fs lent ≡ record { answer = wrote (length s); buffer = s ++ drop (length s) lent }
  -- "reading what it wrote yields the same tables": of any tables, in a file or not, what a call that was not refused left in the first n bytes ..
  pub tables-read :
      (vs es fs : List ℤ) (lent : List ℕ) (n : ℕ) → (write_of vs es fs lent).answer ≡ wrote n
      → numbers_in (take n (write_of vs es fs lent).buffer) ≡ body vs es fs
  -- .. is an accepted chart, with these tables for every other call
  pub chart-read :
      (vs es fs : List ℤ) (lent : List ℕ) (n : ℕ) → (write_of vs es fs lent).answer ≡ wrote n
      → chart_in (take n (write_of vs es fs lent).buffer) ≡ loaded vs (unsigned_all es) (unsigned_all fs)
  -- "nothing is written" by a refused call
  pub refused-same :
      (vs es fs : List ℤ) (lent : List ℕ) (n : ℕ) → (write_of vs es fs lent).answer ≡ turned_down n → (write_of vs es fs lent).buffer ≡ lent
  -- a buffer as long as the longest file, 31,465 bytes, has room for any tables that 2, 4 and 6 to 11 do not meet
  pub room-enough : (vs es fs : List ℤ) → numbers_refusal vs es fs ≡ 0 → length (chart_text vs es fs) ≤ file_length most_vertices most_half_edges most_faces

-- ---- a file
-- a file that is not refused holds tables
numbers-body : (s : List ℕ) (b : Body) → numbers_in s ≡ b → ((n : ℕ) → b ≡ malformed n → n ≡ 0 → ⊥) → refusal_of (load_body b) ≡ 0 → Numbers s
numbers-body s (body vs es fs) e n h = record { vertices = vs; edges = es; faces = fs; held = e }
numbers-body s (malformed m) e n h = absurd (n m refl h)

-- a body that is malformed has a refusal above 0
body-number : (v e f : ℕ) (s : List ℕ) (n : ℕ) → body_of v e f s ≡ malformed n → n ≡ 0 → ⊥
unfolding load_of
body-number v e f s n q h = load-refusal v e f s n (ap load_body q) h

numbers-by : (s : List ℕ) (h : Head) → head_of s ≡ h → (n : ℕ) → numbers_after h s ≡ malformed n → n ≡ 0 → ⊥
numbers-by s (Refused m) q n e z = head-refusal s m q (let w : m ≡ n = cc in w ∙ z)
numbers-by s (Counts v e f) q n p z = body-number v e f s n p z

-- what a file's refusal is by its tables
refusal-by : (s : List ℕ) → chart_refusal_of s ≡ 0 → refusal_of (load_body (numbers_in s)) ≡ 0
refusal-by s h = sym (ap refusal_of (chart-numbers s)) ∙ h

-- none of 6 to 11 meets the tables of an accepted file
accepted-tables : (s : List ℕ) (vs es fs : List ℤ) → chart_refusal_of s ≡ 0 → numbers_in s ≡ body vs es fs → tables_refusal vs es fs ≡ 0
accepted-tables s vs es fs h q =
    sym (told-refusal (tables_refusal vs es fs) vs (unsigned_all es) (unsigned_all fs))
    ∙ sym (ap (λ (b : Body). refusal_of (load_body b)) q)
    ∙ refusal-by s h

-- and so the writing call refuses none of them
accepted-numbers : (s : List ℕ) (vs es fs : List ℤ) → chart_refusal_of s ≡ 0 → numbers_in s ≡ body vs es fs → numbers_refusal vs es fs ≡ 0
accepted-numbers s vs es fs h q =
    let t = file-is-text s vs es fs q in
    sym (later-refusal vs es fs (even-rows vs es t.vertex-rows t.edge-rows) (counts-pass (rows vs) (rows es) (length fs) t.counts))
    ∙ accepted-tables s vs es fs h q

-- a text that is equal, in a record of the call
written_as : (vs es fs : List ℤ) (lent t s : List ℕ) → t ≡ s → write_of vs es fs lent ≡ record { answer = wrote (length t); buffer = t ++ drop (length t) lent } → write_of vs es fs lent ≡ record { answer = wrote (length s); buffer = s ++ drop (length s) lent }
written_as vs es fs lent t s e h = subst (λ (x : List ℕ). write_of vs es fs lent ≡ record { answer = wrote (length x); buffer = x ++ drop (length x) lent }) e h

-- ---- any tables
-- the text of tables that are not refused is a file of these tables
text-numbers : (vs es fs : List ℤ) → numbers_refusal vs es fs ≡ 0 → numbers_in (chart_text vs es fs) ≡ body vs es fs
text-numbers vs es fs h =
    let u = uneven-none vs es fs h in
    let n = counts-in vs es fs h in
    let a = vertex-rows vs es u in
    let b = edge-rows vs es u in
    let f = tables-fit vs es fs (range_none vs es fs (tables-none vs es fs h)) n a b in
    text-is-file vs es fs n a b f.0 f.1.0 f.1.1

-- the first bytes that a call left are the text
left-text : (vs es fs : List ℤ) (lent : List ℕ) (n : ℕ) → (write_of vs es fs lent).answer ≡ wrote n → take n (write_of vs es fs lent).buffer ≡ chart_text vs es fs
left-text vs es fs lent n e =
    let d = wrote-done vs es fs lent n e in
    let t = chart_text vs es fs in
    ap (take n) d.left ∙ take_at t (drop (length t) lent) n d.long

-- what was left, as numbers
left-numbers : (vs es fs : List ℤ) (lent : List ℕ) (n : ℕ) → (write_of vs es fs lent).answer ≡ wrote n → numbers_in (take n (write_of vs es fs lent).buffer) ≡ body vs es fs
left-numbers vs es fs lent n e =
    ap (λ (s : List ℕ). numbers_in s) (left-text vs es fs lent n e) ∙ text-numbers vs es fs (wrote-done vs es fs lent n e).none

-- bytes whose tables are in order, as every other call reads them
as-chart : (s : List ℕ) (vs es fs : List ℤ) → numbers_in s ≡ body vs es fs → tables_refusal vs es fs ≡ 0 → chart_in s ≡ loaded vs (unsigned_all es) (unsigned_all fs)
as-chart s vs es fs q h = chart-numbers s ∙ ap load_body q ∙ told-zero (tables_refusal vs es fs) vs (unsigned_all es) (unsigned_all fs) h

-- so the text of tables that are not refused is an accepted chart, with these tables
pub text-read : (vs es fs : List ℤ) → numbers_refusal vs es fs ≡ 0 → chart_in (chart_text vs es fs) ≡ loaded vs (unsigned_all es) (unsigned_all fs)
text-read vs es fs h = as-chart (chart_text vs es fs) vs es fs (text-numbers vs es fs h) (tables-none vs es fs h)

-- a file of counts in range is no longer than the longest
file-room : (v e f : ℕ) → Counted v e f → file_length v e f ≤ file_length most_vertices most_half_edges most_faces
file-room v e f n =
    let x = n.v-most in
    let y = n.e-most in
    let z = n.f-most in
    omega arith

-- no text is longer
text-room : (vs es fs : List ℤ) → numbers_refusal vs es fs ≡ 0 → length (chart_text vs es fs) ≤ file_length most_vertices most_half_edges most_faces
text-room vs es fs h =
    let u = uneven-none vs es fs h in
    le_trans (le_of_eq (text-length vs es fs (vertex-rows vs es u) (edge-rows vs es u))) (file-room (rows vs) (rows es) (length fs) (counts-in vs es fs h))

pub written_back : WrittenBack
written_back =
    record {
      field-read = F.field-read;
      field_back = field_back;
      file-numbers = λ s h. numbers-body s (numbers_in s) refl (numbers-by s (head_of s) refl) (refusal-by s h);
      file-tables = λ s vs es fs h q. as-chart s vs es fs q (accepted-tables s vs es fs h q);
      file-written = λ s vs es fs lent h q l.
          let t = file-is-text s vs es fs q in
          written_as vs es fs lent (chart_text vs es fs) s t.same
          (written-room vs es fs lent (accepted-numbers s vs es fs h q) (subst (λ (x : List ℕ). length x ≤ length lent) (sym t.same) l));
      tables-read = left-numbers;
      chart-read = λ vs es fs lent n e.
          as-chart (take n (write_of vs es fs lent).buffer) vs es fs (left-numbers vs es fs lent n e) (tables-none vs es fs (wrote-done vs es fs lent n e).none);
      refused-same = refused-nothing;
      room-enough = text-room;
    }
