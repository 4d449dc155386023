-- `program::print_entries` meets its contract: the refusal that the batch met is the chart's; without one, its answers and its book are printed.
use mathlib.Core.List.{List}
use Prim.Native.Nat.{ℕ, ◌+◌, ◌*◌, ◌/◌}
use mathlib.Core.Path.{◌≡◌, sym, ◌∙◌}
use native.Mathlib.Omega.{arith}
use lib.ListN.{length, take, replicate}
use lib.Seq.{length-take-le}
use Rattle.entries.specs.Entry.{entry_width}
use Rattle.log_text.specs.Log.{entries_max}
use Rattle.refusal.specs.Number.{number, number-positive}
use Rattle.report.specs.Lines.{refusal_bytes, refusal_line, answer_bytes, book_bytes, output_of}
use Rattle.report.specs.Laws.{refusal-length, output-length}
use Rattle.program.specs.Program.{ran_of}
use Rattle.program.proofs.Laws.{refusal-left, accepted, book-left, answers-left, chart-refused, chart-accepted, put-printed}
use borrow.Author.Rules.{rules}
use Rattle.program.proofs.print_entries.Goals as goal

pub returns-in-Err : goal.returns-in-Err
returns-in-Err c =
    let a = c.args in
    let es = a.entries.now in
    let room : List ℕ = replicate 512 0 in
    let b = c.batch_on_fresh in
    let n = c.number.result in
    let k : length room ≡ entries_max = search rules in
    let s : n ≡ number c.in-Err.refusal = c.number.ensures in
    let e = refusal-left a.chart.now es room b.new.answers _ c.requires.whole (omega arith) c.in-Err.ensures in
    let p = c.put_refusal in
    rw (chart-refused a.chart.now es n (sym e ∙ sym s) (λ z. omega (arith, s, number-positive c.in-Err.refusal)))
    (put-printed a.out.now (refusal_line n) p.new.out refusal_bytes p.result (refusal-length n) (omega (arith, c.requires.room)) p.auto.out p.ensures.0 p.ensures.1)

pub returns-in-Ok : goal.returns-in-Ok
unfolding ran_of
returns-in-Ok c =
    let a = c.args in
    let es = a.entries.now in
    let room : List ℕ = replicate 512 0 in
    let left = c.batch_on_fresh.new.answers in
    let b = c.in-Ok.book in
    let w = c.requires.whole in
    let k : length room ≡ entries_max = search rules in
    let e = c.in-Ok.ensures in
    let p = c.put_output in
    let n = length es / entry_width in
    let m : length left ≡ entries_max = search rules in
    let q : length (take n left) ≡ n = length-take-le n left (omega arith) in
    rw (chart-accepted a.chart.now es (accepted a.chart.now es room left b w (omega arith) e))
    (rw (answers-left a.chart.now es room left b w (omega arith) e, book-left a.chart.now es room left b w (omega arith) e)
    at (put-printed a.out.now (output_of (take n left) b) p.new.out (answer_bytes * length (take n left) + book_bytes) p.result
    (output-length (take n left) b) (omega (arith, q, w.few, c.requires.room)) p.auto.out p.ensures.0 p.ensures.1))
