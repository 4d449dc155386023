use Rattle.std.proofs.Common.{◌≡◌, ◌*◌, ◌/◌, ◌+◌, ◌++◌, [], sym, ap, subst, ◌∙◌, length, drop, slice_set, rules}
use Rattle.std.specs.Slice.Iter.{chunks_exact_rest}
use Rattle.std.specs.Iterator.Adapters.{enumerate_source, enumerate_count}
use Rattle.chart.specs.Seen.{seen}
use Rattle.entries.specs.Entry.{entry_width}
use Rattle.batch.specs.Tables.{Step, on_tables, step_of}
use Rattle.batch.specs.Running.{Running, running-next}
use Rattle.batch.proofs.Rows.{row-entry, row-rest, row-inside}
use Rattle.batch.proofs.work_all.Goals as goal

pub loop-i-preserved : goal.loop-i-preserved
loop-i-preserved c =
    let a = c.args in
    let l = c.loop-i in
    let Q = on_tables (seen a.prepared.now.accepted.chart) in
    let n = length a.entries.now / entry_width in
    let s = c.in-Some.ensures.steps in
    let k = enumerate_count l.i-iterator in
    let es = a.entries.now in
    let row = c.in-Some.row.now in
    let rest = chunks_exact_rest (enumerate_source c.next.new.self) in
    let parts : drop (k * entry_width) es ≡ row ++ rest = sym l.invariant.rest ∙ s.0.1.0 in
    let long : length row ≡ entry_width = s.0.1.1 ∙ l.invariant.size in
    record {
      can_next = search rules;
      finite = search rules;
      size = s.0.0 ∙ l.invariant.size;
      rest = rw s.2 (row-rest es row rest k parts long);
      running =
          rw (s.1, s.2)
          (subst (λ (r : Step). Running Q [] es a.answers.now n a.book.book (slice_set l.answers k r.answer) r.book (k + 1))
          (sym (c.work_entry.ensures ∙ ap (step_of Q [] l.b.book) (c.at.ensures ∙ row-entry es row rest k parts long)))
          (running-next Q [] es a.answers.now n a.book.book l.answers l.b.book k l.invariant.running (row-inside es row rest k parts long) c.requires));
    }
