-- `batch::work_all` meets its contract: the loop keeps `Running`, and the entries past it are left. Assumes nothing.
use Rattle.std.proofs.Common.{◌≡◌, ◌/◌, ◌*◌, [], length, drop}
use Rattle.std.specs.Slice.Iter.{chunks_exact_rest, chunks_exact_size}
use Rattle.std.specs.Iterator.Adapters.{enumerate_source, enumerate_count}
use Rattle.chart.specs.Seen.{seen}
use Rattle.entries.specs.Entry.{entry_width}
use Rattle.batch.specs.Tables.{on_tables}
use Rattle.batch.specs.Running.{Running}
use Rattle.batch.proofs.work_all.Given as goal

abbrev pub invariant-loop-i : goal.invariant-loop-i
invariant-loop-i l =
    record {
      can_next : goal.iterator-loop-i.can_next l.i-iterator;
      finite : goal.iterator-loop-i.is_finite l.i-iterator;
      size : chunks_exact_size (enumerate_source l.i-iterator) ≡ entry_width;
      rest : chunks_exact_rest (enumerate_source l.i-iterator) ≡ drop (enumerate_count l.i-iterator * entry_width) l.entries;
      running : Running (on_tables (seen l.prepared.accepted.chart)) [] l.entries l.initial.answers (length l.entries / entry_width) l.initial.b.book l.answers l.b.book (enumerate_count l.i-iterator);
    }
