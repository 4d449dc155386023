-- `program::print` meets its contract: chart first, then the log's refusals, then the entries.
use Prim.Native.Nat.{◌*◌}
use mathlib.Core.Path.{sym}
use native.Mathlib.Omega.{arith}
use lib.ListN.{take}
use Rattle.entries.specs.Entry.{entry_width}
use Rattle.log_text.proofs.Callers.{entered, read-refused}
use Rattle.report.specs.Lines.{refusal_bytes, refusal_line}
use Rattle.report.specs.Laws.{refusal-length}
use Rattle.program.proofs.Laws.{printed-log, printed-entries, put-printed}
use Rattle.program.proofs.print.Goals as goal

pub returns-in-Err : goal.returns-in-Err
returns-in-Err c =
    let a = c.args in
    let r = c.read_log in
    let p = c.put_refusal in
    let n = c.number.result in
    let down = read-refused a.size a.log.now c.in-Err.refusal r.new.entries _ c.in-Err.ensures in
    rw (printed-log a.chart.now a.size a.log.now _ down, sym c.first_refusal.ensures, sym c.number.ensures)
    (put-printed a.out.now (refusal_line n) p.new.out refusal_bytes p.result (refusal-length n) (omega arith) p.auto.out p.ensures.0 p.ensures.1)

pub returns-in-Ok : goal.returns-in-Ok
returns-in-Ok c =
    let a = c.args in
    let r = c.read_log in
    let e = entered a.size a.log.now c.in-Ok.n r.new.entries _ c.in-Ok.ensures in
    rw (printed-entries a.chart.now a.size a.log.now (take (entry_width * c.in-Ok.n) r.new.entries) e.numbers)
    c.print_entries.ensures
