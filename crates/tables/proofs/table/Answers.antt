use Rattle.std.proofs.Common.{ap, ◌∙◌, ◌≡◌, ◌+◌, ◌-◌, ◌*◌, ◌≤◌, length, take, add-one, mul-suc, arith, rules}
use Rattle.std.specs.Option.{is_some}
use Rattle.tables.specs.Table.{line_bytes}
use Rattle.tables.proofs.Laws.{table-again, table-fails, table-ends, part_length, part-back, part-line}
use Rattle.tables.proofs.table.Goals as goal

pub returns-in_err-fields : goal.returns-in_err-fields
returns-in_err-fields c =
    let a = c.args in
    let l = c.loop-i in
    let r = c.fields in
    let from = a.w * l.i in
    rw c.from_residual.ensures (table-fails a.text.now (take from l.cells) a.w a.n a.at l.i (omega arith) l.invariant
    (part-line a.text.now l.cells r.new.row (a.at + line_bytes a.w * l.i) from a.w (is_some r.result) _ (search rules) r.ensures (ap is_some c.in_err-fields.was)))

pub loop-i-preserved : goal.loop-i-preserved
loop-i-preserved c =
    let a = c.args in
    let l = c.loop-i in
    let r = c.fields in
    let row = r.new.row in
    let from = a.w * l.i in
    let p : from + a.w ≤ length l.cells = search rules in
    let wide : length row ≡ a.w = r.auto.row ∙ part_length l.cells from a.w p in
    rw (part-back l.cells row from a.w (a.w * (l.i + 1)) (from + a.w - from) p wide (rw (add-one l.i) (mul-suc a.w l.i)))
    (table-again a.text.now (take from l.cells) a.w a.n a.at l.i (omega arith) l.invariant row
    (part-line a.text.now l.cells row (a.at + line_bytes a.w * l.i) from a.w (is_some r.result) _ p r.ensures (ap is_some c.in_ok-fields.was)))

pub returns : goal.returns
returns c =
    let a = c.args in
    let l = c.loop-i in
    table-ends a.text.now l.cells a.w a.n a.at l.i (omega arith) (omega arith) l.invariant
