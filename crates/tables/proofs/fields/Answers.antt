use Rattle.std.proofs.Common.{sym, ap, ◌∙◌, ◌≡◌, length, ◌+◌, arith, rules}
use Rattle.std.specs.Option.{is_some}
use mir.Syntax.{w64}
use mir.Val.{to_z, of_z}
use Rattle.tables.proofs.Laws.{line-again, line-fails, line-ends, some-then}
use Rattle.tables.proofs.fields.Goals as goal

pub returns-in_err-cell : goal.returns-in_err-cell
returns-in_err-cell c =
    let a = c.args in
    let l = c.loop-j in
    rw c.from_residual.ensures (line-fails a.text.now l.row (length a.row.now) a.at (a.at + c.start.result) l.j (omega arith) (omega arith) l.invariant
    (sym c.read_field.ensures ∙ c.in_err-cell.was))

pub loop-j-preserved : goal.loop-j-preserved
loop-j-preserved c =
    let a = c.args in
    let l = c.loop-j in
    let z = c.in_ok-cell.field-0 in
    let kept : to_z w64 (of_z w64 z) ≡ z = search rules in
    rw kept
    (line-again a.text.now l.row (length a.row.now) a.at (a.at + c.start.result) l.j (omega arith) (omega arith) l.invariant z (omega arith)
    (sym c.read_field.ensures ∙ c.in_ok-cell.was))

pub returns : goal.returns
returns c =
    let a = c.args in
    let l = c.loop-j in
    let e : l.j ≡ length l.row = omega arith in
    let said = ap is_some c.then_some.ensures ∙ some-then _ in
    rw (said, ← e) (line-ends a.text.now l.row (length a.row.now) a.at l.j (omega arith) (omega arith) l.invariant)
