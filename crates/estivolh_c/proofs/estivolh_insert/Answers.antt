-- `estivolh_c::estivolh_insert` meets its contract: 2 for a short slice, else what the public call says. Assumes nothing.
use Rattle.std.proofs.Common.{[], ap, ◌∙◌, ℕ, rules, arith, ◌≤◌, ◌<◌, length}
use mir.Facts.{to_z-of_z}
use Rattle.writing.specs.Writing.{saved_left}
use Rattle.writing.specs.Writing.Written.{wrote}
use Rattle.slices.specs.Lent.{Left, short, enough}
use Rattle.estivolh_c.specs.Writing.{text_left}
use Rattle.estivolh_c.proofs.estivolh_insert.Goals as goal

pub returns-then-is_empty : goal.returns-then-is_empty
returns-then-is_empty c =
    let empty : length c.args.found.now < 1 = search rules in
    record {
      done = record { answer = wrote 0; buffer = [] };
      inserts = λ l. absurd (omega (arith, l, empty));
      told = ap (λ (k : ℕ). text_left k c.args.text.now c.args.found.now) c.number.ensures ∙ short _ _ _ _ empty;
    }

pub returns : goal.returns
returns c =
    let n = c.insert-answer in
    let some : 1 ≤ length c.args.found.now = search rules in
    record {
      done = saved_left n.result n.new.text;
      inserts = λ l. simp (to_z-of_z c.ranges.x, to_z-of_z c.ranges.y, to_z-of_z c.ranges.value) at n.ensures;
      told = ap (λ (l : Left ℕ). text_left l.answer n.new.text l.slice) c.put_number.ensures.length_of_text ∙ enough _ _ _ _ some;
    }
