-- What is read so far and what is left are the line's numbers.
use Rattle.std.proofs.Common.{rules, ◌≡◌, ◌≤◌, ◌<◌, length, take, Some, None, arith, length-take-le}
use Rattle.std.proofs.lemmas.List.{take_more_set}
use Rattle.case_text.specs.Decimal.{decimal_of}
use Rattle.case_text.specs.Query.{split_of}
use Rattle.batch_text.proofs.Numbers.{both, broken, full, read-on, broken-last, full-last, read-last}
use Rattle.batch_text.proofs.read_entries_in.Goals as goal

pub returns-in_err-decimal : goal.returns-in_err-decimal
returns-in_err-decimal c =
    let e : both c.in-Some.part.now c.in-Some.more.now ≡ split_of 32 c.loop-part.rest.now = search rules in
    let d : decimal_of c.in-Some.part.now ≡ None = search rules in
    let w = broken (length c.args.room.now) _ _ _ c.loop-part.invariant.said _ _ e d in
    rw w (search rules)

pub returns-in_err-put : goal.returns-in_err-put
returns-in_err-put c =
    let e : both c.in-Some.part.now c.in-Some.more.now ≡ split_of 32 c.loop-part.rest.now = search rules in
    let l : length (take c.loop-part.count c.loop-part.room) ≡ c.loop-part.count = length-take-le _ _ c.loop-part.invariant.within in
    let n : length c.args.room.now ≤ c.loop-part.count = search rules in
    let h : length c.args.room.now ≤ length (take c.loop-part.count c.loop-part.room) = omega (arith, l, n) in
    let w = full (length c.args.room.now) _ _ _ c.loop-part.invariant.said _ _ e h in
    rw w (search rules)

pub loop-part-preserved : goal.loop-part-preserved
loop-part-preserved c =
    let e : both c.in-Some.part.now c.in-Some.more.now ≡ split_of 32 c.loop-part.rest.now = search rules in
    let d : decimal_of c.in-Some.part.now ≡ Some c.in_ok-decimal.field-0 = search rules in
    let w = read-on (length c.args.room.now) _ _ _ c.loop-part.invariant.said _ _ e _ d in
    let h : c.loop-part.count < length c.loop-part.room = search rules in
    let t = take_more_set c.loop-part.room c.loop-part.count c.in_ok-decimal.field-0 h in
    record { within = search rules; long = search rules; said = search (rules, w, t) }

pub returns-in_err-decimal-2 : goal.returns-in_err-decimal-2
returns-in_err-decimal-2 c =
    let e : None ≡ split_of 32 c.loop-part.rest.now = search rules in
    let d : decimal_of c.loop-part.rest.now ≡ None = search rules in
    let w = broken-last (length c.args.room.now) _ _ _ c.loop-part.invariant.said e d in
    rw w (search rules)

pub returns-in_err-put-2 : goal.returns-in_err-put-2
returns-in_err-put-2 c =
    let e : None ≡ split_of 32 c.loop-part.rest.now = search rules in
    let l : length (take c.loop-part.count c.loop-part.room) ≡ c.loop-part.count = length-take-le _ _ c.loop-part.invariant.within in
    let n : length c.args.room.now ≤ c.loop-part.count = search rules in
    let h : length c.args.room.now ≤ length (take c.loop-part.count c.loop-part.room) = omega (arith, l, n) in
    let w = full-last (length c.args.room.now) _ _ _ c.loop-part.invariant.said e h in
    rw w (search rules)

pub returns : goal.returns
returns c =
    let e : None ≡ split_of 32 c.loop-part.rest.now = search rules in
    let d : decimal_of c.loop-part.rest.now ≡ Some c.in_ok-decimal-2.field-0 = search rules in
    let h : c.loop-part.count < length c.loop-part.room = search rules in
    let l : length (take c.loop-part.count c.loop-part.room) ≡ c.loop-part.count = length-take-le _ _ c.loop-part.invariant.within in
    let long = c.loop-part.invariant.long in
    let w = read-last (length c.args.room.now) _ _ _ c.loop-part.invariant.said e _ d (omega (arith, l, h, long)) in
    let t = take_more_set c.loop-part.room c.loop-part.count c.in_ok-decimal-2.field-0 h in
    search (rules, w, t)
