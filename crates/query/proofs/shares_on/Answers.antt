use Rattle.std.proofs.Common.{rules, ◌≡◌, to_z, of_z, w64}
use Rattle.query.specs.Natural.{shares_on}
use Rattle.query.proofs.Grid.{on-it}
use Rattle.query.proofs.shares_on.Goals as goal

pub returns : goal.returns
unfolding shares_on
returns c =
    let x : to_z w64 (of_z w64 c.args.q.x) ≡ c.args.q.x = search rules in
    let y : to_z w64 (of_z w64 c.args.q.y) ≡ c.args.q.y = search rules in
    let g = on-it c.args.q c.in_ok-q.q (rw (c.in_ok-q.ensures.ok_part, x, y) at c.new.ensures) in
    rw (g.0, ← g.1, ← c.locate-place.ensures, ← c.in_ok-place_refusal.ensures) c.shares_at.ensures
