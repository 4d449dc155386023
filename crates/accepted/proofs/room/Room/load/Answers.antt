-- What the body was read as is an accepted chart.
use Rattle.accepted.proofs.Bytes.{load-accepted}
use Rattle.accepted.proofs.Exactly.{accepted-unrefused}
use Rattle.accepted.proofs.room.Room.load.Goals as goal

pub invariant_of-chart : goal.invariant_of-chart
invariant_of-chart c = record { in_range = (load-accepted _ _ _ _ _ _ _ c.args.counts.counted c.in_ok-load.ensures).sound.range }

pub invariant_of-result : goal.invariant_of-result
invariant_of-result c = record { unrefused = accepted-unrefused _ (load-accepted _ _ _ _ _ _ _ c.args.counts.counted c.in_ok-load.ensures) }
