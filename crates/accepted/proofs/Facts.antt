-- What a chart gives that no refusal meets. Assumes nothing.
use Rattle.chart.specs.Chart.{Chart, InRange}
use Rattle.chart.specs.Seen.{seen}
use Rattle.accepted.specs.Tests.{passed}
use Rattle.accepted.specs.Accepted.{Accepted, accepted}
use Rattle.accepted.specs.Unrefused.{Unrefused}
use Rattle.accepted.specs.declared.checked.AcceptedChart.{AcceptedChart}

pub unrefused-accepted : (c : Chart) → InRange c → Unrefused c → Accepted c
unrefused-accepted c r u = accepted c u.counts r (passed c u.none) u.values

pub is-accepted : (c : AcceptedChart) → Accepted (seen c.chart)
is-accepted c = unrefused-accepted (seen c.chart) c.chart.in_range c.unrefused
