-- The chart that the three tables of a `Chart` say.
use Rattle.chart.specs.declared.tables.Chart.{Chart as Tables}
use Rattle.chart.specs.Chart.{Chart, chart_of}

abbrev pub seen : Tables → Chart
seen t = chart_of t.vertices.now t.edges.now t.faces.now
