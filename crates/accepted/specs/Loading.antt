-- What a reader of a chart's body says: its tables, or the refusal's number; and the room that it reads into.
use Rattle.std.specs.Prelude.{pos, replicate, Result, Ok, Err}
use Rattle.refusal.specs.declared.Refusal.{Refusal}
use Rattle.refusal.specs.Number.{number}
use Rattle.checks.specs.Checks.{Loaded}
use Rattle.checks.specs.Checks.Loaded.{loaded, refused}
use Rattle.accepted.specs.declared.checked.AcceptedChart.{AcceptedChart}
use Rattle.accepted.specs.declared.room.Room.{Room}

abbrev pub loaded_says : Result AcceptedChart Refusal → Loaded
loaded_says (Ok c) = loaded c.chart.vertices.now c.chart.edges.now c.chart.faces.now
loaded_says (Err r) = refused (number r)

-- zeros: four numbers for each of 128 vertices and 756 half-edges, one for each of 252 faces
abbrev pub empty_room : Room
empty_room = record { vertices = replicate 512 (pos 0); edges = replicate 3024 0; faces = replicate 252 0 }
