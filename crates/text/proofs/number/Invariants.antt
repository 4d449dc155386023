-- `text::number` meets its contract. The invariant: the number so far, continued by the rest, is that of all bytes, and all are digits where the rest are.
use Rattle.std.proofs.Common.{◌≡◌, ◌<◌, ◌^◌, drop}
use Rattle.text.specs.Field.{value_of}
use Rattle.text.specs.Natural.{figures}
use Rattle.text.proofs.number.Given as goal

abbrev pub invariant-loop-b : goal.invariant-loop-b
invariant-loop-b l =
    record {
      small : l.v < 10 ^ l.b-index;
      value : value_of 0 l.d ≡ value_of l.v (drop l.b-index l.d);
      digits : figures l.d ≡ figures (drop l.b-index l.d);
    }
