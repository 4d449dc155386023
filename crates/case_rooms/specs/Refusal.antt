-- What a natural call says of a room (oracle/README.md).
use Rattle.std.specs.Prelude.{ℕ, cond, eqb, Result, Ok, Err}
use Rattle.refusal.specs.declared.Refusal.{Refusal}
use Rattle.refusal.specs.Number.{number}
use Rattle.query.specs.declared.Listed.{Listed}

-- A load off the grid is refused by 13 where neither the chart nor the room is.
abbrev pub before_load : ℕ → ℕ
before_load n = cond (eqb n 13) 0 n

-- Such a load is never listed.
abbrev pub refusal_in : Result Listed Refusal → ℕ
refusal_in (Ok l) = 13
refusal_in (Err r) = before_load (number r)
