-- One element more of a list that is copied.
use Rattle.std.proofs.Common.{length-take-le}
use Rattle.natural.specs.Arrays.{written, first_next}

pub ruleset copied = (written, first_next, length-take-le)
